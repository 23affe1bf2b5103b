-- The head of a segment: what the first page of its file says, together with the index that follows.
use Rattle.std.specs.Prelude.{ℕ, ◌+◌, ◌-◌, ◌*◌, ◌/◌, ◌^◌, ◌<◌, ◌≤◌, ◌≡◌, if◌then◌else◌, ◌==◌, min, List, ◌∷◌, ◌++◌}
use Rattle.std.specs.Prelude.{length, codes}
use Rattle.std.specs.Int.{w16, w32, to_be_bytes}
use Rattle.inner_pack.specs.Bodies.{Body, IsSpelled}
use Rattle.leaf_codec.specs.Leaves.{leaf_limit}
use Rattle.page_cache.specs.Bodies.{pages_for}

-- a segment's id, how many entries it has, how many entries a leaf has (the last one may have fewer), and the index
pub record Head : Type 0 where
  pub id : ℕ
  pub entries : ℕ
  pub leaf_size : ℕ
  pub index : Body

-- how many leaves so many entries fill
abbrev pub leaves_for : (entries leaf_size : ℕ) → ℕ
leaves_for entries leaf_size = (entries + leaf_size - 1) / leaf_size

-- how many entries a leaf has: all leaves are full but the last one, which has the rest. Leaves count from 0
abbrev pub count_of : Head → ℕ → ℕ
count_of head number = min head.leaf_size (head.entries - number * head.leaf_size)

-- how many pages the index takes
abbrev pub index_pages : Head → ℕ
index_pages head = pages_for (length head.index.bytes)

-- the page of the file that is leaf page `page`: behind the head's page and those of the index
abbrev pub page_of : Head → ℕ → ℕ
page_of head page = 1 + index_pages head + page

-- ---- the fields of the first page

pub record Fields : Type 0 where
  pub dims : ℕ
  pub form : ℕ
  pub leaf_size : ℕ
  pub entries : ℕ
  pub leaves : ℕ
  pub index_length : ℕ
  pub leaf_pages : ℕ

-- each field is in its range
pub record AreFields (f : Fields) : Type 0 where
  pub some_dims : 1 ≤ f.dims
  pub few_dims : f.dims ≤ 8
  pub least_form : 1 ≤ f.form
  pub greatest_form : f.form ≤ 3
  pub least_leaf : 2 ≤ f.leaf_size
  pub greatest_leaf : f.leaf_size ≤ leaf_limit f.dims
  pub some : 1 ≤ f.entries
  pub few : f.entries ≤ 16777216
  pub leaves_are : f.leaves ≡ leaves_for f.entries f.leaf_size
  pub short : f.index_length < 2 ^ 32
  pub pages_fit : f.leaf_pages < 2 ^ 32

-- index form 3 came with a second version of the layout
abbrev pub magic : ℕ → List ℕ
magic form = if form == 3 then codes "BKDPSEG2" else codes "BKDPSEG1"

-- the fields behind the magic bytes, the greatest byte of a number first (this project's layout)
abbrev pub numbers_bytes : Fields → List ℕ
numbers_bytes f =
    f.dims ∷ f.form ∷ to_be_bytes w16 f.leaf_size ++ (to_be_bytes w32 f.entries ++ (to_be_bytes w32 f.leaves
    ++ (to_be_bytes w32 f.index_length ++ to_be_bytes w32 f.leaf_pages)))

unfoldable pub fields_bytes : Fields → List ℕ
fields_bytes f = magic f.form ++ numbers_bytes f

-- the fields of a head of D dimensions whose leaves take so many pages
abbrev pub fields_of : ℕ → Head → ℕ → Fields
fields_of D head leaf_pages = record {
  dims = D;
  form = head.index.form;
  leaf_size = head.leaf_size;
  entries = head.entries;
  leaves = head.index.leaves;
  index_length = length head.index.bytes;
  leaf_pages = leaf_pages;
}

-- ---- which heads there are

-- the numbers of a head of D dimensions
pub record HasRanges (D : ℕ) (head : Head) : Type 0 where
  pub some_dims : 1 ≤ D
  pub few_dims : D ≤ 8
  pub id_fits : head.id < 2 ^ 64
  pub least_form : 1 ≤ head.index.form
  pub greatest_form : head.index.form ≤ 3
  pub least_leaf : 2 ≤ head.leaf_size
  pub greatest_leaf : head.leaf_size ≤ leaf_limit D
  pub some : 1 ≤ head.entries
  pub few : head.entries ≤ 16777216
  pub leaves_are : head.index.leaves ≡ leaves_for head.entries head.leaf_size
  pub short : length head.index.bytes < 2 ^ 32

-- a head whose index has a tree
pub record IsHead (D : ℕ) (head : Head) : Type 0 where
  pub ranges : HasRanges D head
  pub spelled : IsSpelled D head.index
