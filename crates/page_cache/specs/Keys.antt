-- Kept pages, as the list of them, and which of them are kept after a use.
use Rattle.std.specs.Prelude.{◌≡◌, ◌⊎◌, not, ℕ, Bool, ◌==◌, ◌&&◌, cond, List, [], ◌∷◌, Contains, replicate, map, Option}
use Rattle.std.specs.Prelude.{Some, None}
use Rattle.std.specs.declared.boxed.Box.{Box}
use Rattle.std.specs.declared.alloc.Global.{Global}
use Rattle.page_file.specs.declared.page.PageBytes.{PageBytes}
use Rattle.page_file.specs.Page.{IsPage}
use Rattle.page_cache.specs.declared.key.PageKey.{PageKey}
use Rattle.page_cache.specs.declared.leaf_part.LeafPart.{LeafPart}

-- a page as it is kept: its bytes, and the parts of its payload whose leaves were told to be dead
pub record KeptData : Type 0 where
  pub page : Box PageBytes Global
  pub dead : List (Option LeafPart)

-- of a page that was read now nothing was told
abbrev pub fresh : Box PageBytes Global → KeptData
fresh page = record { page = page; dead = replicate 8 None }

abbrev pub leaf_part : ℕ → ℕ → LeafPart
leaf_part offset len = record { offset = offset; length = len }

-- the pages that are kept, each with the segment and the number that it is for, the last used first
abbrev pub Kept : Type 0
Kept = List (PageKey × KeptData)

abbrev pub page_key : ℕ → ℕ → PageKey
page_key id number = record { id = id; number = number }

-- the two keys are the same
abbrev pub same_key : PageKey → PageKey → Bool
same_key a b = (a.id == b.id) && (a.number == b.number)

-- each kept page is a page for its place in its segment's file
abbrev pub AllValid : Kept → Type 0
AllValid pages = (e : PageKey × KeptData) → Contains pages e → IsPage 1 e.0.id e.0.number e.1.page.value.b

-- the page of this key is kept with these bytes
abbrev pub KeepsIn : Kept → PageKey → List ℕ → Type 0
KeepsIn pages key bytes = (kept : KeptData) × Contains pages (key, kept) × (kept.page.value.b ≡ bytes)

-- and of it this part is known as that of a dead leaf
abbrev pub KeepsDeadIn : Kept → PageKey → LeafPart → List ℕ → Type 0
KeepsDeadIn pages key part bytes =
    (kept : KeptData) × Contains pages (key, kept) × (kept.page.value.b ≡ bytes) × Contains kept.dead (Some part)

-- the page of this key is kept
abbrev pub HasKey : Kept → PageKey → Type 0
HasKey pages key = (kept : KeptData) × Contains pages (key, kept)

-- each page that is kept now was kept
abbrev pub KeepsNoMore : Kept → Kept → Type 0
KeepsNoMore old new = (e : PageKey × KeptData) → Contains new e → Contains old e

-- it was kept or is this one
abbrev pub KeepsOneMore : PageKey → KeptData → Kept → Kept → Type 0
KeepsOneMore key kept old new = (e : PageKey × KeptData) → Contains new e → Contains old e ⊎ (e ≡ (key, kept))

-- the pages are as they were, in their order; at most this part of the page of this key is newly known as that of a
-- dead leaf
pub record MarksOne (key : PageKey) (part : LeafPart) (old new : Kept) : Type 0 where
  pub order : map (λ e. e.0) new ≡ map (λ e. e.0) old
  pub was : (k : PageKey) (bytes : List ℕ) → KeepsIn new k bytes → KeepsIn old k bytes
  pub stays : (k : PageKey) (bytes : List ℕ) → KeepsIn old k bytes → KeepsIn new k bytes
  pub dead : (k : PageKey) (p : LeafPart) (bytes : List ℕ) → KeepsDeadIn new k p bytes
      → KeepsDeadIn old k p bytes ⊎ ((k ≡ key) × (p ≡ part) × KeepsIn old k bytes)

-- whether the key is of another segment
abbrev pub is_of_other : ℕ → PageKey → Bool
is_of_other id key = not (key.id == id)

-- the keys without the first that is this one
abbrev pub keys_but : PageKey → List PageKey → List PageKey
keys_but key [] = []
keys_but key (k ∷ ks) = cond (same_key key k) ks (k ∷ keys_but key ks)
