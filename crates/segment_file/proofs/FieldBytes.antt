-- The fields of a head are spelled in one way, and no bytes begin with two of them.
use Rattle.std.proofs.Common.{◌≡◌, ◌≤◌, ◌+◌, ◌-◌, ◌*◌, ℕ, List, ◌++◌, length, get_or, replicate, refl, sym, ap, ◌∙◌, arith, append_assoc, length-append}
use Rattle.std.specs.Prelude.{codes, if◌then◌else◌, ◌==◌, Bool, true, false, not}
use mathlib.Core.Bool.{beq}
use Rattle.std.specs.Int.{w16, w32, to_be_bytes}
use Rattle.std.proofs.Math.Nat.{div-le_self}
use Rattle.std.proofs.lemmas.List.{length-replicate}
use Rattle.byte_cursor.proofs.Numbers.{spelling_unique}
use Rattle.leaf_codec.specs.Leaves.{leaf_limit}
use Rattle.page_cache.specs.Bodies.{pages_for, padded_body}
use Rattle.segment_file.specs.Heads.{Fields, AreFields, magic, numbers_bytes, fields_bytes, leaves_for}
use Rattle.segment_file.specs.FieldsSeen.{AreNarrow}
use Rattle.segment_file.proofs.Lists.{fronts_equal, backs_equal}

pub magic_length : (form : ℕ) → length (magic form) ≡ 8
magic_length form = elim (form == 3) as (λ b. length (if b then codes "BKDPSEG2" else codes "BKDPSEG1") ≡ 8) [ true ↦ refl | false ↦ refl ]

pub fields_parts : (f : Fields) (x : List ℕ) → fields_bytes f ++ x ≡ magic f.form ++ (numbers_bytes f ++ x)
unfolding fields_bytes
fields_parts f x = append_assoc (magic f.form) (numbers_bytes f) x

pub fields_length : (f : Fields) → length (fields_bytes f) ≡ 28
unfolding fields_bytes
fields_length f = let m = magic_length f.form in omega (arith, length-append (magic f.form) (numbers_bytes f))

pub narrow_fields : (f : Fields) → AreFields f → AreNarrow f
narrow_fields f h =
    let limit : leaf_limit f.dims ≤ 4000 = div-le_self 4000 (4 + 4 * f.dims) in
    let few : leaves_for f.entries f.leaf_size ≤ f.entries + f.leaf_size - 1 = div-le_self (f.entries + f.leaf_size - 1) f.leaf_size in
    let e = h.greatest_leaf in
    let s = h.few in
    let l = h.leaves_are in
    record { leaf_size = omega arith; entries = omega arith; leaves = omega arith; index_length = h.short; leaf_pages = h.pages_fit }

pub record AreSame (f g : Fields) (x y : List ℕ) : Type 0 where
  pub dims : f.dims ≡ g.dims
  pub form : f.form ≡ g.form
  pub leaf_size : f.leaf_size ≡ g.leaf_size
  pub entries : f.entries ≡ g.entries
  pub leaves : f.leaves ≡ g.leaves
  pub index_length : f.index_length ≡ g.index_length
  pub leaf_pages : f.leaf_pages ≡ g.leaf_pages
  pub rest : x ≡ y

-- no bytes begin with the numbers of two heads
pub numbers_unique : (f g : Fields) (x y : List ℕ) → AreNarrow f → AreNarrow g → numbers_bytes f ++ x ≡ numbers_bytes g ++ y → AreSame f g x y
numbers_unique f g x y p q numbers =
    let rest_of : Fields → List ℕ → List ℕ = λ h z.
    to_be_bytes w16 h.leaf_size
    ++ (to_be_bytes w32 h.entries ++ (to_be_bytes w32 h.leaves ++ (to_be_bytes w32 h.index_length ++ (to_be_bytes w32 h.leaf_pages ++ z)))) in
    let same_dims : f.dims ≡ g.dims = cc in
    let same_form : f.form ≡ g.form = cc in
    let behind : rest_of f x ≡ rest_of g y = cc in
    let first = spelling_unique w16 f.leaf_size g.leaf_size
    (to_be_bytes w32 f.entries ++ (to_be_bytes w32 f.leaves ++ (to_be_bytes w32 f.index_length ++ (to_be_bytes w32 f.leaf_pages ++ x))))
    (to_be_bytes w32 g.entries ++ (to_be_bytes w32 g.leaves ++ (to_be_bytes w32 g.index_length ++ (to_be_bytes w32 g.leaf_pages ++ y)))) p.leaf_size q.leaf_size
    behind in
    let second = spelling_unique w32 f.entries g.entries (to_be_bytes w32 f.leaves ++ (to_be_bytes w32 f.index_length ++ (to_be_bytes w32 f.leaf_pages ++ x)))
    (to_be_bytes w32 g.leaves ++ (to_be_bytes w32 g.index_length ++ (to_be_bytes w32 g.leaf_pages ++ y))) p.entries q.entries first.1 in
    let third = spelling_unique w32 f.leaves g.leaves (to_be_bytes w32 f.index_length ++ (to_be_bytes w32 f.leaf_pages ++ x))
    (to_be_bytes w32 g.index_length ++ (to_be_bytes w32 g.leaf_pages ++ y)) p.leaves q.leaves second.1 in
    let fourth = spelling_unique w32 f.index_length g.index_length (to_be_bytes w32 f.leaf_pages ++ x) (to_be_bytes w32 g.leaf_pages ++ y) p.index_length
    q.index_length third.1 in
    let fifth = spelling_unique w32 f.leaf_pages g.leaf_pages x y p.leaf_pages q.leaf_pages fourth.1 in
    record {
      dims = same_dims;
      form = same_form;
      leaf_size = first.0;
      entries = second.0;
      leaves = third.0;
      index_length = fourth.0;
      leaf_pages = fifth.0;
      rest = fifth.1;
    }

pub fields_unique : (f g : Fields) (x y : List ℕ) → AreNarrow f → AreNarrow g → fields_bytes f ++ x ≡ fields_bytes g ++ y → AreSame f g x y
fields_unique f g x y p q e =
    numbers_unique f g x y p q
    (backs_equal (magic f.form) (magic g.form) (numbers_bytes f ++ x) (numbers_bytes g ++ y) (magic_length f.form ∙ sym (magic_length g.form))
    (sym (fields_parts f x) ∙ e ∙ fields_parts g y))

-- ---- what a payload is found to say

-- the magic bytes of an index with own cells, and of one without
abbrev pub word : Bool → List ℕ
word own = if own then codes "BKDPSEG2" else codes "BKDPSEG1"

one_word : (a b : Bool) → word a ≡ word b → a ≡ b
one_word true true e = refl
one_word false false e = refl
one_word true false e = let last : 50 ≡ 49 = ap (λ (l : List ℕ). get_or l 7 0) e in absurd (omega (arith, last))
one_word false true e = let last : 49 ≡ 50 = ap (λ (l : List ℕ). get_or l 7 0) e in absurd (omega (arith, last))

word_length : (own : Bool) → length (word own) ≡ 8
word_length true = refl
word_length false = refl

pub same_fields : (f g : Fields) (x y : List ℕ) → AreSame f g x y → f ≡ g
same_fields f g x y s = λ i. record {
  dims = s.dims i;
  form = s.form i;
  leaf_size = s.leaf_size i;
  entries = s.entries i;
  leaves = s.leaves i;
  index_length = s.index_length i;
  leaf_pages = s.leaf_pages i;
}

abbrev pub zeros : Fields → List ℕ
zeros f = replicate (4064 * pages_for (length (fields_bytes f)) - length (fields_bytes f)) 0

pub record IsFound (own : Bool) (f g : Fields) (behind : List ℕ) : Type 0 where
  pub own_is : own ≡ (g.form == 3)
  pub same : f ≡ g
  pub rest : behind ≡ replicate (length behind) 0

pub found : (payload rest behind : List ℕ) (own : Bool) (f g : Fields) → payload ≡ word own ++ rest → rest ≡ numbers_bytes g ++ behind → AreNarrow g
    → AreFields f
    → payload ≡ padded_body (fields_bytes f) → IsFound own f g behind
found payload rest behind own f g a b narrow are e =
    let whole : word own ++ rest ≡ magic f.form ++ (numbers_bytes f ++ zeros f) = sym a ∙ e ∙ fields_parts f (zeros f) in
    let lengths : length (word own) ≡ length (magic f.form) = word_length own ∙ sym (magic_length f.form) in
    let words : word own ≡ magic f.form = fronts_equal (word own) (magic f.form) rest (numbers_bytes f ++ zeros f) lengths whole in
    let numbers : numbers_bytes f ++ zeros f ≡ numbers_bytes g ++ behind =
    sym (backs_equal (word own) (magic f.form) rest (numbers_bytes f ++ zeros f) lengths whole) ∙ b in
    let same = numbers_unique f g (zeros f) behind (narrow_fields f are) narrow numbers in
    let count = 4064 * pages_for (length (fields_bytes f)) - length (fields_bytes f) in
    record {
      own_is = one_word own (f.form == 3) words ∙ ap (λ (n : ℕ). n == 3) same.form;
      same = same_fields f g (zeros f) behind same;
      rest = sym same.rest ∙ ap (λ (n : ℕ). replicate n 0) (sym (length-replicate {A = ℕ} count 0) ∙ ap (λ (l : List ℕ). length l) same.rest);
    }

pub has_fields : (payload rest behind : List ℕ) (own : Bool) (g : Fields) → length payload ≡ 4064 → payload ≡ word own ++ rest
    → rest ≡ numbers_bytes g ++ behind → own ≡ (g.form == 3)
    → behind ≡ replicate (length behind) 0 → payload ≡ padded_body (fields_bytes g)
has_fields payload rest behind own g long a b own_is blank =
    let front : payload ≡ fields_bytes g ++ behind =
    a ∙ ap (λ (o : Bool). word o ++ rest) own_is ∙ ap (λ (l : List ℕ). magic g.form ++ l) b ∙ sym (fields_parts g behind) in
    let few = fields_length g in
    let left : length behind ≡ 4064 * pages_for (length (fields_bytes g)) - length (fields_bytes g) =
    omega (arith, few, long, ap (λ (l : List ℕ). length l) front, length-append (fields_bytes g) behind) in
    front ∙ ap (λ (l : List ℕ). fields_bytes g ++ l) (blank ∙ ap (λ (n : ℕ). replicate n 0) left)

pub differ : (a b : Bool) → not (beq a b) ≡ true → a ≡ b → ⊥
differ true true h e = cc
differ false false h e = cc
differ true false h e = cc
differ false true h e = cc

pub agree : (a b : Bool) → not (beq a b) ≡ false → a ≡ b
agree true true h = refl
agree false false h = refl
agree true false h = h
agree false true h = sym h
