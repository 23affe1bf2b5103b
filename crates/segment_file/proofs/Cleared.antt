-- The numbers of entries taken out of a set one after the other.
use Rattle.std.proofs.Common.{◌≡◌, ◌≤◌, ◌+◌, ℕ, Bool, true, false, not, ◌||◌, eqb, List, [], ◌∷◌, ◌++◌, length, take, refl, sym, ap, ◌∙◌, inl, inr}
use Rattle.std.specs.List.{filter}
use Rattle.std.proofs.lemmas.Bool.{cases_eq, eq-eqb, ne_eqb}
use Rattle.std.proofs.lemmas.List.{take_all}
use Rattle.std.proofs.lemmas.List.Elements.{filter_agree}
use Rattle.point_codec.specs.Points.{Item}
use Rattle.live_bits.specs.LiveSet.{LiveSet, live_set_without}
use Rattle.segment_file.specs.Sinks.{set_without_entries}
use Rattle.segment_file.proofs.Sinks.{cleared_both, with_live}

all_kept : (ns : List ℕ) → filter (λ (n : ℕ). not false) ns ≡ ns
all_kept [] = refl
all_kept (n ∷ ns) = ap (λ (ms : List ℕ). n ∷ ms) (all_kept ns)

pub cleared_none : (s : LiveSet) → set_without_entries [] s ≡ s
cleared_none s = ap (with_live s) (all_kept s.live)

turned : (m n : ℕ) → eqb m n ≡ eqb n m
turned m n = elim (cases_eq m n) [
  | inl e ↦ eq-eqb m n e ∙ sym (eq-eqb n m (sym e))
  | inr ne ↦ ne_eqb m n ne ∙ sym (ne_eqb n m (λ e. ne (sym e)))
]

or_none : (b : Bool) → b ≡ (b || false)
or_none true = refl
or_none false = refl

-- clearing one number is clearing those of one entry
cleared_one : (x : Item) (s : LiveSet) → live_set_without x.doc s ≡ set_without_entries (x ∷ []) s
cleared_one x s =
    ap (with_live s)
    (filter_agree (λ n. not (eqb n x.doc)) (λ n. not (eqb x.doc n || false)) (λ n. ap not (turned n x.doc ∙ or_none (eqb x.doc n))) s.live)

pub cleared_more : (items : List Item) (i : ℕ) (x : Item) (doc : ℕ) (old mid new : LiveSet) → take (i + 1) items ≡ take i items ++ x ∷ [] → doc ≡ x.doc
    → mid ≡ set_without_entries (take i items) old → new ≡ live_set_without doc mid → new ≡ set_without_entries (take (i + 1) items) old
cleared_more items i x doc old mid new more is before after =
    cleared_both old mid new (take i items) (x ∷ []) before
    (after ∙ ap (λ (n : ℕ). live_set_without n mid) is ∙ cleared_one x mid)
    ∙ ap (λ (xs : List Item). set_without_entries xs old) (sym more)

pub cleared_all : (items : List Item) (i : ℕ) (old new : LiveSet) → length items ≤ i → new ≡ set_without_entries (take i items) old
    → new ≡ set_without_entries items old
cleared_all items i old new le is = is ∙ ap (λ (xs : List Item). set_without_entries xs old) (take_all i items le)
