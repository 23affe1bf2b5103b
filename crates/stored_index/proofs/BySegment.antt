-- The live entries of all segments are those of documents where those of each segment are.
use Rattle.std.proofs.Common.{◌≡◌, ◌≢◌, ℕ, ◌+◌, ◌≤◌, ◌<◌, Bool, false, eqb, cond, List, [], ◌∷◌, ◌++◌, refl, sym, ap, subst, ◌∙◌, inl, inr, arith}
use Rattle.std.specs.List.{All, AllPairs, Contains, count_by}
use Rattle.std.proofs.lemmas.Bool.{cases_Bool, eqb-true}
use Rattle.std.proofs.lemmas.List.Elements.{All-nil, All-cons, All-head, All-tail, All-append, All-contains}
use Rattle.std.proofs.lemmas.List.Elements.{All-contains_itself, All-weaker, Contains-append_left, Contains-append_right}
use Rattle.std.proofs.lemmas.List.Kept.{AllPairs-cons}
use Rattle.std.proofs.lemmas.List.Sums.{sum_by-cons, sum_by-append}
use Rattle.point_codec.specs.Points.{Item}
use Rattle.live_bits.specs.LiveSet.{is_live}
use Rattle.documents.specs.Documents.{Document}
use Rattle.documents.specs.Entries.{AreDocs, MakeDocs}
use Rattle.documents.proofs.Lists.{cons_head, cons_tail, of_filter, pairs_head, pairs_tail, pairs_none, pairs_append}
use Rattle.documents.proofs.Making.{docs_from, docs_make}
use Rattle.stored_index.specs.Segments.{SegmentData, live_entries, all_live_entries, live_sets, places}
use Rattle.stored_index.proofs.Places.{live_first, rest_le, entry_live}

abbrev pub Apart : Item → Item → Type 0
Apart x y = x ≢ y

abbrev pub numbered : ℕ → Item → Bool
numbered number x = eqb x.doc number

-- ---- entries of a number

no_entries : (number : ℕ) (xs : List Item) → ((x : Item) → Contains xs x → x.doc ≡ number → ⊥) → count_by (numbered number) xs ≡ 0
no_entries number [] none = refl
no_entries number (x ∷ xs) none = elim (cases_Bool (eqb x.doc number)) [
  | inl here ↦ absurd (none x (cons_head x xs) (eqb-true x.doc number here))
  | inr other ↦
      sum_by-cons (λ (y : Item). cond (numbered number y) 1 0) x xs
      ∙ ap (λ (b : Bool). cond b 1 0 + count_by (numbered number) xs) other
      ∙ omega (arith, no_entries number xs (λ y h e. none y (cons_tail x xs y h) e))
]

none_of_dead : (d : SegmentData) (number : ℕ) → is_live d.live number ≡ false → count_by (numbered number) (live_entries d) ≡ 0
none_of_dead d number dead =
    no_entries number (live_entries d)
    (λ x h e. let live = (of_filter (λ (y : Item). is_live d.live y.doc) d.entries x h).1 in let same = ap (is_live d.live) e in cc)

count-append : (number : ℕ) (xs ys : List Item) → count_by (numbered number) (xs ++ ys) ≡ count_by (numbered number) xs + count_by (numbered number) ys
count-append number xs ys = sum_by-append (λ (y : Item). cond (numbered number y) 1 0) xs ys

few_in_all : (next : ℕ) (parts : List SegmentData) → ((number : ℕ) → places number (live_sets parts) ≤ 1)
    → All (λ (d : SegmentData). MakeDocs next (live_entries d)) parts
    → (number : ℕ) → count_by (numbered number) (all_live_entries parts) ≤ 16
few_in_all next [] alone make number = omega arith
few_in_all next (d ∷ ds) alone make number = elim (cases_Bool (is_live d.live number)) [
  | inl here ↦
      let none : count_by (numbered number) (all_live_entries ds) ≡ 0 =
      no_entries number (all_live_entries ds)
      (λ x h e.
      omega (arith, alone number, live_first number d.live (live_sets ds) here, subst (λ (n : ℕ). 1 ≤ places n (live_sets ds)) e (entry_live ds x h))) in
      omega (
        arith,
        count-append number (live_entries d) (all_live_entries ds),
        none,
        (All-head (λ (e : SegmentData). MakeDocs next (live_entries e)) d ds make).few number,
      )
  | inr dead ↦
      omega (
        arith,
        count-append number (live_entries d) (all_live_entries ds),
        none_of_dead d number dead,
        few_in_all next ds (λ n. omega (arith, alone n, rest_le n d.live (live_sets ds)))
            (All-tail (λ (e : SegmentData). MakeDocs next (live_entries e)) d ds make) number,
      )
]

-- ---- of each segment, so of all

below_in_all : (next : ℕ) (parts : List SegmentData) → All (λ (d : SegmentData). MakeDocs next (live_entries d)) parts
    → All (λ (x : Item). x.doc < next) (all_live_entries parts)
below_in_all next [] make = All-nil (λ (x : Item). x.doc < next)
below_in_all next (d ∷ ds) make =
    All-append (λ (x : Item). x.doc < next) (live_entries d) (all_live_entries ds)
    (All-head (λ (e : SegmentData). MakeDocs next (live_entries e)) d ds make).below
    (below_in_all next ds (All-tail (λ (e : SegmentData). MakeDocs next (live_entries e)) d ds make))

once_in_all : (next : ℕ) (parts : List SegmentData) → ((number : ℕ) → places number (live_sets parts) ≤ 1)
    → All (λ (d : SegmentData). MakeDocs next (live_entries d)) parts
    → AllPairs Apart (all_live_entries parts)
once_in_all next [] alone make = pairs_none Apart
once_in_all next (d ∷ ds) alone make =
    pairs_append Apart (live_entries d) (all_live_entries ds)
    (All-head (λ (e : SegmentData). MakeDocs next (live_entries e)) d ds make).once
    (once_in_all next ds (λ n. omega (arith, alone n, rest_le n d.live (live_sets ds)))
    (All-tail (λ (e : SegmentData). MakeDocs next (live_entries e)) d ds make))
    (λ x y here there same.
    let live = (of_filter (λ (z : Item). is_live d.live z.doc) d.entries x here).1 in
    omega (
      arith,
      alone x.doc,
      live_first x.doc d.live (live_sets ds) live,
      subst (λ (z : Item). 1 ≤ places z.doc (live_sets ds)) (sym same) (entry_live ds y there),
    ))

make_all : (next : ℕ) (parts : List SegmentData) → ((number : ℕ) → places number (live_sets parts) ≤ 1)
    → All (λ (d : SegmentData). MakeDocs next (live_entries d)) parts → MakeDocs next (all_live_entries parts)
make_all next parts alone make = record {
  below = below_in_all next parts make;
  few = few_in_all next parts alone make;
  once = once_in_all next parts alone make;
}

-- ---- of all, so of each segment

pairs_left : (xs ys : List Item) → AllPairs Apart (xs ++ ys) → AllPairs Apart xs
pairs_left [] ys h = pairs_none Apart
pairs_left (x ∷ xs) ys h =
    AllPairs-cons Apart x xs
    (All-weaker (Contains xs) (Apart x) (λ y there. pairs_head Apart x (xs ++ ys) h y (Contains-append_left xs ys y there)) xs (All-contains_itself xs))
    (pairs_left xs ys (pairs_tail Apart x (xs ++ ys) h))

pairs_right : (xs ys : List Item) → AllPairs Apart (xs ++ ys) → AllPairs Apart ys
pairs_right [] ys h = h
pairs_right (x ∷ xs) ys h = pairs_right xs ys (pairs_tail Apart x (xs ++ ys) h)

make_left : (next : ℕ) (xs ys : List Item) → MakeDocs next (xs ++ ys) → MakeDocs next xs
make_left next xs ys make = record {
  below = All-weaker (Contains xs) (λ (x : Item). x.doc < next)
      (λ x h. All-contains (λ (y : Item). y.doc < next) (xs ++ ys) x make.below (Contains-append_left xs ys x h)) xs (All-contains_itself xs);
  few = λ number. omega (arith, count-append number xs ys, make.few number);
  once = pairs_left xs ys make.once;
}

make_right : (next : ℕ) (xs ys : List Item) → MakeDocs next (xs ++ ys) → MakeDocs next ys
make_right next xs ys make = record {
  below = All-weaker (Contains ys) (λ (x : Item). x.doc < next)
      (λ x h. All-contains (λ (y : Item). y.doc < next) (xs ++ ys) x make.below (Contains-append_right xs ys x h)) ys (All-contains_itself ys);
  few = λ number. omega (arith, count-append number xs ys, make.few number);
  once = pairs_right xs ys make.once;
}

make_each : (next : ℕ) (parts : List SegmentData) → MakeDocs next (all_live_entries parts) → All (λ (d : SegmentData). MakeDocs next (live_entries d)) parts
make_each next [] make = All-nil (λ (d : SegmentData). MakeDocs next (live_entries d))
make_each next (d ∷ ds) make =
    All-cons (λ (e : SegmentData). MakeDocs next (live_entries e)) d ds (make_left next (live_entries d) (all_live_entries ds) make)
    (make_each next ds (make_right next (live_entries d) (all_live_entries ds) make))

pub docs_of_each : (next : ℕ) (parts : List SegmentData) → ((number : ℕ) → places number (live_sets parts) ≤ 1)
    → All (λ (d : SegmentData). MakeDocs next (live_entries d)) parts
    → (docs : List Document) × AreDocs next (all_live_entries parts) docs
docs_of_each next parts alone make = docs_from next (all_live_entries parts) (make_all next parts alone make)

pub each_of_docs : (next : ℕ) (parts : List SegmentData) (docs : List Document) → AreDocs next (all_live_entries parts) docs
    → All (λ (d : SegmentData). MakeDocs next (live_entries d)) parts
each_of_docs next parts docs are = make_each next parts (docs_make next (all_live_entries parts) docs are)
