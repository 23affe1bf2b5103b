-- Lists of segments of which some give way to another: sums, members and ids.
use Rattle.std.proofs.Common.{◌≡◌, ℕ, ◌+◌, ◌≤◌, Bool, true, false, not, ◌&&◌, ◌||◌, cond, List}
use Rattle.std.proofs.Common.{[], ◌∷◌, ◌++◌, length, refl, sym, ap, subst, ◌∙◌, inl, inr, arith}
use Rattle.std.specs.List.{All, Contains, sum_by}
use Rattle.std.proofs.lemmas.Bool.{cases_Bool}
use Rattle.std.proofs.lemmas.List.{length-append}
use Rattle.std.proofs.lemmas.List.Elements.{All-append, All-cons, All-contains, All-contains_itself, All-filter}
use Rattle.std.proofs.lemmas.List.Elements.{All-weaker, Contains-append_left, Contains-append_right, filter-append}
use Rattle.std.proofs.lemmas.List.Filters.{length-filter_both, sum_by-filter_both}
use Rattle.std.proofs.lemmas.List.Sums.{sum_by-append, sum_by-cons}
use Rattle.live_bits.specs.LiveSet.{LiveSet, is_live}
use Rattle.documents.specs.Entries.{is_among}
use Rattle.documents.proofs.Kept.{among_from, among_to}
use Rattle.documents.proofs.Lists.{filter_alike, filter_twice, in_filter, in_map, of_filter, of_map}
use Rattle.stored_index.specs.Segments.{places}
use Rattle.segment_view.specs.LiveSegments.{LiveSegment, lives_of, ids_of, parts_among, parts_but, has_live, IsPlaced}

-- ---- sums over segments

abbrev pub one_if : Bool → ℕ
one_if b = cond b 1 0

-- 1 where the number is live in the segment
abbrev pub place_in : ℕ → LiveSegment → ℕ
place_in number p = one_if (is_live p.live number)

pub places_in : (number : ℕ) (parts : List LiveSegment) → places number (lives_of parts) ≡ sum_by (place_in number) parts
places_in number [] = refl
places_in number (p ∷ ps) =
    sum_by-cons (λ (s : LiveSet). one_if (is_live s number)) p.live (lives_of ps)
    ∙ ap (λ n. place_in number p + n) (places_in number ps)
    ∙ sym (sum_by-cons (place_in number) p ps)

-- those of these ids and the others are all
pub parted : (g : LiveSegment → ℕ) (ids : List ℕ) (parts : List LiveSegment)
    → sum_by g (parts_among ids parts) + sum_by g (parts_but ids parts) ≡ sum_by g parts
parted g ids parts = sum_by-filter_both (λ (p : LiveSegment). is_among ids p.head.id) (λ (p : LiveSegment). not (is_among ids p.head.id)) (λ p. refl) g parts

pub length_parted : (ids : List ℕ) (parts : List LiveSegment) → length (parts_among ids parts) + length (parts_but ids parts) ≡ length parts
length_parted ids parts = length-filter_both (λ (p : LiveSegment). is_among ids p.head.id) (λ (p : LiveSegment). not (is_among ids p.head.id)) (λ p. refl) parts

pub total_placed : (g : LiveSegment → ℕ) (p : LiveSegment) (old new : List LiveSegment) → IsPlaced p old new → sum_by g new ≡ g p + sum_by g old
total_placed g p old new h =
    let whole : sum_by g new ≡ sum_by g h.front + sum_by g (p ∷ h.back) = ap (sum_by g) h.after ∙ sum_by-append g h.front (p ∷ h.back) in
    let before : sum_by g old ≡ sum_by g h.front + sum_by g h.back = ap (sum_by g) h.before ∙ sum_by-append g h.front h.back in
    omega (arith, whole, before, sum_by-cons g p h.back)

pub length_placed : (p : LiveSegment) (old new : List LiveSegment) → IsPlaced p old new → length new ≡ 1 + length old
length_placed p old new h =
    let whole : length new ≡ length h.front + length (p ∷ h.back) = ap length h.after ∙ length-append h.front (p ∷ h.back) in
    let before : length old ≡ length h.front + length h.back = ap length h.before ∙ length-append h.front h.back in
    omega arith

-- a number that is live in one of them has a place
pub some_place : (number : ℕ) (parts : List LiveSegment) → has_live number parts ≡ true → 1 ≤ sum_by (place_in number) parts
some_place number [] h = cc
some_place number (p ∷ ps) h = elim (cases_Bool (is_live p.live number)) [
  | inl here ↦ omega (arith, sum_by-cons (place_in number) p ps, ap one_if here)
  | inr dead ↦
      let later : has_live number ps ≡ true = sym (ap (λ (b : Bool). b || has_live number ps) dead) ∙ h in
      omega (arith, sum_by-cons (place_in number) p ps, some_place number ps later)
]

-- and the other way round
pub live_placed : (number : ℕ) (parts : List LiveSegment) → 1 ≤ sum_by (place_in number) parts → has_live number parts ≡ true
live_placed number [] h = absurd (omega (arith, h))
live_placed number (p ∷ ps) h = elim (cases_Bool (is_live p.live number)) [
  | inl here ↦ ap (λ (b : Bool). b || has_live number ps) here
  | inr dead ↦
      ap (λ (b : Bool). b || has_live number ps) dead
      ∙ live_placed number ps (omega (arith, h, sum_by-cons (place_in number) p ps, ap one_if dead))
]

-- ---- members

pub all_front : {X : Type 0} (P : X → Type 0) (xs ys : List X) → All P (xs ++ ys) → All P xs
all_front {X} P xs ys all =
    All-weaker (Contains xs) P (λ (x : X) there. All-contains P (xs ++ ys) x all (Contains-append_left xs ys x there)) xs (All-contains_itself xs)

pub all_back : {X : Type 0} (P : X → Type 0) (xs ys : List X) → All P (xs ++ ys) → All P ys
all_back {X} P xs ys all =
    All-weaker (Contains ys) P (λ (x : X) there. All-contains P (xs ++ ys) x all (Contains-append_right xs ys x there)) ys (All-contains_itself ys)

pub all_placed : (P : LiveSegment → Type 0) (p : LiveSegment) (old new : List LiveSegment) → IsPlaced p old new → P p → All P old → All P new
all_placed P p old new h here all =
    let both : All P (h.front ++ h.back) = subst (All P) h.before all in
    subst (All P) (sym h.after)
    (All-append P h.front (p ∷ h.back) (all_front P h.front h.back both) (All-cons P p h.back here (all_back P h.front h.back both)))

pub all_but : (P : LiveSegment → Type 0) (ids : List ℕ) (parts : List LiveSegment) → All P parts → All P (parts_but ids parts)
all_but P ids parts all = All-filter (λ (p : LiveSegment). not (is_among ids p.head.id)) P parts all

pub all_among : (P : LiveSegment → Type 0) (ids : List ℕ) (parts : List LiveSegment) → All P parts → All P (parts_among ids parts)
all_among P ids parts all = All-filter (λ (p : LiveSegment). is_among ids p.head.id) P parts all

-- ---- ids

-- a segment that isn't one of these came between, and changes nothing among these
pub among_placed : (ids : List ℕ) (p : LiveSegment) (old new : List LiveSegment) → IsPlaced p old new → is_among ids p.head.id ≡ false
    → parts_among ids new ≡ parts_among ids old
among_placed ids p old new h not_this =
    let here : LiveSegment → Bool = λ (q : LiveSegment). is_among ids q.head.id in
    let skipped : parts_among ids (p ∷ h.back) ≡ parts_among ids h.back =
    ap (λ (b : Bool). cond b (p ∷ parts_among ids h.back) (parts_among ids h.back)) not_this in
    ap (parts_among ids) h.after
    ∙ filter-append here h.front (p ∷ h.back)
    ∙ ap (λ ps. parts_among ids h.front ++ ps) skipped
    ∙ sym (filter-append here h.front h.back)
    ∙ ap (parts_among ids) (sym h.before)

-- segments of some ids stay where segments of ids apart from them go
pub among_but : (ids others : List ℕ) (parts : List LiveSegment) → ((id : ℕ) → is_among others id ≡ true → is_among ids id ≡ false)
    → parts_among ids (parts_but others parts) ≡ parts_among ids parts
among_but ids others parts apart =
    filter_twice (λ (q : LiveSegment). is_among ids q.head.id) (λ (q : LiveSegment). not (is_among others q.head.id)) parts
    ∙ filter_alike (λ (q : LiveSegment). not (is_among others q.head.id) && is_among ids q.head.id) (λ (q : LiveSegment). is_among ids q.head.id) parts
    (λ q there. by (is_among others q.head.id) (is_among ids q.head.id) (apart q.head.id))
  where
    by : (other here : Bool) → (other ≡ true → here ≡ false) → (not other && here) ≡ here
    by true here apart = sym (apart refl)
    by false here apart = refl

-- a segment that came between others that go or stay
pub but_placed : (ids : List ℕ) (p : LiveSegment) (old new : List LiveSegment) → IsPlaced p old new → is_among ids p.head.id ≡ false
    → IsPlaced p (parts_but ids old) (parts_but ids new)
but_placed ids p old new h not_this = record {
  front = parts_but ids h.front;
  back = parts_but ids h.back;
  before = ap (parts_but ids) h.before ∙ filter-append stays h.front h.back;
  after = ap (parts_but ids) h.after
      ∙ filter-append stays h.front (p ∷ h.back)
      ∙ ap (λ ps. parts_but ids h.front ++ ps) (ap (λ (b : Bool). cond (not b) (p ∷ parts_but ids h.back) (parts_but ids h.back)) not_this);
}
  where
    stays : LiveSegment → Bool
    stays q = not (is_among ids q.head.id)

pub id_there : (parts : List LiveSegment) (id : ℕ) → is_among (ids_of parts) id ≡ true → (q : LiveSegment) × Contains parts q × (q.head.id ≡ id)
id_there parts id there = of_map (λ (q : LiveSegment). q.head.id) parts id (among_to (ids_of parts) id there)

pub id_of_part : (parts : List LiveSegment) (q : LiveSegment) → Contains parts q → is_among (ids_of parts) q.head.id ≡ true
id_of_part parts q there = among_from (ids_of parts) q.head.id (in_map (λ (p : LiveSegment). p.head.id) parts q there)

-- ids that name segments still do where these stay
pub ids_stay : (ids : List ℕ) (old new : List LiveSegment) → parts_among ids new ≡ parts_among ids old → All (λ id. is_among (ids_of old) id ≡ true) ids
    → All (λ id. is_among (ids_of new) id ≡ true) ids
ids_stay ids old new same all =
    All-weaker (Contains ids) (λ id. is_among (ids_of new) id ≡ true)
    (λ id there. stays id there (All-contains (λ n. is_among (ids_of old) n ≡ true) ids id all there)) ids (All-contains_itself ids)
  where
    stays : (id : ℕ) → Contains ids id → is_among (ids_of old) id ≡ true → is_among (ids_of new) id ≡ true
    stays id there before =
        let part = id_there old id before in
        let among : is_among ids part.0.head.id ≡ true = among_from ids part.0.head.id (subst (Contains ids) (sym part.2) there) in
        let kept : Contains (parts_among ids new) part.0 =
        subst (λ (ps : List LiveSegment). Contains ps part.0) (sym same) (in_filter (λ (q : LiveSegment). is_among ids q.head.id) old part.0 part.1 among) in
        let now : Contains new part.0 = (of_filter (λ (q : LiveSegment). is_among ids q.head.id) new part.0 kept).0 in
        subst (λ (n : ℕ). is_among (ids_of new) n ≡ true) part.2 (id_of_part new part.0 now)
