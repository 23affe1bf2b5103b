-- Heads and live sets that are kept beside each other.
use Rattle.std.proofs.Common.{◌≡◌, ℕ, ◌<◌, ◌≤◌, ◌+◌, zero, suc, Bool, true, false, not, cond, eqb, ◌||◌, min, List}
use Rattle.std.proofs.Common.{[], ◌∷◌, ◌++◌, length, take, drop, map, get_or, refl, sym, ap, subst, ◌∙◌, arith, Some}
use Rattle.std.specs.Prelude.{IsTrue, ◌↔◌}
use Rattle.std.specs.List.{All, insert, remove, filter, list_any, slice_get}
use Rattle.std.specs.List.Sorted.{IsStrictlyIncreasing}
use Rattle.std.proofs.lemmas.Bool.{eqb-true}
use Rattle.std.proofs.lemmas.List.{length-take, take-append-drop, length-map, length-take-le, drop_more, get_or_at}
use Rattle.std.proofs.lemmas.List.Edits.{length-insert}
use Rattle.std.proofs.lemmas.List.Filters.{length-filter_both}
use Rattle.std.proofs.lemmas.List.Folds.{list_any_more}
use Rattle.std.proofs.lemmas.List.Kept.{IsStrictlyIncreasing-filter}
use Rattle.documents.specs.Entries.{is_among}
use Rattle.live_bits.specs.LiveSet.{LiveSet, is_live, live_set_without}
use Rattle.segment_file.specs.Heads.{Head}
use Rattle.segment_view.specs.LiveSegments.{LiveSegment, live_segment, parts_of, heads_of, lives_of, ids_of}
use Rattle.segment_view.specs.LiveSegments.{cleared_parts, has_live, parts_but, IsPlaced, AreInStep}
use Rattle.segment_view.proofs.Ascending.{ids_ascend}

pub heads_parts : (heads : List Head) (lives : List LiveSet) → length lives ≡ length heads → heads_of (parts_of heads lives) ≡ heads
heads_parts [] lives e = refl
heads_parts (h ∷ hs) [] e = absurd (omega (arith, e))
heads_parts (h ∷ hs) (l ∷ ls) e = ap (λ zs. h ∷ zs) (heads_parts hs ls (omega (arith, e)))

pub lives_parts : (heads : List Head) (lives : List LiveSet) → length lives ≡ length heads → lives_of (parts_of heads lives) ≡ lives
lives_parts [] [] e = refl
lives_parts [] (l ∷ ls) e = absurd (omega (arith, e))
lives_parts (h ∷ hs) [] e = absurd (omega (arith, e))
lives_parts (h ∷ hs) (l ∷ ls) e = ap (λ zs. l ∷ zs) (lives_parts hs ls (omega (arith, e)))

pub ids_heads : (parts : List LiveSegment) → ids_of parts ≡ map (λ h. h.id) (heads_of parts)
ids_heads [] = refl
ids_heads (p ∷ ps) = ap (λ zs. p.head.id ∷ zs) (ids_heads ps)

pub ids_parts : (heads : List Head) (lives : List LiveSet) → length lives ≡ length heads → ids_of (parts_of heads lives) ≡ map (λ h. h.id) heads
ids_parts heads lives e = ids_heads (parts_of heads lives) ∙ ap (map (λ (h : Head). h.id)) (heads_parts heads lives e)

pub length_parts : (heads : List Head) (lives : List LiveSet) → length lives ≡ length heads → length (parts_of heads lives) ≡ length heads
length_parts [] lives e = refl
length_parts (h ∷ hs) [] e = absurd (omega (arith, e))
length_parts (h ∷ hs) (l ∷ ls) e = let r = length_parts hs ls (omega (arith, e)) in omega (arith, r)

pub parts-append : (heads more : List Head) (lives others : List LiveSet) → length lives ≡ length heads
    → parts_of (heads ++ more) (lives ++ others) ≡ parts_of heads lives ++ parts_of more others
parts-append [] more [] others e = refl
parts-append [] more (l ∷ ls) others e = absurd (omega (arith, e))
parts-append (h ∷ hs) more [] others e = absurd (omega (arith, e))
parts-append (h ∷ hs) more (l ∷ ls) others e = ap (λ zs. live_segment h l ∷ zs) (parts-append hs more ls others (omega (arith, e)))

pub parts-take : (n : ℕ) (heads : List Head) (lives : List LiveSet) → length lives ≡ length heads
    → parts_of (take n heads) (take n lives) ≡ take n (parts_of heads lives)
parts-take zero heads lives e = refl
parts-take (suc n) [] [] e = refl
parts-take (suc n) [] (l ∷ ls) e = absurd (omega (arith, e))
parts-take (suc n) (h ∷ hs) [] e = absurd (omega (arith, e))
parts-take (suc n) (h ∷ hs) (l ∷ ls) e = ap (λ zs. live_segment h l ∷ zs) (parts-take n hs ls (omega (arith, e)))

pub parts-drop : (n : ℕ) (heads : List Head) (lives : List LiveSet) → length lives ≡ length heads
    → parts_of (drop n heads) (drop n lives) ≡ drop n (parts_of heads lives)
parts-drop zero heads lives e = refl
parts-drop (suc n) [] [] e = refl
parts-drop (suc n) [] (l ∷ ls) e = absurd (omega (arith, e))
parts-drop (suc n) (h ∷ hs) [] e = absurd (omega (arith, e))
parts-drop (suc n) (h ∷ hs) (l ∷ ls) e = parts-drop n hs ls (omega (arith, e))

-- what stands at a place
pub parts-get : (heads : List Head) (lives : List LiveSet) (i : ℕ) (head : Head) (live : LiveSet) → length lives ≡ length heads → i < length heads
    → head ≡ get_or heads i head → live ≡ get_or lives i live → slice_get (parts_of heads lives) i ≡ Some (live_segment head live)
parts-get [] lives i head live e lt a b = absurd (omega (arith, lt))
parts-get (h ∷ hs) [] i head live e lt a b = absurd (omega (arith, e))
parts-get (h ∷ hs) (l ∷ ls) zero head live e lt a b =
    ap (λ (x : Head). Some (live_segment x l)) (sym a) ∙ ap (λ (x : LiveSet). Some (live_segment head x)) (sym b)
parts-get (h ∷ hs) (l ∷ ls) (suc i) head live e lt a b = parts-get hs ls i head live (omega (arith, e)) (omega (arith, lt)) a b

lengths : {X Y : Type 0} (n : ℕ) (xs : List X) (ys : List Y) → length ys ≡ length xs → length (take n ys) ≡ length (take n xs)
lengths n xs ys e = length-take n ys ∙ ap (min n) e ∙ sym (length-take n xs)

pub parts-insert : (heads : List Head) (lives : List LiveSet) (i : ℕ) (head : Head) (live : LiveSet) → length lives ≡ length heads
    → parts_of (insert heads i head) (insert lives i live) ≡ insert (parts_of heads lives) i (live_segment head live)
parts-insert heads lives i head live e =
    parts-append (take i heads) (head ∷ drop i heads) (take i lives) (live ∷ drop i lives) (lengths i heads lives e)
    ∙ ap (λ (zs : List LiveSegment). zs ++ live_segment head live ∷ parts_of (drop i heads) (drop i lives)) (parts-take i heads lives e)
    ∙ ap (λ (zs : List LiveSegment). take i (parts_of heads lives) ++ live_segment head live ∷ zs) (parts-drop i heads lives e)

pub parts-remove : (heads : List Head) (lives : List LiveSet) (i : ℕ) → length lives ≡ length heads
    → parts_of (remove heads i) (remove lives i) ≡ remove (parts_of heads lives) i
parts-remove heads lives i e =
    parts-append (take i heads) (drop (suc i) heads) (take i lives) (drop (suc i) lives) (lengths i heads lives e)
    ∙ ap (λ (zs : List LiveSegment). zs ++ parts_of (drop (suc i) heads) (drop (suc i) lives)) (parts-take i heads lives e)
    ∙ ap (λ (zs : List LiveSegment). take i (parts_of heads lives) ++ zs) (parts-drop (suc i) heads lives e)

-- the live sets changed in place
pub parts-without : (number : ℕ) (heads : List Head) (lives : List LiveSet)
    → parts_of heads (map (live_set_without number) lives) ≡ cleared_parts number (parts_of heads lives)
parts-without number [] lives = refl
parts-without number (h ∷ hs) [] = refl
parts-without number (h ∷ hs) (l ∷ ls) = ap (λ zs. live_segment h (live_set_without number l) ∷ zs) (parts-without number hs ls)

pub live_parts : (number : ℕ) (heads : List Head) (lives : List LiveSet) → length lives ≡ length heads
    → list_any (λ (s : LiveSet). is_live s number) lives ≡ has_live number (parts_of heads lives)
live_parts number [] [] e = refl
live_parts number [] (l ∷ ls) e = absurd (omega (arith, e))
live_parts number (h ∷ hs) [] e = absurd (omega (arith, e))
live_parts number (h ∷ hs) (l ∷ ls) e = ap (λ b. is_live l number || b) (live_parts number hs ls (omega (arith, e)))

pub entries_parts : (heads : List Head) (lives : List LiveSet) → length lives ≡ length heads
    → map (λ (h : Head). h.entries) heads ≡ map (λ (p : LiveSegment). p.head.entries) (parts_of heads lives)
entries_parts [] lives e = refl
entries_parts (h ∷ hs) [] e = absurd (omega (arith, e))
entries_parts (h ∷ hs) (l ∷ ls) e = ap (λ ns. h.entries ∷ ns) (entries_parts hs ls (omega (arith, e)))

pub empty_iff : (heads : List Head) (lives : List LiveSet) → length lives ≡ length heads → (b : Bool) → b ≡ eqb (length heads) 0
    → IsTrue b ↔ (parts_of heads lives ≡ [])
empty_iff [] lives e b is = (λ _. refl, λ _. is)
empty_iff (h ∷ hs) [] e b is = absurd (omega (arith, e))
empty_iff (h ∷ hs) (l ∷ ls) e b is = (λ t. absurd (omega (arith, eqb-true (length (h ∷ hs)) 0 (sym is ∙ t))), λ k. cc)

-- ---- a segment comes

pub in_step-insert : (D : ℕ) (heads : List Head) (lives : List LiveSet) (i : ℕ) (head : Head) (live : LiveSet) → AreInStep D heads lives
    → length heads < 16777216 → i ≤ length heads
    → All (λ h. h.id < head.id) (take i heads) → All (λ h. head.id < h.id) (drop i heads) → AreInStep D (insert heads i head) (insert lives i live)
in_step-insert D heads lives i head live a room within below above =
    let long = length-insert heads i head within in
    let both = length-insert lives i live (omega (arith, within, a.same)) in
    record {
      few_dims = a.few_dims;
      same = omega (arith, long, both, a.same);
      ascend = ids_ascend heads i head a.ascend below above;
      few = omega (arith, long, room);
    }

pub placed-insert : (heads : List Head) (lives : List LiveSet) (i : ℕ) (head : Head) (live : LiveSet) → length lives ≡ length heads
    → IsPlaced (live_segment head live) (parts_of heads lives) (parts_of (insert heads i head) (insert lives i live))
placed-insert heads lives i head live e = record {
  front = take i (parts_of heads lives);
  back = drop i (parts_of heads lives);
  before = sym (take-append-drop i (parts_of heads lives));
  after = parts-insert heads lives i head live e;
}

-- the same where the place was sought in a list that is seen to be that of the heads
pub in_step_put : (D : ℕ) (heads seen put : List Head) (lives sets : List LiveSet) (place number : ℕ) (head : Head) (live : LiveSet) → AreInStep D heads lives
    → seen ≡ heads → number ≡ head.id
    → length heads < 16777216 → place ≤ length seen → All (λ h. h.id < number) (take place seen) → All (λ h. number < h.id) (drop place seen)
    → put ≡ insert heads place head → sets ≡ insert lives place live → AreInStep D put sets
in_step_put D heads seen put lives sets place number head live a same is room within below above heads_put lives_put =
    subst (λ (hs : List Head). AreInStep D hs sets) (sym heads_put)
    (subst (λ (ls : List LiveSet). AreInStep D (insert heads place head) ls) (sym lives_put)
    (in_step-insert D heads lives place head live a room (subst (λ (hs : List Head). place ≤ length hs) same within)
    (subst (λ (hs : List Head). All (λ h. h.id < head.id) (take place hs)) same (subst (λ n. All (λ h. h.id < n) (take place seen)) is below))
    (subst (λ (hs : List Head). All (λ h. head.id < h.id) (drop place hs)) same (subst (λ n. All (λ h. n < h.id) (drop place seen)) is above))))

pub placed_put : (heads put : List Head) (lives sets : List LiveSet) (parts : List LiveSegment) (place : ℕ) (head : Head) (live : LiveSet)
    → length lives ≡ length heads → parts_of heads lives ≡ parts
    → put ≡ insert heads place head → sets ≡ insert lives place live → IsPlaced (live_segment head live) parts (parts_of put sets)
placed_put heads put lives sets parts place head live same is heads_put lives_put =
    subst (λ (ps : List LiveSegment). IsPlaced (live_segment head live) ps (parts_of put sets)) is
    (subst (λ (ps : List LiveSegment). IsPlaced (live_segment head live) (parts_of heads lives) ps)
    (ap (λ (hs : List Head). parts_of hs (insert lives place live)) (sym heads_put) ∙ ap (parts_of put) (sym lives_put))
    (placed-insert heads lives place head live same))

pub ids_in_step : (D : ℕ) (heads : List Head) (lives : List LiveSet) → AreInStep D heads lives → IsStrictlyIncreasing (ids_of (parts_of heads lives))
ids_in_step D heads lives a = subst IsStrictlyIncreasing (sym (ids_parts heads lives a.same)) a.ascend

-- ---- segments go

ids-but : (ids : List ℕ) (parts : List LiveSegment) → ids_of (parts_but ids parts) ≡ filter (λ n. not (is_among ids n)) (ids_of parts)
ids-but ids [] = refl
ids-but ids (p ∷ ps) = by (is_among ids p.head.id) (ids-but ids ps)
  where
    by : (b : Bool) → ids_of (parts_but ids ps) ≡ filter (λ n. not (is_among ids n)) (ids_of ps)
        → ids_of (cond (not b) (p ∷ parts_but ids ps) (parts_but ids ps))
        ≡ cond (not b) (p.head.id ∷ filter (λ n. not (is_among ids n)) (ids_of ps)) (filter (λ n. not (is_among ids n)) (ids_of ps))
    by true e = e
    by false e = ap (λ ns. p.head.id ∷ ns) e

pub in_step_but : (D : ℕ) (ids : List ℕ) (heads kept : List Head) (lives sets : List LiveSet) → AreInStep D heads lives → length sets ≡ length kept
    → parts_of kept sets ≡ parts_but ids (parts_of heads lives)
    → AreInStep D kept sets
in_step_but D ids heads kept lives sets a same is =
    let up : IsStrictlyIncreasing (ids_of (parts_but ids (parts_of heads lives))) =
    subst IsStrictlyIncreasing (sym (ids-but ids (parts_of heads lives)))
    (IsStrictlyIncreasing-filter (λ n. not (is_among ids n)) (ids_of (parts_of heads lives)) (ids_in_step D heads lives a)) in
    let fewer = length-filter_both (λ (p : LiveSegment). is_among ids p.head.id) (λ (p : LiveSegment). not (is_among ids p.head.id)) (λ p. refl)
    (parts_of heads lives) in
    let left = sym (length_parts kept sets same) ∙ ap length is in
    record {
      few_dims = a.few_dims;
      same = same;
      ascend = subst IsStrictlyIncreasing (ids_parts kept sets same) (subst (λ (ps : List LiveSegment). IsStrictlyIncreasing (ids_of ps)) (sym is) up);
      few = omega (arith, fewer, left, length_parts heads lives a.same, a.few);
    }

-- ---- a number taken out of one set after another

pub cleared_more : (number : ℕ) (sets now : List LiveSet) (i : ℕ) (set : LiveSet) (was : Bool) → i < length sets
    → now ≡ map (live_set_without number) (take i sets) ++ drop i sets → set ≡ get_or now i set
    → was ≡ list_any (λ s. is_live s number) (take i sets) → (was || is_live set number) ≡ list_any (λ s. is_live s number) (take (i + 1) sets)
cleared_more number sets now i set was within is read so_far =
    let front : length (map (live_set_without number) (take i sets)) ≡ i =
    length-map (take i sets) (live_set_without number) ∙ length-take-le i sets (omega (arith, within)) in
    let same : set ≡ get_or sets i set =
    read ∙ ap (λ (xs : List LiveSet). get_or xs i set)
    (is ∙ ap (λ (xs : List LiveSet). map (live_set_without number) (take i sets) ++ xs) (drop_more sets i set within))
    ∙ get_or_at (map (live_set_without number) (take i sets)) (get_or sets i set) (drop (i + 1) sets) set i front in
    ap (λ b. b || is_live set number) so_far
    ∙ ap (λ s. list_any (λ (t : LiveSet). is_live t number) (take i sets) || is_live s number) same
    ∙ sym (list_any_more (λ (t : LiveSet). is_live t number) sets i set within)
