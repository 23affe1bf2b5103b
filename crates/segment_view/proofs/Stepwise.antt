-- What a loop over segments has come to, one segment at a time.
use Rattle.std.proofs.Common.{◌≡◌, ℕ, ◌+◌, ◌<◌, ◌≤◌, suc, Bool, true, false, not, cond, List, [], ◌∷◌}
use Rattle.std.proofs.Common.{◌++◌, length, take, drop, get_or, sym, ap, subst, ◌∙◌, arith, Some, ℤ}
use Rattle.std.specs.List.{remove, slice_get, sum_by}
use Rattle.std.proofs.lemmas.List.{map-append, take-append-drop, drop_more, append_assoc, take_at, drop_at, length-take-le}
use Rattle.std.proofs.lemmas.List.{length_push, length-append, get_or_append_left, get_or-take, get_or-map}
use Rattle.std.proofs.lemmas.List.Elements.{filter-append}
use Rattle.std.proofs.lemmas.List.Sums.{sum_by-append}
use Rattle.std.proofs.lemmas.Option.{get_or_from_slice_get, slice_get_within, slice_get-get_or}
use Rattle.documents.specs.Entries.{is_among, numbers_found}
use Rattle.documents.proofs.HitNumbers.{found_append}
use Rattle.inner_pack.specs.Trees.{IndexTree}
use Rattle.segment_file.specs.Heads.{Head}
use Rattle.live_bits.specs.LiveSet.{LiveSet}
use Rattle.nearest_query.specs.Search.{no_live}
use Rattle.segment_view.specs.LiveSegments.{LiveSegment, live_segment, parts_of, Contents, heads_of, live_in_parts, parts_among, parts_but}
use Rattle.segment_view.specs.Costs.{leaves_in, AreCounted}
use Rattle.segment_view.proofs.Living.{live-append, parts_more}
use Rattle.segment_view.proofs.Counting.{halves}
use Rattle.segment_view.proofs.Beside.{heads_parts}

-- the list up to a place, that place, and what is behind
pub split_at : (parts : List LiveSegment) (i : ℕ) (p : LiveSegment) → slice_get parts i ≡ Some p → (take i parts ++ p ∷ []) ++ drop (i + 1) parts ≡ parts
split_at parts i p is = ap (λ (ps : List LiveSegment). ps ++ drop (i + 1) parts) (sym (parts_more parts i p is)) ∙ take-append-drop (i + 1) parts

pub heads_more : (parts : List LiveSegment) (i : ℕ) (p : LiveSegment) → slice_get parts i ≡ Some p
    → heads_of (take (i + 1) parts) ≡ heads_of (take i parts) ++ p.head ∷ []
heads_more parts i p is = ap heads_of (parts_more parts i p is) ∙ map-append (λ (q : LiveSegment). q.head) (take i parts) (p ∷ [])

-- ---- leaves

pub leaves-append : (xs ys : List LiveSegment) → leaves_in (heads_of (xs ++ ys)) ≡ leaves_in (heads_of xs) + leaves_in (heads_of ys)
leaves-append xs ys =
    ap leaves_in (map-append (λ (p : LiveSegment). p.head) xs ys)
    ∙ sum_by-append (λ (h : Head). h.index.leaves) (heads_of xs) (heads_of ys)

pub leaves_more : (parts : List LiveSegment) (i : ℕ) (p : LiveSegment) → slice_get parts i ≡ Some p
    → leaves_in (heads_of (take (i + 1) parts)) ≡ leaves_in (heads_of (take i parts)) + leaves_in (heads_of (p ∷ []))
leaves_more parts i p is = ap (λ (ps : List LiveSegment). leaves_in (heads_of ps)) (parts_more parts i p is) ∙ leaves-append (take i parts) (p ∷ [])

pub leaves_upto : (parts : List LiveSegment) (i : ℕ) (p : LiveSegment) → slice_get parts i ≡ Some p
    → leaves_in (heads_of (take i parts)) + leaves_in (heads_of (p ∷ [])) ≤ leaves_in (heads_of parts)
leaves_upto parts i p is =
    let whole =
    ap (λ (ps : List LiveSegment). leaves_in (heads_of ps)) (sym (split_at parts i p is)) ∙ leaves-append (take i parts ++ p ∷ []) (drop (i + 1) parts) in
    let front = leaves-append (take i parts) (p ∷ []) in
    omega (arith, whole, front)

-- ---- of the segments of some ids

pub among_more : (ids : List ℕ) (parts : List LiveSegment) (i : ℕ) (p : LiveSegment) → slice_get parts i ≡ Some p
    → parts_among ids (take (i + 1) parts) ≡ parts_among ids (take i parts) ++ parts_among ids (p ∷ [])
among_more ids parts i p is =
    ap (parts_among ids) (parts_more parts i p is) ∙ filter-append (λ (q : LiveSegment). is_among ids q.head.id) (take i parts) (p ∷ [])

pub leaves_among_more : (ids : List ℕ) (parts : List LiveSegment) (i : ℕ) (p : LiveSegment) → slice_get parts i ≡ Some p
    → leaves_in (heads_of (parts_among ids (take (i + 1) parts)))
    ≡ leaves_in (heads_of (parts_among ids (take i parts))) + leaves_in (heads_of (parts_among ids (p ∷ [])))
leaves_among_more ids parts i p is =
    ap (λ (ps : List LiveSegment). leaves_in (heads_of ps)) (among_more ids parts i p is)
    ∙ leaves-append (parts_among ids (take i parts)) (parts_among ids (p ∷ []))

pub leaves_among_upto : (ids : List ℕ) (parts : List LiveSegment) (i : ℕ) (p : LiveSegment) → slice_get parts i ≡ Some p
    → leaves_in (heads_of (parts_among ids (take i parts))) + leaves_in (heads_of (parts_among ids (p ∷ []))) ≤ leaves_in (heads_of (parts_among ids parts))
leaves_among_upto ids parts i p is =
    let whole = ap (λ (ps : List LiveSegment). leaves_in (heads_of (parts_among ids ps))) (sym (split_at parts i p is))
    ∙ ap (λ (ps : List LiveSegment). leaves_in (heads_of ps))
    (filter-append (λ (q : LiveSegment). is_among ids q.head.id) (take i parts ++ p ∷ []) (drop (i + 1) parts))
    ∙ leaves-append (parts_among ids (take i parts ++ p ∷ [])) (parts_among ids (drop (i + 1) parts)) in
    let front = ap (λ (ps : List LiveSegment). leaves_in (heads_of ps)) (filter-append (λ (q : LiveSegment). is_among ids q.head.id) (take i parts) (p ∷ []))
    ∙ leaves-append (parts_among ids (take i parts)) (parts_among ids (p ∷ [])) in
    omega (arith, whole, front)

pub counts_among_more : (ids : List ℕ) (parts : List LiveSegment) (i : ℕ) (p : LiveSegment) → slice_get parts i ≡ Some p
    → sum_by (λ (q : LiveSegment). length q.live.live) (parts_among ids (take (i + 1) parts))
    ≡ sum_by (λ (q : LiveSegment). length q.live.live) (parts_among ids (take i parts))
    + sum_by (λ (q : LiveSegment). length q.live.live) (parts_among ids (p ∷ []))
counts_among_more ids parts i p is =
    ap (λ (ps : List LiveSegment). sum_by (λ (q : LiveSegment). length q.live.live) ps) (among_more ids parts i p is)
    ∙ sum_by-append (λ (q : LiveSegment). length q.live.live) (parts_among ids (take i parts)) (parts_among ids (p ∷ []))

pub live_among_more : (c : Contents) (ids : List ℕ) (parts : List LiveSegment) (i : ℕ) (p : LiveSegment) → slice_get parts i ≡ Some p
    → live_in_parts c (parts_among ids (take (i + 1) parts)) ≡ live_in_parts c (parts_among ids (take i parts)) ++ live_in_parts c (parts_among ids (p ∷ []))
live_among_more c ids parts i p is =
    ap (live_in_parts c) (among_more ids parts i p is) ∙ live-append c (parts_among ids (take i parts)) (parts_among ids (p ∷ []))

-- ---- numbers that are found

pub found_parts_more : (test : List ℤ → Bool) (c : Contents) (parts : List LiveSegment) (i : ℕ) (p : LiveSegment) → slice_get parts i ≡ Some p
    → numbers_found test (live_in_parts c (take (i + 1) parts))
    ≡ numbers_found test (live_in_parts c (take i parts)) ++ numbers_found test (live_in_parts c (p ∷ []))
found_parts_more test c parts i p is =
    ap (λ (ps : List LiveSegment). numbers_found test (live_in_parts c ps)) (parts_more parts i p is)
    ∙ ap (numbers_found test) (live-append c (take i parts) (p ∷ []))
    ∙ found_append test (live_in_parts c (take i parts)) (live_in_parts c (p ∷ []))

-- ---- counts by trees

pub record Upto (D : ℕ) (count : Head → IndexTree → ℕ) (parts : List LiveSegment) (i : ℕ) (p : LiveSegment) (n : ℕ) : Type 0 where
  pub before : ℕ
  pub here : ℕ
  pub of_before : AreCounted D count (heads_of (take i parts)) before
  pub of_here : AreCounted D count (p.head ∷ []) here
  pub within : before + here ≤ n

-- of a count of the front that ends with a place
pub counted_more : (D : ℕ) (count : Head → IndexTree → ℕ) (parts : List LiveSegment) (i : ℕ) (p : LiveSegment) (n : ℕ) → slice_get parts i ≡ Some p
    → AreCounted D count (heads_of (take (i + 1) parts)) n → Upto D count parts i p n
counted_more D count parts i p n is all =
    let h = halves D count (heads_of (take i parts)) (p.head ∷ []) n
    (subst (λ (hs : List Head). AreCounted D count hs n)
    (ap heads_of (parts_more parts i p is) ∙ map-append (λ (q : LiveSegment). q.head) (take i parts) (p ∷ []))
    all) in
    record { before = h.left; here = h.right; of_before = h.of_left; of_here = h.of_right; within = omega (arith, h.sum) }

-- of a count of all
pub counted_upto : (D : ℕ) (count : Head → IndexTree → ℕ) (parts : List LiveSegment) (i : ℕ) (p : LiveSegment) (n : ℕ) → slice_get parts i ≡ Some p
    → AreCounted D count (heads_of parts) n → Upto D count parts i p n
counted_upto D count parts i p n is all =
    let h = halves D count (heads_of (take (i + 1) parts)) (heads_of (drop (i + 1) parts)) n
    (subst (λ (hs : List Head). AreCounted D count hs n)
    (ap heads_of (sym (take-append-drop (i + 1) parts)) ∙ map-append (λ (q : LiveSegment). q.head) (take (i + 1) parts) (drop (i + 1) parts)) all) in
    let u = counted_more D count parts i p h.left is h.of_left in
    record { before = u.before; here = u.here; of_before = u.of_before; of_here = u.of_here; within = omega (arith, u.within, h.sum) }

-- ---- taking segments out from the end on

drop_place : (parts : List LiveSegment) (i : ℕ) (p : LiveSegment) → slice_get parts i ≡ Some p → drop i parts ≡ p ∷ drop (i + 1) parts
drop_place parts i p is =
    drop_more parts i p (slice_get_within parts i p is)
    ∙ ap (λ q. q ∷ drop (i + 1) parts) (get_or_from_slice_get parts i p p is)

remove_at : (front rest : List LiveSegment) (p : LiveSegment) (i : ℕ) → length front ≡ i → remove ((front ++ p ∷ []) ++ rest) i ≡ front ++ rest
remove_at front rest p i len =
    let kept : take i ((front ++ p ∷ []) ++ rest) ≡ front = ap (take i) (append_assoc front (p ∷ []) rest) ∙ take_at front (p ∷ rest) i len in
    let left : drop (suc i) ((front ++ p ∷ []) ++ rest) ≡ rest = drop_at (front ++ p ∷ []) rest (suc i) (omega (arith, length_push front p, len)) in
    ap (λ (ps : List LiveSegment). ps ++ drop (suc i) ((front ++ p ∷ []) ++ rest)) kept ∙ ap (λ (ps : List LiveSegment). front ++ ps) left

one_but : (ids : List ℕ) (p : LiveSegment) (rest : List LiveSegment) (b : Bool) → is_among ids p.head.id ≡ b
    → parts_but ids (p ∷ rest) ≡ cond (not b) (p ∷ parts_but ids rest) (parts_but ids rest)
one_but ids p rest b e = ap (λ c. cond (not c) (p ∷ parts_but ids rest) (parts_but ids rest)) e

pub out_kept : (ids : List ℕ) (parts : List LiveSegment) (i : ℕ) (p : LiveSegment) → slice_get parts i ≡ Some p → is_among ids p.head.id ≡ false
    → take (i + 1) parts ++ parts_but ids (drop (i + 1) parts) ≡ take i parts ++ parts_but ids (drop i parts)
out_kept ids parts i p is keep =
    ap (λ (ps : List LiveSegment). ps ++ parts_but ids (drop (i + 1) parts)) (parts_more parts i p is)
    ∙ append_assoc (take i parts) (p ∷ []) (parts_but ids (drop (i + 1) parts))
    ∙ ap (λ (ps : List LiveSegment). take i parts ++ ps) (sym (ap (parts_but ids) (drop_place parts i p is) ∙ one_but ids p (drop (i + 1) parts) false keep))

pub out_taken : (ids : List ℕ) (parts : List LiveSegment) (i : ℕ) (p : LiveSegment) → slice_get parts i ≡ Some p → is_among ids p.head.id ≡ true
    → remove (take (i + 1) parts ++ parts_but ids (drop (i + 1) parts)) i ≡ take i parts ++ parts_but ids (drop i parts)
out_taken ids parts i p is gone =
    let within = slice_get_within parts i p is in
    ap (λ (ps : List LiveSegment). remove (ps ++ parts_but ids (drop (i + 1) parts)) i) (parts_more parts i p is)
    ∙ remove_at (take i parts) (parts_but ids (drop (i + 1) parts)) p i (length-take-le i parts (omega (arith, within)))
    ∙ ap (λ (ps : List LiveSegment). take i parts ++ ps) (sym (ap (parts_but ids) (drop_place parts i p is) ∙ one_but ids p (drop (i + 1) parts) true gone))

-- what is read of the heads at a place that isn't passed yet is the head of that place
pub record OutPlace (parts : List LiveSegment) (i : ℕ) (head : Head) : Type 0 where
  pub part : LiveSegment
  pub is : slice_get parts i ≡ Some part
  pub has : part.head ≡ head

pub out_place : (ids : List ℕ) (parts : List LiveSegment) (heads : List Head) (lives : List LiveSet) (i : ℕ) (head : Head) → length lives ≡ length heads
    → parts_of heads lives ≡ take (i + 1) parts ++ parts_but ids (drop (i + 1) parts) → i < length parts → head ≡ get_or heads i head → OutPlace parts i head
out_place ids parts heads lives i head same now within read =
    let d : LiveSegment = live_segment head no_live in
    let front : i < length (take (i + 1) parts) = omega (arith, length-take-le (i + 1) parts (omega (arith, within))) in
    let here : get_or (parts_of heads lives) i d ≡ get_or parts i d =
    ap (λ (ps : List LiveSegment). get_or ps i d) now
    ∙ get_or_append_left (take (i + 1) parts) (parts_but ids (drop (i + 1) parts)) d i front
    ∙ get_or-take (i + 1) parts i d (omega arith) in
    let inside : i < length (parts_of heads lives) =
    omega (arith, front, ap length now, length-append (take (i + 1) parts) (parts_but ids (drop (i + 1) parts))) in
    record {
      part = get_or parts i d;
      is = slice_get-get_or parts i d within;
      has = ap (λ (q : LiveSegment). q.head) (sym here) ∙ sym (get_or-map (λ (q : LiveSegment). q.head) (parts_of heads lives) i d head inside)
          ∙ ap (λ (hs : List Head). get_or hs i head) (heads_parts heads lives same) ∙ sym read;
    }

pub out_room : (ids : List ℕ) (parts now : List LiveSegment) (i : ℕ) → now ≡ take i parts ++ parts_but ids (drop i parts) → i ≤ length parts → i ≤ length now
out_room ids parts now i is within = omega (arith, ap length is, length-append (take i parts) (parts_but ids (drop i parts)), length-take-le i parts within)
