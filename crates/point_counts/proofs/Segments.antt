-- A loop over segments, one segment at a time: which leaves are read, and what is counted.
use Rattle.std.proofs.Common.{◌≡◌, ℕ, ◌+◌, ◌*◌, ◌≤◌, Bool, List, [], ◌∷◌, ◌++◌, length, take, drop, ℤ, refl, sym, ap}
use Rattle.std.proofs.Common.{subst, ◌∙◌, arith, Some, length-append}
use Rattle.std.specs.List.{slice_get}
use Rattle.std.proofs.lemmas.Bool.{ne_eqb}
use Rattle.std.proofs.lemmas.List.Elements.{All-head, All-tail}
use Rattle.std.proofs.lemmas.List.Sums.{length-filter, count_by-le-length}
use Rattle.outer_io.specs.Files.{Files}
use Rattle.point_codec.specs.Points.{Item, Region}
use Rattle.live_bits.specs.LiveSet.{is_live}
use Rattle.inner_pack.specs.Trees.{IndexTree}
use Rattle.inner_pack.specs.Bodies.{HasTree}
use Rattle.segment_file.proofs.Counted.{segment_counted, segment_ranges}
use Rattle.segment_view.specs.LiveSegments.{LiveSegment, Contents, IsRead, AreRead, live_in_parts}
use Rattle.segment_view.proofs.Living.{live-append, live_of, parts_more}
use Rattle.segment_view.proofs.Stepwise.{split_at}
use Rattle.point_counts.specs.Tables.{all_at}
use Rattle.point_counts.specs.Costs.{is_clean, opened_below, opened_of, OpensLeaves}
use Rattle.point_counts.proofs.Counts.{all_join}

-- ---- leaves

-- those of two lists together
pub record Halves (D : ℕ) (box : Region) (test : Region → Bool) (xs ys : List LiveSegment) (n : ℕ) : Type 0 where
  pub left : ℕ
  pub right : ℕ
  pub of_left : OpensLeaves D box test xs left
  pub of_right : OpensLeaves D box test ys right
  pub sum : n ≡ left + right

halves : (D : ℕ) (box : Region) (test : Region → Bool) (xs ys : List LiveSegment) (n : ℕ) → OpensLeaves D box test (xs ++ ys) n
    → Halves D box test xs ys n
halves D box test [] ys n h = record { left = 0; right = n; of_left = refl; of_right = h; sum = omega arith }
halves D box test (x ∷ xs) ys n h =
    let r = halves D box test xs ys h.1 h.3 in
    record {
      left = h.0 + r.left;
      right = r.right;
      of_left = (h.0, r.left, h.2, r.of_left, refl);
      of_right =
          r.of_right;
      sum = h.4 ∙ omega (arith, r.sum);
    }

pub opened_more : (D : ℕ) (box : Region) (test : Region → Bool) (parts : List LiveSegment) (i : ℕ) (p : LiveSegment) (n : ℕ)
    → slice_get parts i ≡ Some p → OpensLeaves D box test (take (i + 1) parts) n
    → Halves D box test (take i parts) (p ∷ []) n
opened_more D box test parts i p n is all = halves D box test (take i parts) (p ∷ []) n
    (subst (λ (ps : List LiveSegment). OpensLeaves D box test ps n) (parts_more parts i p is) all)

-- those up to a segment are not more than those of all
pub record Upto (D : ℕ) (box : Region) (test : Region → Bool) (parts : List LiveSegment) (i : ℕ) (p : LiveSegment) (n : ℕ) : Type 0
  where
    pub before : ℕ
    pub here : ℕ
    pub of_before : OpensLeaves D box test (take i parts) before
    pub of_here : OpensLeaves D box test (p ∷ []) here
    pub within : before + here ≤ n

pub opened_upto : (D : ℕ) (box : Region) (test : Region → Bool) (parts : List LiveSegment) (i : ℕ) (p : LiveSegment) (n : ℕ)
    → slice_get parts i ≡ Some p → OpensLeaves D box test parts n → Upto D box test parts i p n
opened_upto D box test parts i p n is all =
    let whole = halves D box test (take i parts ++ p ∷ []) (drop (i + 1) parts) n
    (subst (λ (ps : List LiveSegment). OpensLeaves D box test ps n) (sym (split_at parts i p is)) all) in
    let two = halves D box test (take i parts) (p ∷ []) whole.left whole.of_left in
    record {
      before = two.left;
      here = two.right;
      of_before = two.of_left;
      of_here = two.of_right;
      within =
          omega (arith, whole.sum, two.sum);
    }

-- the leaves opened of one segment alone are those of its tree
pub one_segment : (D : ℕ) (box : Region) (test : Region → Bool) (p : LiveSegment) (n : ℕ) (root : Region) (t : IndexTree)
    → OpensLeaves D box test (p ∷ []) n → HasTree D p.head.index root t
    → n ≡ opened_of p box test t
one_segment D box test p n root t c has = let e = c.2 root t has in omega (arith, e, c.3, c.4)

-- and where a number is live those below its root
pub opened_live : (box : Region) (test : Region → Bool) (p : LiveSegment) (t : IndexTree) → 1 ≤ length p.live.live
    → opened_of p box test t ≡ opened_below (is_clean p) box test t
opened_live box test p t some =
    rw (ne_eqb (length p.live.live) 0 (λ none. absurd (omega (arith, some, none)))) refl

-- ---- entries

pub counted_more : (box : Region) (place : List ℤ → ℕ) (c : Contents) (parts : List LiveSegment) (i : ℕ) (p : LiveSegment)
    → slice_get parts i ≡ Some p → (k : ℕ)
    → all_at box place (live_in_parts c (take (i + 1) parts)) k ≡ all_at box place (live_in_parts c (take i parts)) k
    + all_at box place (live_in_parts c (p ∷ [])) k
counted_more box place c parts i p is k =
    ap (λ (ps : List LiveSegment). all_at box place (live_in_parts c ps) k) (parts_more parts i p is)
    ∙ ap (λ (xs : List Item). all_at box place xs k) (live-append c (take i parts) (p ∷ []))
    ∙ all_join box place (live_in_parts c (take i parts)) (live_in_parts c (p ∷ [])) k

-- no segment has more than 16,777,216
pub few_live : (D : ℕ) (files : Files) (c : Contents) (parts : List LiveSegment) → AreRead D files c parts
    → length (live_in_parts c parts) ≤ 16777216 * length parts
few_live D files c [] all = omega arith
few_live D files c (p ∷ ps) all =
    let here = All-head (IsRead D files c) p ps all in
    let rest = few_live D files c ps (All-tail (IsRead D files c) p ps all) in
    let long = segment_counted D _ p.head (c p.head.id) here.held in
    let most = (segment_ranges D _ p.head (c p.head.id) here.held).few in
    let kept = length-filter (λ (e : Item). is_live p.live e.doc) (c p.head.id) in
    let less = count_by-le-length (λ (e : Item). is_live p.live e.doc) (c p.head.id) in
    let both = length-append (live_of c p) (live_in_parts c ps) in
    omega (arith, rest, long, most, kept, less, both)
