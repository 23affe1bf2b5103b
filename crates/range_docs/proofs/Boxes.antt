-- The box for a question has just the ranges that are answers.
use Rattle.std.proofs.Common.{◌≡◌, ℕ, ◌≤◌, true, List, ◌++◌, length, take, drop, replicate, ℤ, refl, sym, subst, arith, length-take-le, length-drop}
use Rattle.std.proofs.Common.{take-append-drop}
use Rattle.std.proofs.lemmas.List.{length-replicate}
use Rattle.std.proofs.lemmas.List.Elements.{All-take, All-drop}
use Rattle.std.specs.Prelude.{All, FitsSigned, ◌↔◌}
use Rattle.std.specs.Int.{int_max}
use mir.Syntax.{w32}
use Rattle.point_codec.specs.Points.{Region, all_le, in_box}
use Rattle.point_codec.specs.Cells.{by_dimension}
use Rattle.point_codec.proofs.Corners.{both_true, all_le-refl, all_le-trans, all_le_greatest, all_le_of_greatest}
use Rattle.range_docs.specs.Ranges.{Decides, is_boxed, range_of, is_range, Has, AnswersOn, HasAnswers, box_for, least, greatest}
use Rattle.range_docs.specs.declared.ranges.Question.{Question}
use Rattle.range_docs.specs.declared.ranges.Question.TheVariants.{Intersects, Within, Contains}
use Rattle.range_docs.proofs.Ends.{all_above, all_below, between, in_box-between}

has : (range : Region) (p : List ℤ) → all_le range.lo p ≡ true → all_le p range.hi ≡ true → Has range p
has range p low high = rw (low, high) refl

module _ (r : ℕ) (query : Region) (a b : List ℤ) (lo : length query.lo ≡ r) (hi : length query.hi ≡ r) (lower : length a ≡ r)
    (upper : length b ≡ r) (a_fits : All (λ x. FitsSigned w32 x) a) (b_fits : All (λ x. FitsSigned w32 x) b) (ordered : all_le a b ≡ true)
    (asked : is_range query ≡ true) where
  low : List ℤ
  low = replicate (length query.lo) least

  high : List ℤ
  high = replicate (length query.hi) greatest

  low_long : length low ≡ length a
  unfolding low
  low_long = rw (length-replicate (length query.lo) least) (omega arith)

  above : all_le low a ≡ true
  unfolding low
  above = rw (lo, ← lower) (all_above a a_fits)

  below : all_le b high ≡ true
  unfolding high
  below = rw (hi, ← upper) (all_below b b_fits)

  in_both : all_le query.lo b ≡ true → all_le a query.hi ≡ true → AnswersOn Intersects (record { lo = a; hi = b }) query
  in_both from to =
      let p : List ℤ = by_dimension int_max a query.lo in
      let same : length a ≡ length query.lo = omega arith in
      let over = all_le_greatest a query.lo same in (
        p,
        has (record { lo = a; hi = b }) p over.0 (all_le_of_greatest b a query.lo ordered from),
        has query p over.1 (all_le_of_greatest query.hi a query.lo to asked),
      )

  intersects : (in_box (record { lo = low ++ query.lo; hi = query.hi ++ high }) (a ++ b) ≡ true) ↔ AnswersOn Intersects (record { lo = a; hi = b }) query
  intersects = (
    (λ h. let n = between low query.lo query.hi high a b low_long (omega arith) h in in_both n.upper_from n.lower_to),
    (λ w.
        let stored = both_true (all_le a w.0) (all_le w.0 b) w.1 in
        let of_query = both_true (all_le query.lo w.0) (all_le w.0 query.hi) w.2 in
        in_box-between low query.lo query.hi high a b low_long (omega arith) (record {
          lower_from = above;
          upper_from = all_le-trans query.lo w.0 b of_query.0 stored.1;
          lower_to = all_le-trans a w.0 query.hi stored.0 of_query.1;
          upper_to = below;
        })),
  )

  within : (in_box (record { lo = query.lo ++ query.lo; hi = query.hi ++ query.hi }) (a ++ b) ≡ true) ↔ AnswersOn Within (record { lo = a; hi = b }) query
  within = (
    (λ h p k.
        let n = between query.lo query.lo query.hi query.hi a b (omega arith) (omega arith) h in
        let at = both_true (all_le a p) (all_le p b) k in
        has query p (all_le-trans query.lo a p n.lower_from at.0) (all_le-trans p b query.hi at.1 n.upper_to)),
    (λ all.
        let least_in = all a (has (record { lo = a; hi = b }) a (all_le-refl a) ordered) in
        let greatest_in = all b (has (record { lo = a; hi = b }) b ordered (all_le-refl b)) in
        let first = both_true (all_le query.lo a) (all_le a query.hi) least_in in
        let last = both_true (all_le query.lo b) (all_le b query.hi) greatest_in in
        in_box-between query.lo query.lo query.hi query.hi a b (omega arith) (omega arith)
        (record { lower_from = first.0; upper_from = last.0; lower_to = first.1; upper_to = last.1 })),
  )

  contains : (in_box (record { lo = low ++ query.hi; hi = query.lo ++ high }) (a ++ b) ≡ true) ↔ AnswersOn Contains (record { lo = a; hi = b }) query
  contains = (
    (λ h p k.
        let n = between low query.hi query.lo high a b low_long (omega arith) h in
        let at = both_true (all_le query.lo p) (all_le p query.hi) k in
        has (record { lo = a; hi = b }) p (all_le-trans a query.lo p n.lower_to at.0) (all_le-trans p query.hi b at.1 n.upper_from)),
    (λ all.
        let least_in = all query.lo (has query query.lo (all_le-refl query.lo) asked) in
        let greatest_in = all query.hi (has query query.hi asked (all_le-refl query.hi)) in
        let first = both_true (all_le a query.lo) (all_le query.lo b) least_in in
        let last = both_true (all_le a query.hi) (all_le query.hi b) greatest_in in
        in_box-between low query.hi query.lo high a b low_long (omega arith)
        (record { lower_from = above; upper_from = last.1; lower_to = first.0; upper_to = below })),
  )

pub box_answers : (question : Question) (r : ℕ) (query : Region) → length query.lo ≡ r → length query.hi ≡ r
    → HasAnswers question r query (box_for question query)
unfolding low high
box_answers question r query lo hi asked ends e =
    let short : r ≤ length ends = omega (arith, e.long) in
    let lower : length (take r ends) ≡ r = length-take-le r ends short in
    let upper : length (drop r ends) ≡ r = omega (arith, length-drop r ends, e.long) in
    let a_fits = All-take (λ x. FitsSigned w32 x) r ends e.fits in
    let b_fits = All-drop (λ x. FitsSigned w32 x) r ends e.fits in
    subst (λ c. (in_box (box_for question query) c ≡ true) ↔ AnswersOn question (range_of r ends) query) (take-append-drop r ends)
    (elim question as (λ q. (in_box (box_for q query) (take r ends ++ drop r ends) ≡ true) ↔ AnswersOn q (range_of r ends) query) [
      | Intersects ↦ intersects r query (take r ends) (drop r ends) lo hi lower upper a_fits b_fits e.ordered asked
      | Within ↦ within r query (take r ends) (drop r ends) lo hi lower upper a_fits b_fits e.ordered asked
      | Contains ↦ contains r query (take r ends) (drop r ends) lo hi lower upper a_fits b_fits e.ordered asked
    ])

-- to look into the box decides
pub boxes_decide : Decides is_boxed
boxes_decide question r ends query e asked =
    subst (λ c. (in_box (box_for question query) c ≡ true) ↔ AnswersOn question (range_of r ends) query) (sym (take-append-drop r ends))
    (box_answers question r query asked.lo asked.hi asked.ordered ends e)

pub found : (question : Question) (r : ℕ) (query bounds : Region) → bounds ≡ box_for question query → length query.lo ≡ r
    → length query.hi ≡ r → HasAnswers question r query bounds
found question r query bounds e lo hi = subst (HasAnswers question r query) (sym e) (box_answers question r query lo hi)
