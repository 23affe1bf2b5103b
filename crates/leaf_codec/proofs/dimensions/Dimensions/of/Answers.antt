use Rattle.std.proofs.Common.{unwrap_or, length-set, Option, ◌≡◌, ◌≤◌, ◌<◌, sym, ap, ℕ, get_or, ◌∙◌}
use Rattle.std.proofs.Common.{arith, ltb, ltb-true, get_or-set_same, get_or-set_other, inl, inr}
use Rattle.std.proofs.lemmas.Bool.{cases_eq}
use Rattle.std.proofs.lemmas.List.Elements.{All-set}
use Rattle.std.proofs.lemmas.List.FromFn.{fill_by_all}
use Rattle.point_codec.specs.Seen.{items_of}
use Rattle.leaf_codec.specs.Dimensions.{shared_prefix, varies, spread, sorted_dimension, different}
use Rattle.leaf_codec.proofs.Narrowest.{narrowest_agree}
use Rattle.leaf_codec.proofs.Lists.{fills_more}
use Rattle.leaf_codec.proofs.Written.{lengths_of, sorted_number, told_is, told-le}
use Rattle.leaf_codec.proofs.dimensions.Dimensions.of.Given.{Over}
use Rattle.leaf_codec.proofs.dimensions.Dimensions.of.Goals as goal
use Rattle.leaf_codec.proofs.dimensions.Dimensions.of.Goals.{then-shared-lt4, else-shared-lt4, After-narrowest-sorted}

pub loop-d-preserved : goal.loop-d-preserved
loop-d-preserved g c =
    let items = items_of c.args.entries.now in
    let d = c.loop-d.d in
    let long = c.loop-d.invariant.long in
    let wide = c.loop-d.invariant.wide in
    record {
      long = length-set c.loop-d.lengths d c.shared_prefix-shared.result ∙ long;
      wide = elim c.if-shared-lt4.branch [
        | then-shared-lt4 w ↦ rw w.spreads-is (length-set c.loop-d.spreads d w.different.result ∙ wide)
        | else-shared-lt4 w ↦ rw w.spreads-is wide
      ];
      lengths = fills_more (λ k. shared_prefix k items) c.loop-d.lengths d c.shared_prefix-shared.result (omega arith) c.loop-d.invariant.lengths
          c.shared_prefix-shared.ensures;
      spreads = elim c.if-shared-lt4.branch [
        | then-shared-lt4 w ↦ rw w.spreads-is (λ k lt moves. elim (cases_eq k d) [
          | inl same ↦ rw (same, get_or-set_same c.loop-d.spreads d w.different.result 0 (omega arith))
              (w.different.ensures.value ∙ ap (λ p. different d p items) c.shared_prefix-shared.ensures)
          | inr apart ↦ get_or-set_other c.loop-d.spreads d k w.different.result 0 apart ∙ c.loop-d.invariant.spreads k (omega arith) moves
        ])
        | else-shared-lt4 w ↦ rw w.spreads-is (λ k lt moves. elim (cases_eq k d) [
          | inl same ↦ absurd (omega (arith, ltb-true _ _ moves, ap (λ j. shared_prefix j items) same, c.shared_prefix-shared.ensures, w.if-shared-lt4.false))
          | inr apart ↦ c.loop-d.invariant.spreads k (omega arith) moves
        ])
      ];
      few = elim c.if-shared-lt4.branch [
        | then-shared-lt4 w ↦
            rw w.spreads-is (All-set (λ (n : ℕ). n ≤ 256) c.loop-d.spreads d w.different.result w.different.ensures.few c.loop-d.invariant.few)
        | else-shared-lt4 w ↦ rw w.spreads-is c.loop-d.invariant.few
      ];
    }

-- after the loop the length of each shared prefix stands at its place
reached : (g : Over) (c : goal.After-narrowest-sorted g) (k : ℕ) → k < g.row.D → get_or c.loop-d.lengths k 0 ≡ shared_prefix k (items_of c.args.entries.now)
reached g c k lt = c.loop-d.invariant.lengths k (omega arith)

lengths_are : (g : Over) (c : goal.After-narrowest-sorted g) → c.loop-d.lengths ≡ lengths_of g.row.D (items_of c.args.entries.now)
lengths_are g c = fill_by_all (λ k. shared_prefix k (items_of c.args.entries.now)) c.loop-d.lengths g.row.D 0 c.loop-d.invariant.long (reached g c)

sorted_is : (g : Over) (c : goal.After-narrowest-sorted g) → c.narrowest-sorted.result ≡ sorted_number g.row.D (items_of c.args.entries.now)
unfolding sorted_dimension
sorted_is g c =
    let items = items_of c.args.entries.now in
    c.narrowest-sorted.ensures ∙ rw c.loop-d.invariant.long (ap (λ (o : Option ℕ). unwrap_or o g.row.D)
    (narrowest_agree g.row.D _ (varies items) _ (spread items)
    (λ k lt. ap (λ n. ltb n 4) (reached g c k lt))
    (λ k lt moves. c.loop-d.invariant.spreads k (omega arith) (sym (ap (λ n. ltb n 4) (reached g c k lt)) ∙ moves))))

pub returns : goal.returns
returns g c =
    let b = (goal.at.returns g c).After-narrowest-sorted in
    record { lengths = lengths_are g b; sorted = sorted_is g b }

pub invariant_of-result : goal.invariant_of-result
invariant_of-result g c = record {
  told = λ d lt.
      let items = items_of c.args.entries.now in
      rw (lengths_are g c, sorted_is g c, told_is g.row.D d items lt) (told-le g.row.D d items);
}
