-- The loop adds up the distances in turn, and doesn't saturate where their sum is small.
use Rattle.std.proofs.Common.{◌<◌, ◌^◌, sym, ap, subst, ◌∙◌}
use Rattle.std.specs.List.{sum_by}
use Rattle.std.proofs.lemmas.List.{take_all}
use Rattle.point_codec.specs.declared.entries.Near.{Near}
use Rattle.generate_index.proofs.Sums.{distance_more, distances_alone}
use Rattle.generate_index.proofs.generator.distances_of.Goals as goal

pub loop-near-preserved : goal.loop-near-preserved
loop-near-preserved c = λ small.
    c.saturating_add-sum.ensures ∙ distance_more c.args.found.now c.loop-near.near-index _ _ c.loop-near-test.true (c.loop-near.invariant small) small

pub returns : goal.returns
returns c = λ small.
    c.loop-near.invariant (subst (λ total. total < 2 ^ 128) (distances_alone c.args.found.now) small)
    ∙ (ap (sum_by (λ (n : Near). n.dist2)) (take_all c.loop-near.near-index c.args.found.now c.loop-near-test.false) ∙ sym (distances_alone c.args.found.now))
