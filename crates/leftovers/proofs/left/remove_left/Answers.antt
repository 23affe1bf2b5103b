use Rattle.std.proofs.Common.{◌∙◌, arith}
use Rattle.leftovers.proofs.Taken.{gone_all, gone_more, takes_then}
use Rattle.leftovers.proofs.left.remove_left.Goals as goal

pub loop-name-preserved : goal.loop-name-preserved
loop-name-preserved g c = record {
  takes = λ told.
      takes_then c.args.commit.now _ (g.F.Pages.files c.loop-name.folder) _ (c.loop-name.invariant.takes told) (c.in_ok-remove_if_left.ensures.takes told);
  gone = λ told.
      gone_more c.args.commit.now c.args.names.now c.loop-name.name-index _ (g.F.Pages.files c.loop-name.folder) _ c.loop-name-test.true
      (c.in_ok-remove_if_left.ensures.takes told) (c.loop-name.invariant.gone told) (c.in_ok-remove_if_left.ensures.gone told);
  faults = c.in_ok-remove_if_left.ensures.cause.on_ok ∙ c.loop-name.invariant.faults;
}

pub returns-clause-gone : goal.returns-clause-gone
returns-clause-gone g c = λ told.
    let end = c.loop-name-test.false in
    gone_all c.args.commit.now c.args.names.now c.loop-name.name-index (g.F.Pages.files c.loop-name.folder) (omega (arith, end))
    (c.loop-name.invariant.gone told)
