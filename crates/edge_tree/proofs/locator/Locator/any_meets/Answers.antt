use Rattle.std.proofs.Common.{sym, ◌∙◌, subst}
use Rattle.point_codec.specs.Seen.{region_of}
use Rattle.ring_parity.specs.Rings.{AreClosed}
use Rattle.ring_parity.proofs.OneAnswer.{one_answer}
use Rattle.edge_tree.proofs.locator.Locator.any_meets.Goals as goal

pub returns-then-is_cut_by-clause-one_answer : goal.returns-then-is_cut_by-clause-one_answer
returns-then-is_cut_by-clause-one_answer c = λ none.
    one_answer c.args.self.now (region_of c.args.c.now) (subst AreClosed c.self.view_is c.self.invariant.closed) (sym c.narrow.ensures.told ∙ none)
