use Rattle.std.proofs.Common.{Ok, take}
use Rattle.std.specs.Prelude.{IsTrue}
use Rattle.segment_set.specs.AtOnce.{points_in}
use Rattle.index_core.specs.Whole.{Adds}
use Rattle.index_core.proofs.session.Session.add_each.Given as goal

-- a document came for each point so far
abbrev pub invariant-loop-entry : goal.invariant-loop-entry
invariant-loop-entry g l = Adds {T = Unit {0}} g.row.D (IsTrue g.F.Pages.told) (points_in (take l.entry-index l.entries))
    (record { files = g.F.Pages.files l.initial.folder; session = l.initial.self; faults = g.F.Pages.faults l.initial.folder })
    (record { files = g.F.Pages.files l.folder; session = l.self; faults = g.F.Pages.faults l.folder }) (Ok tt)
