use Rattle.std.proofs.Common.{rules}
use Rattle.std.specs.Prelude.{IsTrue}
use Rattle.segment_set.specs.Kept.{IsNeeded}
use Rattle.segment_set.proofs.Sweeping.{front_left, front_more, named_at, shorter_at, swept_none}
use Rattle.segment_set.proofs.Needed.{not_needed}
use Rattle.segment_set.proofs.set.SegmentSet.sweep_at.Goals as goal

pub returns-then-needs-clause-swept : goal.returns-then-needs-clause-swept
returns-then-needs-clause-swept g c = swept_none (IsTrue g.F.Pages.told) c.args.c.now c.args.self.now (g.F.Pages.files c.args.folder.now)

pub returns-then-needs-clause-front : goal.returns-then-needs-clause-front
returns-then-needs-clause-front g c = λ all.
    front_more (IsNeeded c.args.self.now c.args.c.now) c.args.self.now.names.names c.args.place c.name_at-name.result c.name_at-name.ensures.name all
    (c.needs.ensures.yes c.if-needs.true)

pub remove_file-requires : goal.remove_file-requires
remove_file-requires g c =
    (search rules, (named_at c.args.self.now.names.names c.args.place c.name_at-name.result c.name_at-name.ensures.name, c.needs.ensures.no c.if-needs.false))

pub returns-clause-front : goal.returns-clause-front
returns-clause-front g c = λ all.
    front_left (IsNeeded c.args.self.now c.args.c.now) c.args.self.now.names.names c.remove_file.new.self.names.names c.args.place c.name_at-name.result
    c.in_ok-remove_file.ensures.names
    (not_needed c.args.self.now c.args.c.now c.name_at-name.result (c.needs.ensures.no c.if-needs.false)) all

pub returns-clause-next : goal.returns-clause-next
returns-clause-next g c =
    shorter_at c.args.self.now.names.names c.remove_file.new.self.names.names c.args.place c.name_at-name.result c.name_at-name.ensures.name
    c.in_ok-remove_file.ensures.names

pub returns-then-needs-clause-faithful : goal.returns-then-needs-clause-faithful
returns-then-needs-clause-faithful g c = λ told keeps. keeps

pub returns-in_err-remove_file-clause-faithful : goal.returns-in_err-remove_file-clause-faithful
returns-in_err-remove_file-clause-faithful g c = λ told keeps. c.in_err-remove_file.ensures.faithful told keeps

pub returns-clause-faithful : goal.returns-clause-faithful
returns-clause-faithful g c = λ told keeps. c.in_ok-remove_file.ensures.faithful told keeps
