use Rattle.std.proofs.Common.{◌∙◌, IsTrue, subst, arith}
use Rattle.std.proofs.lemmas.Result.{on_err_weaker, on_ok_weaker}
use Rattle.page_cache.specs.Causes.{HasPageCause}
use Rattle.segment_set.specs.Merged.{Rearranges}
use Rattle.segment_set.specs.Settles.{moment}
use Rattle.segment_set.proofs.Rearranged.{rearranges_then}
use Rattle.segment_set.proofs.Refused.{at_error, never_ok, same_cause, same_damage}
use Rattle.segment_set.proofs.Shows.{shows_none, shows_on}
use Rattle.segment_set.proofs.Saving.{no_damage}
use Rattle.segment_set.proofs.set.SegmentSet.flush.Given as given
use Rattle.segment_set.proofs.set.SegmentSet.flush.Goals as goal

all : (g : given.Over) (c : goal.After-write_buffer g)
    → Rearranges g.row.D (IsTrue g.F.Pages.told) (g.F.Pages.files c.args.folder.now) (g.F.Pages.files c.write_buffer.new.folder) c.args.self.now
    c.write_buffer.new.self
all g c =
    rearranges_then g.row.D (IsTrue g.F.Pages.told) (g.F.Pages.files c.args.folder.now) (g.F.Pages.files c.merge_settle.new.folder)
    (g.F.Pages.files c.write_buffer.new.folder) c.args.self.now c.merge_settle.new.self c.write_buffer.new.self
    c.write_buffer.ensures.well c.in_ok-merge_settle.ensures.moves c.write_buffer.ensures.moves

pub returns-clause-levels : goal.returns-clause-levels
returns-clause-levels g c =
    on_ok_weaker c.write_buffer.result
    (λ emptied level. let more = c.write_buffer.ensures.one_more level in let few = c.in_ok-merge_settle.ensures.levels level in omega (arith, more, few))
    c.write_buffer.ensures.emptied

pub returns-clause-moves : goal.returns-clause-moves
returns-clause-moves g c = all g c

pub returns-clause-cause : goal.returns-clause-cause
returns-clause-cause g c =
    subst (λ n. HasPageCause n (g.F.Pages.faults c.write_buffer.new.folder) c.write_buffer.result) c.in_ok-merge_settle.ensures.cause.on_ok
    c.write_buffer.ensures.cause

pub returns-in_err-merge_settle-clause-rested : goal.returns-in_err-merge_settle-clause-rested
returns-in_err-merge_settle-clause-rested g c = λ settled. c.in_err-merge_settle.ensures.rested settled

pub returns-clause-rested : goal.returns-clause-rested
returns-clause-rested g c = λ settled. c.write_buffer.ensures.reads ∙ c.in_ok-merge_settle.ensures.rested settled

pub returns-in_err-merge_settle-clause-emptied : goal.returns-in_err-merge_settle-clause-emptied
returns-in_err-merge_settle-clause-emptied g c = never_ok _ c.from_residual.result c.from_residual.ensures.1 _

pub returns-in_err-merge_settle-clause-levels : goal.returns-in_err-merge_settle-clause-levels
returns-in_err-merge_settle-clause-levels g c = never_ok _ c.from_residual.result c.from_residual.ensures.1 _

pub returns-in_err-merge_settle-clause-cause : goal.returns-in_err-merge_settle-clause-cause
returns-in_err-merge_settle-clause-cause g c =
    same_cause (g.F.Pages.faults c.args.folder.now) (g.F.Pages.faults c.merge_settle.new.folder) c.in_err-merge_settle.field-0.0 c.from_residual.result
    c.from_residual.ensures.1 c.in_err-merge_settle.ensures.cause

pub returns-in_err-merge_settle-clause-moves : goal.returns-in_err-merge_settle-clause-moves
returns-in_err-merge_settle-clause-moves g c = c.in_err-merge_settle.ensures.moves

pub returns-clause-emptied : goal.returns-clause-emptied
returns-clause-emptied g c = c.write_buffer.ensures.emptied

pub returns-in_err-merge_settle-clause-faithful : goal.returns-in_err-merge_settle-clause-faithful
returns-in_err-merge_settle-clause-faithful g c = c.in_err-merge_settle.ensures.faithful

pub returns-in_err-merge_settle-clause-damaged : goal.returns-in_err-merge_settle-clause-damaged
returns-in_err-merge_settle-clause-damaged g c =
    shows_on g.row.D (IsTrue g.F.Pages.told) (g.F.Pages.files c.args.folder.now) (g.F.Pages.files c.merge_settle.new.folder) c.args.self.now _
    _ _ c.in_err-merge_settle.ensures.damaged
    (λ P. same_damage P c.in_err-merge_settle.field-0.0 c.from_residual.result c.from_residual.ensures.1)

pub returns-in_err-merge_settle-clause-cache : goal.returns-in_err-merge_settle-clause-cache
returns-in_err-merge_settle-clause-cache g c = c.in_err-merge_settle.ensures.cache

pub returns-clause-cache : goal.returns-clause-cache
returns-clause-cache g c = c.write_buffer.ensures.cache ∙ c.in_ok-merge_settle.ensures.cache

pub returns-clause-faithful : goal.returns-clause-faithful
returns-clause-faithful g c = λ told faithful. c.write_buffer.ensures.faithful told (c.in_ok-merge_settle.ensures.faithful told faithful)

pub returns-clause-damaged : goal.returns-clause-damaged
returns-clause-damaged g c =
    shows_none g.row.D (IsTrue g.F.Pages.told) (g.F.Pages.files c.args.folder.now) (g.F.Pages.files c.write_buffer.new.folder) c.args.self.now _
    _ (λ P. no_damage c.write_buffer.result P c.write_buffer.ensures.whole)

pub returns-in_err-merge_settle-clause-flushed : goal.returns-in_err-merge_settle-clause-flushed
returns-in_err-merge_settle-clause-flushed g c = never_ok _ c.from_residual.result c.from_residual.ensures.1 _

pub returns-in_err-merge_settle-clause-left : goal.returns-in_err-merge_settle-clause-left
returns-in_err-merge_settle-clause-left g c = at_error _ c.from_residual.result c.from_residual.ensures.1 _ c.in_err-merge_settle.ensures.left

pub returns-clause-flushed : goal.returns-clause-flushed
returns-clause-flushed g c =
    on_ok_weaker c.write_buffer.result
    (λ writes. record {
      mid = (moment (g.F.Pages.files c.merge_settle.new.folder) c.merge_settle.new.self);
      settles = c.in_ok-merge_settle.ensures.settled;
      writes = writes;
    }) c.write_buffer.ensures.writes

pub returns-clause-left : goal.returns-clause-left
returns-clause-left g c =
    on_err_weaker c.write_buffer.result
    (λ same. ((moment (g.F.Pages.files c.merge_settle.new.folder) c.merge_settle.new.self), c.in_ok-merge_settle.ensures.settled, same))
    c.write_buffer.ensures.refused
