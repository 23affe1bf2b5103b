-- The policy's merges are done, and then one segment is written.
use Rattle.std.proofs.Common.{◌+◌, ◌≤◌, ◌^◌, IsTrue, length, rules, sym, subst}
use Rattle.std.proofs.lemmas.Result.{on_err_weaker, on_ok_weaker}
use Rattle.page_cache.specs.Causes.{HasPageCause}
use Rattle.point_codec.specs.Seen.{items_of}
use Rattle.segment_set.specs.AtOnce.{AreNumbered}
use Rattle.segment_set.specs.Settles.{moment}
use Rattle.segment_set.proofs.Carried.{stays_then}
use Rattle.segment_set.proofs.LoadedSet.{alone_written, given_written, rewrites_then, stays_before}
use Rattle.segment_set.proofs.Steps.{ok_or_err}
use Rattle.segment_set.proofs.Refused.{at_error, never_ok, same_cause, same_damage}
use Rattle.segment_set.proofs.Saving.{no_damage}
use Rattle.segment_set.proofs.Shows.{alone_of, rewrites_of, shows_none, shows_on}
use Rattle.segment_set.proofs.set.SegmentSet.add_entries.Goals as goal

pub write_entries-requires-after_bounds : goal.write_entries-requires-after_bounds
write_entries-requires-after_bounds g c κs = λ _.
    let stays = c.in_ok-merge_settle.ensures.moves.stays in (
      search rules,
      (
        search rules,
        (
          c.in_ok-merge_settle.ensures.room,
          (
            c.requires.some,
            (
              subst (λ n. AreNumbered n c.args.entries.now) (sym stays.next) c.requires.numbered,
              subst (λ n. n + length c.args.entries.now ≤ 2 ^ 24) (sym stays.points_given) c.requires.fits,
            ),
          ),
        ),
      ),
    )

pub returns-in_err-merge_settle-clause-seen : goal.returns-in_err-merge_settle-clause-seen
returns-in_err-merge_settle-clause-seen g c = λ told i seen. never_ok _ c.from_residual.result c.from_residual.ensures.1 _

pub returns-in_err-merge_settle-clause-refused : goal.returns-in_err-merge_settle-clause-refused
returns-in_err-merge_settle-clause-refused g c = λ told i seen.
    at_error _ c.from_residual.result c.from_residual.ensures.1 _ (c.in_err-merge_settle.ensures.moves.seen told i seen)

pub returns-in_err-merge_settle-clause-gives : goal.returns-in_err-merge_settle-clause-gives
returns-in_err-merge_settle-clause-gives g c = never_ok _ c.from_residual.result c.from_residual.ensures.1 _

pub returns-in_err-merge_settle-clause-added : goal.returns-in_err-merge_settle-clause-added
returns-in_err-merge_settle-clause-added g c = never_ok _ c.from_residual.result c.from_residual.ensures.1 _

pub returns-in_err-merge_settle-clause-left : goal.returns-in_err-merge_settle-clause-left
returns-in_err-merge_settle-clause-left g c = record {
  left = at_error _ c.from_residual.result c.from_residual.ensures.1 _ c.in_err-merge_settle.ensures.left;
  stays = at_error _ c.from_residual.result c.from_residual.ensures.1 _ c.in_err-merge_settle.ensures.moves.stays;
}

pub returns-in_err-merge_settle-clause-rewrites : goal.returns-in_err-merge_settle-clause-rewrites
returns-in_err-merge_settle-clause-rewrites g c =
    rewrites_of g.row.D (IsTrue g.F.Pages.told) (g.F.Pages.files c.args.folder.now) (g.F.Pages.files c.merge_settle.new.folder)
    c.args.self.now c.merge_settle.new.self c.in_err-merge_settle.ensures.moves c.in_err-merge_settle.ensures.faithful

pub returns-in_err-merge_settle-clause-rest : goal.returns-in_err-merge_settle-clause-rest
returns-in_err-merge_settle-clause-rest g c =
    alone_of g.row.D (IsTrue g.F.Pages.told) (g.F.Pages.files c.args.folder.now) (g.F.Pages.files c.merge_settle.new.folder) c.args.self.now
    c.merge_settle.new.self c.in_err-merge_settle.ensures.moves

pub returns-in_err-merge_settle-clause-cause : goal.returns-in_err-merge_settle-clause-cause
returns-in_err-merge_settle-clause-cause g c =
    same_cause (g.F.Pages.faults c.args.folder.now) (g.F.Pages.faults c.merge_settle.new.folder) c.in_err-merge_settle.field-0.0 c.from_residual.result
    c.from_residual.ensures.1 c.in_err-merge_settle.ensures.cause

pub returns-in_err-merge_settle-clause-damaged : goal.returns-in_err-merge_settle-clause-damaged
returns-in_err-merge_settle-clause-damaged g c =
    shows_on g.row.D (IsTrue g.F.Pages.told) (g.F.Pages.files c.args.folder.now) (g.F.Pages.files c.merge_settle.new.folder) c.args.self.now _
    _ _ c.in_err-merge_settle.ensures.damaged
    (λ P. same_damage P c.in_err-merge_settle.field-0.0 c.from_residual.result c.from_residual.ensures.1)

pub returns-clause-seen : goal.returns-clause-seen
returns-clause-seen g c = λ told i seen. c.write_entries.ensures.seen told i (c.in_ok-merge_settle.ensures.moves.seen told i seen)

pub returns-clause-refused : goal.returns-clause-refused
returns-clause-refused g c = λ told i seen. c.write_entries.ensures.stays told i (c.in_ok-merge_settle.ensures.moves.seen told i seen)

pub returns-clause-added : goal.returns-clause-added
returns-clause-added g c = on_ok_weaker c.write_entries.result
    (λ writes. ((moment (g.F.Pages.files c.merge_settle.new.folder) c.merge_settle.new.self), c.in_ok-merge_settle.ensures.settled, writes))
    c.write_entries.ensures.writes

pub returns-clause-gives : goal.returns-clause-gives
returns-clause-gives g c = on_ok_weaker c.write_entries.result
    (λ writes. given_written c.args.entries.now c.args.self.now (moment (g.F.Pages.files c.merge_settle.new.folder) c.merge_settle.new.self)
    (moment (g.F.Pages.files c.write_entries.new.folder) c.write_entries.new.self) c.in_ok-merge_settle.ensures.moves.stays.next
    c.in_ok-merge_settle.ensures.moves.stays.points_given writes) c.write_entries.ensures.writes

pub returns-clause-left : goal.returns-clause-left
returns-clause-left g c = record {
  left = on_err_weaker c.write_entries.result
      (λ same. ((moment (g.F.Pages.files c.merge_settle.new.folder) c.merge_settle.new.self), c.in_ok-merge_settle.ensures.settled, same))
      c.write_entries.ensures.refused;
  stays = on_err_weaker c.write_entries.result
      (λ same. stays_then c.args.self.now c.merge_settle.new.self c.write_entries.new.self c.in_ok-merge_settle.ensures.moves.stays
      (stays_before c.merge_settle.new.self c.write_entries.new.self same)) c.write_entries.ensures.refused;
}

pub returns-clause-rest : goal.returns-clause-rest
returns-clause-rest g c =
    alone_written (items_of c.args.entries.now) c.args.self.now (moment (g.F.Pages.files c.merge_settle.new.folder) c.merge_settle.new.self)
    (moment (g.F.Pages.files c.write_entries.new.folder) c.write_entries.new.self)
    (alone_of g.row.D (IsTrue g.F.Pages.told) (g.F.Pages.files c.args.folder.now) (g.F.Pages.files c.merge_settle.new.folder) c.args.self.now
    c.merge_settle.new.self c.in_ok-merge_settle.ensures.moves)
    (ok_or_err c.write_entries.result c.write_entries.ensures.writes c.write_entries.ensures.refused)

pub returns-clause-rewrites : goal.returns-clause-rewrites
returns-clause-rewrites g c =
    rewrites_then g.row.D (IsTrue g.F.Pages.told) (g.F.Pages.files c.args.folder.now) (g.F.Pages.files c.merge_settle.new.folder)
    (g.F.Pages.files c.write_entries.new.folder) c.args.self.now c.merge_settle.new.self c.write_entries.new.self
    c.write_entries.ensures.well c.in_ok-merge_settle.ensures.moves c.in_ok-merge_settle.ensures.faithful c.write_entries.ensures.rewrites

pub returns-clause-cause : goal.returns-clause-cause
returns-clause-cause g c =
    subst (λ n. HasPageCause n (g.F.Pages.faults c.write_entries.new.folder) c.write_entries.result) c.in_ok-merge_settle.ensures.cause.on_ok
    c.write_entries.ensures.cause

pub returns-clause-damaged : goal.returns-clause-damaged
returns-clause-damaged g c =
    shows_none g.row.D (IsTrue g.F.Pages.told) (g.F.Pages.files c.args.folder.now) (g.F.Pages.files c.write_entries.new.folder) c.args.self.now _
    _ (λ P. no_damage c.write_entries.result P c.write_entries.ensures.whole)
