-- Each segment has a name that was in the list.
use Rattle.segment_set.proofs.Carried.{canon_named, follows_none, keeps_none, stays_none}
use Rattle.std.proofs.Common.{IsTrue, length, inl, refl, ap, arith}
use Rattle.std.proofs.lemmas.Bool.{both_ways}
use Rattle.std.proofs.lemmas.Result.{on_ok_weaker}
use Rattle.segment_set.proofs.Saving.{done_cause}
use Rattle.segment_set.proofs.Settled.{flushes_none}
use Rattle.segment_set.proofs.Counts.{counts_none}
use Rattle.segment_set.specs.Settles.{moment}
use Rattle.segment_set.proofs.Shows.{shows_none}
use Rattle.segment_set.proofs.set.SegmentSet.make_room.Goals as goal

pub returns-then-has_room-clause-room : goal.returns-then-has_room-clause-room
returns-then-has_room-clause-room g c = c.has_room.ensures.room.0 c.if-has_room.true

pub returns-then-has_room-clause-roomy : goal.returns-then-has_room-clause-roomy
returns-then-has_room-clause-roomy g c = λ room. (refl, refl, refl)

pub returns-then-has_room-clause-files : goal.returns-then-has_room-clause-files
returns-then-has_room-clause-files g c = λ told room. refl

pub returns-then-has_room-clause-rested : goal.returns-then-has_room-clause-rested
returns-then-has_room-clause-rested g c = λ settled. refl

pub returns-then-has_room-clause-moves : goal.returns-then-has_room-clause-moves
returns-then-has_room-clause-moves g c = record {
  seen = λ told i seen. seen;
  stays = stays_none c.args.self.now;
  kept = keeps_none (IsTrue g.F.Pages.told) c.args.self.now.names (g.F.Pages.files c.args.folder.now);
  follows = follows_none c.args.self.now.names c.args.self.now.parts;
  canon = λ told. canon_named g.row.D (g.F.Pages.files c.args.folder.now) c.args.self.now.names c.args.self.now.parts c.has_room.ensures.named;
  begun = refl;
  pinned = refl;
  saved = refl;
  loses = λ told well heads number live. inl live;
  counts = λ told well heads. counts_none _ _ c.args.self.now;
}

pub returns-then-has_room-clause-cause : goal.returns-then-has_room-clause-cause
returns-then-has_room-clause-cause g c =
    done_cause (g.F.Pages.faults c.args.folder.now) (g.F.Pages.faults c.args.folder.now) _ refl

pub returns-clause-room : goal.returns-clause-room
returns-clause-room g c =
    on_ok_weaker c.flush.result (λ emptied. let few = c.requires in omega (arith, ap length emptied, few)) c.flush.ensures.emptied

pub returns-clause-roomy : goal.returns-clause-roomy
returns-clause-roomy g c = λ room. absurd (both_ways c.has_room.result c.if-has_room.false (c.has_room.ensures.room.1 room))

pub returns-clause-files : goal.returns-clause-files
returns-clause-files g c = λ told room. absurd (both_ways c.has_room.result c.if-has_room.false (c.has_room.ensures.room.1 room))

pub returns-clause-rested : goal.returns-clause-rested
returns-clause-rested g c = c.flush.ensures.rested

pub returns-clause-moves : goal.returns-clause-moves
returns-clause-moves g c = c.flush.ensures.moves

pub returns-clause-cause : goal.returns-clause-cause
returns-clause-cause g c = c.flush.ensures.cause

pub returns-then-has_room-clause-faithful : goal.returns-then-has_room-clause-faithful
returns-then-has_room-clause-faithful g c = λ told faithful. faithful

pub returns-then-has_room-clause-damaged : goal.returns-then-has_room-clause-damaged
returns-then-has_room-clause-damaged g c =
    shows_none g.row.D (IsTrue g.F.Pages.told) (g.F.Pages.files c.args.folder.now) (g.F.Pages.files c.args.folder.now) c.args.self.now _ _ (λ P. tt)

pub returns-clause-faithful : goal.returns-clause-faithful
returns-clause-faithful g c = c.flush.ensures.faithful

pub returns-clause-damaged : goal.returns-clause-damaged
returns-clause-damaged g c = c.flush.ensures.damaged

pub returns-then-has_room-clause-flushed : goal.returns-then-has_room-clause-flushed
returns-then-has_room-clause-flushed g c = flushes_none g.row.D (IsTrue g.F.Pages.told) (moment (g.F.Pages.files c.args.folder.now) c.args.self.now)

pub returns-then-has_room-clause-left : goal.returns-then-has_room-clause-left
returns-then-has_room-clause-left g c = tt

pub returns-clause-flushed : goal.returns-clause-flushed
returns-clause-flushed g c = c.flush.ensures.flushed

pub returns-clause-left : goal.returns-clause-left
returns-clause-left g c = c.flush.ensures.left
