-- Room is made, and then the document is put into the buffer.
use Rattle.std.proofs.Common.{◌≡◌, ◌+◌, ◌≤◌, ◌∙◌, IsTrue, length, refl, sym, ap, subst, inl, inr, ⊎_elim, arith}
use Rattle.std.proofs.lemmas.Bool.{false≢true}
use Rattle.std.proofs.lemmas.List.{length-map}
use Rattle.segment_set.specs.Sets.{SetData}
use Rattle.segment_set.specs.Seen.{Sees}
use Rattle.segment_set.specs.Kept.{StaysAlone}
use Rattle.segment_set.proofs.Carried.{stays_none}
use Rattle.segment_set.proofs.Changed.{full_given, index_with, not_full, parts_with, sees_with}
use Rattle.segment_set.proofs.Refused.{add_cause, add_damage, add_memory_cause, add_memory_damage, add_memory_not_full, add_not_full}
use Rattle.segment_set.proofs.Refused.{added_caused, at_error, full_cause, never_ok, never_value}
use Rattle.segment_set.proofs.Trusted.{faithful_with}
use Rattle.segment_set.proofs.Settled.{before_itself, before_same, flushes_none, left_settled}
use Rattle.segment_set.specs.Settles.{moment}
use Rattle.segment_set.proofs.Counts.{counts_added}
use Rattle.segment_set.proofs.Lossless.{live_with}
use Rattle.segment_set.proofs.Shows.{alone_of, never_refuses, rewrites_none, rewrites_of, shows_none, shows_on}
use Rattle.segment_set.specs.Effects.{AddsAlone, Rewrites}
use Rattle.segment_set.proofs.set.SegmentSet.add.Goals as goal

pub returns-then-is_full-clause-seen : goal.returns-then-is_full-clause-seen
returns-then-is_full-clause-seen g c = λ told i seen. tt

pub returns-then-is_full-clause-refused : goal.returns-then-is_full-clause-refused
returns-then-is_full-clause-refused g c = λ told i seen. seen

pub returns-then-is_full-clause-gives : goal.returns-then-is_full-clause-gives
returns-then-is_full-clause-gives g c = record { number = tt; points_given = tt }

pub returns-then-is_full-clause-rest : goal.returns-then-is_full-clause-rest
returns-then-is_full-clause-rest g c = record { saved = refl; begun = refl; snapshots = refl; leaf_size = refl }

pub returns-then-is_full-clause-in_room : goal.returns-then-is_full-clause-in_room
returns-then-is_full-clause-in_room g c = record {
  unread = λ room. refl;
  unwritten = λ told room. refl;
  room = λ room. tt;
  parts = λ room. (refl, omega arith);
}

pub returns-then-is_full-clause-rested : goal.returns-then-is_full-clause-rested
returns-then-is_full-clause-rested g c = λ settled. refl

pub returns-then-is_full-clause-cause : goal.returns-then-is_full-clause-cause
returns-then-is_full-clause-cause g c = full_cause (g.F.Pages.faults c.args.folder.now)

pub returns-in_err-make_room-clause-seen : goal.returns-in_err-make_room-clause-seen
returns-in_err-make_room-clause-seen g c = λ told i seen. never_ok _ c.from_residual.result c.from_residual.ensures.1 _

pub returns-in_err-make_room-clause-refused : goal.returns-in_err-make_room-clause-refused
returns-in_err-make_room-clause-refused g c = λ told i seen.
    at_error _ c.from_residual.result c.from_residual.ensures.1 _ (c.in_err-make_room.ensures.moves.seen told i seen)

pub returns-in_err-make_room-clause-gives : goal.returns-in_err-make_room-clause-gives
returns-in_err-make_room-clause-gives g c =
    let is = c.from_residual.ensures.1 in
    record { number = never_value _ c.from_residual.result is _; points_given = never_ok _ c.from_residual.result is _ }

pub returns-in_err-make_room-clause-rest : goal.returns-in_err-make_room-clause-rest
returns-in_err-make_room-clause-rest g c =
    alone_of g.row.D (IsTrue g.F.Pages.told) (g.F.Pages.files c.args.folder.now) (g.F.Pages.files c.make_room.new.folder) c.args.self.now c.make_room.new.self
    c.in_err-make_room.ensures.moves

pub returns-in_err-make_room-clause-in_room : goal.returns-in_err-make_room-clause-in_room
returns-in_err-make_room-clause-in_room g c =
    let fits : length c.args.self.now.buffer + length c.args.points.now ≤ 16384 → length c.args.self.now.buffer + length c.as_slice.result.now ≤ 16384 = λ room.
    subst (λ n. length c.args.self.now.buffer + n ≤ 16384) (sym (sym (length-map c.as_slice.result.now _) ∙ ap length c.as_slice.ensures.value)) room in
    record {
      unread = λ room. absurd (false≢true (c.in_err-make_room.ensures.roomy (fits room)).0);
      unwritten = λ told room. absurd (false≢true (c.in_err-make_room.ensures.roomy (fits room)).0);
      room = λ room. absurd (false≢true (c.in_err-make_room.ensures.roomy (fits room)).0);
      parts = λ room. absurd (false≢true (c.in_err-make_room.ensures.roomy (fits room)).0);
    }

pub returns-in_err-make_room-clause-rested : goal.returns-in_err-make_room-clause-rested
returns-in_err-make_room-clause-rested g c = λ settled. c.in_err-make_room.ensures.rested settled

pub returns-in_err-make_room-clause-cause : goal.returns-in_err-make_room-clause-cause
returns-in_err-make_room-clause-cause g c =
    add_cause (g.F.Pages.faults c.args.folder.now) (g.F.Pages.faults c.make_room.new.folder) c.in_err-make_room.field-0.0 c.from_residual.result
    c.from_residual.ensures.1 c.in_err-make_room.ensures.cause

pub returns-in_err-push-clause-seen : goal.returns-in_err-push-clause-seen
returns-in_err-push-clause-seen g c = λ told i seen. never_ok _ c.from_residual-in_err-push.result c.from_residual-in_err-push.ensures.1 _

pub returns-in_err-push-clause-refused : goal.returns-in_err-push-clause-refused
returns-in_err-push-clause-refused g c = λ told i seen.
    at_error _ c.from_residual-in_err-push.result c.from_residual-in_err-push.ensures.1
    _ (subst (λ (s : SetData). Sees g.row.D (g.F.Pages.files c.make_room.new.folder) s i) (sym c.in_err-push.ensures.refused)
    (c.in_ok-make_room.ensures.moves.seen told i seen))

pub returns-in_err-push-clause-gives : goal.returns-in_err-push-clause-gives
returns-in_err-push-clause-gives g c =
    record {
      number = never_value _ c.from_residual-in_err-push.result c.from_residual-in_err-push.ensures.1 _;
      points_given = never_ok _ c.from_residual-in_err-push.result c.from_residual-in_err-push.ensures.1 _;
    }

pub returns-in_err-push-clause-rest : goal.returns-in_err-push-clause-rest
returns-in_err-push-clause-rest g c =
    subst (AddsAlone c.args.self.now) (sym c.in_err-push.ensures.refused)
    (alone_of g.row.D (IsTrue g.F.Pages.told) (g.F.Pages.files c.args.folder.now) (g.F.Pages.files c.make_room.new.folder) c.args.self.now c.make_room.new.self
    c.in_ok-make_room.ensures.moves)

pub returns-in_err-push-clause-in_room : goal.returns-in_err-push-clause-in_room
returns-in_err-push-clause-in_room g c =
    let fits : length c.args.self.now.buffer + length c.args.points.now ≤ 16384 → length c.args.self.now.buffer + length c.as_slice.result.now ≤ 16384 = λ room.
    subst (λ n. length c.args.self.now.buffer + n ≤ 16384) (sym (sym (length-map c.as_slice.result.now _) ∙ ap length c.as_slice.ensures.value)) room in
    record {
      unread = λ room. (c.in_ok-make_room.ensures.roomy (fits room)).2;
      unwritten = λ told room. c.in_ok-make_room.ensures.files told (fits room);
      room = λ room. add_memory_damage (λ _. ⊥) c.from_residual-in_err-push.result c.from_residual-in_err-push.ensures.1;
      parts = λ room.
          let is = c.in_err-push.ensures.refused ∙ (c.in_ok-make_room.ensures.roomy (fits room)).1 in
          subst (λ (s : SetData). (s.parts ≡ c.args.self.now.parts) × (length s.buffer ≤ length c.args.self.now.buffer + length c.args.points.now)) (sym is)
          (refl, omega arith);
    }

pub returns-in_err-push-clause-rested : goal.returns-in_err-push-clause-rested
returns-in_err-push-clause-rested g c = λ settled. c.in_ok-make_room.ensures.rested settled

pub returns-in_err-push-clause-cause : goal.returns-in_err-push-clause-cause
returns-in_err-push-clause-cause g c =
    add_memory_cause (g.F.Pages.faults c.args.folder.now) (g.F.Pages.faults c.make_room.new.folder) c.from_residual-in_err-push.result
    c.from_residual-in_err-push.ensures.1 c.in_ok-make_room.ensures.cause.on_ok

pub returns-clause-seen : goal.returns-clause-seen
returns-clause-seen g c = λ told i seen.
    subst (λ (s : SetData). Sees g.row.D (g.F.Pages.files c.make_room.new.folder) s (index_with c.args.points.now i)) (sym c.in_ok-push.ensures.put)
    (sees_with g.row.D (g.F.Pages.files c.make_room.new.folder) c.make_room.new.self i c.args.points.now c.in_ok-push.ensures.points
    (c.in_ok-make_room.ensures.moves.seen told i seen))

pub returns-clause-refused : goal.returns-clause-refused
returns-clause-refused g c = λ told i seen. tt

pub returns-clause-gives : goal.returns-clause-gives
returns-clause-gives g c = record {
  number = c.in_ok-push.ensures.number ∙ c.in_ok-make_room.ensures.moves.stays.next;
  points_given = (
    ap (λ (s : SetData). s.next) c.in_ok-push.ensures.put ∙ ap (λ n. n + 1) c.in_ok-make_room.ensures.moves.stays.next,
    ap (λ (s : SetData). s.points_given) c.in_ok-push.ensures.put ∙ ap (λ n. n + length c.args.points.now) c.in_ok-make_room.ensures.moves.stays.points_given,
  );
}

pub returns-clause-rest : goal.returns-clause-rest
returns-clause-rest g c =
    subst (AddsAlone c.args.self.now) (sym c.in_ok-push.ensures.put) (record {
      saved = c.in_ok-make_room.ensures.moves.saved;
      begun = c.in_ok-make_room.ensures.moves.begun;
      snapshots = c.in_ok-make_room.ensures.moves.stays.snapshots;
      leaf_size = c.in_ok-make_room.ensures.moves.stays.leaf_size;
    })

pub returns-clause-in_room : goal.returns-clause-in_room
returns-clause-in_room g c =
    let fits : length c.args.self.now.buffer + length c.args.points.now ≤ 16384 → length c.args.self.now.buffer + length c.as_slice.result.now ≤ 16384 = λ room.
    subst (λ n. length c.args.self.now.buffer + n ≤ 16384) (sym (sym (length-map c.as_slice.result.now _) ∙ ap length c.as_slice.ensures.value)) room in
    record {
      unread = λ room. (c.in_ok-make_room.ensures.roomy (fits room)).2;
      unwritten = λ told room. c.in_ok-make_room.ensures.files told (fits room);
      room = λ room. tt;
      parts = λ room. parts_with c.args.self.now c.make_room.new.self c.push.new.self c.args.points.now (c.in_ok-make_room.ensures.roomy (fits room)).1
          c.in_ok-push.ensures.put;
    }

pub returns-clause-rested : goal.returns-clause-rested
returns-clause-rested g c = λ settled. c.in_ok-make_room.ensures.rested settled

pub returns-clause-cause : goal.returns-clause-cause
returns-clause-cause g c =
    added_caused (g.F.Pages.faults c.args.folder.now) (g.F.Pages.faults c.make_room.new.folder) _ c.in_ok-make_room.ensures.cause.on_ok

pub returns-then-is_full-clause-rewrites : goal.returns-then-is_full-clause-rewrites
returns-then-is_full-clause-rewrites g c = rewrites_none _ _ _ _ c.is_full.ensures.named

pub returns-then-is_full-clause-damaged : goal.returns-then-is_full-clause-damaged
returns-then-is_full-clause-damaged g c =
    shows_none g.row.D (IsTrue g.F.Pages.told) (g.F.Pages.files c.args.folder.now) (g.F.Pages.files c.args.folder.now) c.args.self.now _ _ (λ P. tt)

pub returns-in_err-make_room-clause-rewrites : goal.returns-in_err-make_room-clause-rewrites
returns-in_err-make_room-clause-rewrites g c =
    rewrites_of g.row.D (IsTrue g.F.Pages.told) (g.F.Pages.files c.args.folder.now) (g.F.Pages.files c.make_room.new.folder)
    c.args.self.now c.make_room.new.self c.in_err-make_room.ensures.moves c.in_err-make_room.ensures.faithful

pub returns-in_err-make_room-clause-damaged : goal.returns-in_err-make_room-clause-damaged
returns-in_err-make_room-clause-damaged g c =
    shows_on g.row.D (IsTrue g.F.Pages.told) (g.F.Pages.files c.args.folder.now) (g.F.Pages.files c.make_room.new.folder) c.args.self.now _
    _ _ c.in_err-make_room.ensures.damaged
    (λ P. add_damage P c.in_err-make_room.field-0.0 c.from_residual.result c.from_residual.ensures.1)

pub returns-in_err-push-clause-rewrites : goal.returns-in_err-push-clause-rewrites
returns-in_err-push-clause-rewrites g c =
    subst (Rewrites g.row.D (IsTrue g.F.Pages.told) (g.F.Pages.files c.args.folder.now) (g.F.Pages.files c.make_room.new.folder) c.args.self.now)
    (sym c.in_err-push.ensures.refused) (rewrites_of g.row.D (IsTrue g.F.Pages.told) (g.F.Pages.files c.args.folder.now)
    (g.F.Pages.files c.make_room.new.folder) c.args.self.now c.make_room.new.self
    c.in_ok-make_room.ensures.moves c.in_ok-make_room.ensures.faithful)

pub returns-in_err-push-clause-damaged : goal.returns-in_err-push-clause-damaged
returns-in_err-push-clause-damaged g c =
    shows_none g.row.D (IsTrue g.F.Pages.told) (g.F.Pages.files c.args.folder.now) (g.F.Pages.files c.make_room.new.folder) c.args.self.now _
    _ (λ P. add_memory_damage P c.from_residual-in_err-push.result c.from_residual-in_err-push.ensures.1)

pub returns-clause-rewrites : goal.returns-clause-rewrites
returns-clause-rewrites g c =
    subst (Rewrites g.row.D (IsTrue g.F.Pages.told) (g.F.Pages.files c.args.folder.now) (g.F.Pages.files c.make_room.new.folder) c.args.self.now)
    (sym c.in_ok-push.ensures.put) (record {
      kept = c.in_ok-make_room.ensures.moves.kept;
      follows = c.in_ok-make_room.ensures.moves.follows;
      canon = c.in_ok-make_room.ensures.moves.canon;
      faithful = λ told faithful.
          faithful_with g.row.D (g.F.Pages.files c.make_room.new.folder) c.args.points.now c.make_room.new.self
          (c.in_ok-make_room.ensures.faithful told faithful);
      loses = λ told well faithful number live. ⊎_elim (λ here. inl (live_with c.args.points.now c.make_room.new.self number here)) inr
          (c.in_ok-make_room.ensures.moves.loses told well faithful.heads number live);
      counts = λ told well faithful. counts_added c.args.points.now (c.in_ok-make_room.ensures.moves.counts told well faithful.heads);
    })

pub returns-clause-damaged : goal.returns-clause-damaged
returns-clause-damaged g c =
    shows_none g.row.D (IsTrue g.F.Pages.told) (g.F.Pages.files c.args.folder.now) (g.F.Pages.files c.make_room.new.folder) c.args.self.now _ _ (λ P. tt)

pub returns-then-is_full-clause-full : goal.returns-then-is_full-clause-full
returns-then-is_full-clause-full g c = record {
  full = (
    λ is. full_given c.args.self.now.points_given (length c.as_slice.result.now) (length c.args.points.now) c.is_full.ensures.full c.if-is_full.true
        (sym (length-map c.as_slice.result.now _) ∙ ap length c.as_slice.ensures.value),
    λ more. refl,
  );
  kept_full = λ is. (refl, refl);
  files_full = λ told is. refl;
}

pub returns-then-is_full-clause-added : goal.returns-then-is_full-clause-added
returns-then-is_full-clause-added g c = tt

pub returns-then-is_full-clause-left : goal.returns-then-is_full-clause-left
returns-then-is_full-clause-left g c = record {
  left = (
    (moment (g.F.Pages.files c.args.folder.now) c.args.self.now),
    flushes_none g.row.D (IsTrue g.F.Pages.told) (moment (g.F.Pages.files c.args.folder.now) c.args.self.now),
    before_itself c.args.self.now,
  );
  stays = stays_none c.args.self.now;
}

pub returns-in_err-make_room-clause-full : goal.returns-in_err-make_room-clause-full
returns-in_err-make_room-clause-full g c =
    never_refuses (IsTrue g.F.Pages.told) (g.F.Pages.files c.args.folder.now) (g.F.Pages.files c.make_room.new.folder) c.args.self.now c.make_room.new.self
    (g.F.Pages.reads c.args.folder.now) (g.F.Pages.reads c.make_room.new.folder) (length c.args.points.now) c.from_residual.result
    (add_not_full c.in_err-make_room.field-0.0 c.from_residual.result c.from_residual.ensures.1)
    (not_full c.args.self.now.points_given (length c.as_slice.result.now) (length c.args.points.now) c.is_full.ensures.full c.if-is_full.false
    (sym (length-map c.as_slice.result.now _) ∙ ap length c.as_slice.ensures.value))

pub returns-in_err-make_room-clause-added : goal.returns-in_err-make_room-clause-added
returns-in_err-make_room-clause-added g c = never_ok _ c.from_residual.result c.from_residual.ensures.1 _

pub returns-in_err-make_room-clause-left : goal.returns-in_err-make_room-clause-left
returns-in_err-make_room-clause-left g c = record {
  left = at_error _ c.from_residual.result c.from_residual.ensures.1
      _ (left_settled g.row.D (IsTrue g.F.Pages.told) (moment (g.F.Pages.files c.args.folder.now) c.args.self.now) c.make_room.new.self
      c.in_err-make_room.ensures.left);
  stays = at_error _ c.from_residual.result c.from_residual.ensures.1 _ c.in_err-make_room.ensures.moves.stays;
}

pub returns-in_err-push-clause-full : goal.returns-in_err-push-clause-full
returns-in_err-push-clause-full g c =
    never_refuses (IsTrue g.F.Pages.told) (g.F.Pages.files c.args.folder.now) (g.F.Pages.files c.make_room.new.folder) c.args.self.now c.push.new.self
    (g.F.Pages.reads c.args.folder.now) (g.F.Pages.reads c.make_room.new.folder) (length c.args.points.now) c.from_residual-in_err-push.result
    (add_memory_not_full c.from_residual-in_err-push.result c.from_residual-in_err-push.ensures.1)
    (not_full c.args.self.now.points_given (length c.as_slice.result.now) (length c.args.points.now) c.is_full.ensures.full c.if-is_full.false
    (sym (length-map c.as_slice.result.now _) ∙ ap length c.as_slice.ensures.value))

pub returns-in_err-push-clause-added : goal.returns-in_err-push-clause-added
returns-in_err-push-clause-added g c = never_ok _ c.from_residual-in_err-push.result c.from_residual-in_err-push.ensures.1 _

pub returns-in_err-push-clause-left : goal.returns-in_err-push-clause-left
returns-in_err-push-clause-left g c = record {
  left = at_error _ c.from_residual-in_err-push.result c.from_residual-in_err-push.ensures.1
      _ (
        (moment (g.F.Pages.files c.make_room.new.folder) c.make_room.new.self),
        c.in_ok-make_room.ensures.flushed,
        before_same c.make_room.new.self c.push.new.self c.in_err-push.ensures.refused,
      );
  stays = at_error _ c.from_residual-in_err-push.result c.from_residual-in_err-push.ensures.1
      _ (subst (StaysAlone c.args.self.now) (sym c.in_err-push.ensures.refused) c.in_ok-make_room.ensures.moves.stays);
}

pub returns-clause-full : goal.returns-clause-full
returns-clause-full g c =
    never_refuses (IsTrue g.F.Pages.told) (g.F.Pages.files c.args.folder.now) (g.F.Pages.files c.make_room.new.folder) c.args.self.now c.push.new.self
    (g.F.Pages.reads c.args.folder.now) (g.F.Pages.reads c.make_room.new.folder) (length c.args.points.now) _
    (λ is. absurd cc)
    (not_full c.args.self.now.points_given (length c.as_slice.result.now) (length c.args.points.now) c.is_full.ensures.full c.if-is_full.false
    (sym (length-map c.as_slice.result.now _) ∙ ap length c.as_slice.ensures.value))

pub returns-clause-added : goal.returns-clause-added
returns-clause-added g c = ((moment (g.F.Pages.files c.make_room.new.folder) c.make_room.new.self), c.in_ok-make_room.ensures.flushed, c.in_ok-push.ensures.put)

pub returns-clause-left : goal.returns-clause-left
returns-clause-left g c = record { left = tt; stays = tt }
