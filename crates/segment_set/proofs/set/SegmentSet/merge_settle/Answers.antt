use Rattle.std.proofs.Common.{◌≤◌, ◌∙◌, ℕ, IsTrue, List, Err, length, refl, sym, subst, arith}
use Rattle.std.proofs.lemmas.Result.{err_from_is_err_and}
use Rattle.page_cache.proofs.Damages.{on_damage_weaker}
use Rattle.segment_view.specs.LiveSegments.{live_in_parts, parts_among}
use Rattle.segment_set.specs.Damages.{IsDoubt, IsEvidentIn, IsMergeDamage, IsMergeDamageOf}
use Rattle.segment_set.proofs.Chosen.{unsettled}
use Rattle.segment_set.proofs.Rearranged.{damage_before, doubt_same, entries_none, entries_then, rearranges_none, rearranges_then}
use Rattle.segment_set.proofs.Refused.{at_error, memory_caused, memory_damage, never_ok, same_cause, same_damage}
use Rattle.segment_set.proofs.Saving.{cause_after, done_cause}
use Rattle.segment_set.proofs.Settled.{before_itself, merges_chosen, settles_none, settles_one}
use Rattle.segment_set.specs.Settles.{moment}
use Rattle.page_cache.specs.Evidence.{OnDamage}
use Rattle.segment_set.proofs.Counts.{counts_none, counts_then}
use Rattle.segment_set.proofs.Trusted.{IsTrusted, on_evident_before}
use Rattle.segment_set.proofs.Shows.{shows_none}
use Rattle.segment_set.proofs.set.SegmentSet.merge_settle.Goals as goal

pub loop-ids-init : goal.loop-ids-init
loop-ids-init g c = record {
  moves = λ well. rearranges_none g.row.D (IsTrue g.F.Pages.told) (g.F.Pages.files c.args.folder.now) c.args.self.now well.named;
  entries = entries_none g.row.D (IsTrue g.F.Pages.told) (g.F.Pages.files c.args.folder.now) c.args.self.now;
  settles = settles_none g.row.D (IsTrue g.F.Pages.told) (moment (g.F.Pages.files c.args.folder.now) c.args.self.now);
  buffer = refl;
  cache = refl;
  faults = refl;
  rested = λ settled. (refl, refl);
  faithful = λ told faithful. faithful;
  counts = λ told faithful. counts_none g.row.D (g.F.Pages.files c.args.folder.now) c.args.self.now;
}

pub loop-ids-preserved : goal.loop-ids-preserved
loop-ids-preserved g c = record {
  moves = λ well. rearranges_then g.row.D (IsTrue g.F.Pages.told) (g.F.Pages.files c.args.folder.now) (g.F.Pages.files c.loop-ids.folder)
      (g.F.Pages.files c.merge.new.folder) c.args.self.now c.loop-ids.self c.merge.new.self c.next_merge.ensures.well
      (c.loop-ids.invariant.moves c.next_merge.ensures.well) c.merge.ensures.moves;
  entries = entries_then g.row.D (IsTrue g.F.Pages.told) (g.F.Pages.files c.args.folder.now) (g.F.Pages.files c.loop-ids.folder)
      (g.F.Pages.files c.merge.new.folder) c.args.self.now c.loop-ids.self c.merge.new.self c.loop-ids.invariant.entries c.merge.ensures.entries;
  settles = settles_one g.row.D (IsTrue g.F.Pages.told) (moment (g.F.Pages.files c.args.folder.now) c.args.self.now)
      (moment (g.F.Pages.files c.loop-ids.folder) c.loop-ids.self) (moment (g.F.Pages.files c.merge.new.folder) c.merge.new.self) c.loop-ids.invariant.settles
      (merges_chosen g.row.D (IsTrue g.F.Pages.told) (moment (g.F.Pages.files c.loop-ids.folder) c.loop-ids.self)
      (moment (g.F.Pages.files c.merge.new.folder) c.merge.new.self) c.in-Some.ids.items c.as_slice.result.now c.as_slice.ensures.value
      (rw c.in-Some.is at c.in_ok-ids.ensures.choice) c.in_ok-merge.ensures.merged c.merge.ensures.rest);
  buffer = c.merge.ensures.buffer ∙ c.loop-ids.invariant.buffer;
  cache = c.merge.ensures.cache ∙ c.loop-ids.invariant.cache;
  faults = c.in_ok-merge.ensures.cause.on_ok ∙ c.loop-ids.invariant.faults;
  rested = λ settled.
      absurd (unsettled c.args.self.now c.loop-ids.self (c.loop-ids.invariant.rested settled).0 settled (rw c.in-Some.is at c.in_ok-ids.ensures.ten));
  faithful = λ told faithful. c.merge.ensures.faithful told (c.loop-ids.invariant.faithful told faithful);
  counts = λ told faithful. counts_then g.row.D (g.F.Pages.files c.args.folder.now) (g.F.Pages.files c.loop-ids.folder) (g.F.Pages.files c.merge.new.folder)
      c.args.self.now c.loop-ids.self c.merge.new.self (c.loop-ids.invariant.counts told faithful)
      (c.merge.ensures.moves.counts told c.next_merge.ensures.well (c.loop-ids.invariant.faithful told faithful).heads);
}

pub loop-ids-smaller : goal.loop-ids-smaller
loop-ids-smaller g c =
    let parts = c.loop-ids.self.parts in
    let chosen : 2 ≤ length (parts_among c.in-Some.ids.items parts) = rw c.in-Some.is at c.in_ok-ids.ensures.some in
    let two = subst (λ (ids : List ℕ). 2 ≤ length (parts_among ids parts)) (sym c.as_slice.ensures.value) chosen in
    let few = c.in_ok-merge.ensures.fewer in
    omega (arith, two, few)

pub returns-in_err-ids-clause-rested : goal.returns-in_err-ids-clause-rested
returns-in_err-ids-clause-rested g c = λ settled. (c.loop-ids.invariant.rested settled).1

pub returns-in_err-ids-clause-still : goal.returns-in_err-ids-clause-still
returns-in_err-ids-clause-still g c = λ settled. (c.loop-ids.invariant.rested settled).0

pub returns-in_err-merge-clause-rested : goal.returns-in_err-merge-clause-rested
returns-in_err-merge-clause-rested g c = λ settled.
    absurd (unsettled c.args.self.now c.loop-ids.self (c.loop-ids.invariant.rested settled).0 settled (rw c.in-Some.is at c.in_ok-ids.ensures.ten))

pub returns-in_err-merge-clause-still : goal.returns-in_err-merge-clause-still
returns-in_err-merge-clause-still g c = λ settled.
    absurd (unsettled c.args.self.now c.loop-ids.self (c.loop-ids.invariant.rested settled).0 settled (rw c.in-Some.is at c.in_ok-ids.ensures.ten))

pub returns-clause-rested : goal.returns-clause-rested
returns-clause-rested g c = λ settled. (c.loop-ids.invariant.rested settled).1

pub returns-clause-still : goal.returns-clause-still
returns-clause-still g c = λ settled. (c.loop-ids.invariant.rested settled).0

pub returns-in_err-ids-clause-buffer : goal.returns-in_err-ids-clause-buffer
returns-in_err-ids-clause-buffer g c = c.loop-ids.invariant.buffer

pub returns-in_err-ids-clause-cache : goal.returns-in_err-ids-clause-cache
returns-in_err-ids-clause-cache g c = c.loop-ids.invariant.cache

pub returns-in_err-ids-clause-moves : goal.returns-in_err-ids-clause-moves
returns-in_err-ids-clause-moves g c = c.loop-ids.invariant.moves c.next_merge.ensures.well

pub returns-clause-buffer : goal.returns-clause-buffer
returns-clause-buffer g c = c.loop-ids.invariant.buffer

pub returns-clause-cache : goal.returns-clause-cache
returns-clause-cache g c = c.loop-ids.invariant.cache

pub returns-clause-moves : goal.returns-clause-moves
returns-clause-moves g c = c.loop-ids.invariant.moves c.next_merge.ensures.well

pub returns-in_err-ids-clause-levels : goal.returns-in_err-ids-clause-levels
returns-in_err-ids-clause-levels g c = never_ok _ c.from_residual.result c.from_residual.ensures.1 _

pub returns-in_err-ids-clause-room : goal.returns-in_err-ids-clause-room
returns-in_err-ids-clause-room g c = never_ok _ c.from_residual.result c.from_residual.ensures.1 _

pub returns-in_err-ids-clause-cause : goal.returns-in_err-ids-clause-cause
returns-in_err-ids-clause-cause g c =
    memory_caused (g.F.Pages.faults c.args.folder.now) (g.F.Pages.faults c.loop-ids.folder) c.from_residual.result c.from_residual.ensures.1
    c.loop-ids.invariant.faults

pub returns-clause-cause : goal.returns-clause-cause
returns-clause-cause g c =
    done_cause (g.F.Pages.faults c.args.folder.now) (g.F.Pages.faults c.loop-ids.folder) _ c.loop-ids.invariant.faults

pub returns-in_err-merge-clause-moves : goal.returns-in_err-merge-clause-moves
returns-in_err-merge-clause-moves g c =
    rearranges_then g.row.D (IsTrue g.F.Pages.told) (g.F.Pages.files c.args.folder.now) (g.F.Pages.files c.loop-ids.folder)
    (g.F.Pages.files c.merge.new.folder) c.args.self.now c.loop-ids.self c.merge.new.self c.next_merge.ensures.well
    (c.loop-ids.invariant.moves c.next_merge.ensures.well) c.merge.ensures.moves

pub returns-in_err-merge-clause-buffer : goal.returns-in_err-merge-clause-buffer
returns-in_err-merge-clause-buffer g c = c.merge.ensures.buffer ∙ c.loop-ids.invariant.buffer

pub returns-in_err-merge-clause-cache : goal.returns-in_err-merge-clause-cache
returns-in_err-merge-clause-cache g c = c.merge.ensures.cache ∙ c.loop-ids.invariant.cache

pub returns-in_err-merge-clause-levels : goal.returns-in_err-merge-clause-levels
returns-in_err-merge-clause-levels g c =
    never_ok _ c.from_residual-in_err-merge.result c.from_residual-in_err-merge.ensures.1 _

pub returns-in_err-merge-clause-room : goal.returns-in_err-merge-clause-room
returns-in_err-merge-clause-room g c =
    never_ok _ c.from_residual-in_err-merge.result c.from_residual-in_err-merge.ensures.1 _

pub returns-in_err-merge-clause-cause : goal.returns-in_err-merge-clause-cause
returns-in_err-merge-clause-cause g c =
    cause_after (g.F.Pages.faults c.args.folder.now) (g.F.Pages.faults c.loop-ids.folder) (g.F.Pages.faults c.merge.new.folder)
    c.from_residual-in_err-merge.result c.loop-ids.invariant.faults (same_cause (g.F.Pages.faults c.loop-ids.folder) (g.F.Pages.faults c.merge.new.folder)
    c.in_err-merge.field-0.0 c.from_residual-in_err-merge.result c.from_residual-in_err-merge.ensures.1 c.in_err-merge.ensures.cause)

pub returns-in_err-ids-clause-faithful : goal.returns-in_err-ids-clause-faithful
returns-in_err-ids-clause-faithful g c = c.loop-ids.invariant.faithful

pub returns-in_err-ids-clause-damaged : goal.returns-in_err-ids-clause-damaged
returns-in_err-ids-clause-damaged g c =
    shows_none g.row.D (IsTrue g.F.Pages.told) (g.F.Pages.files c.args.folder.now) (g.F.Pages.files c.loop-ids.folder) c.args.self.now _
    _ (λ P. memory_damage P c.from_residual.result c.from_residual.ensures.1)

pub returns-in_err-merge-clause-faithful : goal.returns-in_err-merge-clause-faithful
returns-in_err-merge-clause-faithful g c = λ told faithful. c.merge.ensures.faithful told (c.loop-ids.invariant.faithful told faithful)

pub returns-in_err-merge-clause-damaged : goal.returns-in_err-merge-clause-damaged
returns-in_err-merge-clause-damaged g c = record {
  whole = λ told i seen.
      let e = err_from_is_err_and c.from_residual-in_err-merge.result c.from_residual-in_err-merge.ensures.1 in
      rw (e.1, e.2) (c.in_err-merge.ensures.damaged.whole told i ((c.loop-ids.invariant.moves c.next_merge.ensures.well).seen told i seen));
  shown =
      let e = err_from_is_err_and c.from_residual-in_err-merge.result c.from_residual-in_err-merge.ensures.1 in
      rw (e.1, e.2)
      (on_damage_weaker {T = Unit {0}} (Err c.in_err-merge.field-0.0)
      (IsMergeDamage g.row.D c.loop-ids.self.points_given c.loop-ids.self.names c.merge.new.self.names c.loop-ids.self.parts)
      (IsMergeDamage g.row.D c.args.self.now.points_given c.args.self.now.names c.merge.new.self.names c.args.self.now.parts)
      (damage_before g.row.D (IsTrue g.F.Pages.told) (g.F.Pages.files c.args.folder.now) (g.F.Pages.files c.loop-ids.folder) c.args.self.now c.loop-ids.self
      c.merge.new.self.names (c.loop-ids.invariant.moves c.next_merge.ensures.well) c.next_merge.ensures.well.named c.merge.ensures.moves.kept.more)
      c.in_err-merge.ensures.damaged.shown);
  damage = λ told agrees. same_damage (IsMergeDamageOf (g.F.Pages.files c.merge.new.folder) c.args.self.now.points_given) c.in_err-merge.field-0.0
      c.from_residual-in_err-merge.result c.from_residual-in_err-merge.ensures.1
      (subst (λ n. OnDamage {T = Unit {0}} (Err c.in_err-merge.field-0.0) (IsMergeDamageOf (g.F.Pages.files c.merge.new.folder) n))
      (c.loop-ids.invariant.moves c.next_merge.ensures.well).stays.points_given
      (c.in_err-merge.ensures.damaged.damage told (c.loop-ids.invariant.entries.agrees told agrees)));
  doubled = λ told agrees contents reads.
      let e = err_from_is_err_and c.from_residual-in_err-merge.result c.from_residual-in_err-merge.ensures.1 in
      let kept = c.loop-ids.invariant.entries in
      let now = kept.entries told agrees contents reads in
      rw (e.1, e.2)
      (on_damage_weaker {T = Unit {0}} (Err c.in_err-merge.field-0.0) (IsDoubt c.loop-ids.self.points_given (live_in_parts now.0 c.loop-ids.self.parts))
      (IsDoubt c.args.self.now.points_given (live_in_parts contents c.args.self.now.parts))
      (λ d h. doubt_same c.args.self.now.points_given (live_in_parts contents c.args.self.now.parts) (live_in_parts now.0 c.loop-ids.self.parts) now.2 d
      (subst (λ n. IsDoubt n (live_in_parts now.0 c.loop-ids.self.parts) d) (c.loop-ids.invariant.moves c.next_merge.ensures.well).stays.points_given h))
      (c.in_err-merge.ensures.damaged.doubled told (kept.agrees told agrees) now.0 now.1));
  evident = same_damage
      (IsEvidentIn g.row.D (g.F.Pages.files c.args.folder.now) c.args.self.now.parts (length c.args.self.now.buffer) c.args.self.now.points_given
      (IsTrusted g.F.Pages.told g.row.D (g.F.Pages.files c.args.folder.now) c.args.self.now) (g.F.Pages.files c.merge.new.folder))
      c.in_err-merge.field-0.0 c.from_residual-in_err-merge.result c.from_residual-in_err-merge.ensures.1
      (on_evident_before {X = Unit {0}} g.row.D g.F.Pages.told (g.F.Pages.files c.args.folder.now) (g.F.Pages.files c.loop-ids.folder)
      (g.F.Pages.files c.merge.new.folder) c.args.self.now c.loop-ids.self c.merge.new.self (Err c.in_err-merge.field-0.0) c.next_merge.ensures.well.named
      (c.loop-ids.invariant.moves c.next_merge.ensures.well) c.loop-ids.invariant.counts c.merge.ensures.moves.kept c.loop-ids.invariant.faithful
      c.in_err-merge.ensures.damaged.evident);
}

pub returns-clause-faithful : goal.returns-clause-faithful
returns-clause-faithful g c = c.loop-ids.invariant.faithful

pub returns-clause-damaged : goal.returns-clause-damaged
returns-clause-damaged g c =
    shows_none g.row.D (IsTrue g.F.Pages.told) (g.F.Pages.files c.args.folder.now) (g.F.Pages.files c.loop-ids.folder) c.args.self.now _ _ (λ P. tt)

pub returns-in_err-ids-clause-settled : goal.returns-in_err-ids-clause-settled
returns-in_err-ids-clause-settled g c = never_ok _ c.from_residual.result c.from_residual.ensures.1 _

pub returns-in_err-ids-clause-left : goal.returns-in_err-ids-clause-left
returns-in_err-ids-clause-left g c = at_error _ c.from_residual.result c.from_residual.ensures.1 _
    ((moment (g.F.Pages.files c.loop-ids.folder) c.loop-ids.self), c.loop-ids.invariant.settles, before_itself c.loop-ids.self)

pub returns-in_err-merge-clause-settled : goal.returns-in_err-merge-clause-settled
returns-in_err-merge-clause-settled g c = never_ok _ c.from_residual-in_err-merge.result c.from_residual-in_err-merge.ensures.1 _

pub returns-in_err-merge-clause-left : goal.returns-in_err-merge-clause-left
returns-in_err-merge-clause-left g c = at_error _ c.from_residual-in_err-merge.result c.from_residual-in_err-merge.ensures.1 _
    ((moment (g.F.Pages.files c.loop-ids.folder) c.loop-ids.self), c.loop-ids.invariant.settles, c.in_err-merge.ensures.refused)

pub returns-clause-settled : goal.returns-clause-settled
returns-clause-settled g c = c.loop-ids.invariant.settles

pub returns-clause-left : goal.returns-clause-left
returns-clause-left g c = tt
