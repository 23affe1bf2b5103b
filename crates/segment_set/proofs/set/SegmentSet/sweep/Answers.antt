use Rattle.std.proofs.Common.{◌∙◌, ◌<◌, ◌≤◌, length, take, refl, ap, arith}
use Rattle.std.specs.Prelude.{IsTrue}
use Rattle.std.proofs.lemmas.List.Elements.{All-nil}
use Rattle.segment_set.specs.Sets.{SetData}
use Rattle.segment_set.specs.Kept.{IsNeeded}
use Rattle.segment_set.proofs.Sizes.{set_fits}
use Rattle.segment_set.proofs.Sweeping.{all_needed, front_before, front_still, gone_all, swept_none, swept_then}
use Rattle.segment_set.proofs.set.SegmentSet.sweep.Goals as goal

pub names-init : goal.names-init
names-init g c = record {
  seen = λ told i seen. seen;
  faithful = λ told keeps. keeps;
  swept = swept_none (IsTrue g.F.Pages.told) c.args.c.now c.args.self.now (g.F.Pages.files c.args.folder.now);
  front = All-nil (IsNeeded c.args.self.now c.args.c.now);
  reads = refl;
  faults = refl;
}

pub names-preserved : goal.names-preserved
names-preserved g c =
    let was = c.names.invariant in
    let one = c.in_ok-place.ensures in
    record {
      seen = λ told i seen. one.seen told i (was.seen told i seen);
      faithful = λ told keeps. one.faithful told (was.faithful told keeps);
      swept = swept_then (IsTrue g.F.Pages.told) c.args.c.now c.args.self.now c.names.self c.sweep_at.new.self (g.F.Pages.files c.args.folder.now)
          (g.F.Pages.files c.names.folder) (g.F.Pages.files c.sweep_at.new.folder) was.swept one.swept;
      front =
          front_before c.args.self.now c.names.self c.args.c.now (take c.in_ok-place.place c.sweep_at.new.self.names.names) was.swept.rest
          (one.front (front_still c.args.self.now c.names.self c.args.c.now (take c.names.place c.names.self.names.names) was.swept.rest was.front));
      reads = one.unread ∙ was.reads;
      faults = one.cause.on_ok ∙ was.faults;
    }

pub sweep_at-requires : goal.sweep_at-requires
sweep_at-requires g c =
    let place : c.names.place < length c.names.self.names.names =
    omega (arith, c.names-test.true, ap length (c.as_slice.ensures ∙ ap (λ (u : SetData). u.names.names) c.self.view_is)) in
    (set_fits g.row.D c.self.invariant.few_dims, place)

pub returns-in_err-place-clause-seen : goal.returns-in_err-place-clause-seen
returns-in_err-place-clause-seen g c = λ told i seen. c.in_err-place.ensures.seen told i (c.names.invariant.seen told i seen)

pub returns-clause-faithful : goal.returns-clause-faithful
returns-clause-faithful g c = λ told keeps. c.names.invariant.faithful told keeps

pub returns-in_err-place-clause-faithful : goal.returns-in_err-place-clause-faithful
returns-in_err-place-clause-faithful g c = λ told keeps. c.in_err-place.ensures.faithful told (c.names.invariant.faithful told keeps)

pub returns-clause-only : goal.returns-clause-only
returns-clause-only g c = λ m there.
    let le : length c.names.self.names.names ≤ c.names.place =
    omega (arith, c.names-test.false, ap length (c.as_slice.ensures ∙ ap (λ (u : SetData). u.names.names) c.self.view_is)) in
    all_needed c.args.self.now c.args.c.now c.names.self.names.names c.names.place le c.names.invariant.front m there

pub returns-clause-gone : goal.returns-clause-gone
returns-clause-gone g c = λ told m there not_so.
    let le : length c.names.self.names.names ≤ c.names.place =
    omega (arith, c.names-test.false, ap length (c.as_slice.ensures ∙ ap (λ (u : SetData). u.names.names) c.self.view_is)) in
    gone_all (IsTrue g.F.Pages.told) c.args.self.now c.names.self (g.F.Pages.files c.args.folder.now) (g.F.Pages.files c.names.folder) c.args.c.now
    c.names.invariant.swept told
    (all_needed c.args.self.now c.args.c.now c.names.self.names.names c.names.place le c.names.invariant.front) m there not_so

pub returns-clause-swept : goal.returns-clause-swept
returns-clause-swept g c = c.names.invariant.swept

pub returns-in_err-place-clause-swept : goal.returns-in_err-place-clause-swept
returns-in_err-place-clause-swept g c =
    swept_then (IsTrue g.F.Pages.told) c.args.c.now c.args.self.now c.names.self c.sweep_at.new.self (g.F.Pages.files c.args.folder.now)
    (g.F.Pages.files c.names.folder) (g.F.Pages.files c.sweep_at.new.folder)
    c.names.invariant.swept c.in_err-place.ensures.swept
