-- The set afterwards is the one before with a document more.
use Rattle.std.proofs.Common.{◌≡◌, ◌+◌, ◌≤◌, ◌^◌, length, lit<, refl, sym, ap, subst, ◌∙◌, arith}
use Rattle.std.proofs.lemmas.List.{length-map}
use Rattle.segment_set.specs.Sets.{IsWell, SetData}
use Rattle.segment_set.proofs.Changed.{set_with_is}
use Rattle.segment_set.proofs.DocumentEntries.{well_with}
use Rattle.segment_set.proofs.Held.{few_numbers}
use Rattle.segment_set.proofs.Pushed.{pushed, unpushed, well_unpushed}
use Rattle.segment_set.proofs.Refused.{at_error, never_ok, never_value}
use Rattle.segment_set.proofs.set.SegmentSet.push.Goals as goal

pub put-requires : goal.put-requires
put-requires g c = (
  lit< tt,
  (
    lit< tt,
    (
      c.self.invariant.few_dims,
      (
        subst (λ (t : SetData). length t.buffer + length c.args.points.now ≤ 16384) (sym c.self.view_is) c.requires.room,
        few_numbers c.self.inside.buffer.next c.self.inside.points_given c.self.invariant.numbered c.self.invariant.most_given,
      ),
    ),
  ),
)

pub invariant_of-self-2 : goal.invariant_of-self-2
invariant_of-self-2 g c =
    let s : SetData = record {
      leaf_size = c.self.inside.leaf_size;
      next = c.self.inside.buffer.next;
      points_given = c.self.inside.points_given;
      names = c.self.inside.names;
      parts = c.self.inside.segments;
      buffer = c.self.inside.buffer.items;
      snapshots = c.self.inside.snapshots.items;
      begun = c.self.inside.begun;
      cache = c.self.inside.cache;
      saved = c.self.inside.saved;
    } in
    let many : length c.as_slice.result.now ≡ length c.args.points.now = sym (length-map c.as_slice.result.now _) ∙ ap length c.as_slice.ensures.value in
    subst (IsWell g.row.D)
    (sym (set_with_is c.args.points.now s c.put.new.self.next (s.points_given + length c.as_slice.result.now) c.put.new.self.items c.in_ok-number.ensures.next
    (ap (λ n. s.points_given + n) many) c.in_ok-number.ensures.items))
    (well_with g.row.D s c.args.points.now c.as_slice.ensures.points
    (subst (λ (t : SetData). length t.buffer + length c.args.points.now ≤ 16384) (sym c.self.view_is) c.requires.room)
    (subst (λ (t : SetData). t.points_given + length c.args.points.now ≤ 2 ^ 24) (sym c.self.view_is) c.requires.points_given) c.self.invariant)

pub overflow_cast-count : goal.overflow_cast-count
overflow_cast-count g c =
    let many : length c.as_slice.result.now ≡ length c.args.points.now = sym (length-map c.as_slice.result.now _) ∙ ap length c.as_slice.ensures.value in
    omega (arith, many, c.requires.room)

pub overflow_add-self : goal.overflow_add-self
overflow_add-self g c =
    let many : length c.as_slice.result.now ≡ length c.args.points.now = sym (length-map c.as_slice.result.now _) ∙ ap length c.as_slice.ensures.value in
    omega (arith, many, ap (λ (s : SetData). s.points_given) c.self.view_is, c.requires.points_given)

pub invariant_of-self : goal.invariant_of-self
invariant_of-self g c = well_unpushed g.row.D _ c.self.inside.buffer c.put.new.self c.self.invariant c.in_err-number.ensures.refused refl refl

pub returns-in_err-number-clause-put : goal.returns-in_err-number-clause-put
returns-in_err-number-clause-put g c = never_ok _ c.from_residual.result c.from_residual.ensures.1 _

pub returns-in_err-number-clause-number : goal.returns-in_err-number-clause-number
returns-in_err-number-clause-number g c = never_value _ c.from_residual.result c.from_residual.ensures.1 _

pub returns-in_err-number-clause-refused : goal.returns-in_err-number-clause-refused
returns-in_err-number-clause-refused g c =
    at_error _ c.from_residual.result c.from_residual.ensures.1 _
    (unpushed _ c.args.self.now c.self.inside.buffer c.put.new.self c.self.view_is c.in_err-number.ensures.refused refl refl)

pub returns-in_err-number-clause-points : goal.returns-in_err-number-clause-points
returns-in_err-number-clause-points g c = c.as_slice.ensures.points

pub returns-clause-put : goal.returns-clause-put
returns-clause-put g c =
    let many : length c.as_slice.result.now ≡ length c.args.points.now = sym (length-map c.as_slice.result.now _) ∙ ap length c.as_slice.ensures.value in
    pushed c.args.points.now _ c.args.self.now c.put.new.self.next (length c.as_slice.result.now) c.put.new.self.items c.self.view_is
    c.in_ok-number.ensures.next many c.in_ok-number.ensures.items

pub returns-clause-number : goal.returns-clause-number
returns-clause-number g c = c.in_ok-number.ensures.number ∙ ap (λ (s : SetData). s.next) c.self.view_is

pub returns-clause-refused : goal.returns-clause-refused
returns-clause-refused g c = tt

pub returns-clause-points : goal.returns-clause-points
returns-clause-points g c = c.as_slice.ensures.points
