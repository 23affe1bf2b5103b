use Rattle.std.proofs.Common.{◌≡◌, ◌≤◌, ◌<◌, ℕ, List, get_or, length, lit<, map, subst, sym, arith}
use Rattle.std.specs.Prelude.{IfOk, IfNone, IfSome}
use Rattle.merge_policy.specs.Choice.{IsChoice, free_count}
use Rattle.segment_view.specs.LiveSegments.{ids_of, parts_among}
use Rattle.segment_set.specs.Sets.{IsWell, SetData, inputs_of, pins_of, sizes_of}
use Rattle.segment_set.specs.Merged.{IsApart}
use Rattle.segment_set.proofs.Leveled.{pinned}
use Rattle.segment_set.proofs.set.SegmentSet.next_merge.Goals as goal

pub returns-clause-none : goal.returns-clause-none
returns-clause-none g c =
    let parts = c.self.inside.segments in
    subst (λ (s : SetData). IfOk c.chosen.result (λ o. IfNone o ((level : ℕ) → free_count level (sizes_of s.parts) (pins_of s.begun s.parts) < 10)))
    c.self.view_is
    (subst (λ (ids : List ℕ). IfOk c.chosen.result (λ o. IfNone o ((level : ℕ) → free_count level (sizes_of parts) (pinned ids parts) < 10)))
    c.inputs_of.ensures c.chosen.ensures.none)

pub returns-clause-apart : goal.returns-clause-apart
returns-clause-apart g c =
    subst (λ (s : SetData). IfOk c.chosen.result (λ o. IfSome o (λ ids. IsApart ids.items (inputs_of s.begun) s.parts))) c.self.view_is
    (subst (λ (inputs : List ℕ). IfOk c.chosen.result (λ o. IfSome o (λ ids. IsApart ids.items inputs c.self.inside.segments))) c.inputs_of.ensures
    c.chosen.ensures.apart)

pub returns-clause-some : goal.returns-clause-some
returns-clause-some g c =
    subst (λ (s : SetData). IfOk c.chosen.result (λ o. IfSome o (λ ids. 2 ≤ length (parts_among ids.items s.parts)))) c.self.view_is c.chosen.ensures.some

pub returns-clause-ten : goal.returns-clause-ten
returns-clause-ten g c =
    let parts = c.self.inside.segments in
    subst (λ (s : SetData). IfOk c.chosen.result (λ o. IfSome o (λ ids. (level : ℕ) × (10 ≤ free_count level (sizes_of s.parts) (pins_of s.begun s.parts)))))
    c.self.view_is
    (subst (λ (ids : List ℕ). IfOk c.chosen.result (λ o. IfSome o (λ _. (level : ℕ) × (10 ≤ free_count level (sizes_of parts) (pinned ids parts)))))
    c.inputs_of.ensures c.chosen.ensures.ten)

pub returns-clause-room : goal.returns-clause-room
returns-clause-room g c =
    subst (λ (s : SetData). IfOk c.chosen.result (λ o. IfNone o (length s.parts < 200))) c.self.view_is
    (c.chosen.ensures.room (subst (λ (ids : List ℕ). length ids ≤ 64) (sym c.inputs_of.ensures) c.self.invariant.few_inputs))

pub returns-clause-well : goal.returns-clause-well
returns-clause-well g c = subst (IsWell g.row.D) c.self.view_is c.self.invariant

pub returns-clause-choice : goal.returns-clause-choice
returns-clause-choice g c =
    let parts = c.self.inside.segments in
    subst (λ (s : SetData). IfOk c.chosen.result
    (λ o. IfSome o
    (λ ids. (positions : List ℕ) × IsChoice (sizes_of s.parts) (pins_of s.begun s.parts) positions
    × (ids.items ≡ map (λ i. get_or (ids_of s.parts) i 0) positions)))) c.self.view_is
    (subst (λ (ids : List ℕ).
    IfOk c.chosen.result
    (λ o. IfSome o
    (λ v. (positions : List ℕ) × IsChoice (sizes_of parts) (pinned ids parts) positions × (v.items ≡ map (λ i. get_or (ids_of parts) i 0) positions))))
    c.inputs_of.ensures c.chosen.ensures.choice)

pub chosen-requires : goal.chosen-requires
chosen-requires g c = (lit< tt, (c.self.invariant.few_dims, omega (arith, c.self.invariant.few)))
