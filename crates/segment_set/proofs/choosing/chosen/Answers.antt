use Rattle.std.proofs.Common.{◌≡◌, ◌<◌, ◌∙◌, ℕ, Bool, List, get_or, length, map, ap, subst, arith}
use Rattle.std.specs.List.{count_by}
use Rattle.std.proofs.lemmas.List.{length-map}
use Rattle.documents.specs.Entries.{is_among}
use Rattle.merge_policy.specs.Choice.{IsChoice, free_count}
use Rattle.segment_view.specs.LiveSegments.{LiveSegment, ids_of}
use Rattle.segment_set.proofs.Chosen.{chosen_apart, chosen_ten, chosen_two}
use Rattle.segment_set.proofs.Leveled.{few_segments, pinned}
use Rattle.segment_set.proofs.Places.{map_heads}
use Rattle.segment_set.proofs.choosing.chosen.Goals as goal

pub returns-in_default-clause-none : goal.returns-in_default-clause-none
returns-in_default-clause-none g c = λ level.
    let inputs = c.args.inputs.now in
    let parts = c.args.segments.now in
    subst (λ (ss : List ℕ). free_count level ss (pinned inputs parts) < 10) (c.as_slice.ensures.value ∙ c.in_ok-sizes.ensures)
    (subst (λ (bs : List Bool). free_count level c.as_slice.result.now bs < 10)
    (c.as_slice-2.ensures.value ∙ c.in_ok-pins.ensures.pins ∙ map_heads (is_among c.args.inputs.now) c.args.segments.now) (c.in_default.ensures.none level))

pub returns-in_default-clause-room : goal.returns-in_default-clause-room
returns-in_default-clause-room g c = λ few.
    let parts = c.args.segments.now in
    let long : length c.as_slice.result.now ≡ length parts =
    ap length (c.as_slice.ensures.value ∙ c.in_ok-sizes.ensures) ∙ length-map parts (λ (p : LiveSegment). p.head.entries) in
    let pins : count_by (λ (pin : Bool). pin) c.as_slice-2.result.now ≡ count_by (λ (pin : Bool). pin) (pinned c.args.inputs.now parts) =
    ap (count_by (λ (pin : Bool). pin)) (c.as_slice-2.ensures.value ∙ c.in_ok-pins.ensures.pins ∙ map_heads (is_among c.args.inputs.now) c.args.segments.now) in
    few_segments c.args.inputs.now parts c.in_ok-pins.ensures.ascend few (let left = c.in_default.ensures.left in omega (arith, left, long, pins))

pub returns-clause-apart : goal.returns-clause-apart
returns-clause-apart g c =
    chosen_apart c.args.inputs.now c.args.segments.now c.as_slice.result.now c.as_slice-2.result.now c.in-Some.positions.items c.in_ok-ids_at.field-0.items
    (c.as_slice.ensures.value ∙ c.in_ok-sizes.ensures)
    (c.as_slice-2.ensures.value ∙ c.in_ok-pins.ensures.pins ∙ map_heads (is_among c.args.inputs.now) c.args.segments.now)
    c.in-Some.ensures.choice
    (c.in_ok-ids_at.ensures ∙ ap (map (λ i. get_or (ids_of c.args.segments.now) i 0)) c.as_slice-3.ensures.value)

pub returns-clause-some : goal.returns-clause-some
returns-clause-some g c =
    chosen_two c.args.inputs.now c.args.segments.now c.as_slice.result.now c.as_slice-2.result.now c.in-Some.positions.items c.in_ok-ids_at.field-0.items
    (c.as_slice.ensures.value ∙ c.in_ok-sizes.ensures)
    (c.as_slice-2.ensures.value ∙ c.in_ok-pins.ensures.pins ∙ map_heads (is_among c.args.inputs.now) c.args.segments.now)
    c.in-Some.ensures.choice
    (c.in_ok-ids_at.ensures ∙ ap (map (λ i. get_or (ids_of c.args.segments.now) i 0)) c.as_slice-3.ensures.value)

pub returns-clause-ten : goal.returns-clause-ten
returns-clause-ten g c =
    chosen_ten c.args.inputs.now c.args.segments.now c.as_slice.result.now c.as_slice-2.result.now c.in-Some.positions.items c.in_ok-ids_at.field-0.items
    (c.as_slice.ensures.value ∙ c.in_ok-sizes.ensures)
    (c.as_slice-2.ensures.value ∙ c.in_ok-pins.ensures.pins ∙ map_heads (is_among c.args.inputs.now) c.args.segments.now)
    c.in-Some.ensures.choice
    (c.in_ok-ids_at.ensures ∙ ap (map (λ i. get_or (ids_of c.args.segments.now) i 0)) c.as_slice-3.ensures.value)

pub returns-clause-choice : goal.returns-clause-choice
returns-clause-choice g c =
    let parts = c.args.segments.now in (
      c.in-Some.positions.items,
      subst (λ (ss : List ℕ). IsChoice ss (pinned c.args.inputs.now parts) c.in-Some.positions.items) (c.as_slice.ensures.value ∙ c.in_ok-sizes.ensures)
          (subst (λ (bs : List Bool). IsChoice c.as_slice.result.now bs c.in-Some.positions.items)
          (c.as_slice-2.ensures.value ∙ c.in_ok-pins.ensures.pins ∙ map_heads (is_among c.args.inputs.now) parts) c.in-Some.ensures.choice),
      c.in_ok-ids_at.ensures ∙ ap (map (λ i. get_or (ids_of parts) i 0)) c.as_slice-3.ensures.value,
    )
