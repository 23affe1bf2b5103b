-- The entries of the number are marked, and go where more are gone than wait.
use Rattle.std.proofs.Common.{◌-◌, length, ap, ◌∙◌, arith}
use Rattle.point_codec.specs.Seen.{items_of}
use Rattle.documents.specs.Entries.{entries_but, has_entry}
use Rattle.segment_set.specs.Waiting.{BufferData, came_as, waiting}
use Rattle.segment_set.proofs.Buffered.{ordered_items, some_out}
use Rattle.segment_set.proofs.Held.{held_dropped, held_out, left_out, waiting_twice}
use Rattle.segment_set.proofs.buffer.Buffer.take.Goals as goal
use Rattle.segment_set.proofs.buffer.Buffer.take.Goals.{then-self-len, else-self-len}
use Rattle.point_codec.proofs.Sizes.{entry_fits}

pub mark_gone-count-requires : goal.mark_gone-count-requires
mark_gone-count-requires g c =
    (entry_fits g.row.D c.requires.dims, (c.requires.dims, ordered_items came_as c.self.inside.entries.items c.self.invariant.ordered))

pub invariant_of-self : goal.invariant_of-self
invariant_of-self g c =
    held_dropped c.self.inside.next (c.self.inside.live - c.mark_gone-count.result) (items_of c.mark_gone-count.new.entries.items)
    (items_of c.drop_gone.new.entries.items) c.drop_gone.ensures
    (held_out c.args.number c.self.inside.next c.self.inside.live (c.self.inside.live - c.mark_gone-count.result) c.mark_gone-count.result
    (items_of c.self.inside.entries.items) (items_of c.mark_gone-count.new.entries.items) c.mark_gone-count.ensures.marked c.mark_gone-count.ensures.count
    (omega (arith, c.mark_gone-count.ensures.count, c.self.invariant.counted)) c.self.invariant)

pub invariant_of-self-else-self-len : goal.invariant_of-self-else-self-len
invariant_of-self-else-self-len g c =
    held_out c.args.number c.self.inside.next c.self.inside.live (c.self.inside.live - c.mark_gone-count.result) c.mark_gone-count.result
    (items_of c.self.inside.entries.items) (items_of c.mark_gone-count.new.entries.items) c.mark_gone-count.ensures.marked c.mark_gone-count.ensures.count
    (omega (arith, c.mark_gone-count.ensures.count, c.self.invariant.counted)) c.self.invariant

pub returns-clause-answer : goal.returns-clause-answer
returns-clause-answer g c =
    let left = left_out c.args.number (items_of c.self.inside.entries.items) (items_of c.mark_gone-count.new.entries.items) c.mark_gone-count.ensures.marked in
    some_out c.args.number (waiting (items_of c.self.inside.entries.items)) c.mark_gone-count.result
    (omega (arith, c.mark_gone-count.ensures.count, ap length left))
    ∙ ap (λ (b : BufferData). has_entry c.args.number b.items) c.self.view_is

pub returns-clause-rest : goal.returns-clause-rest
returns-clause-rest g c =
    let left = left_out c.args.number (items_of c.self.inside.entries.items) (items_of c.mark_gone-count.new.entries.items) c.mark_gone-count.ensures.marked
    ∙ ap (λ (b : BufferData). entries_but c.args.number b.items) c.self.view_is in
    elim c.if-self-len.branch [
      | then-self-len w ↦ ap (λ (b : BufferData). b.items) w.self-is ∙ ap waiting w.drop_gone.ensures
          ∙ waiting_twice (items_of c.mark_gone-count.new.entries.items) ∙ left
      | else-self-len w ↦ ap (λ (b : BufferData). b.items) w.self-is ∙ left
    ]
