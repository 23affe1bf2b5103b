-- Where the entries that are gone are dropped, those that wait stay.
use Rattle.std.proofs.Common.{ap, ◌∙◌}
use Rattle.point_codec.specs.Seen.{items_of}
use Rattle.segment_set.specs.Waiting.{BufferData, waiting}
use Rattle.segment_set.proofs.Held.{held_dropped, waiting_twice}
use Rattle.segment_set.proofs.buffer.Buffer.settle.Goals as goal

pub invariant_of-self : goal.invariant_of-self
invariant_of-self g c =
    held_dropped c.self.inside.next c.self.inside.live (items_of c.self.inside.entries.items) (items_of c.drop_gone.new.entries.items) c.drop_gone.ensures
    c.self.invariant

pub returns-then-self-len-clause-items : goal.returns-then-self-len-clause-items
returns-then-self-len-clause-items g c =
    ap waiting c.drop_gone.ensures ∙ waiting_twice (items_of c.self.inside.entries.items) ∙ ap (λ (b : BufferData). b.items) c.self.view_is
