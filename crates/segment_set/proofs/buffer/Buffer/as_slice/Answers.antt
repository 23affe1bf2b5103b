-- Where none is gone, all entries wait.
use Rattle.std.proofs.Common.{sym, ap, ◌∙◌, arith}
use Rattle.std.proofs.lemmas.List.{length-map}
use Rattle.point_codec.specs.Points.{Item}
use Rattle.point_codec.specs.Seen.{items_of}
use Rattle.leaf_codec.specs.LeafOrder.{item_of}
use Rattle.segment_set.specs.Waiting.{BufferData, waits}
use Rattle.segment_set.proofs.Buffered.{filter_whole}
use Rattle.segment_set.proofs.buffer.Buffer.as_slice.Goals as goal

pub returns : goal.returns
returns g c =
    let none = ap (λ (b : BufferData). b.gone) c.self.view_is ∙ c.requires.settled in
    let long = length-map c.self.inside.entries.items item_of in
    ap items_of c.as_slice.ensures.value
    ∙ sym (filter_whole (λ (x : Item). waits x.doc) (items_of c.self.inside.entries.items) (omega (arith, none, long, c.self.invariant.counted)))
    ∙ ap (λ (b : BufferData). b.items) c.self.view_is
