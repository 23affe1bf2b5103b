-- A document more stands at the end.
use Rattle.std.proofs.Common.{◌≡◌, ◌+◌, ◌++◌, true, length, sym, ap, subst, ◌∙◌, arith}
use Rattle.std.proofs.lemmas.Bool.{lt-ltb}
use Rattle.std.proofs.lemmas.List.{length-map}
use Rattle.point_codec.specs.Seen.{items_of}
use Rattle.documents.specs.Entries.{entries_of}
use Rattle.segment_set.specs.Waiting.{BufferData, IsHeld, waiting, waits}
use Rattle.segment_set.proofs.Held.{held_with, waiting_with}
use Rattle.segment_set.proofs.buffer.Buffer.put.Goals as goal

pub invariant_of-self-2 : goal.invariant_of-self-2
invariant_of-self-2 g c =
    let wait : waits c.self.inside.next ≡ true =
    lt-ltb c.self.inside.next 2147483648 (omega (arith, c.requires.numbered, ap (λ (b : BufferData). b.next) c.self.view_is)) in
    let many : length c.as_slice.result.now ≡ length c.args.points.now = sym (length-map c.as_slice.result.now _) ∙ ap length c.as_slice.ensures.value in
    subst (λ n. IsHeld (c.self.inside.next + 1) (c.self.inside.live + n) (items_of c.push_document.new.entries.items)) (sym many)
    (subst (IsHeld (c.self.inside.next + 1) (c.self.inside.live + length c.args.points.now)) (sym c.in_ok-push_document.ensures.put)
    (held_with c.self.inside.next c.self.inside.live (items_of c.self.inside.entries.items) c.args.points.now wait c.self.invariant))

pub returns-clause-items : goal.returns-clause-items
returns-clause-items g c =
    let wait : waits c.self.inside.next ≡ true =
    lt-ltb c.self.inside.next 2147483648 (omega (arith, c.requires.numbered, ap (λ (b : BufferData). b.next) c.self.view_is)) in
    ap waiting c.in_ok-push_document.ensures.put
    ∙ waiting_with c.self.inside.next (items_of c.self.inside.entries.items) c.args.points.now wait
    ∙ ap (λ (b : BufferData). b.items ++ entries_of (record { number = b.next; points = c.args.points.now })) c.self.view_is
