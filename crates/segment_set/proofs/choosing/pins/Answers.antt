use Rattle.std.proofs.Common.{◌≡◌, ◌∙◌, Bool, List, [], ◌∷◌, ◌++◌, eqb, map, take, ap, sym}
use Rattle.std.specs.List.{list_any}
use Rattle.documents.specs.Entries.{is_among}
use Rattle.segment_file.specs.Heads.{Head}
use Rattle.segment_set.proofs.Places.{heads_more}
use Rattle.segment_set.proofs.choosing.pins.Goals as goal

pub loop-head-preserved : goal.loop-head-preserved
loop-head-preserved g c =
    let heads = c.heads-head-items.result.now in
    let head = c.head-item.result in
    let f : Head → Bool = λ h. is_among c.args.inputs.now h.id in
    let pin : c.contains.result ≡ f head = c.contains.ensures.value ∙ ap (λ n. list_any (λ m. eqb m n) c.args.inputs.now) c.id.ensures in
    c.in_ok-push.ensures.items
    ∙ ap (λ (xs : List Bool). xs ++ c.contains.result ∷ []) c.loop-head.invariant
    ∙ ap (λ (b : Bool). map f (take c.loop-head.head-index heads) ++ b ∷ []) pin
    ∙ sym (heads_more f heads c.loop-head.head-index head c.loop-head-test.true c.head-item.is)
