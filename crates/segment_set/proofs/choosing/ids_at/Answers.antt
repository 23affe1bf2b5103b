use Rattle.std.proofs.Common.{◌≡◌, ◌<◌, ◌∙◌, ℕ, List, [], ◌∷◌, ◌++◌, get_or, length, map, take, ap, sym}
use Rattle.std.proofs.lemmas.List.{map-append, take_more}
use Rattle.segment_file.specs.Heads.{Head}
use Rattle.segment_view.specs.LiveSegments.{ids_of}
use Rattle.segment_set.proofs.Places.{id_at}
use Rattle.segment_set.proofs.choosing.ids_at.Goals as goal

pub loop-position-preserved : goal.loop-position-preserved
loop-position-preserved g c =
    let parts = c.args.segments.now in
    let positions = c.args.positions.now in
    let i = c.loop-position.position-index in
    let n = get_or positions i 0 in
    let at : ℕ → ℕ = λ k. get_or (ids_of parts) k 0 in
    let head = c.index-heads-position.result in
    let within : n < length parts = c.requires.within i 0 c.loop-position-test.true in
    let id : c.id.result ≡ at n =
    c.id.ensures ∙ ap (λ (h : Head). h.id) (c.index-heads-position.is ∙ ap (λ (hs : List Head). get_or hs n head) c.heads-heads.ensures.value)
    ∙ id_at parts n head within in
    c.in_ok-push.ensures.items
    ∙ ap (λ (ns : List ℕ). ns ++ c.id.result ∷ []) c.loop-position.invariant
    ∙ ap (λ (m : ℕ). map at (take i positions) ++ m ∷ []) id
    ∙ sym (ap (map at) (take_more positions i 0 c.loop-position-test.true) ∙ map-append at (take i positions) (n ∷ []))
