use Rattle.std.proofs.Common.{◌≡◌, ◌∙◌, ℕ, Bool, List, [], ◌∷◌, ◌++◌, cond, eqb, not, map, take, ap, sym, Vec, Global}
use Rattle.std.specs.List.{filter, list_any}
use Rattle.std.proofs.lemmas.List.{append-nil, take_all}
use Rattle.documents.specs.Entries.{is_among}
use Rattle.segment_file.specs.Heads.{Head}
use Rattle.segment_set.proofs.Places.{kept_more, map_heads}
use Rattle.segment_set.proofs.choosing.unpinned.Goals.{else-not-contains, then-not-contains+in_ok-push}
use Rattle.segment_set.proofs.choosing.unpinned.Goals as goal

abbrev keep : (inputs : List ℕ) → ℕ → Bool
keep inputs id = not (is_among inputs id)

pub loop-head-preserved : goal.loop-head-preserved
loop-head-preserved g c =
    let heads = c.heads-head-items.result.now in
    let head = c.head-item.result in
    let inputs = c.args.inputs.now in
    let front = filter (keep inputs) (map (λ (h : Head). h.id) (take c.loop-head.head-index heads)) in
    let more = kept_more (keep inputs) heads c.loop-head.head-index head c.loop-head-test.true c.head-item.is in
    let among : c.contains.result ≡ is_among inputs head.id = c.contains.ensures.value ∙ ap (λ n. list_any (λ m. eqb m n) inputs) c.id.ensures in
    elim c.if-not-contains.branch [
      | then-not-contains+in_ok-push w ↦
          ap (λ (v : Vec ℕ Global). v.items) w.ids-is
          ∙ w.in_ok-push.ensures.items
          ∙ ap (λ (ns : List ℕ). ns ++ w.id-then-not-contains.result ∷ []) c.loop-head.invariant
          ∙ ap (λ (n : ℕ). front ++ n ∷ []) w.id-then-not-contains.ensures
          ∙ ap (λ (b : Bool). front ++ cond (not b) (head.id ∷ []) []) (sym (sym among ∙ w.if-not-contains.true))
          ∙ sym more
      | else-not-contains w ↦
          ap (λ (v : Vec ℕ Global). v.items) w.ids-is
          ∙ c.loop-head.invariant
          ∙ sym (append-nil front)
          ∙ ap (λ (b : Bool). front ++ cond (not b) (head.id ∷ []) []) (sym (sym among ∙ w.if-not-contains.false))
          ∙ sym more
    ]

pub returns : goal.returns
returns g c =
    let heads = c.heads-head-items.result.now in
    let inputs = c.args.inputs.now in
    let all : take c.loop-head.head-index heads ≡ heads = take_all c.loop-head.head-index heads c.loop-head-test.false in
    c.loop-head.invariant
    ∙ ap (λ (hs : List Head). filter (keep inputs) (map (λ (h : Head). h.id) hs)) (all ∙ c.heads-head-items.ensures.value)
    ∙ ap (filter (keep inputs)) (map_heads (λ n. n) c.args.segments.now)
