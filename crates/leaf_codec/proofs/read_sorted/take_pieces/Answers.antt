use Rattle.std.proofs.Common.{◌≡◌, ◌*◌, ◌++◌, ◌∷◌, ℕ, List, length, take, sym, ap, ◌∙◌, arith, take-append-drop, length-take, true≢false}
use Rattle.std.specs.List.{flat_map}
use Rattle.leaf_codec.specs.Spelling.{pieces, piece_bytes}
use Rattle.leaf_codec.specs.Words.{pairs_expanded}
use Rattle.leaf_codec.proofs.SortedBytes.{cut_front, cut_is, cut_some}
use Rattle.leaf_codec.proofs.read_sorted.take_pieces.Goals as goal
use Rattle.leaf_codec.proofs.read_sorted.take_pieces.Goals.{then-size-count-via-then-size-count, then-size-count-via-else-size-count+then-rest-size}

pub returns-in_err-number-clause-only : goal.returns-in_err-number-clause-only
returns-in_err-number-clause-only c bytes tail long e =
    absurd (omega (arith, c.in_err-number.ensures.cases, cut_some c.args.b.now bytes tail e))

pub returns-then-size-count-clause-only : goal.returns-then-size-count-clause-only
returns-then-size-count-clause-only c bytes tail long e =
    let f = cut_front c.in_ok-number.number.now c.in_ok-number.rest.now bytes tail (ap (λ (t : List ℕ). 1 ∷ t) (sym c.in_ok-number.ensures.cases.0) ∙ e) in
    elim c.then-size-count.branch [
      | then-size-count-via-then-size-count w ↦ absurd (omega (arith, w.if-size-count, f.few, long))
      | then-size-count-via-else-size-count+then-rest-size w ↦ absurd (omega (arith, w.if-rest-size, f.enough))
    ]

pub returns-in_err-table-clause-only : goal.returns-in_err-table-clause-only
returns-in_err-table-clause-only c bytes tail long e =
    let f = cut_front c.in_ok-number.number.now c.in_ok-number.rest.now bytes tail (ap (λ (t : List ℕ). 1 ∷ t) (sym c.in_ok-number.ensures.cases.0) ∙ e) in
    absurd (true≢false (sym (c.in_err-table.ensures.only (ap length (ap pairs_expanded c.split_at.ensures.front ∙ f.expanded) ∙ long))))

pub returns-then-not-are_cut-clause-only : goal.returns-then-not-are_cut-clause-only
returns-then-not-are_cut-clause-only c bytes tail long e =
    let f = cut_front c.in_ok-number.number.now c.in_ok-number.rest.now bytes tail (ap (λ (t : List ℕ). 1 ∷ t) (sym c.in_ok-number.ensures.cases.0) ∙ e) in
    let same : pairs_expanded c.split_at.result.0.now ≡ bytes = ap pairs_expanded c.split_at.ensures.front ∙ f.expanded in
    let spelled = ap (λ (t : List ℕ). flat_map piece_bytes (pieces t)) same ∙ sym f.spelled ∙ sym c.split_at.ensures.front in
    absurd (true≢false (sym (c.are_cut.ensures.1 spelled) ∙ c.if-not-are_cut.true))

pub returns-clause-found : goal.returns-clause-found
returns-clause-found c =
    let bs = take c.args.count c.in_ok-table.table in
    let is = ap (λ (t : List ℕ). flat_map piece_bytes (pieces t)) c.in_ok-table.ensures.found ∙ c.are_cut.ensures.0 c.if-not-are_cut.false in
    let long = c.split_at.ensures.front_len in
    ap (λ (t : List ℕ). 1 ∷ t) c.in_ok-number.ensures.cases.0
    ∙ ap (λ (t : List ℕ). 1 ∷ c.in_ok-number.number.now ∷ t)
    (sym (take-append-drop (2 * c.in_ok-number.number.now) c.in_ok-number.rest.now) ∙ (λ i. sym c.split_at.ensures.front i ++ sym c.split_at.ensures.back i))
    ∙ cut_is c.in_ok-number.number.now c.split_at.result.0.now c.split_at.result.1.now bs is long
    (omega (arith, c.if-size-count.false, length-take c.args.count c.in_ok-table.table))
