use Rattle.std.proofs.Common.{◌≡◌, ◌≤◌, ◌*◌, ◌++◌, ◌∷◌, ℕ, List, length, take, sym, ap, ◌∙◌, arith, take-append-drop}
use Rattle.leaf_codec.specs.Spelling.{pieces, sorted_bytes}
use Rattle.leaf_codec.proofs.SortedBytes.{plain_front, plain_is}
use Rattle.leaf_codec.proofs.read_sorted.take_plain.Goals as goal

pub returns-then-b-count-clause-only : goal.returns-then-b-count-clause-only
returns-then-b-count-clause-only c bytes tail long e =
    absurd (omega (arith, c.if-b-count.true, (plain_front c.args.b.now bytes tail e).0, long))

pub returns-then-count_pieces-count-clause-only : goal.returns-then-count_pieces-count-clause-only
returns-then-count_pieces-count-clause-only c bytes tail long e =
    let p = plain_front c.args.b.now bytes tail e in
    let same : c.split_at.result.0.now ≡ bytes = c.split_at.ensures.front ∙ ap (λ n. take n c.args.b.now) (sym long) ∙ p.2 in
    absurd (omega (arith, c.if-count_pieces-count.true, c.count_pieces.ensures.value, ap (λ (t : List ℕ). length (pieces t)) same, p.1, long))

pub returns-clause-found : goal.returns-clause-found
returns-clause-found c =
    let bs = c.split_at.result.0.now in
    let same : take c.args.count c.table_of.result ≡ bs = ap (λ n. take n c.table_of.result) (sym c.split_at.ensures.front_len) ∙ c.table_of.ensures in
    let many : length bs ≤ 2 * length (pieces bs) = omega (arith, c.if-count_pieces-count.false, c.count_pieces.ensures.value, c.split_at.ensures.front_len) in
    sym (ap (λ (t : List ℕ). sorted_bytes t ++ c.split_at.result.1.now) same
    ∙ ap (λ (t : List ℕ). t ++ c.split_at.result.1.now) (plain_is bs many)
    ∙ (λ i. 0 ∷ (c.split_at.ensures.front i ++ c.split_at.ensures.back i))
    ∙ ap (λ (t : List ℕ). 0 ∷ t) (take-append-drop c.args.count c.args.b.now))
