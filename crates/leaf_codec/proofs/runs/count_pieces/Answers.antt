use Rattle.std.proofs.Common.{ℕ, List, sym, ap, ◌∙◌, arith, length, eqb-true}
use Rattle.std.proofs.lemmas.List.{nil_from_length}
use Rattle.leaf_codec.specs.Spelling.{pieces}
use Rattle.leaf_codec.proofs.Pieces.{pieces_nil}
use Rattle.leaf_codec.proofs.runs.count_pieces.Goals as goal

pub returns-clause-value : goal.returns-clause-value
returns-clause-value c =
    let none = nil_from_length c.loop-rest.rest.now (eqb-true _ _ (sym c.is_empty.ensures ∙ c.loop-rest-test.false)) in
    omega (arith, c.loop-rest.invariant.counted, ap (λ (bs : List ℕ). length (pieces bs)) none, ap length pieces_nil)
