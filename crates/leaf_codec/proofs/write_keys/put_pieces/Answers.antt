use Rattle.std.proofs.Common.{ℕ, List, ◌++◌, sym, ap, ◌∙◌, eqb-true, append-nil}
use Rattle.std.specs.List.{flat_map}
use Rattle.std.proofs.lemmas.List.{nil_from_length}
use Rattle.leaf_codec.specs.Spelling.{pieces, piece_bytes}
use Rattle.leaf_codec.proofs.Pieces.{pieces_nil}
use Rattle.leaf_codec.proofs.write_keys.put_pieces.Goals as goal

pub returns : goal.returns
returns c =
    let out = c.loop-rest.out.items in
    let none = nil_from_length c.loop-rest.rest.now (eqb-true _ _ (sym c.is_empty.ensures ∙ c.loop-rest-test.false)) in
    sym (append-nil out) ∙ ap (λ (ps : List (ℕ × ℕ)). out ++ flat_map piece_bytes ps) (sym (ap pieces none ∙ pieces_nil)) ∙ c.loop-rest.invariant
