use Rattle.std.proofs.Common.{FitsSigned, slice_index_or, pos, rules}
use Rattle.std.proofs.lemmas.Int.{to_z-of_z}
use mir.Syntax.{w32}
use Rattle.ring_parity.specs.Seen.{ends_of}
use Rattle.edge_tree.proofs.Passing.{outlines_one}
use Rattle.edge_tree.proofs.outline.Outline.of.Goals as goal

pub returns : goal.returns
returns c =
    let from : FitsSigned w32 (slice_index_or c.args.e.now.a.c 1 (pos 0)) = search rules in
    let to : FitsSigned w32 (slice_index_or c.args.e.now.b.c 1 (pos 0)) = search rules in
    outlines_one (ends_of c.args.e.now) c.of.result _ _ c.of.ensures (to_z-of_z w32 _ from) (to_z-of_z w32 _ to)
