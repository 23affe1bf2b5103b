use Rattle.std.proofs.Common.{FitsSigned, arith, rules}
use Rattle.std.proofs.lemmas.Int.{ints}
use mir.Syntax.{w32}
use Rattle.edge_tree.proofs.outline.Bounds.of.Goals as goal

pub returns : goal.returns
returns c =
    let west : FitsSigned w32 c.min.result = search rules in
    let south : FitsSigned w32 c.min-2.result = search rules in
    let east : FitsSigned w32 c.max.result = search rules in
    let north : FitsSigned w32 c.max-2.result = search rules in
    record {
      start = record {
        west = omega (arith, ints, c.min.ensures.self_bound);
        east = omega (arith, ints, c.max.ensures.self_bound);
        south = omega (arith, ints, c.min-2.ensures.self_bound);
        north = omega (arith, ints, c.max-2.ensures.self_bound);
      };
      end = record {
        west = omega (arith, ints, c.min.ensures.other_bound);
        east = omega (arith, ints, c.max.ensures.other_bound);
        south = omega (arith, ints, c.min-2.ensures.other_bound);
        north = omega (arith, ints, c.max-2.ensures.other_bound);
      };
    }
