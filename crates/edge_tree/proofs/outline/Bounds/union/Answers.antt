use Rattle.std.proofs.Common.{FitsSigned, arith, rules}
use Rattle.std.proofs.lemmas.Int.{ints}
use mir.Syntax.{w32}
use Rattle.edge_tree.specs.Outlines.{IsBoxed}
use Rattle.edge_tree.proofs.outline.Bounds.union.Goals as goal

pub returns-clause-first : goal.returns-clause-first
returns-clause-first c =
    let west : FitsSigned w32 c.min.result = search rules in
    let south : FitsSigned w32 c.min-2.result = search rules in
    let east : FitsSigned w32 c.max.result = search rules in
    let north : FitsSigned w32 c.max-2.result = search rules in
    λ e (boxed : IsBoxed c.args.self.now e). record {
      start = record {
        west = omega (arith, ints, c.min.ensures.self_bound, boxed.start.west);
        east = omega (arith, ints, c.max.ensures.self_bound, boxed.start.east);
        south = omega (arith, ints, c.min-2.ensures.self_bound, boxed.start.south);
        north = omega (arith, ints, c.max-2.ensures.self_bound, boxed.start.north);
      };
      end = record {
        west = omega (arith, ints, c.min.ensures.self_bound, boxed.end.west);
        east = omega (arith, ints, c.max.ensures.self_bound, boxed.end.east);
        south = omega (arith, ints, c.min-2.ensures.self_bound, boxed.end.south);
        north = omega (arith, ints, c.max-2.ensures.self_bound, boxed.end.north);
      };
    }

pub returns-clause-second : goal.returns-clause-second
returns-clause-second c =
    let west : FitsSigned w32 c.min.result = search rules in
    let south : FitsSigned w32 c.min-2.result = search rules in
    let east : FitsSigned w32 c.max.result = search rules in
    let north : FitsSigned w32 c.max-2.result = search rules in
    λ e (boxed : IsBoxed c.args.other.now e). record {
      start = record {
        west = omega (arith, ints, c.min.ensures.other_bound, boxed.start.west);
        east = omega (arith, ints, c.max.ensures.other_bound, boxed.start.east);
        south = omega (arith, ints, c.min-2.ensures.other_bound, boxed.start.south);
        north = omega (arith, ints, c.max-2.ensures.other_bound, boxed.start.north);
      };
      end = record {
        west = omega (arith, ints, c.min.ensures.other_bound, boxed.end.west);
        east = omega (arith, ints, c.max.ensures.other_bound, boxed.end.east);
        south = omega (arith, ints, c.min-2.ensures.other_bound, boxed.end.south);
        north = omega (arith, ints, c.max-2.ensures.other_bound, boxed.end.north);
      };
    }
