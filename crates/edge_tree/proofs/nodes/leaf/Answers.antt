use Rattle.std.proofs.Common.{◌≡◌, List, map, sym, subst, arith, slice_index_or}
use Rattle.ring_parity.specs.Edges.{EdgeEnds}
use Rattle.ring_parity.specs.Seen.{ends_of}
use Rattle.edge_tree.specs.declared.runs.Run.{Run}
use Rattle.edge_tree.specs.Outlines.{Outlines}
use Rattle.edge_tree.specs.Nodes.{IsRun, run_in, all_in}
use Rattle.edge_tree.proofs.Parts.{run_seen, one_run}
use Rattle.edge_tree.proofs.nodes.leaf.Goals as goal

pub returns-clause-held : goal.returns-clause-held
returns-clause-held c =
    let d : Run = record { first = 0; end = 0; place = 0 } in
    let r : Run = slice_index_or c.args.runs.now 0 d in
    let run : all_in (map ends_of c.args.edges.now) c.args.runs.now ≡ run_in (map ends_of c.args.edges.now) r =
    one_run (map ends_of c.args.edges.now) c.args.runs.now d c.requires.one in
    let there : IsRun (map ends_of c.args.edges.now) r = c.requires.there 0 d (omega (arith, c.requires.one)) in
    record {
      ordered = omega (arith, there.some);
      there = there.there;
      held = sym run;
      outlined =
          subst (λ (es : List EdgeEnds). Outlines es c.outline_of.result) (sym run)
          (rw (run_seen c.args.edges.now r.first r.end) c.outline_of.ensures);
    }
