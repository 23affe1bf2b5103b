use Rattle.std.proofs.Common.{List, [], ◌∷◌, map, sym, ap, ◌∙◌, subst, arith}
use Rattle.std.specs.Prelude.{All}
use Rattle.std.proofs.lemmas.List.{length-map}
use Rattle.std.proofs.lemmas.List.Elements.{All-append, All-cons, All-nil}
use Rattle.ring_parity.specs.Seen.{ends_of}
use Rattle.edge_tree.specs.declared.runs.Run.{Run}
use Rattle.edge_tree.specs.Nodes.{IsRun, all_in}
use Rattle.edge_tree.proofs.Parts.{runs_more}
use Rattle.edge_tree.proofs.runs.cut_runs.Goals as goal

pub loop-first-preserved : goal.loop-first-preserved
loop-first-preserved c =
    let r : Run = record { first = c.loop-first.first; end = c.run_end-end.result; place = c.place_of.result } in
    let is_run : IsRun (map ends_of c.args.edges.now) r = record {
      some = c.run_end-end.ensures.some;
      there = omega (arith, length-map c.args.edges.now ends_of, c.run_end-end.ensures.there);
    } in
    record {
      within = c.run_end-end.ensures.there;
      each = subst (λ (runs : List Run). All (IsRun (map ends_of c.args.edges.now)) runs) (sym c.in_ok-push.ensures.items)
          (All-append (IsRun (map ends_of c.args.edges.now)) c.loop-first.runs.items (r ∷ []) c.loop-first.invariant.each
          (All-cons (IsRun (map ends_of c.args.edges.now)) r [] is_run (All-nil (IsRun (map ends_of c.args.edges.now)))));
      whole =
          ap (all_in (map ends_of c.args.edges.now)) c.in_ok-push.ensures.items
          ∙ runs_more (map ends_of c.args.edges.now) c.loop-first.runs.items r (omega (arith, is_run.some)) c.loop-first.invariant.whole;
    }
