use Rattle.std.proofs.lemmas.List.Elements.{All-append, All-weaker}
use Rattle.edge_tree.specs.Outlines.{IsBoxed, Outlines}
use Rattle.edge_tree.proofs.Passing.{climbs_joined}
use Rattle.edge_tree.proofs.outline.Outline.join.Goals.{in-Some-Some, in_default, in_default-2}
use Rattle.edge_tree.proofs.outline.Outline.join.Goals as goal

pub returns : goal.returns
returns c = λ xs ys (first : Outlines xs c.args.self.now) (second : Outlines ys c.args.next.now). record {
  boxed = All-append (IsBoxed c.union.result) xs ys
      (All-weaker (IsBoxed c.args.self.now.bounds) (IsBoxed c.union.result) c.union.ensures.first xs first.boxed)
      (All-weaker (IsBoxed c.args.next.now.bounds) (IsBoxed c.union.result) c.union.ensures.second ys second.boxed);
  climb = elim c.match-self.branch [
    | in-Some-Some w ↦
        rw w.climb-is (climbs_joined xs ys w.in-Some-Some.first w.in-Some-Some.second c.args.self.now.climb c.args.next.now.climb w.then-climb.result
        w.in-Some-Some.is-0 w.in-Some-Some.is-1 first.climb second.climb w.then-climb.ensures)
    | in_default w ↦ rw w.climb-is tt
    | in_default-2 w ↦ rw w.climb-is tt
  ];
}
