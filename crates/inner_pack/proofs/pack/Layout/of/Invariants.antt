use Rattle.std.proofs.Common.{◌≡◌, ◌≤◌, ◌+◌, ◌++◌, map, drop}
use Rattle.inner_pack.specs.Places.{front, leaf_spans, end_of}
use Rattle.inner_pack.specs.Packs.{end_at}
use Rattle.inner_pack.proofs.pack.Layout.of.Given as goal
use Rattle.inner_pack.specs.Heads.{placed_of}

-- the places so far and those of the leaves that are left are all places
abbrev pub invariant-loop-size : goal.invariant-loop-size
invariant-loop-size l = record {
  places : map placed_of l.places.items ++ leaf_spans (end_at l.last) (drop l.size-index l.lengths) ≡ leaf_spans front l.lengths;
  ends : end_of (end_at l.last) (drop l.size-index l.lengths) ≡ end_of front l.lengths;
  within : l.last.offset + l.last.length ≤ 4064;
  page : l.last.page ≤ l.size-index;
}
