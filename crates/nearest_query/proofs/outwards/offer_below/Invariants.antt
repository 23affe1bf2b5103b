use Rattle.std.proofs.Common.{◌≡◌, List, take, drop}
use Rattle.point_codec.specs.declared.entries.Near.{Near}
use Rattle.documents.specs.NearestEntries.{nears_of}
use Rattle.nearest_query.specs.Best.{AreBest, AreAdded}
use Rattle.nearest_query.specs.Segments.{live_items}
use Rattle.nearest_query.proofs.outwards.offer_below.Given as goal

abbrev pub invariant-loop-i : goal.invariant-loop-i
invariant-loop-i g l = record {
  room : l.found.many.room ≡ l.initial.found.many.room;
  found : (seen : List Near) → AreBest seen l.initial.found → AreAdded seen (nears_of l.at.c (live_items l.live (drop l.i (take l.place l.view)))) l.found;
}
