use Rattle.std.proofs.Common.{◌≡◌, List, take}
use Rattle.point_codec.specs.Seen.{items_of}
use Rattle.point_codec.specs.declared.entries.Near.{Near}
use Rattle.documents.specs.NearestEntries.{nears_of}
use Rattle.nearest_query.specs.Best.{AreBest, AreAdded}
use Rattle.nearest_query.proofs.leaves.offer_all.Given as goal

abbrev pub invariant-loop-entry : goal.invariant-loop-entry
invariant-loop-entry g l = record {
  room : l.found.many.room ≡ l.initial.found.many.room;
  found : (seen : List Near) → AreBest seen l.initial.found → AreAdded seen (nears_of l.at.c (items_of (take l.entry-index l.entries))) l.found;
}
