use Rattle.std.proofs.Common.{◌≡◌, ◌++◌, drop, map, take}
use Rattle.std.specs.List.{list_any}
use Rattle.live_bits.specs.LiveSet.{is_live, live_set_without}
use Rattle.segment_view.proofs.pairs.clear_in.Given as goal

abbrev pub invariant-loop-live : goal.invariant-loop-live
invariant-loop-live l = record {
  lives : l.live-items ≡ map (live_set_without l.doc) (take l.live-index l.initial.live-items) ++ drop l.live-index l.initial.live-items;
  was : l.was_live ≡ list_any (λ s. is_live s l.doc) (take l.live-index l.initial.live-items);
}
