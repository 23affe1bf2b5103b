use Rattle.std.proofs.Common.{◌≡◌, ◌≤◌, ◌+◌, ◌-◌, ◌++◌, length, take, vec_capacity, vec_len}
use Rattle.std.specs.Prelude.{filter}
use Rattle.point_codec.specs.Seen.{items_of}
use Rattle.live_bits.specs.LiveSet.{is_live}
use Rattle.segment_file.proofs.sink.push_reserved.Given as goal

abbrev pub invariant-loop-i : goal.invariant-loop-i
invariant-loop-i g l = record {
  all : items_of l.entries.items ≡ items_of l.initial.entries.items ++ filter (λ x. is_live l.live x.doc) (take l.i l.view);
  room : vec_len l.entries + (length l.view - l.i) ≤ vec_capacity l.entries;
}
