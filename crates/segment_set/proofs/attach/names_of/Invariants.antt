use Rattle.std.proofs.Common.{◌≡◌, take}
use Rattle.std.specs.List.{flat_map}
use Rattle.segment_set.proofs.Attaching.{files_of}
use Rattle.segment_set.proofs.attach.names_of.Given as goal

abbrev pub invariant-loop-s : goal.invariant-loop-s
invariant-loop-s l = record {
  names : l.names.names ≡ flat_map files_of (take l.s-index l.c.listed);
  next : l.names.next_segment ≡ l.c.next_segment;
}
