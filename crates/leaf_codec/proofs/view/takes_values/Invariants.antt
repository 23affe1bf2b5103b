use Rattle.std.proofs.Common.{◌≡◌, ◌<◌, ◌+◌, ◌*◌, get_or}
use Rattle.leaf_codec.proofs.NewValues.{firsts, values_of}
use Rattle.leaf_codec.proofs.SeenBytes.{HasSeen}
use Rattle.leaf_codec.proofs.view.takes_values.Given as goal

abbrev pub invariant-loop-i : goal.invariant-loop-i
invariant-loop-i l = record {
  seen : HasSeen l.seen.seen (firsts (λ k. get_or l.bytes (l.start + k * l.stride) 0) l.i);
  found : l.found ≡ values_of (λ k. get_or l.bytes (l.start + k * l.stride) 0) l.i;
  less : l.found < l.need;
}
