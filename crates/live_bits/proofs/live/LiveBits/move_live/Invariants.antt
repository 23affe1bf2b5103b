use Rattle.live_bits.specs.LiveSet.{is_live}
use Rattle.live_bits.proofs.KeptLive.{KeptFrom}
use Rattle.live_bits.proofs.live.LiveBits.move_live.Given as goal

abbrev pub invariant-loop-i : goal.invariant-loop-i
invariant-loop-i l = KeptFrom (is_live l.self) l.from l.initial.numbers l.numbers l.kept l.i
