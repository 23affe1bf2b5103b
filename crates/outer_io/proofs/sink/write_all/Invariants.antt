use Rattle.std.proofs.Common.{◌≡◌, ◌++◌, take, length, ◌-◌, ◌≤◌, IsTrue}
use Rattle.outer_io.proofs.sink.write_all.Given as goal

-- the bytes before `at` went out, and no call failed
abbrev pub invariant-loop-at : goal.invariant-loop-at
invariant-loop-at g l =
    record {
      told : IsTrue g.K.Sink.told → g.K.Sink.written l.k ≡ g.K.Sink.written l.initial.k ++ take l.at l.b;
      within : l.at ≤ length l.b;
      faults : g.K.Sink.faults l.k ≡ g.K.Sink.faults l.initial.k;
    }

abbrev pub decreases-loop-at : goal.decreases-loop-at
decreases-loop-at g l = length l.b - l.at
