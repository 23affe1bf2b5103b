use Rattle.std.proofs.Common.{◌≡◌, ◌≤◌, ◌++◌, vec_len, IsTrue, ◌-◌}
use Rattle.outer_io.proofs.source.read_all.Given as goal

-- what was read so far and what is left is what was left at the start, and no call failed
abbrev pub invariant-pieces : goal.invariant-pieces
invariant-pieces g l =
    record {
      told : IsTrue g.S.Source.told → g.S.Source.left l.initial.s ≡ l.all.items ++ g.S.Source.left l.s;
      within : vec_len l.all ≤ l.limit;
      faults : g.S.Source.faults l.s ≡ g.S.Source.faults l.initial.s;
    }

abbrev pub decreases-pieces : goal.decreases-pieces
decreases-pieces g l = l.limit - vec_len l.all
