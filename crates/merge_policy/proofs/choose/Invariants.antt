use Rattle.std.proofs.Common.{ℕ, ◌<◌}
use Rattle.merge_policy.specs.Choice.{free_count}
use Rattle.merge_policy.proofs.choose.Given as goal

abbrev pub invariant-loop-level : goal.invariant-loop-level
invariant-loop-level l = (k : ℕ) → k < l.level → free_count k l.sizes l.pinned < 10
