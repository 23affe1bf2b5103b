use Rattle.std.proofs.Common.{◌≡◌, ℕ, ◌<◌, ◌-◌, true, length}
use Rattle.file_names.specs.Names.{is_named}
use Rattle.file_names.specs.Series.{name_in}
use Rattle.file_names.proofs.free.least_free.Given as goal

abbrev pub invariant-taken : goal.invariant-taken
invariant-taken l = (n : ℕ) → n < l.number → is_named l.names (name_in l.series n) ≡ true

abbrev pub decreases-taken : goal.decreases-taken
decreases-taken l = length l.names - l.number
