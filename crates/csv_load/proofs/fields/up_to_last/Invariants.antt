use Rattle.std.proofs.Common.{◌≡◌, ℕ, ◌<◌, ◌≤◌, true, get_or, length}
use Rattle.csv_load.specs.Loading.{is_blank}
use Rattle.csv_load.proofs.fields.up_to_last.Given as goal

abbrev pub invariant-loop-end : goal.invariant-loop-end
invariant-loop-end l = record {
  inside : l.end ≤ length l.field;
  blank : (k : ℕ) → l.end ≤ k → k < length l.field → is_blank (get_or l.field k 0) ≡ true;
}

abbrev pub decreases-loop-end : goal.decreases-loop-end
decreases-loop-end l = l.end
