use Rattle.std.proofs.Common.{◌≡◌, ◌≤◌, drop}
use Rattle.number_text.proofs.Digits.{number_after}
use Rattle.number_text.proofs.number_up_to.Given as goal

-- the digits that are left make of the number so far what all of them make of 0
abbrev pub invariant-loop-c : goal.invariant-loop-c
invariant-loop-c l = record {
  small : l.value ≤ l.limit;
  same : number_after l.limit l.value (drop l.c-index l.b) ≡ number_after l.limit 0 l.b;
}
