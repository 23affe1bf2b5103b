use Rattle.std.proofs.Common.{◌≡◌, ◌-◌, ◌||◌, ℕ, nat_eq, take}
use Rattle.std.specs.List.{list_any}
use Rattle.live_bits.specs.LiveBody.{is_set}
use Rattle.live_bits.proofs.docs.set_docs.Given as goal

abbrev pub invariant-loop-doc : goal.invariant-loop-doc
invariant-loop-doc l = (j : ℕ) → is_set l.bits j ≡ (is_set l.initial.bits j || list_any (λ d. nat_eq j (d - l.base)) (take l.doc-index l.docs))
