use Rattle.std.proofs.Common.{◌≡◌, ℕ, false, subst, sym, arith, inl, inr}
use Rattle.std.proofs.lemmas.Bool.{cases_lt}
use Rattle.document_checks.specs.Crowded.{repeats_at}
use Rattle.document_checks.proofs.doubles.first_crowded.Goals as goal

pub loop-k-preserved : goal.loop-k-preserved
loop-k-preserved g c k d some lt = elim (cases_lt k c.loop-k.k) [
  | inl before ↦ c.loop-k.invariant k d some before
  | inr at ↦
      let last : c.loop-k.k ≡ k = omega arith in
      subst (λ (m : ℕ). repeats_at d c.args.list.now m ≡ false) last (sym (c.if-repeats_at.ensures d))
]
