use Rattle.std.proofs.Common.{arith, ℕ, ◌<◌, ◌≤◌, ◌⊎◌, inl, inr, refl}
use Rattle.std.proofs.lemmas.Bool.{cases_lt}
use Rattle.merge_policy.specs.Choice.{free_count}
use Rattle.merge_policy.proofs.Only.{same_choice}
use Rattle.merge_policy.proofs.Levels.{free_count-high}
use Rattle.merge_policy.proofs.choose.Goals as goal

pub returns-clause-none : goal.returns-clause-none
returns-clause-none c =
    (λ e l. few_at l (cases_lt l 8), λ f. refl)
  where
    few_at : (l : ℕ) → (l < 8) ⊎ (8 ≤ l) → free_count l c.args.sizes.now c.args.pinned.now < 10
    few_at l (inl low) = c.loop-level.invariant l (omega arith)
    few_at l (inr high) = omega (arith, free_count-high l c.args.sizes.now c.args.pinned.now high (λ i. omega (arith, c.type_inv.sizes i)))

pub returns-in-Some-clause-only : goal.returns-in-Some-clause-only
returns-in-Some-clause-only c =
    λ others other. same_choice c.args.sizes.now c.args.pinned.now others c.in-Some.positions.items other
    (record {
      level = c.new.result.number;
      has_ten = c.in-Some.ensures.has_ten;
      lowest = λ l h. c.loop-level.invariant l (omega (arith, c.new.ensures));
      chosen = c.in-Some.ensures.some;
    })
