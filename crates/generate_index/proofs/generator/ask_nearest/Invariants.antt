use Rattle.std.proofs.Common.{◌≡◌, ◌≤◌, ◌+◌, ◌*◌, ◌-◌, ℕ, Ok, IsTrue}
use Rattle.drawn_points.specs.Draws.{draw, points}
use Rattle.drawn_points.specs.Generated.{near_sum}
use Rattle.generate_index.specs.Generates.{IsDrawn, Makes, made_docs}
use Rattle.generate_index.proofs.generator.ask_nearest.Given as goal

-- so many queries were asked
abbrev pub invariant-queries : goal.invariant-queries
invariant-queries g l = record {
  makes : (seed n : ℕ) → Makes {T = Unit {0}} (IsTrue g.F.Pages.told) (IsDrawn seed n n) (IsDrawn seed n n)
      (record { files = g.F.Pages.files l.initial.folder; session = l.initial.session; faults = g.F.Pages.faults l.initial.folder })
      (record { files = g.F.Pages.files l.folder; session = l.session; faults = g.F.Pages.faults l.folder }) (Ok tt);
  near : IsTrue g.F.Pages.told → (seed n : ℕ)
      → IsDrawn seed n n (record { files = g.F.Pages.files l.initial.folder; session = l.initial.session; faults = g.F.Pages.faults l.initial.folder })
      → l.initial.draws ≡ draw seed (2 * (n + 64)) → l.near ≡ near_sum (made_docs seed n) (points seed (n + 64) l.queries);
  drawn : (seed n : ℕ) → l.initial.draws ≡ draw seed (2 * (n + 64)) → l.draws ≡ draw seed (2 * (n + 64 + l.queries));
  within : l.queries ≤ 16;
}

abbrev pub decreases-queries : goal.decreases-queries
decreases-queries g l = 16 - l.queries
