use Rattle.std.proofs.Common.{◌≡◌, ◌≤◌, ◌+◌, ◌*◌, ◌-◌, ℕ, Ok, IsTrue}
use Rattle.drawn_points.specs.Draws.{draw, points}
use Rattle.drawn_points.specs.Generated.{box_hits}
use Rattle.generate_index.specs.Generates.{IsDrawn, Makes, made_docs}
use Rattle.generate_index.proofs.generator.ask_boxes.Given as goal

-- so many boxes were asked for
abbrev pub invariant-boxes : goal.invariant-boxes
invariant-boxes g l = record {
  makes : (seed n : ℕ) → Makes {T = Unit {0}} (IsTrue g.F.Pages.told) (IsDrawn seed n n) (IsDrawn seed n n)
      (record { files = g.F.Pages.files l.initial.folder; session = l.initial.session; faults = g.F.Pages.faults l.initial.folder })
      (record { files = g.F.Pages.files l.folder; session = l.session; faults = g.F.Pages.faults l.folder }) (Ok tt);
  hits : IsTrue g.F.Pages.told → (seed n : ℕ)
      → IsDrawn seed n n (record { files = g.F.Pages.files l.initial.folder; session = l.initial.session; faults = g.F.Pages.faults l.initial.folder })
      → l.initial.draws ≡ draw seed (2 * n) → l.hits ≡ box_hits (made_docs seed n) (points seed n l.boxes);
  drawn : (seed n : ℕ) → l.initial.draws ≡ draw seed (2 * n) → l.draws ≡ draw seed (2 * (n + l.boxes));
  within : l.boxes ≤ 64;
}

abbrev pub decreases-boxes : goal.decreases-boxes
decreases-boxes g l = 64 - l.boxes
