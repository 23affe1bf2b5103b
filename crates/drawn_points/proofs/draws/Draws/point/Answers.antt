use Rattle.std.proofs.Common.{rules, ◌≡◌, ◌∙◌, ◌∷◌, [], ap, ap₂, sym, ℤ, to_z, of_z, w32}
use Rattle.drawn_points.specs.Draws.{coordinate, next}
use Rattle.drawn_points.proofs.Pairs.{behind, first, second}
use Rattle.drawn_points.proofs.draws.Draws.point.Goals as goal

pub returns-clause-point : goal.returns-clause-point
returns-clause-point c seed i start =
    let x : to_z w32 (of_z w32 c.coordinate-x.result) ≡ c.coordinate-x.result = search rules in
    let y : to_z w32 (of_z w32 c.coordinate-y.result) ≡ c.coordinate-y.result = search rules in
    let one = ap next start ∙ sym (first seed i) in
    let two = ap next (c.coordinate-x.ensures.after ∙ ap next start) ∙ sym (second seed i) in
    ap₂ (λ (a : ℤ) (b : ℤ). a ∷ b ∷ []) (x ∙ (c.coordinate-x.ensures.value ∙ ap coordinate one)) (y ∙ (c.coordinate-y.ensures.value ∙ ap coordinate two))

pub returns-clause-after : goal.returns-clause-after
returns-clause-after c seed i start =
    c.coordinate-y.ensures.after ∙ (ap next (c.coordinate-x.ensures.after ∙ ap next start) ∙ sym (behind seed i))
