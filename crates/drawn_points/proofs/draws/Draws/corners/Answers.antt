use Rattle.std.proofs.Common.{rules, ◌≡◌, ◌∙◌, ◌∷◌, [], ap, ap₂, sym, ℤ, pos, ◌+ℤ◌, ◌-ℤ◌, to_z, of_z, w32}
use Rattle.drawn_points.specs.Draws.{coordinate, next}
use Rattle.drawn_points.proofs.Pairs.{behind, first, second}
use Rattle.drawn_points.proofs.draws.Draws.corners.Goals as goal

pub returns-clause-low : goal.returns-clause-low
returns-clause-low c seed i start =
    let x : to_z w32 (of_z w32 (to_z w32 (of_z w32 c.coordinate-x.result) -ℤ pos 5000)) ≡ c.coordinate-x.result -ℤ pos 5000 = search rules in
    let y : to_z w32 (of_z w32 (to_z w32 (of_z w32 c.coordinate-y.result) -ℤ pos 5000)) ≡ c.coordinate-y.result -ℤ pos 5000 = search rules in
    let one = ap next start ∙ sym (first seed i) in
    let two = ap next (c.coordinate-x.ensures.after ∙ ap next start) ∙ sym (second seed i) in
    ap₂ (λ (a : ℤ) (b : ℤ). a ∷ b ∷ []) (x ∙ ap (λ (z : ℤ). z -ℤ pos 5000) (c.coordinate-x.ensures.value ∙ ap coordinate one))
    (y ∙ ap (λ (z : ℤ). z -ℤ pos 5000) (c.coordinate-y.ensures.value ∙ ap coordinate two))

pub returns-clause-high : goal.returns-clause-high
returns-clause-high c seed i start =
    let x : to_z w32 (of_z w32 (to_z w32 (of_z w32 c.coordinate-x.result) +ℤ pos 5000)) ≡ c.coordinate-x.result +ℤ pos 5000 = search rules in
    let y : to_z w32 (of_z w32 (to_z w32 (of_z w32 c.coordinate-y.result) +ℤ pos 5000)) ≡ c.coordinate-y.result +ℤ pos 5000 = search rules in
    let one = ap next start ∙ sym (first seed i) in
    let two = ap next (c.coordinate-x.ensures.after ∙ ap next start) ∙ sym (second seed i) in
    ap₂ (λ (a : ℤ) (b : ℤ). a ∷ b ∷ []) (x ∙ ap (λ (z : ℤ). z +ℤ pos 5000) (c.coordinate-x.ensures.value ∙ ap coordinate one))
    (y ∙ ap (λ (z : ℤ). z +ℤ pos 5000) (c.coordinate-y.ensures.value ∙ ap coordinate two))

pub returns-clause-after : goal.returns-clause-after
returns-clause-after c seed i start =
    c.coordinate-y.ensures.after ∙ (ap next (c.coordinate-x.ensures.after ∙ ap next start) ∙ sym (behind seed i))
