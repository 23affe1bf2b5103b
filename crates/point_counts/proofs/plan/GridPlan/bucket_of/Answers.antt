use Rattle.std.proofs.Common.{◌≡◌, ◌∙◌, ℤ, ap, rules, to_z, of_z, w32, get_or, pos}
use Rattle.std.proofs.lemmas.Int.{to_z-of_z}
use Rattle.point_counts.specs.Grids.{Plan, steps_between, column_of, row_of}
use Rattle.point_counts.proofs.plan.GridPlan.bucket_of.Goals as goal

pub returns-clause-column : goal.returns-clause-column
returns-clause-column g c =
    let low : ℤ = get_or c.self.inside.lo.c c.self.inside.x (pos 0) in
    let at : ℤ = get_or c.args.p.now.c c.self.inside.x (pos 0) in
    let low_is : to_z w32 (of_z w32 low) ≡ low = to_z-of_z w32 low (search rules) in
    let at_is : to_z w32 (of_z w32 at) ≡ at = to_z-of_z w32 at (search rules) in
    c.steps_by-column.ensures ∙ (λ i. steps_between c.self.inside.step_x (low_is i) (at_is i))
    ∙ ap (λ (p : Plan). column_of p c.args.p.now.c) c.self.view_is

pub returns-clause-row : goal.returns-clause-row
returns-clause-row g c =
    let low : ℤ = get_or c.self.inside.lo.c c.self.inside.y (pos 0) in
    let at : ℤ = get_or c.args.p.now.c c.self.inside.y (pos 0) in
    let low_is : to_z w32 (of_z w32 low) ≡ low = to_z-of_z w32 low (search rules) in
    let at_is : to_z w32 (of_z w32 at) ≡ at = to_z-of_z w32 at (search rules) in
    c.steps_by-row.ensures ∙ (λ i. steps_between c.self.inside.step_y (low_is i) (at_is i))
    ∙ ap (λ (p : Plan). row_of p c.args.p.now.c) c.self.view_is
