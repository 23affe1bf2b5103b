use Rattle.std.proofs.Common.{◌∙◌, ◌++◌, sym, ap, length, true≢false, take-append-drop, ◌*◌}
use Rattle.point_codec.specs.Points.{all_le}
use Rattle.inner_pack.specs.Bodies.{cell_bytes}
use Rattle.inner_pack.proofs.CellLemmas.{cell_read, cell_joined, length-cell, some_and, some_if}
use Rattle.inner_pack.proofs.fields.cell_of.Goals as goal

pub returns-then-b-clause-only : goal.returns-then-b-clause-only
returns-then-b-clause-only g c r h e = c.if-b.true (ap length e ∙ length-cell g.row.D r h)

pub returns-clause-found : goal.returns-clause-found
returns-clause-found g c =
    let whole = sym (take-append-drop (4 * g.row.D) c.args.b.now) ∙ (λ i. sym c.split_at.ensures.front i ++ sym c.split_at.ensures.back i)
    ∙ (λ i. sym c.point_of-lo.ensures i ++ sym c.point_of-hi.ensures i)
    ∙ cell_joined c.point_of-lo.result.c c.point_of-hi.result.c in
    some_if c.new.result _ _ _ c.new.ensures.cases (λ cell is. whole ∙ ap cell_bytes (sym is))

pub returns-clause-only : goal.returns-clause-only
returns-clause-only g c r h e =
    let whole = sym (take-append-drop (4 * g.row.D) c.args.b.now) ∙ (λ i. sym c.split_at.ensures.front i ++ sym c.split_at.ensures.back i)
    ∙ (λ i. sym c.point_of-lo.ensures i ++ sym c.point_of-hi.ensures i) in
    let same = cell_read g.row.D c.args.b.now c.point_of-lo.result.c c.point_of-hi.result.c r c.are_coordinates.ensures.long c.are_coordinates.ensures.fit
    c.are_coordinates-2.ensures.long c.are_coordinates-2.ensures.fit whole h e in
    some_and c.new.result _ _ _ c.new.ensures.cases
    (λ none. true≢false (sym h.ordered ∙ (λ i. all_le (sym same.0 i) (sym same.1 i)) ∙ none))
    (λ cell is. is ∙ (λ i. record { lo = same.0 i; hi = same.1 i }))
