use Rattle.std.proofs.Common.{◌++◌, ap, ◌∙◌}
use Rattle.std.specs.Prelude.{codes}
use Rattle.export_points.specs.Exported.{columns_text}
use Rattle.export_points.proofs.Pieces.{column_said}
use Rattle.export_points.proofs.texts.put_columns.Goals as goal

pub loop-i-preserved : goal.loop-i-preserved
loop-i-preserved c =
    let front = c.args.text.now.items in
    let letter = c.args.letter.now in
    let i = c.loop-i.i in
    c.in_ok-extend_from_slice-3.ensures.items
    ∙ ap (λ xs. xs ++ c.as_bytes.result.now)
    (c.in_ok-extend_from_slice-2.ensures.items ∙ ap (λ xs. xs ++ letter)
    (c.in_ok-extend_from_slice.ensures.items ∙ ap (λ xs. xs ++ codes ",") c.loop-i.invariant))
    ∙ ap (λ xs. (((front ++ columns_text letter i) ++ codes ",") ++ letter) ++ xs) (c.as_bytes.ensures.value ∙ c.format.ensures.text)
    ∙ column_said front letter i
