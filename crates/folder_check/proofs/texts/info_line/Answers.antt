use Rattle.std.proofs.Common.{◌∙◌, List, ℕ, ◌++◌, ap, refl, length}
use Rattle.std.specs.Prelude.{codes}
use Rattle.folder_check.specs.Informed.{info_text}
use Rattle.folder_check.proofs.Lines.{line_more}
use Rattle.folder_check.proofs.texts.info_line.Goals as goal

pub returns : goal.returns
unfolding info_text
returns c =
    c.in_ok-extend_from_slice.ensures.items
    ∙ ap (λ (xs : List ℕ). xs ++ codes "\n")
    (line_more _ _ _ (codes " bytes ") _ _ c.in_ok-put_number-7.ensures refl
    (line_more _ _ _ (codes " segments ") _ _ c.in_ok-put_number-6.ensures (ap length c.listed.ensures.value)
    (line_more _ _ _ (codes " live ") _ _ c.in_ok-put_number-5.ensures refl
    (line_more _ _ _ (codes " points ") _ _ c.in_ok-put_number-4.ensures (c.from-4.ensures ∙ c.points_given.ensures.value)
    (line_more _ _ _ (codes " next ") _ _ c.in_ok-put_number-3.ensures (c.from-3.ensures ∙ c.next.ensures.value)
    (line_more _ _ _ (codes " leaf ") _ _ c.in_ok-put_number-2.ensures (c.from-2.ensures ∙ c.leaf_size.ensures.value)
    (line_more _ _ _ (codes "dims ") _ _ c.in_ok-put_number.ensures (c.from.ensures ∙ c.dims.ensures.value) c.new-line.ensures.items)))))))
