use Rattle.std.proofs.Common.{ℕ, List, drop, ap, ◌∙◌}
use Rattle.std.specs.Prelude.{◌==◌, slice_index}
use Rattle.script_lang.proofs.Boundaries.{boundary_behind}
use Rattle.script_lang.proofs.words.begins_with_at.Goals as goal

pub split_at-requires : goal.split_at-requires
split_at-requires c = boundary_behind c.args.text.now c.blanks.result c.utf8.text c.blanks.ensures.value

pub returns : goal.returns
returns c =
    c.is_at.ensures ∙ ap (λ (w : List ℕ). slice_index w 0 == 64) (c.split_at.ensures.back ∙ ap (λ (k : ℕ). drop k c.args.text.now) c.blanks.ensures.value)
