use Rattle.std.proofs.Common.{◌≡◌, Some, refl, sym, ap, ◌∙◌}
use Rattle.std.specs.Map.{lookup}
use Rattle.std.specs.Option.{option_copied_mut}
use Rattle.page_cache.specs.Keys.{same_key}
use Rattle.page_cache.proofs.Marks.{marks_one}
use Rattle.page_cache.proofs.kept.mark_part.Goals as goal

pub returns-in-Some-clause-marks : goal.returns-in-Some-clause-marks
returns-in-Some-clause-marks c =
    let found : lookup (same_key c.args.key) c.args.pages.now.entries ≡ Some c.in-Some.page.now =
    sym c.peek_mut.ensures.value ∙ ap option_copied_mut c.in-Some.is in
    marks_one c.args.key c.args.part c.in-Some.page.now c.mark.new.self c.mark.ensures.page c.mark.ensures.dead c.args.pages.now.entries _ found refl
