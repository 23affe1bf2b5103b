use Rattle.std.proofs.Common.{refl, sym, ap, ◌∙◌}
use Rattle.std.specs.Option.{option_copied}
use Rattle.std.proofs.lemmas.Map.Views.{Contains-from_lookup}
use Rattle.page_cache.proofs.KeptPages as kept
use Rattle.page_cache.proofs.kept.has_dead_part.Goals as goal

pub returns-in-Some : goal.returns-in-Some
returns-in-Some c told = (
  c.in-Some.page.now.page.value.b,
  (
    c.in-Some.page.now,
    Contains-from_lookup kept.key_true c.args.key c.in-Some.page.now c.args.pages.now.entries (sym c.peek.ensures ∙ ap option_copied c.in-Some.is),
    refl,
    c.has_dead.ensures told,
  ),
)
