use Rattle.std.proofs.Common.{◌≡◌, Some, refl, sym, ap, ◌∙◌}
use Rattle.std.specs.Map.{lookup, set_value}
use Rattle.std.specs.Option.{option_copied_mut}
use Rattle.std.proofs.lemmas.Map.Views.{Contains-from_lookup}
use Rattle.page_cache.specs.Keys.{KeptData, same_key}
use Rattle.page_cache.proofs.KeptPages.{key_true}
use Rattle.page_cache.proofs.Notes.{value_again}
use Rattle.page_cache.proofs.kept.add_note.Goals as goal

pub add-requires : goal.add-requires
add-requires c = c.requires c.in-Some.page.now.page.value.b (
  c.in-Some.page.now,
  Contains-from_lookup key_true c.args.key c.in-Some.page.now c.args.pages.now.entries (sym c.peek_mut.ensures.value ∙ ap option_copied_mut c.in-Some.is),
  refl,
)

pub returns-in-Some : goal.returns-in-Some
returns-in-Some c =
    let found : lookup (same_key c.args.key) c.args.pages.now.entries ≡ Some c.in-Some.page.now =
    sym c.peek_mut.ensures.value ∙ ap option_copied_mut c.in-Some.is in
    let same = ap (λ (p : KeptData). set_value (same_key c.args.key) c.args.pages.now.entries p) c.add.ensures
    ∙ value_again c.args.key c.args.pages.now.entries c.in-Some.page.now found in
    λ i. record { entries = same i; cap = c.args.pages.now.cap }
