use Rattle.std.proofs.Common.{◌≡◌, sym, ap, ◌∙◌}
use Rattle.std.specs.Option.{option_copied}
use Rattle.std.proofs.lemmas.Map.Views.{Contains-from_lookup, lookup-from_Contains}
use Rattle.page_cache.specs.Keys.{KeptData}
use Rattle.page_cache.proofs.KeptPages as kept
use Rattle.page_cache.proofs.kept.kept_page.Goals as goal

pub unreachable-requires : goal.unreachable-requires
unreachable-requires c =
    kept.none_has c.args.key c.args.pages.now.entries
    (kept.none_of_value c.args.key c.args.pages.now.entries (sym c.peek.ensures ∙ ap option_copied c.in-None.is)) c.requires

pub returns-clause-only : goal.returns-clause-only
returns-clause-only c = λ bytes found.
    let here = lookup-from_Contains kept.key_equiv c.args.key found.0 c.args.pages.now.entries c.len-kept.ensures.valid.0 found.1 in
    let there = sym c.peek.ensures ∙ ap option_copied c.in-Some.is in
    let same : found.0 ≡ c.in-Some.page.now = cc in
    sym found.2 ∙ ap (λ (p : KeptData). p.page.value.b) same

pub returns-clause-kept : goal.returns-clause-kept
returns-clause-kept c =
    Contains-from_lookup kept.key_true c.args.key c.in-Some.page.now c.args.pages.now.entries (sym c.peek.ensures ∙ ap option_copied c.in-Some.is)
