use Rattle.std.proofs.Common.{ap, ◌∙◌, sym, inl, inr, Contains, subst}
use Rattle.std.specs.Map.{keys_of}
use Rattle.page_cache.specs.Keys.{Kept, HasKey, same_key}
use Rattle.lru.proofs.CallerLemmas.{Contains-remove_entry}
use Rattle.page_cache.proofs.KeptPages as kept
use Rattle.page_cache.proofs.kept.remove_page.Goals as goal

pub returns-clause-some : goal.returns-clause-some
returns-clause-some c = kept.taken_some c.args.key c.args.pages.now.entries c.pop.result c.page_of.result c.page_of.ensures c.pop.ensures.value

pub returns-clause-none : goal.returns-clause-none
returns-clause-none c = kept.taken_none c.args.key c.args.pages.now.entries c.pop.result c.page_of.result c.page_of.ensures c.pop.ensures.value

pub returns-clause-gone : goal.returns-clause-gone
returns-clause-gone c = λ has.
    kept.taken_gone c.args.key c.args.pages.now.entries c.len-kept.ensures.valid.0
    (subst (λ (l : Kept). HasKey l c.args.key) (ap (λ p. p.entries) c.pop.ensures.entries) has)

pub returns-clause-fewer : goal.returns-clause-fewer
returns-clause-fewer c = λ e has.
    Contains-remove_entry (same_key c.args.key) c.args.pages.now.entries e (subst (λ (l : Kept). Contains l e) (ap (λ p. p.entries) c.pop.ensures.entries) has)

pub returns-clause-order : goal.returns-clause-order
returns-clause-order c = ap (λ p. keys_of p.entries) c.pop.ensures.entries ∙ kept.keys_without c.args.key c.args.pages.now.entries

pub returns-clause-stays : goal.returns-clause-stays
returns-clause-stays c = λ e has. elim (kept.taken_stays c.args.key c.args.pages.now.entries e has) [
  | inl left ↦ inl (subst (λ (l : Kept). Contains l e) (sym (ap (λ p. p.entries) c.pop.ensures.entries)) left)
  | inr own ↦ inr own
]

pub returns-clause-same : goal.returns-clause-same
returns-clause-same c =
    kept.taken_same c.args.key c.args.pages.now.entries c.pop.new.self.entries c.pop.result c.page_of.result c.page_of.ensures c.pop.ensures.value
    (ap (λ p. p.entries) c.pop.ensures.entries)
