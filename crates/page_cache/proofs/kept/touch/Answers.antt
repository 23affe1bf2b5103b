use Rattle.std.proofs.Common.{ap}
use Rattle.page_cache.proofs.KeptPages as kept
use Rattle.page_cache.proofs.kept.touch.Goals as goal

pub returns-clause-found : goal.returns-clause-found
returns-clause-found c =
    kept.touch_found c.args.key c.args.pages.now.entries c.promote.new.self.entries c.promote.result c.promote.ensures.value
    (ap (λ p. p.entries) c.promote.ensures.entries)

pub returns-clause-missing : goal.returns-clause-missing
returns-clause-missing c =
    kept.touch_missing c.args.key c.args.pages.now.entries c.promote.new.self.entries c.promote.result c.promote.ensures.value
    (ap (λ p. p.entries) c.promote.ensures.entries)

pub returns-clause-fewer : goal.returns-clause-fewer
returns-clause-fewer c =
    kept.touch_fewer c.args.key c.args.pages.now.entries c.promote.new.self.entries c.promote.result c.promote.ensures.value
    (ap (λ p. p.entries) c.promote.ensures.entries)

pub returns-clause-more : goal.returns-clause-more
returns-clause-more c =
    kept.touch_more c.args.key c.args.pages.now.entries c.promote.new.self.entries c.promote.result c.promote.ensures.value
    (ap (λ p. p.entries) c.promote.ensures.entries)

pub returns-clause-first : goal.returns-clause-first
returns-clause-first c =
    kept.touch_first c.args.key c.args.pages.now.entries c.promote.new.self.entries c.promote.result c.promote.ensures.value
    (ap (λ p. p.entries) c.promote.ensures.entries)

pub returns-clause-same : goal.returns-clause-same
returns-clause-same c =
    kept.touch_same c.args.key c.args.pages.now.entries c.promote.new.self.entries c.promote.result c.promote.ensures.value
    (ap (λ p. p.entries) c.promote.ensures.entries)
