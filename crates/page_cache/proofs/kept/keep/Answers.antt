use Rattle.std.proofs.Common.{ap, ◌∙◌, inl, subst, Contains}
use Rattle.lru.specs.LruCache.{put_entries}
use Rattle.page_cache.specs.Keys.{KeptData, Kept, fresh, same_key}
use Rattle.page_cache.proofs.KeptPages as kept
use Rattle.page_cache.proofs.kept.keep.Goals as goal

pub returns-clause-kept : goal.returns-clause-kept
returns-clause-kept c = kept.keep_kept c.args.key c.args.pages.now.entries c.put.new.self.entries c.args.pages.now.cap (fresh c.args.page)
    (ap (λ p. p.entries) c.in_ok-put.ensures.entries
    ∙ ap (λ (v : KeptData). put_entries same_key c.args.pages.now c.args.key v) c.new.ensures
    ∙ kept.put_missing c.args.key c.args.pages.now (fresh c.args.page) c.requires)

pub returns-clause-one : goal.returns-clause-one
returns-clause-one c = kept.keep_one c.args.key c.args.pages.now.entries c.put.new.self.entries c.args.pages.now.cap (fresh c.args.page)
    (ap (λ p. p.entries) c.in_ok-put.ensures.entries
    ∙ ap (λ (v : KeptData). put_entries same_key c.args.pages.now c.args.key v) c.new.ensures
    ∙ kept.put_missing c.args.key c.args.pages.now (fresh c.args.page) c.requires)

pub returns-clause-first : goal.returns-clause-first
returns-clause-first c = kept.keep_first c.args.key c.args.pages.now.entries c.put.new.self.entries c.args.pages.now.cap (fresh c.args.page)
    (ap (λ p. p.entries) c.in_ok-put.ensures.entries
    ∙ ap (λ (v : KeptData). put_entries same_key c.args.pages.now c.args.key v) c.new.ensures
    ∙ kept.put_missing c.args.key c.args.pages.now (fresh c.args.page) c.requires)

pub returns-in_err-put-clause-one : goal.returns-in_err-put-clause-one
returns-in_err-put-clause-one c = λ e has. inl (subst (λ (l : Kept). Contains l e) (ap (λ p. p.entries) c.in_err-put.ensures.err) has)
