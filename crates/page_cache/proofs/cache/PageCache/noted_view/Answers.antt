use Rattle.std.proofs.Common.{sym, ap, subst, ◌∙◌}
use Rattle.page_file.specs.declared.page.PageBytes.{PageBytes}
use Rattle.page_file.specs.Page.{IsPage}
use Rattle.page_cache.specs.Cache.{Keeps, Agrees}
use Rattle.page_cache.specs.Keys.{page_key}
use Rattle.page_cache.proofs.cache.PageCache.noted_view.Goals as goal

pub of_valid-view-requires : goal.of_valid-view-requires
of_valid-view-requires c =
    subst (λ (p : PageBytes). IsPage 1 c.args.id c.args.number p.b) (sym c.bytes.ensures)
    (c.args.self.now.valid (page_key c.args.id c.args.number, c.kept_page-page.result.now) c.kept_page-page.ensures.kept)

pub returns-clause-bytes : goal.returns-clause-bytes
unfolding Keeps
returns-clause-bytes c = (
  c.kept_page-page.result.now,
  c.kept_page-page.ensures.kept,
  sym (ap (λ (p : PageBytes). p.b) c.bytes.ensures) ∙ sym c.of_valid-view.ensures.bytes,
)

pub returns-clause-file : goal.returns-clause-file
unfolding Keeps Agrees
returns-clause-file c = λ files agrees.
    agrees c.args.id c.args.number c.of_valid-view.result.bytes.now.b
    (c.kept_page-page.result.now, c.kept_page-page.ensures.kept, sym (ap (λ (p : PageBytes). p.b) c.bytes.ensures) ∙ sym c.of_valid-view.ensures.bytes)

pub returns-clause-only : goal.returns-clause-only
unfolding Keeps
returns-clause-only c = λ bytes kept.
    c.kept_page-page.ensures.only bytes kept ∙ sym (ap (λ (p : PageBytes). p.b) c.bytes.ensures) ∙ sym c.of_valid-view.ensures.bytes
