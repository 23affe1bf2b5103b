use Rattle.std.proofs.Common.{sym, ap, ◌∙◌, inl, inr, subst, IfSome}
use Rattle.outer_io.specs.declared.file_name.FileName.{FileName}
use Rattle.page_file.specs.Page.{IsPage}
use Rattle.page_cache.specs.FilePages.{kind_of, number_of}
use Rattle.page_cache.specs.Cache.{Keeps, KeepsDead, IsKept, KeepsFile, Agrees, order_of}
use Rattle.page_cache.proofs.CachePages.{keeps_fewer, dead_fewer, agrees_fewer, valid_fewer, taken_valid, taken_order}
use Rattle.page_cache.specs.Keys.{page_key, leaf_part}
use Rattle.page_cache.specs.declared.key.PageKey.{PageKey}
use Rattle.outer_io.specs.declared.file_name.FileName.TheVariants.{Segment}
use Rattle.page_cache.proofs.cache.PageCache.remove.Goals as goal

pub returns-clause-valid : goal.returns-clause-valid
returns-clause-valid c =
    subst (λ (f : FileName). IfSome c.remove_page.result (λ p. IsPage (kind_of f) (number_of f) c.args.number p.value.b)) (sym c.in-Segment.is)
    (taken_valid c.args.self.now.pages.entries c.in-Segment.id c.args.number c.remove_page.result c.args.self.now.valid c.remove_page.ensures.some)

pub returns-clause-marks : goal.returns-clause-marks
unfolding KeepsDead
returns-clause-marks c = λ i n at len bytes.
    dead_fewer c.args.self.now.pages.entries c.remove_page.new.pages.entries (page_key i n) (leaf_part at len) bytes c.remove_page.ensures.fewer

pub returns-clause-fewer : goal.returns-clause-fewer
unfolding Keeps IsKept KeepsFile
returns-clause-fewer c = λ i k.
    (k.0, (k.1.0, keeps_fewer c.args.self.now.pages.entries c.remove_page.new.pages.entries (page_key i k.0) k.1.0 c.remove_page.ensures.fewer k.1.1))

pub returns-clause-agrees : goal.returns-clause-agrees
unfolding Keeps Agrees
returns-clause-agrees c = λ files. agrees_fewer files c.args.self.now.pages.entries c.remove_page.new.pages.entries c.remove_page.ensures.fewer

pub returns-clause-refused : goal.returns-clause-refused
unfolding order_of
returns-clause-refused c = taken_order c.args.self.now.pages.entries c.remove_page.new.pages.entries c.remove_page.result c.remove_page.ensures.same

pub returns-clause-stays : goal.returns-clause-stays
unfolding Keeps
returns-clause-stays c = λ i n bytes k. elim (c.remove_page.ensures.stays (page_key i n, k.0) k.1) [
  | inl left ↦ inl (k.0, left, k.2)
  | inr own ↦ inr (c.in-Segment.is ∙ ap (λ (key : PageKey). Segment key.id) (sym own), ap (λ (key : PageKey). key.number) (sym own))
]

pub invariant_of-self : goal.invariant_of-self
invariant_of-self c =
    record { valid = valid_fewer c.args.self.now.pages.entries c.remove_page.new.pages.entries c.remove_page.ensures.fewer c.args.self.now.valid }
