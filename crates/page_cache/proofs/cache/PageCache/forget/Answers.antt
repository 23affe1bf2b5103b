use Rattle.std.proofs.Common.{◌∙◌, ap}
use Rattle.std.specs.Map.{keys_of}
use Rattle.page_cache.specs.Cache.{Keeps, KeepsDead, IsKept, KeepsFile, Agrees, order_of}
use Rattle.page_cache.specs.Keys.{Kept, page_key, leaf_part}
use Rattle.page_cache.proofs.TakenOut.{keys_filtered}
use Rattle.page_cache.proofs.CachePages.{keeps_fewer, dead_fewer, agrees_fewer, valid_fewer, others_fewer, others_gone, others_stay}
use Rattle.page_cache.proofs.cache.PageCache.forget.Goals as goal

pub returns-clause-gone : goal.returns-clause-gone
unfolding Keeps IsKept KeepsFile
returns-clause-gone c = λ k.
    others_gone c.args.id c.args.self.now.pages.entries c.remove_pages.new.pages.entries c.remove_pages.ensures.others k.0 k.1.1.0 k.1.1.1

pub returns-clause-order : goal.returns-clause-order
unfolding order_of
returns-clause-order c = ap (λ (l : Kept). keys_of l) c.remove_pages.ensures.others ∙ keys_filtered c.args.id c.args.self.now.pages.entries

pub returns-clause-others : goal.returns-clause-others
unfolding Keeps
returns-clause-others c = others_stay c.args.id c.args.self.now.pages.entries c.remove_pages.new.pages.entries c.remove_pages.ensures.others

pub returns-clause-marks : goal.returns-clause-marks
unfolding KeepsDead
returns-clause-marks c = λ i n at len bytes.
    dead_fewer c.args.self.now.pages.entries c.remove_pages.new.pages.entries (page_key i n) (leaf_part at len) bytes
    (others_fewer c.args.id c.args.self.now.pages.entries c.remove_pages.new.pages.entries c.remove_pages.ensures.others)

pub returns-clause-fewer : goal.returns-clause-fewer
unfolding Keeps IsKept KeepsFile
returns-clause-fewer c = λ i k. (
  k.0,
  (
    k.1.0,
    keeps_fewer c.args.self.now.pages.entries c.remove_pages.new.pages.entries (page_key i k.0) k.1.0
        (others_fewer c.args.id c.args.self.now.pages.entries c.remove_pages.new.pages.entries c.remove_pages.ensures.others) k.1.1,
  ),
)

pub returns-clause-agrees : goal.returns-clause-agrees
unfolding Keeps Agrees
returns-clause-agrees c = λ files. agrees_fewer files c.args.self.now.pages.entries c.remove_pages.new.pages.entries
    (others_fewer c.args.id c.args.self.now.pages.entries c.remove_pages.new.pages.entries c.remove_pages.ensures.others)

pub invariant_of-self : goal.invariant_of-self
invariant_of-self c = record {
  valid = valid_fewer c.args.self.now.pages.entries c.remove_pages.new.pages.entries
      (others_fewer c.args.id c.args.self.now.pages.entries c.remove_pages.new.pages.entries c.remove_pages.ensures.others) c.args.self.now.valid;
}
