use Rattle.std.proofs.Common.{ap, inl, inr}
use Rattle.page_cache.specs.Cache.{Keeps, KeepsDead, order_of, room_of}
use Rattle.page_cache.specs.Keys.{page_key, leaf_part}
use Rattle.page_cache.specs.declared.key.PageKey.{PageKey}
use Rattle.page_cache.specs.declared.leaf_part.LeafPart.{LeafPart}
use Rattle.page_cache.proofs.CachePages.{valid_marked}
use Rattle.page_cache.proofs.cache.PageCache.mark_dead.Goals as goal

pub returns-clause-dead : goal.returns-clause-dead
unfolding Keeps KeepsDead
returns-clause-dead c = λ i n at len bytes known. elim (c.mark_part.ensures.marks.dead (page_key i n) (leaf_part at len) bytes known) [
  | inl was ↦ inl was
  | inr this ↦ inr (
    this.2,
    ap (λ (k : PageKey). k.id) this.0,
    ap (λ (k : PageKey). k.number) this.0,
    ap (λ (p : LeafPart). p.offset) this.1,
    ap (λ (p : LeafPart). p.length) this.1,
  )
]

pub returns-clause-keeps : goal.returns-clause-keeps
unfolding Keeps
returns-clause-keeps c = λ i n bytes. (c.mark_part.ensures.marks.was (page_key i n) bytes, c.mark_part.ensures.marks.stays (page_key i n) bytes)

pub returns-clause-order : goal.returns-clause-order
unfolding order_of
returns-clause-order c = c.mark_part.ensures.marks.order

pub returns-clause-room : goal.returns-clause-room
unfolding room_of
returns-clause-room c = c.mark_part.ensures.room

pub invariant_of-self : goal.invariant_of-self
invariant_of-self c = record {
  valid = valid_marked (page_key c.args.id c.args.number) (leaf_part c.args.offset c.args.length) c.args.self.now.pages.entries
      c.mark_part.new.pages.entries c.mark_part.ensures.marks c.args.self.now.valid;
}
