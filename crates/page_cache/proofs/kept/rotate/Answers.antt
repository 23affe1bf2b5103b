use Rattle.std.proofs.Common.{sym, ap, ◌∙◌, ◌≡◌, option_map}
use Rattle.std.specs.Map.Iter.{deref_pair}
use Rattle.page_cache.specs.declared.key.PageKey.{PageKey}
use Rattle.page_cache.proofs.TakenOut as taken_out
use Rattle.page_cache.proofs.kept.rotate.Goals as goal

pub returns-then-key-id-clause-turned : goal.returns-then-key-id-clause-turned
returns-then-key-id-clause-turned c = λ front last e.
    let same : c.in-Some.last.now ≡ last.0 =
    taken_out.key_of_last (option_map deref_pair c.peek_lru.result) c.in-Some.last.now c.in-Some.field-0-1.now c.args.pages.now.entries front last
    c.peek_lru.ensures (ap (option_map deref_pair) c.in-Some.is) e in
    taken_out.turn_out c.args.id c.args.pages.now.entries c.pop_lru.new.self.entries front last (ap (λ p. p.entries) c.pop_lru.ensures.entries) e
    (ap (λ (k : PageKey). k.id) (sym same) ∙ c.if-key-id.true)

pub returns-else-key-id-clause-turned : goal.returns-else-key-id-clause-turned
returns-else-key-id-clause-turned c = λ front last e.
    let same : c.in-Some.last.now ≡ last.0 =
    taken_out.key_of_last (option_map deref_pair c.peek_lru.result) c.in-Some.last.now c.in-Some.field-0-1.now c.args.pages.now.entries front last
    c.peek_lru.ensures (ap (option_map deref_pair) c.in-Some.is) e in
    taken_out.turn_round c.args.id c.args.pages.now.entries c.promote.new.self.entries front last c.in-Some.last.now
    (ap (λ p. p.entries) c.promote.ensures.entries)
    same e
    c.len-kept.ensures.valid.0 (λ own. c.if-key-id.false (ap (λ (k : PageKey). k.id) same ∙ own))
