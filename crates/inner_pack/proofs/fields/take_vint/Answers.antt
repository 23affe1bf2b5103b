use Rattle.std.proofs.Common.{◌≡◌, ◌∙◌, ◌<◌, ◌^◌, ◌++◌, ℕ, List, sym, ap, rules}
use Rattle.byte_cursor.specs.Vint.{vint}
use Rattle.byte_cursor.proofs.SpelledVints.{begins, taken}
use Rattle.inner_pack.proofs.fields.take_vint.Goals as goal

pub returns-in_default-clause-only : goal.returns-in_default-clause-only
returns-in_default-clause-only c n rest lt e =
    c.in_default.not-Ok n ((c.take_vint.ensures.taken n rest lt (begins c.new-cursor.result.bytes.now rest n lt (c.new-cursor.ensures ∙ e))).0)

pub returns-clause-found : goal.returns-clause-found
returns-clause-found c =
    let n = c.in-Ok.n in
    let lt : n < 2 ^ 32 = search rules in
    sym c.new-cursor.ensures ∙ taken c.new-cursor.result.bytes.now c.take_vint.new.self.bytes.now n lt c.in-Ok.ensures.ok
    ∙ ap (λ (t : List ℕ). vint n ++ t) (sym c.rest.ensures)

pub returns-clause-only : goal.returns-clause-only
returns-clause-only c n rest lt e =
    let t = c.take_vint.ensures.taken n rest lt (begins c.new-cursor.result.bytes.now rest n lt (c.new-cursor.ensures ∙ e)) in
    let same : c.in-Ok.n ≡ n = cc (t.0, c.in-Ok.is) in
    (same, c.rest.ensures ∙ t.1)
