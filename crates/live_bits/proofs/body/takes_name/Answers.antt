use Rattle.std.proofs.Common.{List, ℕ, ap, subst, ◌∙◌, ◌++◌, ◌≢◌}
use Rattle.std.specs.Int.{w64, to_be_bytes}
use Rattle.std.specs.Prelude.{codes}
use Rattle.std.proofs.lemmas.Bool.{OnFalse_from, OnFalse_at}
use Rattle.byte_cursor.specs.Cursor.{cursor_rest}
use Rattle.live_bits.proofs.Heads.{second_other, third_other}
use Rattle.live_bits.proofs.body.takes_name.Goals as goal

pub returns-then-not-take_exact-2-clause-other : goal.returns-then-not-take_exact-2-clause-other
returns-then-not-take_exact-2-clause-other c =
    second_other (codes "BKDPLIV1") (to_be_bytes w64 c.args.segment) (to_be_bytes w64 c.args.generation) (cursor_rest c.args.cursor.now)
    (cursor_rest c.take_exact.new.self)
    c.if-not-take_exact.ensures.taken
    (subst (λ (word : List ℕ). (x : List ℕ) → cursor_rest c.take_exact.new.self ≢ word ++ x) c.to_be_bytes.ensures c.if-not-take_exact-2.ensures.other)

pub returns-clause-other : goal.returns-clause-other
returns-clause-other c =
    OnFalse_from c.take_exact-3.result _
    (λ e. third_other (codes "BKDPLIV1") (to_be_bytes w64 c.args.segment) (to_be_bytes w64 c.args.generation) (cursor_rest c.args.cursor.now)
    (cursor_rest c.take_exact.new.self) (cursor_rest c.take_exact-2.new.self)
    c.if-not-take_exact.ensures.taken
    (c.if-not-take_exact-2.ensures.taken ∙ ap (λ (word : List ℕ). word ++ cursor_rest c.take_exact-2.new.self) c.to_be_bytes.ensures)
    (subst (λ (word : List ℕ). (x : List ℕ) → cursor_rest c.take_exact-2.new.self ≢ word ++ x) c.to_be_bytes-2.ensures
    (OnFalse_at e c.take_exact-3.ensures.other)))
