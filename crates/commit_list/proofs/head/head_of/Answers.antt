use Rattle.std.proofs.Common.{ℕ, List, ◌++◌, length, arith, sym, ap, ◌∙◌}
use Rattle.byte_cursor.specs.Cursor.{cursor_rest}
use Rattle.commit_list.specs.declared.head.Layout.{Layout}
use Rattle.commit_list.specs.Layout.{magic, spell_numbers, given_length}
use Rattle.commit_list.proofs.Heads.{head-parts, numbers-length, magic_unique}
use Rattle.commit_list.proofs.head.head_of.Goals as goal

pub returns-in_err-layout-clause-none : goal.returns-in_err-layout-clause-none
returns-in_err-layout-clause-none c =
    rw c.from_residual.ensures
    (λ h rest e. c.in_err-layout.ensures.other h.layout (spell_numbers h ++ rest) (c.new-cursor.ensures ∙ e ∙ head-parts h rest))

pub returns-in_err-head-clause-none : goal.returns-in_err-head-clause-none
returns-in_err-head-clause-none c =
    rw c.from_residual-in_err-head.ensures
    (λ h rest e.
    let same = magic_unique c.in_ok-layout.layout h.layout (cursor_rest c.take_layout.new.cursor) (spell_numbers h ++ rest)
    (sym c.in_ok-layout.ensures.taken ∙ c.new-cursor.ensures ∙ e ∙ head-parts h rest) in
    let short = c.in_err-head.ensures.short in
    omega (arith, short, ap length same.1, numbers-length h rest, ap given_length same.0))

pub returns-clause-some : goal.returns-clause-some
returns-clause-some c =
    let h = c.in_ok-head.head in
    sym c.new-cursor.ensures ∙ c.in_ok-layout.ensures.taken
    ∙ ap (λ (l : Layout). magic l ++ cursor_rest c.take_layout.new.cursor) (sym c.in_ok-head.ensures.layout)
    ∙ ap (λ (r : List ℕ). magic h.layout ++ r) (c.in_ok-head.ensures.taken ∙ ap (λ (r : List ℕ). spell_numbers h ++ r) (sym c.rest.ensures))
    ∙ sym (head-parts h c.rest.result.now)
