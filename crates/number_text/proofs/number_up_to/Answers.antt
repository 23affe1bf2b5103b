use Rattle.std.proofs.Common.{◌+◌, ◌*◌, ◌<◌, length, get_or, drop, arith, sym, ◌∙◌}
use Rattle.std.proofs.lemmas.List.{at_drop_more, at_drop_all}
use Rattle.std.proofs.lemmas.Bool.Decides.{nat_tests}
use Rattle.number_text.proofs.Digits.{number_after, number_after-above, number_after-other, number_after-digit}
use Rattle.number_text.proofs.Digits.{number_after-end, number_up_to-after, number_up_to-none, number_up_to-empty}
use Rattle.number_text.proofs.number_up_to.Goals as goal

pub returns-then-not-is_ascii_digit-clause-value : goal.returns-then-not-is_ascii_digit-clause-value
returns-then-not-is_ascii_digit-clause-value c =
    let b = c.args.b.now in
    let other = number_after-other c.args.limit c.loop-c.value (get_or b c.loop-c.c-index 0) (drop (c.loop-c.c-index + 1) b)
    (sym c.if-not-is_ascii_digit.ensures.value) in
    sym (number_up_to-none c.args.limit b (omega arith)
    (sym c.loop-c.invariant.same ∙ at_drop_more (number_after c.args.limit c.loop-c.value) b c.loop-c.c-index 0 c.loop-c-test.true ∙ other))

pub returns-then-value-from-clause-value : goal.returns-then-value-from-clause-value
returns-then-value-from-clause-value c =
    let b = c.args.b.now in
    let rest = drop (c.loop-c.c-index + 1) b in
    let next = c.loop-c.value * 10 + c.from.result in
    let digit =
    number_after-digit c.args.limit c.loop-c.value (get_or b c.loop-c.c-index 0) next rest (sym c.if-not-is_ascii_digit.ensures.value) (omega arith) in
    sym (number_up_to-none c.args.limit b (omega arith)
    (sym c.loop-c.invariant.same ∙ at_drop_more (number_after c.args.limit c.loop-c.value) b c.loop-c.c-index 0 c.loop-c-test.true
    ∙ digit ∙ number_after-above c.args.limit next rest (omega arith)))

pub returns-then-is_empty-clause-value : goal.returns-then-is_empty-clause-value
returns-then-is_empty-clause-value c =
    sym (number_up_to-empty c.args.limit c.args.b.now (grind (arith, nat_tests)))

pub returns-else-is_empty-clause-value : goal.returns-else-is_empty-clause-value
returns-else-is_empty-clause-value c =
    let b = c.args.b.now in
    let all = at_drop_all (number_after c.args.limit c.loop-c.value) b c.loop-c.c-index c.loop-c-test.false in
    let filled : 0 < length b = grind (arith, nat_tests) in
    sym (number_up_to-after c.args.limit b filled ∙ sym c.loop-c.invariant.same ∙ all
    ∙ number_after-end c.args.limit c.loop-c.value c.loop-c.invariant.small)
