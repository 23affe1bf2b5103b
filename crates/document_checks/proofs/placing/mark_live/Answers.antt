use Rattle.std.proofs.Common.{◌≡◌, ◌+◌, ◌*◌, ◌/◌, ◌&&◌, ℕ, true, subst, sym, arith}
use Rattle.std.specs.Int.{w64, trailing_zeros}
use Rattle.live_bits.specs.LiveSet.{is_live}
use Rattle.document_checks.specs.Marks.{is_marked}
use Rattle.document_checks.proofs.LivePlaces.{IsMarked, found_there, joined_all, joined_before, marked_more, marked_none, once_all, once_before}
use Rattle.document_checks.proofs.placing.mark_live.Goals as goal

pub loop-at-init : goal.loop-at-init
loop-at-init c =
    subst (λ (n : ℕ). IsMarked c.args.marks.now c.args.marks.now c.args.live.now (64 * (n / 64))) (sym c.base-from.ensures.value)
    (marked_none c.args.marks.now c.args.live.now c.base-from.ensures.set)

pub loop-at-preserved : goal.loop-at-preserved
loop-at-preserved c =
    let w = c.mark_word-doubled in
    marked_more c.args.marks.now c.loop-at.marks c.args.live.now c.loop-at.at c.loop-at.invariant
    w.new.words c.word.result w.result c.word.ensures w.ensures.were w.ensures.after (omega arith)

pub returns-then-doubled-ne0-clause-once : goal.returns-then-doubled-ne0-clause-once
returns-then-doubled-ne0-clause-once c n lt =
    let w = c.mark_word-doubled in
    once_before c.args.marks.now c.loop-at.marks c.args.live.now c.loop-at.at c.loop-at.invariant
    w.new.words c.word.result w.result c.word.ensures w.ensures.were w.ensures.after (omega arith) (omega arith) n
    (omega (arith, lt, c.min-then-doubled-ne0.ensures))

pub returns-then-doubled-ne0-clause-found : goal.returns-then-doubled-ne0-clause-found
returns-then-doubled-ne0-clause-found c lt =
    let w = c.mark_word-doubled in
    let is : 64 * c.loop-at.at + trailing_zeros w64 w.result ≡ c.min-then-doubled-ne0.result = omega (arith, lt, c.min-then-doubled-ne0.ensures) in
    subst (λ (n : ℕ). (is_marked c.args.marks.now n && is_live c.args.live.now n) ≡ true) is
    (found_there c.args.marks.now c.loop-at.marks c.args.live.now c.loop-at.at c.loop-at.invariant
    w.new.words c.word.result w.result c.word.ensures w.ensures.were w.ensures.after (omega arith) (omega arith))

pub returns-then-doubled-ne0-clause-after : goal.returns-then-doubled-ne0-clause-after
returns-then-doubled-ne0-clause-after c n lt =
    let w = c.mark_word-doubled in
    joined_before c.args.marks.now c.loop-at.marks c.args.live.now c.loop-at.at c.loop-at.invariant
    w.new.words c.word.result w.result c.word.ensures w.ensures.were w.ensures.after (omega arith) (omega arith) n
    (omega (arith, lt, c.min-then-doubled-ne0.ensures))

pub returns-clause-once : goal.returns-clause-once
returns-clause-once c =
    once_all c.args.marks.now c.loop-at.marks c.args.live.now c.loop-at.at c.args.limit c.base-from.ensures.set c.loop-at.invariant
    (omega (arith, c.min.ensures, c.base.ensures.value, c.span.ensures.value, c.div_ceil-to.ensures))

pub returns-clause-after : goal.returns-clause-after
returns-clause-after c =
    joined_all c.args.marks.now c.loop-at.marks c.args.live.now c.loop-at.at c.args.limit c.base-from.ensures.set c.loop-at.invariant
    (omega (arith, c.min.ensures, c.base.ensures.value, c.span.ensures.value, c.div_ceil-to.ensures))
