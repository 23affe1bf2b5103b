use Rattle.std.proofs.Common.{◌≡◌, ◌+◌, get_or, sym, ap, ◌∙◌, arith, below_more}
use Rattle.leaf_codec.specs.Entries.{docs_of}
use Rattle.leaf_codec.proofs.Items.{get_or-docs, length-docs}
use Rattle.leaf_codec.proofs.NumbersLemmas.{row_true, row_false}
use Rattle.leaf_codec.proofs.write_numbers.is_row.Goals as goal

pub loop-i-preserved : goal.loop-i-preserved
loop-i-preserved g c =
    let i = c.loop-i.i in
    below_more (λ k. get_or (docs_of c.args.entries.now) k 0 ≡ c.args.first + k) i c.loop-i.invariant
    (get_or-docs c.args.entries.now i c.index-entries-i.result 0 c.loop-i-test.true c.index-entries-i.is
    ∙ sym c.from.ensures ∙ c.if-from-i.false ∙ ap (λ n. n + i) c.from-in-loop-i.ensures)

pub returns-then-from-i : goal.returns-then-from-i
returns-then-from-i g c =
    let docs = docs_of c.args.entries.now in
    let i = c.loop-i.i in
    let at = get_or-docs c.args.entries.now i c.index-entries-i.result 0 c.loop-i-test.true c.index-entries-i.is in
    sym (row_false docs i (omega (arith, length-docs c.args.entries.now, c.loop-i-test.true)) (λ e.
    c.if-from-i.true (c.from.ensures ∙ sym at ∙ e ∙ ap (λ n. n + i) (sym (c.from-in-loop-i.ensures ∙ c.requires.least)))))

pub returns : goal.returns
returns g c =
    let docs = docs_of c.args.entries.now in
    sym (row_true c.args.first docs c.requires.least (λ k lt. c.loop-i.invariant k (omega (arith, length-docs c.args.entries.now, c.loop-i-test.false))))
