use Rattle.std.proofs.Common.{max, take, sym, ap, ◌∙◌, arith}
use Rattle.std.specs.List.{fold}
use Rattle.std.proofs.lemmas.List.Sums.{fold_more}
use Rattle.leaf_codec.specs.Entries.{docs_of}
use Rattle.leaf_codec.proofs.Items.{get_or-docs, length-docs, docs_all}
use Rattle.leaf_codec.proofs.write_numbers.greatest.Goals as goal

pub loop-entry-preserved : goal.loop-entry-preserved
loop-entry-preserved g c =
    let docs = docs_of c.args.entries.now in
    let i = c.loop-entry.entry-index in
    let e = c.entry-item.result in
    c.max-greatest.ensures
    ∙ ap (λ m. max m e.doc) c.loop-entry.invariant
    ∙ ap (λ n. max (fold max 0 (take i docs)) n) (sym (get_or-docs c.args.entries.now i e 0 c.loop-entry-test.true c.entry-item.is))
    ∙ sym (fold_more max 0 docs i 0 (omega (arith, length-docs c.args.entries.now, c.loop-entry-test.true)))

pub returns : goal.returns
returns g c =
    c.loop-entry.invariant
    ∙ ap (fold max 0) (docs_all c.args.entries.now c.loop-entry.entry-index c.loop-entry-test.false)
