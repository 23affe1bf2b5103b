use Rattle.std.proofs.Common.{min, get_or, take, sym, ap, ◌∙◌, arith}
use Rattle.std.specs.List.{fold}
use Rattle.std.proofs.lemmas.List.Sums.{fold_more}
use Rattle.point_codec.specs.declared.entries.Entry.{Entry}
use Rattle.leaf_codec.specs.Entries.{docs_of}
use Rattle.leaf_codec.proofs.Items.{get_or-docs, length-docs, docs_all}
use Rattle.leaf_codec.proofs.NumbersLemmas.{least_is}
use Rattle.leaf_codec.proofs.write_numbers.least.Goals as goal

pub loop-entry-init : goal.loop-entry-init
loop-entry-init g c =
    ap (λ (e : Entry g.row.D). e.doc) (sym c.index-entries-0.is)
    ∙ sym (get_or-docs c.args.entries.now 0 c.index-entries-0.result 0 c.requires.some c.index-entries-0.is)

pub loop-entry-preserved : goal.loop-entry-preserved
loop-entry-preserved g c =
    let docs = docs_of c.args.entries.now in
    let i = c.loop-entry.entry-index in
    let e = c.entry-item.result in
    let first = get_or docs 0 0 in
    c.min-least.ensures
    ∙ ap (λ m. min m e.doc) c.loop-entry.invariant
    ∙ ap (λ n. min (fold min first (take i docs)) n) (sym (get_or-docs c.args.entries.now i e 0 c.loop-entry-test.true c.entry-item.is))
    ∙ sym (fold_more min first docs i 0 (omega (arith, length-docs c.args.entries.now, c.loop-entry-test.true)))

pub returns : goal.returns
returns g c =
    let docs = docs_of c.args.entries.now in
    c.loop-entry.invariant
    ∙ ap (fold min (get_or docs 0 0)) (docs_all c.args.entries.now c.loop-entry.entry-index c.loop-entry-test.false)
    ∙ least_is docs (omega (arith, length-docs c.args.entries.now, c.requires.some))
