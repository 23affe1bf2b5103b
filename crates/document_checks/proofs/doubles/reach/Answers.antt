use Rattle.std.proofs.Common.{◌≡◌, ◌≤◌, min, max, take, subst, arith, All}
use Rattle.std.proofs.lemmas.Bool.Decides.{nat_tests}
use Rattle.std.proofs.lemmas.List.{take_all}
use Rattle.std.proofs.lemmas.List.Elements.{All-more, All-weaker}
use Rattle.point_codec.specs.declared.entries.Entry.{Entry}
use Rattle.document_checks.proofs.doubles.reach.Goals as goal

pub loop-entry-preserved : goal.loop-entry-preserved
loop-entry-preserved g c =
    let Before : Entry g.row.D → Type 0 = λ e. (c.loop-entry.least ≤ e.doc) × (e.doc ≤ c.loop-entry.greatest) in
    let After : Entry g.row.D → Type 0 = λ e. (c.min-least.result ≤ e.doc) × (e.doc ≤ c.max-greatest.result) in
    let low : c.min-least.result ≡ min c.loop-entry.least c.entry-item.result.doc = c.min-least.ensures in
    let high : c.max-greatest.result ≡ max c.loop-entry.greatest c.entry-item.result.doc = grind (arith, nat_tests, c.max-greatest.ensures) in
    let entries = c.args.entries.now in
    let at = c.loop-entry.entry-index in
    All-more After entries at c.entry-item.result c.loop-entry-test.true
    (All-weaker Before After (λ e h. (omega (arith, h.0), omega (arith, h.1))) (take at entries) c.loop-entry.invariant)
    (subst After c.entry-item.is (omega arith, omega arith))

pub returns : goal.returns
returns g c =
    let Between : Entry g.row.D → Type 0 = λ e. (c.loop-entry.least ≤ e.doc) × (e.doc ≤ c.loop-entry.greatest) in
    subst (All Between) (take_all c.loop-entry.entry-index c.args.entries.now (omega arith)) c.loop-entry.invariant
