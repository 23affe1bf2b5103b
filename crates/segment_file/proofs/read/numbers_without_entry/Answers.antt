use Rattle.std.proofs.Common.{◌∙◌, ap}
use Rattle.std.proofs.lemmas.Result.{err_from_is_err_and}
use Rattle.segment_file.specs.Segments.{IsHeadOf, IsSegment}
use Rattle.segment_file.specs.Sinks.{set_without_entries}
use Rattle.segment_file.proofs.read.numbers_without_entry.Goals as goal

pub returns-in_err-gather_all-clause-shown : goal.returns-in_err-gather_all-clause-shown
returns-in_err-gather_all-clause-shown g c = λ root t has.
    let e = err_from_is_err_and c.from_residual-in_err-gather_all.result c.from_residual-in_err-gather_all.ensures.1 in
    rw (e.1, e.2) (c.in_err-gather_all.ensures.shown root t has)

pub returns-in_err-gather_all-clause-whole : goal.returns-in_err-gather_all-clause-whole
returns-in_err-gather_all-clause-whole g c = λ told agrees items p.
    let e = err_from_is_err_and c.from_residual-in_err-gather_all.result c.from_residual-in_err-gather_all.ensures.1 in
    rw (e.1, e.2) (c.in_err-gather_all.ensures.whole told agrees items p)

pub unreachable-requires : goal.unreachable-requires
unreachable-requires g c = (rw c.in-Entries.is at c.in_ok-gather_all.ensures.added).1

pub returns-clause-spelled : goal.returns-clause-spelled
unfolding IsSegment IsHeadOf
returns-clause-spelled g c = λ told agrees p.
    let got = rw c.in-Numbers.is at (c.in_ok-gather_all.ensures.gathers told agrees p.root p.tree p.spells.has) in (
      got.items,
      record { head_is = p; root = p.root; tree = p.tree; has = p.spells.has; holds = got.holds },
      got.so ∙ ap (set_without_entries got.items) c.in_ok-numbers.ensures,
    )

pub returns-clause-live : goal.returns-clause-live
returns-clause-live g c =
    let (items, added) = rw c.in-Numbers.is at c.in_ok-gather_all.ensures.added in
    (items, added ∙ ap (set_without_entries items) c.in_ok-numbers.ensures)
