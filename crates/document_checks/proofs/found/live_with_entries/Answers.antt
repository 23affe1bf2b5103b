use Rattle.std.proofs.Common.{◌≡◌, ℕ, List, not, eqb, filter, length, take, sym, ap, ◌∙◌, arith}
use Rattle.std.proofs.lemmas.List.{take_all}
use Rattle.point_codec.specs.declared.entries.Entry.{Entry}
use Rattle.live_bits.specs.LiveSet.{LiveSet}
use Rattle.document_checks.proofs.WithEntries.{bare, bare_none, bare_more, count_found}
use Rattle.document_checks.proofs.Alone.{alone_all, alone_more, alone_none}
use Rattle.document_checks.proofs.found.live_with_entries.Goals as goal

pub loop-entry-init : goal.loop-entry-init
loop-entry-init g c = record {
  left = ap (λ (s : LiveSet). s.live) c.in_ok-left.ensures ∙ sym (bare_none g.row.D c.args.live.now.live);
  alone = alone_none g.row.D;
}

pub loop-entry-preserved : goal.loop-entry-preserved
loop-entry-preserved g c =
    let numbers = c.args.live.now.live in
    let entries = c.args.entries.now in
    let at = c.loop-entry.entry-index in
    record {
      left =
          ap (λ (s : LiveSet). s.live) c.clear-alone.ensures.after
          ∙ ap (λ (ns : List ℕ). filter (λ n. not (eqb n c.entry-item.result.doc)) ns) c.loop-entry.invariant.left
          ∙ ap (λ (e : Entry g.row.D). filter (λ n. not (eqb n e.doc)) (bare (take at entries) numbers)) c.entry-item.is
          ∙ bare_more numbers entries at c.entry-item.result c.loop-entry-test.true;
      alone =
          alone_more numbers entries at c.entry-item.result c.loop-entry.alone c.clear-alone.result c.loop-entry.left c.loop-entry-test.true c.entry-item.is
          c.loop-entry.invariant.left c.clear-alone.ensures.answer c.loop-entry.invariant.alone;
    }

pub overflow_sub-result : goal.overflow_sub-result
overflow_sub-result g c =
    let numbers = c.args.live.now.live in
    let entries = c.args.entries.now in
    let left : c.loop-entry.left.live ≡ bare entries numbers =
    c.loop-entry.invariant.left ∙ ap (λ (es : List (Entry g.row.D)). bare es numbers) (take_all c.loop-entry.entry-index entries (omega arith)) in
    omega (arith, ap (λ (ns : List ℕ). length ns) left, count_found numbers entries, c.live_count.ensures.value, c.live_count-2.ensures.value)

pub returns-clause-found : goal.returns-clause-found
returns-clause-found g c =
    let numbers = c.args.live.now.live in
    let entries = c.args.entries.now in
    let left : c.loop-entry.left.live ≡ bare entries numbers =
    c.loop-entry.invariant.left ∙ ap (λ (es : List (Entry g.row.D)). bare es numbers) (take_all c.loop-entry.entry-index entries (omega arith)) in
    omega (arith, ap (λ (ns : List ℕ). length ns) left, count_found numbers entries, c.live_count.ensures.value, c.live_count-2.ensures.value)

pub returns-clause-alone : goal.returns-clause-alone
returns-clause-alone g c = alone_all c.args.entries.now c.loop-entry.entry-index c.loop-entry.alone (omega arith) c.loop-entry.invariant.alone
