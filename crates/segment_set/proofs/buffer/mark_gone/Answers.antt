-- The run of the number is marked, entry by entry.
use Rattle.std.proofs.Common.{◌≡◌, ◌+◌, ◌++◌, List, length, map, take, drop, set, sym, ap, subst, ◌∙◌, arith}
use Rattle.std.specs.List.{filter}
use Rattle.std.proofs.lemmas.List.Sums.{count_by-le-length, length-filter}
use Rattle.point_codec.specs.Seen.{items_of}
use Rattle.point_codec.specs.declared.entries.Entry.{Entry}
use Rattle.segment_set.specs.Runs.{IsRunOf}
use Rattle.segment_set.specs.Waiting.{came_as, waits}
use Rattle.segment_set.proofs.Buffered.{count_items, entry_out, one_where, out_all, out_items, out_none}
use Rattle.segment_set.proofs.Marked.{byte_of, count_step, mark_step, same_length}
use Rattle.segment_set.proofs.buffer.mark_gone.Goals as goal

pub loop-i-init : goal.loop-i-init
loop-i-init g c = record {
  marked = out_none c.args.number c.args.entries.now.items c.run_of-first.result.0 c.run_of-first.result.1
      (subst (λ (xs : List (Entry g.row.D)). IsRunOf (λ (e : Entry g.row.D). came_as e.doc) c.args.number xs c.run_of-first.result.0 c.run_of-first.result.1)
      c.as_slice.ensures.value c.run_of-first.ensures.run);
  count = omega arith;
}

pub overflow_add-count : goal.overflow_add-count
overflow_add-count g c =
    let long = ap length c.as_slice.ensures.value in
    let same = same_length (entry_out c.args.number) c.args.entries.now.items c.loop-i.entries.items c.loop-i.i c.loop-i.invariant.marked in
    let step = count_step c.loop-i.entries.items c.loop-i.i c.index_mut.result.now c.let_go.new.entry c.loop-i.count _ c.let_go.result
    (omega (arith, c.loop-i-test.true, c.run_of-first.ensures.bound, long, same)) c.index_mut.ensures.value
    c.let_go.ensures.after c.let_go.ensures.answer c.loop-i.invariant.count in
    let byte : c.from-count.result ≡ one_where c.let_go.result = c.from-count.ensures ∙ byte_of c.let_go.result in
    omega (
      arith,
      step,
      byte,
      length-filter (λ (e : Entry g.row.D). waits e.doc) c.args.entries.now.items,
      count_by-le-length (λ (e : Entry g.row.D). waits e.doc) c.args.entries.now.items,
      c.args.entries.now.ok.0,
    )

pub loop-i-preserved : goal.loop-i-preserved
loop-i-preserved g c =
    let xs = c.args.entries.now.items in
    let run = subst
    (λ (zs : List (Entry g.row.D)). IsRunOf (λ (e : Entry g.row.D). came_as e.doc) c.args.number zs c.run_of-first.result.0 c.run_of-first.result.1)
    c.as_slice.ensures.value c.run_of-first.ensures.run in
    let long = ap length c.as_slice.ensures.value in
    let same = same_length (entry_out c.args.number) xs c.loop-i.entries.items c.loop-i.i c.loop-i.invariant.marked in
    let byte : c.from-count.result ≡ one_where c.let_go.result = c.from-count.ensures ∙ byte_of c.let_go.result in
    record {
      marked = mark_step c.args.number xs c.loop-i.entries.items c.run_of-first.result.0 c.run_of-first.result.1 c.loop-i.i c.index_mut.result.now
          c.let_go.new.entry run c.loop-i.auto.i c.loop-i-test.true (omega (arith, c.run_of-first.ensures.bound, long)) c.loop-i.invariant.marked
          c.index_mut.ensures.value c.let_go.ensures.after;
      count = ap (λ n. length (filter (λ (e : Entry g.row.D). waits e.doc) (set c.loop-i.entries.items c.loop-i.i c.let_go.new.entry)) + (c.loop-i.count + n))
          byte
          ∙ count_step c.loop-i.entries.items c.loop-i.i c.index_mut.result.now c.let_go.new.entry c.loop-i.count _ c.let_go.result
          (omega (arith, c.loop-i-test.true, c.run_of-first.ensures.bound, long, same)) c.index_mut.ensures.value c.let_go.ensures.after
          c.let_go.ensures.answer c.loop-i.invariant.count;
    }

pub returns-clause-marked : goal.returns-clause-marked
returns-clause-marked g c =
    let xs = c.args.entries.now.items in
    let run = subst
    (λ (zs : List (Entry g.row.D)). IsRunOf (λ (e : Entry g.row.D). came_as e.doc) c.args.number zs c.run_of-first.result.0 c.run_of-first.result.1)
    c.as_slice.ensures.value c.run_of-first.ensures.run in
    let done : c.loop-i.i ≡ c.run_of-first.result.1 = omega (arith, c.loop-i-test.false, c.loop-i.auto.i-end run.ordered) in
    ap items_of
    (out_all c.args.number xs c.loop-i.entries.items c.run_of-first.result.0 c.run_of-first.result.1 run
    (subst (λ n. c.loop-i.entries.items ≡ map (entry_out c.args.number) (take n xs) ++ drop n xs) done c.loop-i.invariant.marked))
    ∙ out_items c.args.number xs

pub returns-clause-count : goal.returns-clause-count
returns-clause-count g c =
    ap (λ n. n + c.loop-i.count) (count_items c.loop-i.entries.items) ∙ c.loop-i.invariant.count ∙ sym (count_items c.args.entries.now.items)
