use Rattle.std.proofs.Common.{◌∙◌, rules, arith}
use Rattle.std.specs.Prelude.{IsTrue}
use Rattle.std.proofs.lemmas.Result.{err_from_is_err_and}
use Rattle.segment_view.specs.LiveSegments.{live_segment}
use Rattle.index_opening.proofs.Ordered.{fresh_next, opened_next, reads_next, whole_next}
use Rattle.index_opening.proofs.First.{first_next}
use Rattle.index_opening.proofs.opening.open_all.Goals as goal

pub returns-in_err-head-clause-reads : goal.returns-in_err-head-clause-reads
returns-in_err-head-clause-reads g c = λ told heads sets have lives.
    let before = c.loop-s.invariant.reads told heads sets have lives in
    let here =
    reads_next (g.F.Pages.files c.args.folder.now) (g.F.Pages.files c.loop-s.folder) c.args.c.now c.listed-listed.result.now c.loop-s.s-index _ heads sets
    (g.F.Pages.reads c.loop-s.folder) (g.F.Pages.reads c.open_one.new.folder) c.listed-listed.ensures.value (c.loop-s.invariant.files told) c.loop-s-test.true
    have lives (c.in_err-head.ensures.reads told) in
    omega (arith, before, here)

pub returns-in_err-head-clause-whole : goal.returns-in_err-head-clause-whole
returns-in_err-head-clause-whole g c = λ told parts held.
    let e = err_from_is_err_and c.from_residual.result c.from_residual.ensures.1 in
    rw (e.1, e.2)
    (whole_next (g.F.Pages.files c.args.folder.now) (g.F.Pages.files c.loop-s.folder) c.args.c.now c.listed-listed.result.now c.loop-s.s-index _ parts
    c.listed-listed.ensures.value (c.loop-s.invariant.files told) c.loop-s-test.true held c.in_err-head.field-0.0 (c.in_err-head.ensures.whole told))

pub insert-requires : goal.insert-requires
insert-requires g c =
    let dims = c.segments.invariant.few_dims in (
      search rules,
      (
        search rules,
        fresh_next (IsTrue g.F.Pages.told) (g.F.Pages.files c.args.folder.now) c.args.c.now c.listed-listed.result.now c.loop-s.s-index _ c.loop-s.segments
            c.in_ok-head.head.id
            c.listed-listed.ensures.value c.listed-listed.ensures.commit.segments.rising c.loop-s-test.true c.loop-s.invariant.opened
            c.in_ok-head.ensures.opened.listed.id,
      ),
    )

pub returns-in_err-insert-clause-reads : goal.returns-in_err-insert-clause-reads
returns-in_err-insert-clause-reads g c = λ told heads sets have lives.
    let before = c.loop-s.invariant.reads told heads sets have lives in
    let here =
    reads_next (g.F.Pages.files c.args.folder.now) (g.F.Pages.files c.loop-s.folder) c.args.c.now c.listed-listed.result.now c.loop-s.s-index _ heads sets
    (g.F.Pages.reads c.loop-s.folder) (g.F.Pages.reads c.open_one.new.folder) c.listed-listed.ensures.value (c.loop-s.invariant.files told) c.loop-s-test.true
    have lives (c.in_ok-head.ensures.reads told) in
    omega (arith, before, here)

pub loop-s-preserved : goal.loop-s-preserved
loop-s-preserved g c = record {
  opened = opened_next (IsTrue g.F.Pages.told) (g.F.Pages.files c.loop-s.folder) (g.F.Pages.files c.args.folder.now) c.args.c.now c.listed-listed.result.now
      c.loop-s.s-index _
      (live_segment c.in_ok-head.head c.in_ok-head.live) c.loop-s.segments c.insert.new.self c.listed-listed.ensures.value c.loop-s.invariant.files
      c.listed-listed.ensures.commit.segments.rising c.loop-s-test.true
      c.loop-s.invariant.opened c.in_ok-head.ensures.opened c.in_ok-insert.ensures.placed c.in_ok-insert.ensures.ascend;
  files = λ told. c.in_ok-head.ensures.files told ∙ c.loop-s.invariant.files told;
  faults = c.in_ok-head.ensures.cause.on_ok ∙ c.loop-s.invariant.faults;
  reads = λ told heads sets have lives.
      let before = c.loop-s.invariant.reads told heads sets have lives in
      let here =
      reads_next (g.F.Pages.files c.args.folder.now) (g.F.Pages.files c.loop-s.folder) c.args.c.now c.listed-listed.result.now c.loop-s.s-index _ heads sets
      (g.F.Pages.reads c.loop-s.folder) (g.F.Pages.reads c.open_one.new.folder) c.listed-listed.ensures.value (c.loop-s.invariant.files told) c.loop-s-test.true
      have lives (c.in_ok-head.ensures.reads told) in
      omega (arith, before, here);
}

pub returns-clause-reads : goal.returns-clause-reads
returns-clause-reads g c = λ told heads sets have lives. let before = c.loop-s.invariant.reads told heads sets have lives in omega (arith, before)

pub returns-in_err-head-clause-first : goal.returns-in_err-head-clause-first
returns-in_err-head-clause-first g c =
    let e = err_from_is_err_and c.from_residual.result c.from_residual.ensures.1 in
    rw (e.1, e.2)
    (first_next (IsTrue g.F.Pages.told) (g.F.Pages.files c.loop-s.folder) (g.F.Pages.files c.args.folder.now) c.args.c.now c.listed-listed.result.now
    c.loop-s.s-index _ c.loop-s.segments c.in_err-head.field-0.0
    c.listed-listed.ensures.value c.loop-s.invariant.files c.loop-s-test.true c.loop-s.invariant.opened c.in_err-head.ensures.first)
