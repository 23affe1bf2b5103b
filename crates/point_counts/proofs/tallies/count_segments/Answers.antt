use Rattle.std.proofs.Common.{◌+◌, [], ◌∷◌, Err, refl, sym, subst, ◌∙◌, arith, take}
use Rattle.std.proofs.lemmas.List.{take_all}
use Rattle.std.proofs.lemmas.List.Elements.{All-contains}
use Rattle.std.proofs.lemmas.Result.{err_from_is_err_and}
use Rattle.page_cache.proofs.Damages.{on_damage_weaker}
use Rattle.segment_view.specs.LiveSegments.{IsRead, live_segment, ids_of, live_in_parts}
use Rattle.segment_view.specs.Damages.{IsReadDamage, IsPartDamage}
use Rattle.segment_view.proofs.Living.{part_in}
use Rattle.segment_view.proofs.Reading.{calm_none, calm_then, calm_more, agrees_after, id_in}
use Rattle.point_counts.specs.Tables.{AddsCounts, all_at}
use Rattle.point_counts.proofs.Counts.{adds_none, adds_then}
use Rattle.point_counts.proofs.Segments.{opened_more, opened_upto, counted_more}
use Rattle.point_counts.proofs.tallies.count_segments.Goals as goal

pub loop-i-init : goal.loop-i-init
loop-i-init g c = record {
  calm = calm_none g.F.Pages.told (g.F.Pages.files c.args.folder.now) c.args.cache.now (ids_of c.args.segments.now);
  faults = refl;
  reads = λ n all. omega arith;
  counts = λ told agrees es read. adds_none (all_at (g.S.Sorting.bounds c.args.sorting.now)
      (g.S.Sorting.place c.args.sorting.now) []) c.args.table.now (λ k. refl);
}

pub loop-i-preserved : goal.loop-i-preserved
loop-i-preserved g c =
    let was = c.loop-i.invariant in
    let one = c.in_ok-count_one.ensures in
    let parts = c.args.segments.now in
    let p = live_segment c.part.result.0.now c.part.result.1.now in
    let is = c.part.ensures in
    let there = part_in parts c.loop-i.i p is in
    let box = g.S.Sorting.bounds c.args.sorting.now in
    let place = g.S.Sorting.place c.args.sorting.now in
    let files = g.F.Pages.files c.args.folder.now in
    record {
      calm = calm_then g.F.Pages.told files (g.F.Pages.files c.loop-i.folder) (g.F.Pages.files c.count_one.new.folder)
          c.args.cache.now c.loop-i.cache c.count_one.new.cache (ids_of parts) was.calm
          (calm_more g.F.Pages.told (g.F.Pages.files c.loop-i.folder) (g.F.Pages.files c.count_one.new.folder)
          c.loop-i.cache c.count_one.new.cache (p.head.id ∷ []) (ids_of parts) (id_in parts p there) one.calm);
      faults = one.cause.on_ok ∙ was.faults;
      reads = λ n all.
          let u = opened_more g.row.D box (g.S.Sorting.parts c.args.sorting.now) parts c.loop-i.i p n is all in
          let before = was.reads u.left u.of_left in
          let here = one.reads u.right u.of_right in
          omega (arith, before, here, u.sum);
      counts = λ told agrees es read.
          let here = one.counts told (agrees_after g.F.Pages.told files (g.F.Pages.files c.loop-i.folder)
          c.args.cache.now c.loop-i.cache (ids_of parts) was.calm told agrees) es
          (subst (λ f. IsRead g.row.D f es p) (sym (was.calm.files told))
          (All-contains (IsRead g.row.D files es) parts p read there)) in
          adds_then (all_at box place (live_in_parts es (take c.loop-i.i parts)))
          (all_at box place (live_in_parts es (p ∷ [])))
          (all_at box place (live_in_parts es (take (c.loop-i.i + 1) parts)))
          c.args.table.now c.loop-i.table c.count_one.new.table (counted_more box place es parts c.loop-i.i p is)
          (was.counts told agrees es read) here;
    }

pub returns-in_err-count_one-clause-reads : goal.returns-in_err-count_one-clause-reads
returns-in_err-count_one-clause-reads g c = λ n all.
    let p = live_segment c.part.result.0.now c.part.result.1.now in
    let u = opened_upto g.row.D (g.S.Sorting.bounds c.args.sorting.now) (g.S.Sorting.parts c.args.sorting.now)
    c.args.segments.now c.loop-i.i p n c.part.ensures all in
    let before = c.loop-i.invariant.reads u.before u.of_before in
    let here = c.in_err-count_one.ensures.reads u.here u.of_here in
    omega (arith, before, here, u.within)

pub returns-in_err-count_one-clause-calm : goal.returns-in_err-count_one-clause-calm
returns-in_err-count_one-clause-calm g c =
    let parts = c.args.segments.now in
    let p = live_segment c.part.result.0.now c.part.result.1.now in
    calm_then g.F.Pages.told (g.F.Pages.files c.args.folder.now) (g.F.Pages.files c.loop-i.folder)
    (g.F.Pages.files c.count_one.new.folder) c.args.cache.now c.loop-i.cache c.count_one.new.cache (ids_of parts)
    c.loop-i.invariant.calm
    (calm_more g.F.Pages.told (g.F.Pages.files c.loop-i.folder) (g.F.Pages.files c.count_one.new.folder) c.loop-i.cache
    c.count_one.new.cache (p.head.id ∷ []) (ids_of parts)
    (id_in parts p (part_in parts c.loop-i.i p c.part.ensures)) c.in_err-count_one.ensures.calm)

pub returns-in_err-count_one-clause-shown : goal.returns-in_err-count_one-clause-shown
returns-in_err-count_one-clause-shown g c =
    let e = err_from_is_err_and c.from_residual.result c.from_residual.ensures.1 in
    let parts = c.args.segments.now in
    let p = live_segment c.part.result.0.now c.part.result.1.now in
    rw (e.1, e.2)
    (on_damage_weaker {T = Unit {0}} (Err c.in_err-count_one.field-0.0) (IsReadDamage g.row.D p.head)
    (IsPartDamage g.row.D parts) (λ d h. (p, part_in parts c.loop-i.i p c.part.ensures, h))
    c.in_err-count_one.ensures.shown)

pub returns-in_err-count_one-clause-whole : goal.returns-in_err-count_one-clause-whole
returns-in_err-count_one-clause-whole g c = λ told agrees es read.
    let parts = c.args.segments.now in
    let p = live_segment c.part.result.0.now c.part.result.1.now in
    let calm = c.loop-i.invariant.calm in
    let files = g.F.Pages.files c.args.folder.now in
    let e = err_from_is_err_and c.from_residual.result c.from_residual.ensures.1 in
    rw (e.1, e.2)
    (c.in_err-count_one.ensures.whole told (agrees_after g.F.Pages.told files (g.F.Pages.files c.loop-i.folder)
    c.args.cache.now c.loop-i.cache (ids_of parts) calm told agrees) es
    (subst (λ f. IsRead g.row.D f es p) (sym (calm.files told))
    (All-contains (IsRead g.row.D files es) parts p read (part_in parts c.loop-i.i p c.part.ensures))))

pub returns-clause-counts : goal.returns-clause-counts
returns-clause-counts g c = λ told agrees es read.
    let parts = c.args.segments.now in
    subst (λ ps. AddsCounts (all_at (g.S.Sorting.bounds c.args.sorting.now) (g.S.Sorting.place c.args.sorting.now)
    (live_in_parts es ps)) c.args.table.now c.loop-i.table)
    (take_all c.loop-i.i parts (omega (arith, c.loop-i-test.false, c.len-i-end.ensures.value)))
    (c.loop-i.invariant.counts told agrees es read)
