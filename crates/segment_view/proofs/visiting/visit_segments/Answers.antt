use Rattle.std.proofs.Common.{◌++◌, ◌+◌, ℕ, List, [], ◌∷◌, Err, ap, refl, sym, subst, ◌∙◌, arith, take}
use Rattle.std.proofs.lemmas.List.{append_assoc, append-nil}
use Rattle.std.proofs.lemmas.List.Elements.{All-contains}
use Rattle.std.proofs.lemmas.Result.{err_from_is_err_and}
use Rattle.inner_pack.specs.Places.{front}
use Rattle.inner_pack.specs.Trees.{IndexTree}
use Rattle.segment_file.specs.Heads.{Head, count_of}
use Rattle.bkd_reader.specs.Counts.{tested_entries, touched_leaves}
use Rattle.bkd_reader.specs.Unread.{IsTouched}
use Rattle.page_cache.proofs.Unread.{reads_failed}
use Rattle.bkd_reader.proofs.Unread.{kept_on, touched_as}
use Rattle.documents.specs.Entries.{numbers_found}
use Rattle.nearest_query.proofs.Parts.{on_damage}
use Rattle.segment_view.specs.LiveSegments.{IsRead, live_segment, heads_of, ids_of, live_in_parts}
use Rattle.segment_view.specs.Costs.{AreCounted, AreTested, AreTouched, HasTouchedKept}
use Rattle.segment_view.specs.Damages.{IsReadDamage, IsPartDamage}
use Rattle.segment_view.proofs.Counting.{counted_push}
use Rattle.segment_view.proofs.Living.{part_in}
use Rattle.segment_view.proofs.Reading.{calm_none, calm_then, calm_more, agrees_after, id_in}
use Rattle.segment_view.proofs.Stepwise.{counted_more, counted_upto, heads_more, leaves_more, leaves_upto, found_parts_more}
use Rattle.segment_view.proofs.visiting.visit_segments.Goals as goal

pub loop-i-init : goal.loop-i-init
loop-i-init g c = record {
  calm = calm_none g.F.Pages.told (g.F.Pages.files c.args.folder.now) c.args.cache.now (ids_of c.args.segments.now);
  marks = λ i n offset len page known. known;
  faults = refl;
  tested = refl;
  touched = refl;
  few_tested = omega arith;
  few_touched = omega arith;
  has = refl;
  crosses = refl;
  tests = λ n all. omega arith;
  compares = omega arith;
  reads = λ n all. omega arith;
  kept = λ all. (refl, λ i n k. k);
  found = λ told agrees es read. sym (append-nil c.args.hits.now.items);
}

pub loop-i-preserved : goal.loop-i-preserved
loop-i-preserved g c =
    let was = c.loop-i.invariant in
    let one = c.in_ok-one.ensures in
    let parts = c.args.segments.now in
    let p = live_segment c.part.result.0.now c.part.result.1.now in
    let is = c.part.ensures in
    let there = part_in parts c.loop-i.i p is in
    let has = g.S.Shape.has c.args.shape.now in
    let crosses = g.S.Shape.crosses c.args.shape.now in
    let files = g.F.Pages.files c.args.folder.now in
    let cost = c.in_ok-one.one in
    let of_tested : Head → IndexTree → ℕ = λ h t. tested_entries crosses (count_of h) 0 t in
    let of_touched : Head → IndexTree → ℕ = λ h t. touched_leaves has crosses t in
    record {
      calm = calm_then g.F.Pages.told files (g.F.Pages.files c.loop-i.folder) (g.F.Pages.files c.visit_one.new.folder) c.args.cache.now c.loop-i.cache
          c.visit_one.new.cache (ids_of parts) was.calm
          (calm_more g.F.Pages.told (g.F.Pages.files c.loop-i.folder) (g.F.Pages.files c.visit_one.new.folder) c.loop-i.cache c.visit_one.new.cache
          (p.head.id ∷ []) (ids_of parts) (id_in parts p there) one.calm);
      marks = λ i n offset len page known. was.marks i n offset len page (one.marks i n offset len page known);
      faults = one.cause.on_ok ∙ was.faults;
      tested = subst (λ (hs : List Head). AreCounted g.row.D of_tested hs (c.loop-i.all.tested + cost.tested))
          (sym (heads_more parts c.loop-i.i p is))
          (counted_push g.row.D of_tested (heads_of (take c.loop-i.i parts)) p.head c.loop-i.all.tested cost.tested was.tested
          (subst (λ f. AreTested g.row.D f (p.head ∷ []) cost.tested) was.crosses one.tested));
      touched = subst (λ (hs : List Head). AreCounted g.row.D of_touched hs (c.loop-i.all.touched + cost.touched))
          (sym (heads_more parts c.loop-i.i p is))
          (counted_push g.row.D of_touched (heads_of (take c.loop-i.i parts)) p.head c.loop-i.all.touched cost.touched was.touched
          (subst (λ f. AreTouched g.row.D has f (p.head ∷ []) cost.touched) was.crosses
          (subst (λ k. AreTouched g.row.D k (g.S.Shape.crosses c.loop-i.shape) (p.head ∷ []) cost.touched) was.has one.touched)));
      few_tested = let a = was.few_tested in let b = one.few_tested in omega (arith, a, b);
      few_touched = let a = was.few_touched in let b = one.few_touched in omega (arith, a, b);
      has = one.has ∙ was.has;
      crosses = one.crosses ∙ was.crosses;
      tests = λ n all.
          let u = counted_more g.row.D (λ (h : Head) (t : IndexTree). tested_entries crosses (count_of h) 0 t) parts c.loop-i.i p n is all in
          let before = was.tests u.before u.of_before in
          let here = one.tests u.here (subst (λ f. AreTested g.row.D f (p.head ∷ []) u.here) (sym was.crosses) u.of_here) in
          omega (arith, before, here, u.within);
      compares =
          let more = leaves_more parts c.loop-i.i p is in
          let before = was.compares in
          let here = one.compares in
          omega (arith, more, before, here);
      reads = λ n all.
          let u = counted_more g.row.D (λ (h : Head) (t : IndexTree). touched_leaves has crosses t) parts c.loop-i.i p n is all in
          let before = was.reads u.before u.of_before in
          let here = one.reads u.here
          (subst (λ k. AreTouched g.row.D k (g.S.Shape.crosses c.loop-i.shape) (p.head ∷ []) u.here) (sym was.has)
          (subst (λ f. AreTouched g.row.D has f (p.head ∷ []) u.here) (sym was.crosses) u.of_here)) in
          omega (arith, before, here, u.within);
      kept = λ all.
          let before = was.kept all in
          let (root, t, tree, kept) = All-contains (HasTouchedKept g.row.D c.args.cache.now has crosses) parts p all there in
          let now = one.kept root t tree
          (touched_as c.loop-i.cache p.head has (g.S.Shape.has c.loop-i.shape) crosses (g.S.Shape.crosses c.loop-i.shape) front t was.has was.crosses
          (kept_on c.args.cache.now c.loop-i.cache p.head (IsTouched has crosses) front t before.1 kept)) in
          (now.reads ∙ before.0, λ i n k. now.kept i n (before.1 i n k));
      found = λ told agrees es read.
          let here = one.found told
          (agrees_after g.F.Pages.told files (g.F.Pages.files c.loop-i.folder) c.args.cache.now c.loop-i.cache (ids_of parts) was.calm told agrees) es
          (subst (λ f. IsRead g.row.D f es p) (sym (was.calm.files told)) (All-contains (IsRead g.row.D files es) parts p read there)) in
          here
          ∙ ap (λ k. c.loop-i.hits.items ++ numbers_found k (live_in_parts es (p ∷ []))) was.has
          ∙ ap (λ (ns : List ℕ). ns ++ numbers_found has (live_in_parts es (p ∷ []))) (was.found told agrees es read)
          ∙ append_assoc c.args.hits.now.items (numbers_found has (live_in_parts es (take c.loop-i.i parts))) (numbers_found has (live_in_parts es (p ∷ [])))
          ∙ ap (λ (ns : List ℕ). c.args.hits.now.items ++ ns) (sym (found_parts_more has es parts c.loop-i.i p is));
    }

pub returns-in_err-one-clause-tests : goal.returns-in_err-one-clause-tests
returns-in_err-one-clause-tests g c = λ n all.
    let p = live_segment c.part.result.0.now c.part.result.1.now in
    let was = c.loop-i.invariant in
    let u = counted_upto g.row.D (λ (h : Head) (t : IndexTree). tested_entries (g.S.Shape.crosses c.args.shape.now) (count_of h) 0 t) c.args.segments.now
    c.loop-i.i p n
    c.part.ensures all in
    let before = was.tests u.before u.of_before in
    let here = c.in_err-one.ensures.tests u.here (subst (λ f. AreTested g.row.D f (p.head ∷ []) u.here) (sym was.crosses) u.of_here) in
    omega (arith, before, here, u.within)

pub returns-in_err-one-clause-compares : goal.returns-in_err-one-clause-compares
returns-in_err-one-clause-compares g c =
    let most = leaves_upto c.args.segments.now c.loop-i.i (live_segment c.part.result.0.now c.part.result.1.now) c.part.ensures in
    let before = c.loop-i.invariant.compares in
    let here = c.in_err-one.ensures.compares in
    omega (arith, most, before, here)

pub returns-in_err-one-clause-reads : goal.returns-in_err-one-clause-reads
returns-in_err-one-clause-reads g c = λ n all.
    let p = live_segment c.part.result.0.now c.part.result.1.now in
    let was = c.loop-i.invariant in
    let has = g.S.Shape.has c.args.shape.now in
    let u = counted_upto g.row.D (λ (h : Head) (t : IndexTree). touched_leaves has (g.S.Shape.crosses c.args.shape.now) t) c.args.segments.now c.loop-i.i p n
    c.part.ensures all in
    let before = was.reads u.before u.of_before in
    let here = c.in_err-one.ensures.reads u.here
    (subst (λ k. AreTouched g.row.D k (g.S.Shape.crosses c.loop-i.shape) (p.head ∷ []) u.here) (sym was.has)
    (subst (λ f. AreTouched g.row.D has f (p.head ∷ []) u.here) (sym was.crosses) u.of_here)) in
    omega (arith, before, here, u.within)

pub returns-in_err-one-clause-calm : goal.returns-in_err-one-clause-calm
returns-in_err-one-clause-calm g c =
    let parts = c.args.segments.now in
    let p = live_segment c.part.result.0.now c.part.result.1.now in
    calm_then g.F.Pages.told (g.F.Pages.files c.args.folder.now) (g.F.Pages.files c.loop-i.folder) (g.F.Pages.files c.visit_one.new.folder) c.args.cache.now
    c.loop-i.cache c.visit_one.new.cache (ids_of parts) c.loop-i.invariant.calm
    (calm_more g.F.Pages.told (g.F.Pages.files c.loop-i.folder) (g.F.Pages.files c.visit_one.new.folder) c.loop-i.cache c.visit_one.new.cache (p.head.id ∷ [])
    (ids_of parts) (id_in parts p (part_in parts c.loop-i.i p c.part.ensures)) c.in_err-one.ensures.calm)

pub returns-in_err-one-clause-marks : goal.returns-in_err-one-clause-marks
returns-in_err-one-clause-marks g c = λ i n offset len page known.
    c.loop-i.invariant.marks i n offset len page (c.in_err-one.ensures.marks i n offset len page known)

pub returns-in_err-one-clause-shown : goal.returns-in_err-one-clause-shown
returns-in_err-one-clause-shown g c =
    let e = err_from_is_err_and c.from_residual.result c.from_residual.ensures.1 in
    let parts = c.args.segments.now in
    let p = live_segment c.part.result.0.now c.part.result.1.now in
    rw (e.1, e.2)
    (on_damage {T = Unit {0}} (IsReadDamage g.row.D p.head) (IsPartDamage g.row.D parts) (Err c.in_err-one.field-0.0)
    (λ d h. (p, part_in parts c.loop-i.i p c.part.ensures, h)) c.in_err-one.ensures.shown)

pub returns-in_err-one-clause-whole : goal.returns-in_err-one-clause-whole
returns-in_err-one-clause-whole g c = λ told agrees es read.
    let parts = c.args.segments.now in
    let p = live_segment c.part.result.0.now c.part.result.1.now in
    let calm = c.loop-i.invariant.calm in
    let files = g.F.Pages.files c.args.folder.now in
    let e = err_from_is_err_and c.from_residual.result c.from_residual.ensures.1 in
    rw (e.1, e.2)
    (c.in_err-one.ensures.whole told
    (agrees_after g.F.Pages.told files (g.F.Pages.files c.loop-i.folder) c.args.cache.now c.loop-i.cache (ids_of parts) calm told agrees) es
    (subst (λ f. IsRead g.row.D f es p) (sym (calm.files told))
    (All-contains (IsRead g.row.D files es) parts p read (part_in parts c.loop-i.i p c.part.ensures))))

pub returns-in_err-one-clause-kept : goal.returns-in_err-one-clause-kept
returns-in_err-one-clause-kept g c = λ all.
    let was = c.loop-i.invariant in
    let p = live_segment c.part.result.0.now c.part.result.1.now in
    let has = g.S.Shape.has c.args.shape.now in
    let crosses = g.S.Shape.crosses c.args.shape.now in
    let (root, t, tree, kept) = All-contains (HasTouchedKept g.row.D c.args.cache.now has crosses) c.args.segments.now p all
    (part_in c.args.segments.now c.loop-i.i p c.part.ensures) in
    let now = c.in_err-one.ensures.kept root t tree
    (touched_as c.loop-i.cache p.head has (g.S.Shape.has c.loop-i.shape) crosses (g.S.Shape.crosses c.loop-i.shape) front t was.has was.crosses
    (kept_on c.args.cache.now c.loop-i.cache p.head (IsTouched has crosses) front t (was.kept all).1 kept)) in
    let e = err_from_is_err_and c.from_residual.result c.from_residual.ensures.1 in
    reads_failed _ _ _ _ _ _ e.1 (now.reads ∙ (was.kept all).0)

pub returns-clause-kept : goal.returns-clause-kept
returns-clause-kept g c = λ all. let was = c.loop-i.invariant.kept all in record { reads = was.0; kept = was.1 }
