use Rattle.std.proofs.lemmas.Result.{err_from_is_err_and}
use Rattle.std.proofs.Common.{◌≡◌, ◌+◌, ◌++◌, [], length, ap, subst, sym, refl, inl, ◌∙◌, arith}
use Rattle.std.specs.Prelude.{sum_by}
use Rattle.point_codec.specs.Seen.{items_of}
use Rattle.documents.specs.NearestEntries.{IsNearest, nears_of}
use Rattle.nearest_query.specs.Best.{found_of}
use Rattle.nearest_query.specs.Segments.{live_in, bound_of}
use Rattle.nearest_query.specs.Search.{one_within, sum_of_dead}
use Rattle.nearest_query.specs.Fronts.{sum_below}
use Rattle.page_cache.proofs.Unread.{reads_failed}
use Rattle.nearest_query.proofs.Start.{all_near, world, roots, start, start_near}
use Rattle.nearest_query.proofs.Passed.{marks_same}
use Rattle.nearest_query.proofs.query.nearest.Goals as goal

pub returns-clause-answer : goal.returns-clause-answer
returns-clause-answer g c = λ told agrees contents segments.
    let w = world g.row.D c.args.at.now.c c.args.heads.now c.args.lives.now (g.F.Pages.files c.args.folder.now) contents segments in
    let rs = roots g.row.D c.args.at.now.c c.args.heads.now c.args.lives.now (g.F.Pages.files c.args.folder.now) contents segments in
    let room = c.in_ok-offer_all.ensures.room ∙ c.new-found.ensures.room ∙ c.from.ensures in
    let sought = start g.row.D c.args.at.now.c c.args.heads.now c.args.lives.now (g.F.Pages.files c.args.folder.now) contents segments
    (items_of c.args.buffer.now) c.push_roots.new.frontier.waiting c.push_roots.new.frontier.nodes c.offer_all.new.found
    c.requires.lives (c.in_ok-offer_all.ensures.found [] c.new-found.ensures.best) (c.in_ok-push_roots.ensures.nodes w rs refl refl)
    (c.in_ok-push_roots.ensures.totals w rs refl refl) in
    let answer = c.in_ok-taken.ensures.answer told agrees w _ (record { at_is = refl; heads_are = refl; lives_are = refl; files_are = refl }) sought in
    let docs = c.in_ok-docs.docs.items in
    let taken = c.in_ok-taken.ensures.touched told agrees w _ (record { at_is = refl; heads_are = refl; lives_are = refl; files_are = refl }) sought in
    let bounds = ap (λ k. sum_by (sum_below (one_within w (bound_of k (found_of c.search.new.found)))) c.push_roots.new.frontier.waiting) room
    ∙ ap (λ ns. sum_by (sum_below (one_within w (bound_of c.args.k ns))) c.push_roots.new.frontier.waiting) (sym c.in_ok-docs.ensures) in
    let live = c.in_ok-push_roots.ensures.live w rs refl refl (one_within w (bound_of c.args.k docs)) in
    let reached : c.reach.result ≡ bound_of c.args.k docs = c.reach.ensures ∙ ap (bound_of c.args.k) c.as_slice.ensures.value in
    let all = c.in_ok-touched.ensures w rs refl refl refl
    ∙ ap (λ b. c.in_ok-taken.taken + sum_of_dead w (one_within w b) (length c.args.heads.now)) reached in
    record {
      docs = subst (λ xs. IsNearest c.args.k (nears_of c.args.at.now.c (live_in contents c.args.heads.now c.args.lives.now ++ items_of c.args.buffer.now)) xs)
          (sym c.in_ok-docs.ensures)
          (subst (λ k. IsNearest k (nears_of c.args.at.now.c (live_in contents c.args.heads.now c.args.lives.now ++ items_of c.args.buffer.now))
          (found_of c.search.new.found)) room answer);
      touched = all_near g.row.D c.args.at.now.c c.args.heads.now c.args.lives.now (g.F.Pages.files c.args.folder.now) contents segments
          (bound_of c.args.k docs) c.in_ok-touched.touched (omega (arith, taken, bounds, live, all));
    }

pub returns-clause-reads : goal.returns-clause-reads
returns-clause-reads g c = λ told agrees contents segments nearest is leaves near.
    let w = world g.row.D c.args.at.now.c c.args.heads.now c.args.lives.now (g.F.Pages.files c.args.folder.now) contents segments in
    let rs = roots g.row.D c.args.at.now.c c.args.heads.now c.args.lives.now (g.F.Pages.files c.args.folder.now) contents segments in
    let room = c.in_ok-offer_all.ensures.room ∙ c.new-found.ensures.room ∙ c.from.ensures in
    let sought = start g.row.D c.args.at.now.c c.args.heads.now c.args.lives.now (g.F.Pages.files c.args.folder.now) contents segments
    (items_of c.args.buffer.now) c.push_roots.new.frontier.waiting c.push_roots.new.frontier.nodes c.offer_all.new.found
    c.requires.lives (c.in_ok-offer_all.ensures.found [] c.new-found.ensures.best) (c.in_ok-push_roots.ensures.nodes w rs refl refl)
    (c.in_ok-push_roots.ensures.totals w rs refl refl) in
    let reads = c.in_ok-taken.ensures.reads told agrees w _ nearest (record { at_is = refl; heads_are = refl; lives_are = refl; files_are = refl }) sought
    (subst (λ k. IsNearest k (nears_of c.args.at.now.c (live_in contents c.args.heads.now c.args.lives.now ++ items_of c.args.buffer.now)) nearest) (sym room)
    is) in
    let bounds = ap (λ k. sum_by (sum_below (one_within w (bound_of k nearest))) c.push_roots.new.frontier.waiting) room in
    let total = start_near g.row.D c.args.at.now.c c.args.heads.now c.args.lives.now (g.F.Pages.files c.args.folder.now) contents segments
    (bound_of c.args.k nearest) c.push_roots.new.frontier.waiting leaves near (c.in_ok-push_roots.ensures.most w rs refl) in
    omega (arith, reads, bounds, total)

pub returns-in_err-docs-clause-reads : goal.returns-in_err-docs-clause-reads
returns-in_err-docs-clause-reads g c = λ told agrees contents segments nearest is leaves near.
    let w = world g.row.D c.args.at.now.c c.args.heads.now c.args.lives.now (g.F.Pages.files c.args.folder.now) contents segments in
    let rs = roots g.row.D c.args.at.now.c c.args.heads.now c.args.lives.now (g.F.Pages.files c.args.folder.now) contents segments in
    let room = c.in_ok-offer_all.ensures.room ∙ c.new-found.ensures.room ∙ c.from.ensures in
    let sought = start g.row.D c.args.at.now.c c.args.heads.now c.args.lives.now (g.F.Pages.files c.args.folder.now) contents segments
    (items_of c.args.buffer.now) c.push_roots.new.frontier.waiting c.push_roots.new.frontier.nodes c.offer_all.new.found
    c.requires.lives (c.in_ok-offer_all.ensures.found [] c.new-found.ensures.best) (c.in_ok-push_roots.ensures.nodes w rs refl refl)
    (c.in_ok-push_roots.ensures.totals w rs refl refl) in
    let reads = c.in_ok-taken.ensures.reads told agrees w _ nearest (record { at_is = refl; heads_are = refl; lives_are = refl; files_are = refl }) sought
    (subst (λ k. IsNearest k (nears_of c.args.at.now.c (live_in contents c.args.heads.now c.args.lives.now ++ items_of c.args.buffer.now)) nearest) (sym room)
    is) in
    let bounds = ap (λ k. sum_by (sum_below (one_within w (bound_of k nearest))) c.push_roots.new.frontier.waiting) room in
    let total = start_near g.row.D c.args.at.now.c c.args.heads.now c.args.lives.now (g.F.Pages.files c.args.folder.now) contents segments
    (bound_of c.args.k nearest) c.push_roots.new.frontier.waiting leaves near (c.in_ok-push_roots.ensures.most w rs refl) in
    omega (arith, reads, bounds, total)

pub returns-in_err-touched-clause-reads : goal.returns-in_err-touched-clause-reads
returns-in_err-touched-clause-reads g c = λ told agrees contents segments nearest is leaves near.
    let w = world g.row.D c.args.at.now.c c.args.heads.now c.args.lives.now (g.F.Pages.files c.args.folder.now) contents segments in
    let rs = roots g.row.D c.args.at.now.c c.args.heads.now c.args.lives.now (g.F.Pages.files c.args.folder.now) contents segments in
    let room = c.in_ok-offer_all.ensures.room ∙ c.new-found.ensures.room ∙ c.from.ensures in
    let sought = start g.row.D c.args.at.now.c c.args.heads.now c.args.lives.now (g.F.Pages.files c.args.folder.now) contents segments
    (items_of c.args.buffer.now) c.push_roots.new.frontier.waiting c.push_roots.new.frontier.nodes c.offer_all.new.found
    c.requires.lives (c.in_ok-offer_all.ensures.found [] c.new-found.ensures.best) (c.in_ok-push_roots.ensures.nodes w rs refl refl)
    (c.in_ok-push_roots.ensures.totals w rs refl refl) in
    let reads = c.in_ok-taken.ensures.reads told agrees w _ nearest (record { at_is = refl; heads_are = refl; lives_are = refl; files_are = refl }) sought
    (subst (λ k. IsNearest k (nears_of c.args.at.now.c (live_in contents c.args.heads.now c.args.lives.now ++ items_of c.args.buffer.now)) nearest) (sym room)
    is) in
    let bounds = ap (λ k. sum_by (sum_below (one_within w (bound_of k nearest))) c.push_roots.new.frontier.waiting) room in
    let total = start_near g.row.D c.args.at.now.c c.args.heads.now c.args.lives.now (g.F.Pages.files c.args.folder.now) contents segments
    (bound_of c.args.k nearest) c.push_roots.new.frontier.waiting leaves near (c.in_ok-push_roots.ensures.most w rs refl) in
    omega (arith, reads, bounds, total)

pub returns-in_err-taken-clause-reads : goal.returns-in_err-taken-clause-reads
returns-in_err-taken-clause-reads g c = λ told agrees contents segments nearest is leaves near.
    let w = world g.row.D c.args.at.now.c c.args.heads.now c.args.lives.now (g.F.Pages.files c.args.folder.now) contents segments in
    let rs = roots g.row.D c.args.at.now.c c.args.heads.now c.args.lives.now (g.F.Pages.files c.args.folder.now) contents segments in
    let room = c.in_ok-offer_all.ensures.room ∙ c.new-found.ensures.room ∙ c.from.ensures in
    let sought = start g.row.D c.args.at.now.c c.args.heads.now c.args.lives.now (g.F.Pages.files c.args.folder.now) contents segments
    (items_of c.args.buffer.now) c.push_roots.new.frontier.waiting c.push_roots.new.frontier.nodes c.offer_all.new.found
    c.requires.lives (c.in_ok-offer_all.ensures.found [] c.new-found.ensures.best) (c.in_ok-push_roots.ensures.nodes w rs refl refl)
    (c.in_ok-push_roots.ensures.totals w rs refl refl) in
    let reads = c.in_err-taken.ensures.reads told agrees w _ nearest (record { at_is = refl; heads_are = refl; lives_are = refl; files_are = refl }) sought
    (subst (λ k. IsNearest k (nears_of c.args.at.now.c (live_in contents c.args.heads.now c.args.lives.now ++ items_of c.args.buffer.now)) nearest) (sym room)
    is) in
    let bounds = ap (λ k. sum_by (sum_below (one_within w (bound_of k nearest))) c.push_roots.new.frontier.waiting) room in
    let total = start_near g.row.D c.args.at.now.c c.args.heads.now c.args.lives.now (g.F.Pages.files c.args.folder.now) contents segments
    (bound_of c.args.k nearest) c.push_roots.new.frontier.waiting leaves near (c.in_ok-push_roots.ensures.most w rs refl) in
    omega (arith, reads, bounds, total)

pub returns-in_err-taken-clause-whole : goal.returns-in_err-taken-clause-whole
returns-in_err-taken-clause-whole g c = λ told agrees contents segments.
    let w = world g.row.D c.args.at.now.c c.args.heads.now c.args.lives.now (g.F.Pages.files c.args.folder.now) contents segments in
    let rs = roots g.row.D c.args.at.now.c c.args.heads.now c.args.lives.now (g.F.Pages.files c.args.folder.now) contents segments in
    let sought = start g.row.D c.args.at.now.c c.args.heads.now c.args.lives.now (g.F.Pages.files c.args.folder.now) contents segments
    (items_of c.args.buffer.now) c.push_roots.new.frontier.waiting c.push_roots.new.frontier.nodes c.offer_all.new.found
    c.requires.lives (c.in_ok-offer_all.ensures.found [] c.new-found.ensures.best) (c.in_ok-push_roots.ensures.nodes w rs refl refl)
    (c.in_ok-push_roots.ensures.totals w rs refl refl) in
    let h = c.in_err-taken.ensures.whole told agrees w _ (record { at_is = refl; heads_are = refl; lives_are = refl; files_are = refl }) sought in
    let p = err_from_is_err_and c.from_residual-in_err-taken.result c.from_residual-in_err-taken.ensures.1 in
    rw (p.1, p.2) h

pub returns-in_err-taken-clause-shown : goal.returns-in_err-taken-clause-shown
returns-in_err-taken-clause-shown g c = λ trees have.
    let h = c.in_err-taken.ensures.shown trees (c.in_ok-push_roots.ensures.parts trees have) in
    let p = err_from_is_err_and c.from_residual-in_err-taken.result c.from_residual-in_err-taken.ensures.1 in
    rw (p.1, p.2) h

pub returns-in_err-taken-clause-reading : goal.returns-in_err-taken-clause-reading
returns-in_err-taken-clause-reading g c =
    let h = c.in_err-taken.ensures.reading in
    let p = err_from_is_err_and c.from_residual-in_err-taken.result c.from_residual-in_err-taken.ensures.1 in
    record {
      files = h.files;
      others = h.others;
      agrees = h.agrees;
      cause = rw (p.1, p.2) (record { later = h.cause.later; on_ok = tt; failed = λ e. h.cause.failed cc });
    }

pub returns-in_err-docs-clause-reading : goal.returns-in_err-docs-clause-reading
returns-in_err-docs-clause-reading g c =
    let h = c.in_ok-taken.ensures.reading in
    let p = err_from_is_err_and c.from_residual-in_err-docs.result c.from_residual-in_err-docs.ensures.1 in
    record {
      files = h.files;
      others = h.others;
      agrees = h.agrees;
      cause = rw (p.1, p.2) (record { later = h.cause.later; on_ok = tt; failed = λ e. absurd cc });
    }

pub returns-in_err-touched-clause-reading : goal.returns-in_err-touched-clause-reading
returns-in_err-touched-clause-reading g c =
    let h = c.in_ok-taken.ensures.reading in
    let p = err_from_is_err_and c.from_residual-in_err-touched.result c.from_residual-in_err-touched.ensures.1 in
    record {
      files = h.files;
      others = h.others;
      agrees = h.agrees;
      cause = rw (p.1, p.2) (record { later = h.cause.later; on_ok = tt; failed = λ e. absurd cc });
    }

pub returns-in_err-push_roots-clause-reading : goal.returns-in_err-push_roots-clause-reading
returns-in_err-push_roots-clause-reading g c =
    let p = err_from_is_err_and c.from_residual-in_err-push_roots.result c.from_residual-in_err-push_roots.ensures.1 in
    record {
      files = λ told. refl;
      others = λ i k. inl k;
      agrees = λ told a. a;
      cause = rw (p.1, p.2) (record { later = omega arith; on_ok = tt; failed = λ e. absurd cc });
    }

pub returns-clause-reading : goal.returns-clause-reading
returns-clause-reading g c =
    let h = c.in_ok-taken.ensures.reading in
    record {
      files = h.files;
      others = h.others;
      agrees = h.agrees;
      cause = record { later = h.cause.later; on_ok = h.cause.on_ok; failed = λ e. absurd cc };
    }

-- ---- the pages of all leaves are kept

pub returns-in_err-offer_all-clause-kept : goal.returns-in_err-offer_all-clause-kept
returns-in_err-offer_all-clause-kept g c = λ trees have kept.
    let p = err_from_is_err_and c.from_residual.result c.from_residual.ensures.1 in
    reads_failed _ _ _ _ _ _ p.1 refl

pub returns-in_err-push_roots-clause-kept : goal.returns-in_err-push_roots-clause-kept
returns-in_err-push_roots-clause-kept g c = λ trees have kept.
    let p = err_from_is_err_and c.from_residual-in_err-push_roots.result c.from_residual-in_err-push_roots.ensures.1 in
    reads_failed _ _ _ _ _ _ p.1 refl

pub returns-in_err-taken-clause-kept : goal.returns-in_err-taken-clause-kept
returns-in_err-taken-clause-kept g c = λ trees have kept.
    let p = err_from_is_err_and c.from_residual-in_err-taken.result c.from_residual-in_err-taken.ensures.1 in
    reads_failed _ _ _ _ _ _ p.1 (c.in_err-taken.ensures.kept trees (c.in_ok-push_roots.ensures.parts trees have) kept).reads

pub returns-in_err-docs-clause-kept : goal.returns-in_err-docs-clause-kept
returns-in_err-docs-clause-kept g c = λ trees have kept.
    let p = err_from_is_err_and c.from_residual-in_err-docs.result c.from_residual-in_err-docs.ensures.1 in
    reads_failed _ _ _ _ _ _ p.1 (c.in_ok-taken.ensures.kept trees (c.in_ok-push_roots.ensures.parts trees have) kept).reads

pub returns-in_err-touched-clause-kept : goal.returns-in_err-touched-clause-kept
returns-in_err-touched-clause-kept g c = λ trees have kept.
    let p = err_from_is_err_and c.from_residual-in_err-touched.result c.from_residual-in_err-touched.ensures.1 in
    reads_failed _ _ _ _ _ _ p.1 (c.in_ok-taken.ensures.kept trees (c.in_ok-push_roots.ensures.parts trees have) kept).reads

pub returns-clause-kept : goal.returns-clause-kept
returns-clause-kept g c = λ trees have kept.
    let search = c.in_ok-taken.ensures.kept trees (c.in_ok-push_roots.ensures.parts trees have) kept in
    record { reads = search.reads; kept = search.kept }

-- ---- what is known to be dead

pub returns-in_err-offer_all-clause-marks : goal.returns-in_err-offer_all-clause-marks
returns-in_err-offer_all-clause-marks g c =
    marks_same g.row.D c.args.watched c.args.heads.now c.args.lives.now c.args.cache.now c.requires.passes

pub returns-in_err-push_roots-clause-marks : goal.returns-in_err-push_roots-clause-marks
returns-in_err-push_roots-clause-marks g c =
    marks_same g.row.D c.args.watched c.args.heads.now c.args.lives.now c.args.cache.now c.requires.passes
