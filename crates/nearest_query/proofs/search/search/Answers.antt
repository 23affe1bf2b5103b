use Rattle.std.proofs.lemmas.Result.{err_from_is_err_and}
use Rattle.std.proofs.Common.{◌∷◌, ◌≤◌, ◌+◌, ap, inl, inr, ⊎_elim, length, refl, subst, sym, ◌∙◌, arith, rules, Err}
use Rattle.std.specs.Prelude.{All}
use Rattle.std.specs.Prelude.{sum_by}
use Rattle.std.proofs.lemmas.List.Sorted.{All-permutation, sum_by_popped, sum_by-IsPermutation}
use Rattle.std.proofs.lemmas.List.Elements.{All-cons, All-head}
use Rattle.page_cache.specs.Cache.{Agrees}
use Rattle.page_cache.specs.Causes.{HasPageCause}
use Rattle.documents.specs.NearestEntries.{IsNearest}
use Rattle.nearest_query.specs.Best.{found_of}
use Rattle.nearest_query.specs.Segments.{bound_of}
use Rattle.nearest_query.specs.Fronts.{sum_below, work}
use Rattle.nearest_query.specs.Search.{AreInside, IsNodeBelow, IsSought, one_within}
use Rattle.nearest_query.proofs.Steps.{sought_moved}
use Rattle.nearest_query.proofs.Touched.{front_popped, next_inside, one_most, stopped}
use Rattle.nearest_query.proofs.Ends.{stop_nearest, end_nearest, next_node, next_within}
use Rattle.page_cache.proofs.Unread.{reads_failed}
use Rattle.nearest_query.proofs.Unread.{leaves_still}
use Rattle.nearest_query.proofs.Passed.{marks_same, marks_then}
use Rattle.nearest_query.proofs.search.search.Goals as goal

pub returns-then-ends_before-clause-answer : goal.returns-then-ends_before-clause-answer
returns-then-ends_before-clause-answer g c = λ told agrees w all over s.
    let d = c.in-Some.next.dist2.0 in
    let far : All (λ t. d ≤ t.dist2.0) (c.in-Some.next ∷ c.pop.new.self.waiting) =
    All-cons (λ t. d ≤ t.dist2.0) c.in-Some.next c.pop.new.self.waiting (omega arith) c.in-Some.ensures.least in
    let here = sought_moved w all c.loop-next.frontier.waiting (c.in-Some.next ∷ c.pop.new.self.waiting) c.loop-next.frontier.nodes c.loop-next.found
    c.in-Some.ensures.some (c.loop-next.invariant.sought told agrees w all over s) in
    subst (λ k. IsNearest k all (found_of c.loop-next.found)) c.loop-next.invariant.room
    (stop_nearest w all (c.in-Some.next ∷ c.pop.new.self.waiting) c.loop-next.frontier.nodes c.loop-next.found here d far
    (c.ends_before.ensures.full c.if-ends_before.true) (c.ends_before.ensures.yes c.if-ends_before.true here.seen here.best))

pub returns-then-ends_before-clause-reads : goal.returns-then-ends_before-clause-reads
returns-then-ends_before-clause-reads g c = λ told agrees w all nearest over s is.
    let r = c.loop-next.invariant.reads told agrees w all nearest over s is in
    omega (arith, r)

pub returns-then-ends_before-clause-touched : goal.returns-then-ends_before-clause-touched
returns-then-ends_before-clause-touched g c = λ told agrees w all over s.
    let nearest = found_of c.loop-next.found in
    let room = c.args.found.now.many.room in
    let d = c.in-Some.next.dist2.0 in
    let far : All (λ t. d ≤ t.dist2.0) (c.in-Some.next ∷ c.pop.new.self.waiting) =
    All-cons (λ t. d ≤ t.dist2.0) c.in-Some.next c.pop.new.self.waiting (omega arith) c.in-Some.ensures.least in
    let here = sought_moved w all c.loop-next.frontier.waiting (c.in-Some.next ∷ c.pop.new.self.waiting) c.loop-next.frontier.nodes c.loop-next.found
    c.in-Some.ensures.some (c.loop-next.invariant.sought told agrees w all over s) in
    let t = c.loop-next.invariant.touched told agrees w all nearest over s (returns-then-ends_before-clause-answer g c told agrees w all over s) in
    let z = stopped w d room nearest c.loop-next.frontier.nodes (c.in-Some.next ∷ c.pop.new.self.waiting) here.nodes_are far
    (subst (λ k. 1 ≤ k) c.loop-next.invariant.room here.best.some)
    (subst (λ k. k ≤ length nearest) c.loop-next.invariant.room (c.ends_before.ensures.full c.if-ends_before.true))
    (c.ends_before.ensures.yes c.if-ends_before.true here.seen here.best) in
    let p = sum_by-IsPermutation (sum_below (one_within w (bound_of room nearest))) c.loop-next.frontier.waiting (c.in-Some.next ∷ c.pop.new.self.waiting)
    c.in-Some.ensures.some in
    omega (arith, t, z, p)

pub overflow_add-taken : goal.overflow_add-taken
overflow_add-taken g c =
    let few = (front_popped (length c.args.heads.now) c.loop-next.taken c.in-Some.next c.loop-next.frontier c.pop.new.self c.in-Some.ensures.some
    c.in-Some.ensures.nodes c.loop-next.invariant.inside).few in
    let one = one_most c.in-Some.next in
    omega (arith, few, one, c.in-Some.ensures.fits, c.one_leaf-taken.ensures)

pub open-requires : goal.open-requires
open-requires g c = (
  search rules,
  (
    search rules,
    (
      search rules,
      (
        c.requires.lives,
        (
          λ on. record { ascend = (c.requires.passes on).ascend; hides = c.loop-next.invariant.marks.hides on },
          next_inside (length c.args.heads.now) c.loop-next.taken c.in-Some.next c.loop-next.frontier c.pop.new.self c.in-Some.ensures.some
              c.in-Some.ensures.nodes c.loop-next.invariant.inside,
        ),
      ),
    ),
  ),
)

pub loop-next-init : goal.loop-next-init
loop-next-init g c = record {
  room = refl;
  files = λ told. refl;
  faults = refl;
  others = λ i h. inl h;
  agrees = λ told a. a;
  marks = marks_same g.row.D c.args.watched c.args.heads.now c.args.lives.now c.args.cache.now c.requires.passes;
  inside = c.requires.inside;
  parts = λ trees all. all;
  kept = λ trees all kept. (refl, λ i m k. k);
  sought = λ told a w all over s. s;
  reads = λ told a w all nearest over s is. omega arith;
  touched = λ told a w all nearest over s is. omega arith;
}

pub loop-next-smaller : goal.loop-next-smaller
loop-next-smaller g c =
    let p = sum_by_popped work c.in-Some.next c.loop-next.frontier.waiting c.pop.new.self.waiting c.in-Some.ensures.some in
    let o = c.in_ok-open.ensures.work in
    omega (arith, p, o)

pub loop-next-preserved : goal.loop-next-preserved
loop-next-preserved g c = record {
  room = c.in_ok-open.ensures.room ∙ c.loop-next.invariant.room;
  files = λ told. c.in_ok-open.ensures.reading.files told ∙ c.loop-next.invariant.files told;
  faults = c.in_ok-open.ensures.reading.cause.on_ok ∙ c.loop-next.invariant.faults;
  others = λ i h. ⊎_elim (λ k. c.loop-next.invariant.others i k) (λ k. inr k) (c.in_ok-open.ensures.reading.others i h);
  agrees = λ told a. subst (λ f. Agrees f c.open.new.cache) (c.loop-next.invariant.files told)
      (c.in_ok-open.ensures.reading.agrees told
      (subst (λ f. Agrees f c.loop-next.cache) (sym (c.loop-next.invariant.files told)) (c.loop-next.invariant.agrees told a)));
  marks = marks_then g.row.D c.args.watched c.args.heads.now c.args.lives.now c.args.cache.now c.loop-next.cache c.open.new.cache
      c.loop-next.invariant.marks c.in_ok-open.ensures.marks;
  inside =
      let now = c.in_ok-open.ensures.inside c.loop-next.taken
      (front_popped (length c.args.heads.now) c.loop-next.taken c.in-Some.next c.loop-next.frontier c.pop.new.self c.in-Some.ensures.some
      c.in-Some.ensures.nodes c.loop-next.invariant.inside) in
      subst (λ k. AreInside (length c.args.heads.now) k c.open.new.frontier) (ap (λ k. c.loop-next.taken + k) (sym c.one_leaf-taken.ensures)) now;
  parts = λ trees all. c.in_ok-open.ensures.parts trees
      (subst (λ ns. All (IsNodeBelow c.args.heads.now trees ns) (c.in-Some.next ∷ c.pop.new.self.waiting)) (sym c.in-Some.ensures.nodes)
      (All-permutation (IsNodeBelow c.args.heads.now trees c.loop-next.frontier.nodes) c.loop-next.frontier.waiting (c.in-Some.next ∷ c.pop.new.self.waiting)
      c.in-Some.ensures.some (c.loop-next.invariant.parts trees all)));
  kept = λ trees all kept.
      let before = c.loop-next.invariant.kept trees all kept in
      let now = c.in_ok-open.ensures.kept trees
      (subst (λ ns. IsNodeBelow c.args.heads.now trees ns c.in-Some.next) (sym c.in-Some.ensures.nodes)
      (All-head (IsNodeBelow c.args.heads.now trees c.loop-next.frontier.nodes) c.in-Some.next c.pop.new.self.waiting
      (All-permutation (IsNodeBelow c.args.heads.now trees c.loop-next.frontier.nodes) c.loop-next.frontier.waiting (c.in-Some.next ∷ c.pop.new.self.waiting)
      c.in-Some.ensures.some (c.loop-next.invariant.parts trees all))))
      (leaves_still c.args.cache.now c.loop-next.cache c.args.heads.now trees before.1 kept) in
      (now.reads ∙ before.0, λ i m k. now.kept i m (before.1 i m k));
  sought = λ told a w all over s.
      c.in_ok-open.ensures.sought told (subst (λ f. Agrees f c.loop-next.cache) (sym (c.loop-next.invariant.files told)) (c.loop-next.invariant.agrees told a))
      w all
      (record {
        at_is = over.at_is;
        heads_are = over.heads_are;
        lives_are = over.lives_are;
        files_are = over.files_are ∙ sym (c.loop-next.invariant.files told);
      })
      (subst (λ ns. IsSought g.row.D w all (c.in-Some.next ∷ c.pop.new.self.waiting) ns c.loop-next.found) (sym c.in-Some.ensures.nodes)
      (sought_moved w all c.loop-next.frontier.waiting (c.in-Some.next ∷ c.pop.new.self.waiting) c.loop-next.frontier.nodes c.loop-next.found
      c.in-Some.ensures.some
      (c.loop-next.invariant.sought told a w all over s)));
  reads = λ told a w all nearest over s is.
      let r = c.loop-next.invariant.reads told a w all nearest over s is in
      let here = sought_moved w all c.loop-next.frontier.waiting (c.in-Some.next ∷ c.pop.new.self.waiting) c.loop-next.frontier.nodes c.loop-next.found
      c.in-Some.ensures.some (c.loop-next.invariant.sought told a w all over s) in
      let o = c.in_ok-open.ensures.opened w (bound_of c.args.found.now.many.room nearest)
      (next_node w all c.in-Some.next c.pop.new.self.waiting c.loop-next.frontier.nodes c.pop.new.self.nodes c.loop-next.found here c.in-Some.ensures.nodes)
      over.at_is
      (next_within w all c.in-Some.next c.pop.new.self.waiting c.loop-next.frontier.nodes c.loop-next.found here c.args.found.now.many.room nearest
      c.loop-next.invariant.room is c.in-Some.ensures.least (c.ends_before.ensures.no c.if-ends_before.false)) in
      let p =
      sum_by_popped (sum_below (one_within w (bound_of c.args.found.now.many.room nearest))) c.in-Some.next c.loop-next.frontier.waiting c.pop.new.self.waiting
      c.in-Some.ensures.some in
      let reads = o.reads in
      omega (arith, r, reads, p);
  touched = λ told a w all nearest over s is.
      let t = c.loop-next.invariant.touched told a w all nearest over s is in
      let here = sought_moved w all c.loop-next.frontier.waiting (c.in-Some.next ∷ c.pop.new.self.waiting) c.loop-next.frontier.nodes c.loop-next.found
      c.in-Some.ensures.some (c.loop-next.invariant.sought told a w all over s) in
      let o = c.in_ok-open.ensures.opened w (bound_of c.args.found.now.many.room nearest)
      (next_node w all c.in-Some.next c.pop.new.self.waiting c.loop-next.frontier.nodes c.pop.new.self.nodes c.loop-next.found here c.in-Some.ensures.nodes)
      over.at_is
      (next_within w all c.in-Some.next c.pop.new.self.waiting c.loop-next.frontier.nodes c.loop-next.found here c.args.found.now.many.room nearest
      c.loop-next.invariant.room is c.in-Some.ensures.least (c.ends_before.ensures.no c.if-ends_before.false)) in
      let p =
      sum_by_popped (sum_below (one_within w (bound_of c.args.found.now.many.room nearest))) c.in-Some.next c.loop-next.frontier.waiting c.pop.new.self.waiting
      c.in-Some.ensures.some in
      let rest = o.rest in
      let one = c.one_leaf-taken.ensures in
      omega (arith, t, rest, one, p);
}

pub returns-in_err-open-clause-marks : goal.returns-in_err-open-clause-marks
returns-in_err-open-clause-marks g c =
    marks_then g.row.D c.args.watched c.args.heads.now c.args.lives.now c.args.cache.now c.loop-next.cache c.open.new.cache
    c.loop-next.invariant.marks c.in_err-open.ensures.marks

pub returns-in_err-open-clause-reading : goal.returns-in_err-open-clause-reading
returns-in_err-open-clause-reading g c =
    let h = c.in_err-open.ensures.reading in
    let was = c.loop-next.invariant in
    let p = err_from_is_err_and c.from_residual.result c.from_residual.ensures.1 in
    let cause = subst (λ n. HasPageCause {T = Unit {0}} n (g.F.Pages.faults c.open.new.folder) (Err c.in_err-open.field-0.0)) was.faults h.cause in
    record {
      files = λ told. h.files told ∙ was.files told;
      others = λ i k. ⊎_elim (λ e. was.others i e) (λ e. inr e) (h.others i k);
      agrees = λ told a. subst (λ f. Agrees f c.open.new.cache) (was.files told)
          (h.agrees told (subst (λ f. Agrees f c.loop-next.cache) (sym (was.files told)) (was.agrees told a)));
      cause = rw (p.1, p.2) (record { later = cause.later; on_ok = tt; failed = λ e. cause.failed cc });
    }

pub returns-in_err-open-clause-reads : goal.returns-in_err-open-clause-reads
returns-in_err-open-clause-reads g c = λ told a w all nearest over s is.
    let r = c.loop-next.invariant.reads told a w all nearest over s is in
    let here = sought_moved w all c.loop-next.frontier.waiting (c.in-Some.next ∷ c.pop.new.self.waiting) c.loop-next.frontier.nodes c.loop-next.found
    c.in-Some.ensures.some (c.loop-next.invariant.sought told a w all over s) in
    let o = c.in_err-open.ensures.opened w (bound_of c.args.found.now.many.room nearest)
    (next_node w all c.in-Some.next c.pop.new.self.waiting c.loop-next.frontier.nodes c.pop.new.self.nodes c.loop-next.found here c.in-Some.ensures.nodes)
    over.at_is
    (next_within w all c.in-Some.next c.pop.new.self.waiting c.loop-next.frontier.nodes c.loop-next.found here c.args.found.now.many.room nearest
    c.loop-next.invariant.room is c.in-Some.ensures.least (c.ends_before.ensures.no c.if-ends_before.false)) in
    let p =
    sum_by_popped (sum_below (one_within w (bound_of c.args.found.now.many.room nearest))) c.in-Some.next c.loop-next.frontier.waiting c.pop.new.self.waiting
    c.in-Some.ensures.some in
    let reads = o.reads in
    omega (arith, r, reads, p)

pub returns-clause-answer : goal.returns-clause-answer
returns-clause-answer g c = λ told agrees w all over s.
    subst (λ k. IsNearest k all (found_of c.loop-next.found)) c.loop-next.invariant.room
    (end_nearest w all c.loop-next.frontier.waiting c.loop-next.frontier.nodes c.loop-next.found (c.loop-next.invariant.sought told agrees w all over s)
    c.in_default.ensures.none)

pub returns-clause-reads : goal.returns-clause-reads
returns-clause-reads g c = λ told agrees w all nearest over s is.
    let r = c.loop-next.invariant.reads told agrees w all nearest over s is in
    omega (arith, r)

pub returns-clause-touched : goal.returns-clause-touched
returns-clause-touched g c = λ told agrees w all over s.
    let nearest = found_of c.loop-next.found in
    let t = c.loop-next.invariant.touched told agrees w all nearest over s (returns-clause-answer g c told agrees w all over s) in
    let z = ap (sum_by (sum_below (one_within w (bound_of c.args.found.now.many.room nearest)))) c.in_default.ensures.none in
    omega (arith, t, z)

pub returns-in_err-open-clause-whole : goal.returns-in_err-open-clause-whole
returns-in_err-open-clause-whole g c = λ told a w all over s.
    let here = sought_moved w all c.loop-next.frontier.waiting (c.in-Some.next ∷ c.pop.new.self.waiting) c.loop-next.frontier.nodes c.loop-next.found
    c.in-Some.ensures.some (c.loop-next.invariant.sought told a w all over s) in
    let h = c.in_err-open.ensures.whole told
    (subst (λ f. Agrees f c.loop-next.cache) (sym (c.loop-next.invariant.files told)) (c.loop-next.invariant.agrees told a)) w
    (record { at_is = over.at_is; heads_are = over.heads_are; lives_are = over.lives_are; files_are = over.files_are ∙ sym (c.loop-next.invariant.files told) })
    (next_node w all c.in-Some.next c.pop.new.self.waiting c.loop-next.frontier.nodes c.pop.new.self.nodes c.loop-next.found here c.in-Some.ensures.nodes) in
    let p = err_from_is_err_and c.from_residual.result c.from_residual.ensures.1 in
    rw (p.1, p.2) h

pub returns-in_err-open-clause-shown : goal.returns-in_err-open-clause-shown
returns-in_err-open-clause-shown g c = λ trees all.
    let h = c.in_err-open.ensures.shown trees
    (subst (λ ns. IsNodeBelow c.args.heads.now trees ns c.in-Some.next) (sym c.in-Some.ensures.nodes)
    (All-head (IsNodeBelow c.args.heads.now trees c.loop-next.frontier.nodes) c.in-Some.next c.pop.new.self.waiting
    (All-permutation (IsNodeBelow c.args.heads.now trees c.loop-next.frontier.nodes) c.loop-next.frontier.waiting (c.in-Some.next ∷ c.pop.new.self.waiting)
    c.in-Some.ensures.some (c.loop-next.invariant.parts trees all)))) in
    let p = err_from_is_err_and c.from_residual.result c.from_residual.ensures.1 in
    rw (p.1, p.2) h

pub returns-then-ends_before-clause-kept : goal.returns-then-ends_before-clause-kept
returns-then-ends_before-clause-kept g c = λ trees all kept.
    let before = c.loop-next.invariant.kept trees all kept in
    record { reads = before.0; kept = before.1 }

pub returns-in_err-open-clause-kept : goal.returns-in_err-open-clause-kept
returns-in_err-open-clause-kept g c = λ trees all kept.
    let before = c.loop-next.invariant.kept trees all kept in
    let now = c.in_err-open.ensures.kept trees
    (subst (λ ns. IsNodeBelow c.args.heads.now trees ns c.in-Some.next) (sym c.in-Some.ensures.nodes)
    (All-head (IsNodeBelow c.args.heads.now trees c.loop-next.frontier.nodes) c.in-Some.next c.pop.new.self.waiting
    (All-permutation (IsNodeBelow c.args.heads.now trees c.loop-next.frontier.nodes) c.loop-next.frontier.waiting (c.in-Some.next ∷ c.pop.new.self.waiting)
    c.in-Some.ensures.some (c.loop-next.invariant.parts trees all))))
    (leaves_still c.args.cache.now c.loop-next.cache c.args.heads.now trees before.1 kept) in
    let p = err_from_is_err_and c.from_residual.result c.from_residual.ensures.1 in
    reads_failed _ _ _ _ _ _ p.1 (now.reads ∙ before.0)

pub returns-clause-kept : goal.returns-clause-kept
returns-clause-kept g c = λ trees all kept.
    let before = c.loop-next.invariant.kept trees all kept in
    record { reads = before.0; kept = before.1 }
