use Rattle.std.proofs.Common.{◌≡◌, ◌++◌, List, Ok, ap, refl, sym, subst, ◌∙◌, arith, ℕ}
use Rattle.std.specs.Prelude.{OnOk}
use Rattle.std.proofs.lemmas.List.{append-nil}
use Rattle.point_codec.specs.Points.{Item, Region}
use Rattle.inner_pack.specs.Trees.{IndexTree}
use Rattle.inner_pack.specs.Bodies.{HasTree}
use Rattle.segment_file.specs.Heads.{Head, count_of}
use Rattle.bkd_reader.specs.Counts.{IsCost, tested_entries, touched_leaves}
use Rattle.bkd_reader.specs.declared.walk.Cost.{Cost}
use Rattle.bkd_reader.proofs.Trees.{tree_count}
use Rattle.bkd_reader.proofs.Uncrossed.{asked_most}
use Rattle.documents.specs.Entries.{numbers_found}
use Rattle.segment_view.specs.LiveSegments.{live_segment}
use Rattle.segment_view.proofs.Living.{live_one, nothing_live}
use Rattle.segment_view.proofs.Reading.{calm_alone}
use Rattle.segment_view.proofs.Counting.{le_by_tree, one_counted}
use Rattle.segment_view.proofs.Hits.{hits_live}
use Rattle.segment_view.proofs.Shown.{read_shown}
use Rattle.segment_view.proofs.Costing.{few_tested, few_touched, one_tested, one_touched}
use Rattle.segment_view.proofs.visiting.visit_one.Given as given
use Rattle.segment_view.proofs.visiting.visit_one.Goals as goal

pub returns-then-live_count-eq0-clause-found : goal.returns-then-live_count-eq0-clause-found
returns-then-live_count-eq0-clause-found g c = λ told agrees es r.
    let old = c.args.hits.now.items in
    let none = nothing_live es (live_segment c.args.head.now c.args.live.now) (sym c.live_count.ensures.value ∙ c.if-live_count-eq0.true) in
    sym (ap (λ (xs : List Item). old ++ numbers_found (g.S.Shape.has c.args.shape.now) xs) none ∙ append-nil old)

pub returns-clause-found : goal.returns-clause-found
returns-clause-found g c = λ told agrees es r.
    let has = g.S.Shape.has c.args.shape.now in
    let same =
    hits_live has c.args.live.now (es c.args.head.now.id) ∙ ap (numbers_found has) (sym (live_one es (live_segment c.args.head.now c.args.live.now))) in
    subst (λ (ys : List ℕ). OnOk c.intersect.result (c.intersect.new.hits.items ≡ c.args.hits.now.items ++ ys)) same
    (c.intersect.ensures.found told agrees (es c.args.head.now.id) r.held)

pub returns-then-live_count-eq0-clause-compares : goal.returns-then-live_count-eq0-clause-compares
returns-then-live_count-eq0-clause-compares g c =
    le_by_tree g.row.D c.args.head.now.index c.index.result.now c.index.ensures.value c.is_spelled.ensures _ _
    (λ root t has.
    let e = tree_count g.row.D c.args.head.now.index root t has in
    let m = c.survey-tally.ensures.compares root t has in
    let most = asked_most (g.S.Shape.crosses c.args.shape.now) root t in
    omega (arith, e, m, most))

pub returns-clause-tests : goal.returns-clause-tests
returns-clause-tests g c = λ n all.
    le_by_tree g.row.D c.args.head.now.index c.index.result.now c.index.ensures.value c.is_spelled.ensures _ _
    (λ root t has.
    let e = one_counted g.row.D (λ (h : Head) (u : IndexTree). tested_entries (g.S.Shape.crosses c.args.shape.now) (count_of h) 0 u) c.args.head.now n root t
    all has in
    let m = c.intersect.ensures.tests root t has in
    omega (arith, e, m))

pub returns-clause-compares : goal.returns-clause-compares
returns-clause-compares g c =
    le_by_tree g.row.D c.args.head.now.index c.index.result.now c.index.ensures.value c.is_spelled.ensures _ _
    (λ root t has.
    let e = tree_count g.row.D c.args.head.now.index root t has in
    let m = c.intersect.ensures.compares root t has in
    let most = asked_most (g.S.Shape.crosses c.args.shape.now) root t in
    omega (arith, e, m, most))

pub returns-clause-reads : goal.returns-clause-reads
returns-clause-reads g c = λ n all.
    le_by_tree g.row.D c.args.head.now.index c.index.result.now c.index.ensures.value c.is_spelled.ensures _ _
    (λ root t has.
    let e = one_counted g.row.D (λ (h : Head) (u : IndexTree). touched_leaves (g.S.Shape.has c.args.shape.now) (g.S.Shape.crosses c.args.shape.now) u)
    c.args.head.now
    n root t all has in
    let m = (c.intersect.ensures.reads root t has).most in
    omega (arith, e, m))

pub returns-clause-calm : goal.returns-clause-calm
returns-clause-calm g c =
    calm_alone g.F.Pages.told (g.F.Pages.files c.args.folder.now) (g.F.Pages.files c.intersect.new.folder) c.args.cache.now c.intersect.new.cache
    c.args.head.now.id
    c.intersect.ensures.reading.files c.intersect.ensures.reading.agrees c.intersect.ensures.reading.others

pub returns-clause-marks : goal.returns-clause-marks
returns-clause-marks g c = c.intersect.ensures.reading.marks

pub returns-clause-shown : goal.returns-clause-shown
returns-clause-shown g c =
    read_shown g.row.D c.args.head.now c.index.result.now c.intersect.result c.index.ensures.ranges c.index.ensures.value c.is_spelled.ensures
    c.intersect.ensures.shown

pub returns-then-live_count-eq0-clause-kept : goal.returns-then-live_count-eq0-clause-kept
returns-then-live_count-eq0-clause-kept g c = λ root t has kept. record { reads = refl; kept = λ i n k. k }

pub returns-clause-kept : goal.returns-clause-kept
returns-clause-kept g c = λ root t has kept. (c.intersect.ensures.reads root t has).none kept

-- what the survey tells, as a cost
abbrev surveyed : (g : given.Over) (c : goal.After-survey-tally g) → Cost
surveyed g c = record { tested = c.survey-tally.result.tested; touched = c.survey-tally.result.touched }

told_survey : (g : given.Over) (c : goal.After-survey-tally g) → (root : Region) (t : IndexTree) → HasTree g.row.D c.args.head.now.index root t
    → IsCost c.args.head.now (g.S.Shape.has c.args.shape.now) (g.S.Shape.crosses c.args.shape.now) t (surveyed g c)
told_survey g c root t has = let told = c.survey-tally.ensures.counts root t has in (told.0, told.1)

pub returns-then-live_count-eq0-clause-tested : goal.returns-then-live_count-eq0-clause-tested
returns-then-live_count-eq0-clause-tested g c =
    one_tested g.row.D (g.S.Shape.has c.args.shape.now) (g.S.Shape.crosses c.args.shape.now) c.args.head.now (Ok (surveyed g c)) (told_survey g c)

pub returns-then-live_count-eq0-clause-touched : goal.returns-then-live_count-eq0-clause-touched
returns-then-live_count-eq0-clause-touched g c =
    one_touched g.row.D (g.S.Shape.has c.args.shape.now) (g.S.Shape.crosses c.args.shape.now) c.args.head.now (Ok (surveyed g c)) (told_survey g c)

pub returns-then-live_count-eq0-clause-few_tested : goal.returns-then-live_count-eq0-clause-few_tested
returns-then-live_count-eq0-clause-few_tested g c =
    few_tested g.row.D (g.S.Shape.has c.args.shape.now) (g.S.Shape.crosses c.args.shape.now) c.args.head.now c.index.result.now
    c.index.ensures.ranges c.index.ensures.value c.is_spelled.ensures (Ok (surveyed g c)) (told_survey g c)

pub returns-then-live_count-eq0-clause-few_touched : goal.returns-then-live_count-eq0-clause-few_touched
returns-then-live_count-eq0-clause-few_touched g c =
    few_touched g.row.D (g.S.Shape.has c.args.shape.now) (g.S.Shape.crosses c.args.shape.now) c.args.head.now c.index.result.now
    c.index.ensures.value c.is_spelled.ensures (Ok (surveyed g c)) (told_survey g c)

pub returns-clause-tested : goal.returns-clause-tested
returns-clause-tested g c =
    one_tested g.row.D (g.S.Shape.has c.args.shape.now) (g.S.Shape.crosses c.args.shape.now) c.args.head.now c.intersect.result c.intersect.ensures.counts

pub returns-clause-touched : goal.returns-clause-touched
returns-clause-touched g c =
    one_touched g.row.D (g.S.Shape.has c.args.shape.now) (g.S.Shape.crosses c.args.shape.now) c.args.head.now c.intersect.result c.intersect.ensures.counts

pub returns-clause-few_tested : goal.returns-clause-few_tested
returns-clause-few_tested g c =
    few_tested g.row.D (g.S.Shape.has c.args.shape.now) (g.S.Shape.crosses c.args.shape.now) c.args.head.now c.index.result.now
    c.index.ensures.ranges c.index.ensures.value c.is_spelled.ensures c.intersect.result c.intersect.ensures.counts

pub returns-clause-few_touched : goal.returns-clause-few_touched
returns-clause-few_touched g c =
    few_touched g.row.D (g.S.Shape.has c.args.shape.now) (g.S.Shape.crosses c.args.shape.now) c.args.head.now c.index.result.now
    c.index.ensures.value c.is_spelled.ensures c.intersect.result c.intersect.ensures.counts
