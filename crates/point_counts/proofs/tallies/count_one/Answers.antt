use Rattle.std.proofs.Common.{◌∙◌, List, [], ◌∷◌, ap, sym, subst, arith}
use Rattle.point_codec.specs.Points.{Item}
use Rattle.inner_pack.specs.Places.{front}
use Rattle.inner_pack.specs.Bodies.{HasTree}
use Rattle.bkd_reader.proofs.Trees.{root_of, parts_of}
use Rattle.segment_view.specs.LiveSegments.{live_segment, live_in_parts}
use Rattle.segment_view.proofs.Living.{live_one, nothing_live}
use Rattle.segment_view.proofs.Reading.{calm_alone}
use Rattle.segment_view.proofs.Counting.{le_by_tree}
use Rattle.segment_view.proofs.Shown.{read_shown}
use Rattle.point_counts.specs.Tables.{AddsCounts, all_at, live_at}
use Rattle.point_counts.specs.Costs.{opened_below}
use Rattle.point_counts.proofs.Counts.{adds_none, adds_as, live_kept}
use Rattle.point_counts.proofs.Clean.{all_live, clean_is}
use Rattle.point_counts.proofs.Segments.{one_segment, opened_live}
use Rattle.point_counts.proofs.tallies.count_one.Goals as goal
use Rattle.segment_file.proofs.Subtrees.{on_ok}

pub returns-then-count-eq0-clause-counts : goal.returns-then-count-eq0-clause-counts
returns-then-count-eq0-clause-counts g c = λ told agrees es r.
    let box = g.S.Sorting.bounds c.args.sorting.now in
    let place = g.S.Sorting.place c.args.sorting.now in
    let p = live_segment c.args.head.now c.args.live.now in
    adds_none (all_at box place (live_in_parts es (p ∷ []))) c.args.table.now
    (λ k. ap (λ (xs : List Item). all_at box place xs k)
    (nothing_live es p (sym c.live_count-count.ensures.value ∙ c.if-count-eq0.true)))

pub returns-clause-counts : goal.returns-clause-counts
returns-clause-counts g c = λ told agrees es r.
    let box = g.S.Sorting.bounds c.args.sorting.now in
    let place = g.S.Sorting.place c.args.sorting.now in
    let p = live_segment c.args.head.now c.args.live.now in
    let items = es c.args.head.now.id in
    let parts = parts_of g.row.D _ c.args.head.now items r.held in
    let root = root_of c.walk-root.result c.args.head.now.index parts.root parts.tree parts.has
    (c.walk-root.ensures parts.root parts.tree (subst (λ i. HasTree g.row.D i parts.root parts.tree)
    (sym c.index-2.ensures.value) parts.has)) in
    on_ok (AddsCounts (live_at box place c.args.live.now items) c.args.table.now c.count_below.new.table)
    (AddsCounts (all_at box place (live_in_parts es (p ∷ []))) c.args.table.now c.count_below.new.table)
    c.count_below.result
    (λ a. adds_as (live_at box place c.args.live.now items) (all_at box place (live_in_parts es (p ∷ [])))
    c.args.table.now c.count_below.new.table
    (λ k. live_kept box place c.args.live.now items k ∙ ap (λ (xs : List Item). all_at box place xs k)
    (sym (live_one es p))) a)
    (c.count_below.ensures.counts told agrees 0 front parts.root parts.tree items root parts.holds
    (λ e. all_live g.row.D (g.F.Pages.files c.args.folder.now) es p r c.live_count-count.ensures.set
    (clean_is c.live_count-count.result c.entries.result c.args.head.now c.args.live.now
    c.live_count-count.ensures.value c.entries.ensures ∙ e)))

pub returns-clause-reads : goal.returns-clause-reads
returns-clause-reads g c = λ n all.
    let box = g.S.Sorting.bounds c.args.sorting.now in
    let parts = g.S.Sorting.parts c.args.sorting.now in
    let p = live_segment c.args.head.now c.args.live.now in
    let clean = clean_is c.live_count-count.result c.entries.result c.args.head.now c.args.live.now
    c.live_count-count.ensures.value c.entries.ensures in
    le_by_tree g.row.D c.args.head.now.index c.index.result.now c.index.ensures.value c.is_spelled.ensures _ _
    (λ root t has.
    let e = one_segment g.row.D box parts p n root t all has in
    let same = opened_live box parts p t (omega (arith, c.live_count-count.ensures.value, c.if-count-eq0.false))
    ∙ ap (λ b. opened_below b box parts t) clean in
    let m = c.count_below.ensures.reads 0 front root t (root_of c.walk-root.result c.args.head.now.index root t has
    (c.walk-root.ensures root t (subst (λ i. HasTree g.row.D i root t) (sym c.index-2.ensures.value) has))) in
    omega (arith, e, same, m))

pub returns-clause-calm : goal.returns-clause-calm
returns-clause-calm g c =
    calm_alone g.F.Pages.told (g.F.Pages.files c.args.folder.now) (g.F.Pages.files c.count_below.new.folder)
    c.args.cache.now c.count_below.new.cache c.args.head.now.id
    c.count_below.ensures.reading.files c.count_below.ensures.reading.agrees c.count_below.ensures.reading.others

pub returns-clause-shown : goal.returns-clause-shown
returns-clause-shown g c =
    read_shown g.row.D c.args.head.now c.index.result.now c.count_below.result c.index.ensures.ranges
    c.index.ensures.value c.is_spelled.ensures
    (λ root t has. c.count_below.ensures.shown 0 front root t
    (c.walk-root.ensures root t (subst (λ i. HasTree g.row.D i root t) (sym c.index-2.ensures.value) has)))

pub returns-clause-whole : goal.returns-clause-whole
returns-clause-whole g c = λ told agrees es r.
    let items = es c.args.head.now.id in
    let parts = parts_of g.row.D _ c.args.head.now items r.held in
    c.count_below.ensures.whole told agrees 0 front parts.root parts.tree items
    (c.walk-root.ensures parts.root parts.tree (subst (λ i. HasTree g.row.D i parts.root parts.tree)
    (sym c.index-2.ensures.value) parts.has)) parts.holds
