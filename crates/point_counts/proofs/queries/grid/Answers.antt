-- The table is written through a slice of the vector, whose items are then those of the slice (`seen`).
use Rattle.std.proofs.Common.{◌≡◌, ◌++◌, ◌∙◌, length, sym, subst}
use Rattle.std.proofs.lemmas.List.{with_items_is}
use Rattle.point_codec.specs.Seen.{items_of}
use Rattle.segment_view.specs.LiveSegments.{live_in_parts}
use Rattle.point_counts.specs.Tables.{HasCounts, all_at, place_in}
use Rattle.point_counts.proofs.Counts.{counted, noughts}
use Rattle.point_counts.proofs.queries.grid.Goals as goal

pub returns-clause-exact : goal.returns-clause-exact
returns-clause-exact g c = λ told agrees es read.
    let plan = c.args.plan.now in
    let entries = live_in_parts es c.args.segments.now ++ items_of c.args.buffer.now in
    let table = c.as_mut_slice.result.now in
    let new = c.count_all.new.table in
    let zeros = c.as_mut_slice.ensures.value ∙ c.in_ok-table.ensures.items_if_clones_equal (λ y e. e) in
    let long : length new ≡ c.in_ok-table.table.len = c.count_all.auto.table ∙ c.as_mut_slice.ensures.len in
    let seen = c.as_slice.ensures.value ∙ with_items_is c.in_ok-table.table new long in
    let counts = counted (all_at plan.bounds (place_in plan) entries) table new (noughts table _ zeros)
    (c.in_ok-count_all.ensures.counts told agrees es read) in
    c.in_ok-filled.ensures entries (c.in_ok-count_all.ensures.few told es read)
    (subst (HasCounts (all_at plan.bounds (place_in plan) entries)) (sym seen) counts)
