use Rattle.std.proofs.Common.{◌++◌, length-append, arith}
use Rattle.point_codec.specs.Seen.{items_of}
use Rattle.segment_view.specs.LiveSegments.{live_in_parts}
use Rattle.point_counts.specs.Tables.{all_at}
use Rattle.point_counts.proofs.Counts.{adds_then, all_join, items_long}
use Rattle.point_counts.proofs.Segments.{few_live}
use Rattle.point_counts.proofs.queries.count_all.Goals as goal

pub returns-clause-counts : goal.returns-clause-counts
returns-clause-counts g c = λ told agrees es read.
    let box = g.S.Sorting.bounds c.args.sorting.now in
    let place = g.S.Sorting.place c.args.sorting.now in
    let live = live_in_parts es c.args.segments.now in
    let items = items_of c.args.buffer.now in
    adds_then (all_at box place live) (all_at box place items) (all_at box place (live ++ items)) c.args.table.now
    c.count_segments.new.table c.count_buffer.new.table (all_join box place live items)
    (c.in_ok-count_segments.ensures.counts told agrees es read) c.count_buffer.ensures

pub returns-clause-few : goal.returns-clause-few
returns-clause-few g c = λ told es read.
    let live = live_in_parts es c.args.segments.now in
    let items = items_of c.args.buffer.now in
    let both = length-append live items in
    let long = items_long c.args.buffer.now in
    let most = few_live g.row.D (g.F.Pages.files c.args.folder.now) es c.args.segments.now read in
    omega (arith, both, long, most, c.in_ok-count_segments.ensures.few, c.if-buffer-gt-MOST_BUFFERED.false)
