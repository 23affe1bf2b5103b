use Rattle.std.proofs.Common.{rules, List, [], ◌∷◌}
use Rattle.point_codec.specs.Points.{Item}
use Rattle.point_codec.specs.Seen.{items_of}
use Rattle.leaf_codec.specs.LeafOrder.{NoneTwice}
use Rattle.leaf_codec.proofs.Apart.{Apart, none_twice}
use Rattle.file_tests.proofs.segment_build_five.five.Goals as goal

pub build_segment-requires-after_bounds : goal.build_segment-requires-after_bounds
build_segment-requires-after_bounds g c κs =
    let items : List Item = items_of (c.entry.result ∷ c.entry-2.result ∷ c.entry-3.result ∷ c.entry-4.result ∷ c.entry-5.result ∷ []) in
    let apart : Apart items = search rules in
    let once : NoneTwice items = none_twice items apart in
    search rules
