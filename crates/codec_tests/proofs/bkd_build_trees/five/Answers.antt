use Rattle.std.proofs.Common.{rules, List, [], ◌∷◌}
use Rattle.point_codec.specs.Points.{Item}
use Rattle.point_codec.specs.Seen.{items_of}
use Rattle.leaf_codec.specs.LeafOrder.{NoneTwice}
use Rattle.leaf_codec.proofs.Apart.{Apart, none_twice}
use Rattle.codec_tests.proofs.bkd_build_trees.five.Goals as goal

pub alone-requires-after_bounds : goal.alone-requires-after_bounds
alone-requires-after_bounds g c κs =
    let items : List Item = items_of (c.entry.result ∷ c.entry-2.result ∷ c.entry-3.result ∷ c.entry-4.result ∷ c.entry-5.result ∷ []) in
    let apart : Apart items = search rules in
    let once : NoneTwice items = none_twice items apart in
    search rules
