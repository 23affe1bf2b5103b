use Rattle.std.proofs.Common.{◌∙◌, rules}
use Rattle.std.proofs.lemmas.List.{map_push}
use Rattle.point_codec.specs.Seen.{items_of}
use Rattle.leaf_codec.specs.Dimensions.{key_byte}
use Rattle.leaf_codec.specs.LeafOrder.{item_of}
use Rattle.leaf_codec.proofs.Items.{items_more, items_all}
use Rattle.leaf_codec.proofs.Shared.{key_byte-lt}
use Rattle.leaf_codec.proofs.SeenBytes.{seen_none, seen_more, seen_count, values-map}
use Rattle.leaf_codec.proofs.dimensions.different.Goals as goal

pub loop-entry-init : goal.loop-entry-init
loop-entry-init g c = seen_none _ (search rules) c.new-seen.ensures

pub loop-entry-preserved : goal.loop-entry-preserved
loop-entry-preserved g c =
    let x = item_of c.entry-item.result in
    rw (
      c.insert.ensures,
      items_more c.args.entries.now c.loop-entry.entry-index c.entry-item.result c.loop-entry-test.true c.entry-item.is,
      map_push,
      c.key.ensures.value,
    )
    (seen_more _ _ (key_byte c.args.d c.args.i x) (key_byte-lt c.args.d c.args.i x) c.loop-entry.invariant)

pub returns-clause-value : goal.returns-clause-value
returns-clause-value g c =
    let all = rw (items_all c.args.entries.now c.loop-entry.entry-index c.loop-entry-test.false) at c.loop-entry.invariant in
    c.count.ensures.value ∙ seen_count _ _ all ∙ values-map (key_byte c.args.d c.args.i) (items_of c.args.entries.now)
