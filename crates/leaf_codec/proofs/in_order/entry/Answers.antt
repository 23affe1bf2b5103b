use Rattle.std.proofs.Common.{sym, ◌∙◌}
use Rattle.leaf_codec.specs.Views.{raw_numbers_of, raw_keys_of}
use Rattle.leaf_codec.proofs.ItemsDecoded.{raw_item_is}
use Rattle.leaf_codec.proofs.in_order.entry.Goals as goal

pub returns : goal.returns
returns g c =
    (λ j. record { doc = c.number.ensures.value j; at = c.point.ensures j })
    ∙ sym (raw_item_is g.row.D c.args.i (raw_numbers_of c.args.numbers.now) (raw_keys_of c.args.parts.now))
