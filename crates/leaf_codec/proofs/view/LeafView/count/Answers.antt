use Rattle.std.proofs.Common.{sym, ap, ◌∙◌, length}
use Rattle.leaf_codec.specs.Views.{raw_numbers_of, raw_keys_of}
use Rattle.leaf_codec.proofs.KeysLemmas.{length-raw_items}
use Rattle.leaf_codec.proofs.view.LeafView.count.Goals as goal

pub returns : goal.returns
returns g c =
    let v = c.self.inside in
    sym (length-raw_items g.row.D v.numbers.count (raw_numbers_of v.numbers) (raw_keys_of v.parts)) ∙ ap length c.self.view_is
