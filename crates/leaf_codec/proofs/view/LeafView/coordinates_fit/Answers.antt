use Rattle.std.proofs.Common.{ℕ, subst}
use Rattle.leaf_codec.specs.Raw.{AreRawKeys}
use Rattle.leaf_codec.specs.Views.{raw_numbers_of, raw_keys_of}
use Rattle.leaf_codec.proofs.Ascending.{all_fit}
use Rattle.leaf_codec.proofs.view.LeafView.coordinates_fit.Goals as goal

pub returns : goal.returns
returns g c =
    let v = c.self.inside in
    all_fit g.row.D v.numbers.count c.args.d (raw_numbers_of v.numbers) (raw_keys_of v.parts) c.args.self.now
    (subst (λ (n : ℕ). AreRawKeys g.row.D n (raw_keys_of v.parts)) v.readable.counted v.readable.keys.raw) c.requires c.self.view_is
