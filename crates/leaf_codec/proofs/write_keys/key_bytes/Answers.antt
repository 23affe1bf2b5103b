use Rattle.std.proofs.Common.{◌≡◌, ℕ, List, [], ◌∷◌, ◌++◌, take, map, get_or, length, arith, sym, ap, ◌∙◌, refl}
use Rattle.std.proofs.lemmas.List.{take_more_set, map_push, length-set}
use Rattle.point_codec.specs.Seen.{items_of}
use Rattle.leaf_codec.specs.Dimensions.{key_byte}
use Rattle.leaf_codec.specs.LeafOrder.{item_of}
use Rattle.leaf_codec.proofs.Items.{items_more, items_all}
use Rattle.leaf_codec.proofs.write_keys.key_bytes.Goals as goal

pub loop-at-init : goal.loop-at-init
loop-at-init g c = record { long = refl; filled = refl }

pub loop-at-preserved : goal.loop-at-preserved
loop-at-preserved g c =
    let f = key_byte c.args.d c.args.i in
    let items = items_of c.args.entries.now in
    let at = c.loop-at.at in
    let x = item_of c.index-entries-at.result in
    let v = get_or c.key.result c.args.i 0 in
    let is : v ≡ f x = ap (λ (bs : List ℕ). get_or bs c.args.i 0) c.key.ensures.value in
    record {
      long = length-set c.loop-at.table at v ∙ c.loop-at.invariant.long;
      filled =
          take_more_set c.loop-at.table at v (omega (arith, c.loop-at.invariant.long))
          ∙ (λ i. c.loop-at.invariant.filled i ++ is i ∷ [])
          ∙ sym (map_push f (take at items) x)
          ∙ ap (map f) (sym (items_more c.args.entries.now at c.index-entries-at.result c.loop-at-test.true c.index-entries-at.is));
    }

pub returns : goal.returns
returns g c =
    let whole : c.loop-at.at ≡ length c.args.entries.now = omega arith in
    let all = items_all c.args.entries.now c.loop-at.at c.loop-at-test.false in
    ap (λ (n : ℕ). take n c.loop-at.table) (sym whole) ∙ c.loop-at.invariant.filled ∙ ap (map (key_byte c.args.d c.args.i)) all
