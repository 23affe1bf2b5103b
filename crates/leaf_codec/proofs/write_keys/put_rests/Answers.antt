use Rattle.std.proofs.Common.{◌≡◌, ◌+◌, ℕ, List, [], ◌∷◌, ◌++◌, take, drop, sym, ap, ◌∙◌, append-nil}
use Rattle.std.specs.List.{flat_map, range_with_len}
use Rattle.std.proofs.lemmas.List.Concat.{flat_map-append}
use Rattle.std.proofs.lemmas.List.Elements.{All-push}
use Rattle.point_codec.specs.Points.{Item}
use Rattle.leaf_codec.specs.Leaves.{IsPoint}
use Rattle.point_codec.specs.Seen.{items_of}
use Rattle.leaf_codec.specs.Dimensions.{key_of, told_of}
use Rattle.leaf_codec.specs.LeafOrder.{item_of}
use Rattle.leaf_codec.specs.Spelling.{rest, rests}
use Rattle.leaf_codec.proofs.Items.{items_more, items_all}
use Rattle.leaf_codec.proofs.Lists.{grows}
use Rattle.leaf_codec.proofs.Written.{rest_is}
use Rattle.leaf_codec.proofs.write_keys.put_rests.Goals as goal

pub loop-entry-preserved : goal.loop-entry-preserved
loop-entry-preserved g c =
    let items = items_of c.args.entries.now in
    let i = c.loop-entry.entry-index in
    let x = item_of c.entry-item.result in
    let left = rest g.row.D items in
    let told : flat_map (λ d. drop (told_of c.args.dimensions.now.lengths c.args.dimensions.now.sorted d) (key_of d x)) (range_with_len 0 g.row.D) ≡ left x =
    (λ j. flat_map (λ d. drop (told_of (c.requires.lengths j) (c.requires.sorted j) d) (key_of d x)) (range_with_len 0 g.row.D)) ∙ rest_is g.row.D items x in
    record {
      points = rw (items_more c.args.entries.now i c.entry-item.result c.loop-entry-test.true c.entry-item.is)
          (All-push (λ (y : Item). IsPoint g.row.D y.at) (take i items) x c.loop-entry.invariant.points c.in_ok-put_rest.ensures.point);
      written = grows c.put_rest.new.out.items c.loop-entry.out.items c.args.out.now.items (flat_map left (take i items)) (left x)
          (flat_map left (take (i + 1) items))
          (c.in_ok-put_rest.ensures.ok ∙ ap (λ (t : List ℕ). c.loop-entry.out.items ++ t) told)
          c.loop-entry.invariant.written
          (sym (ap (flat_map left) (items_more c.args.entries.now i c.entry-item.result c.loop-entry-test.true c.entry-item.is)
          ∙ flat_map-append left (take i items) (x ∷ [])
          ∙ ap (λ (t : List ℕ). flat_map left (take i items) ++ t) (append-nil (left x))));
    }

pub returns-clause-points : goal.returns-clause-points
returns-clause-points g c =
    rw (items_all c.args.entries.now c.loop-entry.entry-index c.loop-entry-test.false) at c.loop-entry.invariant.points

pub returns-clause-ok : goal.returns-clause-ok
unfolding rests
returns-clause-ok g c =
    let items = items_of c.args.entries.now in
    c.loop-entry.invariant.written
    ∙ ap (λ (xs : List _). c.args.out.now.items ++ flat_map (rest g.row.D items) xs)
    (items_all c.args.entries.now c.loop-entry.entry-index c.loop-entry-test.false)
