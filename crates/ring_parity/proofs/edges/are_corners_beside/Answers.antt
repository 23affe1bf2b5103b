use Rattle.std.proofs.Common.{◌≡◌, ◌||◌, Bool, true, false, ◌∙◌}
use Rattle.std.specs.List.{list_all}
use Rattle.point_codec.specs.Seen.{region_of}
use Rattle.ring_parity.specs.Seen.{ends_of}
use Rattle.ring_parity.specs.Edges.{is_left, is_right, corners}
use Rattle.ring_parity.proofs.Corners.{AreProducts, corners_left, corners_right}
use Rattle.ring_parity.proofs.Wide.{kept, kept_is}
use Rattle.ring_parity.proofs.edges.are_corners_beside.Goals as goal

first_holds : (r a b : Bool) → r ≡ a → r ≡ true → r ≡ (a || b)
first_holds r true b p q = q
first_holds r false b p q = cc

second_decides : (r s a b : Bool) → r ≡ a → r ≡ false → s ≡ b → s ≡ (a || b)
second_decides r s true b p q e = cc
second_decides r s false b p q e = e

pub returns-then-are_less : goal.returns-then-are_less
returns-then-are_less c =
    let products : AreProducts (ends_of c.args.e.now) (region_of c.args.c.now) (kept c.product-south.result) (kept c.product-north.result)
    (kept c.product-west.result) (kept c.product-east.result) = record {
      south_is = kept_is c.product-south.result c.product-south.ensures.small ∙ c.product-south.ensures.value;
      north_is = kept_is c.product-north.result c.product-north.ensures.small ∙ c.product-north.ensures.value;
      west_is = kept_is c.product-west.result c.product-west.ensures.small ∙ c.product-west.ensures.value;
      east_is = kept_is c.product-east.result c.product-east.ensures.small ∙ c.product-east.ensures.value;
    } in
    first_holds c.are_less.result (list_all (is_left (ends_of c.args.e.now)) (corners (region_of c.args.c.now)))
    (list_all (is_right (ends_of c.args.e.now)) (corners (region_of c.args.c.now)))
    (c.are_less.ensures
    ∙ corners_left (ends_of c.args.e.now) (region_of c.args.c.now) (kept c.product-south.result) (kept c.product-north.result) (kept c.product-west.result)
    (kept c.product-east.result) products)
    c.if-are_less.true

pub returns-else-are_less : goal.returns-else-are_less
returns-else-are_less c =
    let products : AreProducts (ends_of c.args.e.now) (region_of c.args.c.now) (kept c.product-south.result) (kept c.product-north.result)
    (kept c.product-west.result) (kept c.product-east.result) = record {
      south_is = kept_is c.product-south.result c.product-south.ensures.small ∙ c.product-south.ensures.value;
      north_is = kept_is c.product-north.result c.product-north.ensures.small ∙ c.product-north.ensures.value;
      west_is = kept_is c.product-west.result c.product-west.ensures.small ∙ c.product-west.ensures.value;
      east_is = kept_is c.product-east.result c.product-east.ensures.small ∙ c.product-east.ensures.value;
    } in
    second_decides c.are_less.result c.are_less-else-are_less.result (list_all (is_left (ends_of c.args.e.now)) (corners (region_of c.args.c.now)))
    (list_all (is_right (ends_of c.args.e.now)) (corners (region_of c.args.c.now)))
    (c.are_less.ensures
    ∙ corners_left (ends_of c.args.e.now) (region_of c.args.c.now) (kept c.product-south.result) (kept c.product-north.result) (kept c.product-west.result)
    (kept c.product-east.result) products)
    c.if-are_less.false
    (c.are_less-else-are_less.ensures
    ∙ corners_right (ends_of c.args.e.now) (region_of c.args.c.now) (kept c.product-south.result) (kept c.product-north.result) (kept c.product-west.result)
    (kept c.product-east.result) products)
