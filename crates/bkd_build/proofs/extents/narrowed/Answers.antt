use Rattle.std.proofs.Common.{rules, ◌≡◌, ℤ, w32, to_z, of_z, arith, sym, ap, ◌∙◌, subst}
use Rattle.point_codec.specs.Points.{Region}
use Rattle.point_codec.specs.Cells.{left_of, right_of}
use Rattle.point_codec.specs.Seen.{items_of, region_of}
use Rattle.bkd_build.specs.Extents.{HasExtent, LieIn, width}
use Rattle.bkd_build.proofs.ExtentLemmas.{least_inside, greatest_inside}
use Rattle.bkd_build.proofs.Sides.{cut_above, cut_below, exact_between, other_side}
use Rattle.bkd_build.proofs.extents.narrowed.Goals as goal

pub split-low-requires : goal.split-low-requires
split-low-requires g c =
    let lie = c.requires.inside in
    let at =
    greatest_inside c.args.d c.ends-least.result.1 (region_of c.args.cell.now) (items_of c.args.entries.now) (omega (arith, lie.lo_dims, c.requires.within))
    lie.each c.ends-least.ensures.greatest in
    let from = at.0 in
    let to = at.1 in
    search rules

pub split-both-requires : goal.split-both-requires
split-both-requires g c =
    let r = region_of c.args.cell.now in
    let items = items_of c.args.entries.now in
    let round : c.ends-least.result.1 ≡ to_z w32 (of_z w32 c.ends-least.result.1) = search rules in
    let low : region_of c.split-low.result.0 ≡ left_of r c.args.d c.ends-least.result.1 =
    c.split-low.ensures.left ∙ ap (λ (x : ℤ). left_of r c.args.d x) (sym round) in
    let lie : LieIn g.row.D (region_of c.split-low.result.0) items =
    subst (λ (s : Region). LieIn g.row.D s items) (sym low)
    (cut_above g.row.D c.args.d c.ends-least.result.1 r items c.requires.within c.requires.inside c.ends-least.ensures.greatest) in
    let at =
    least_inside c.args.d c.ends-least.result.0 (region_of c.split-low.result.0) items (omega (arith, lie.lo_dims, c.requires.within)) lie.each
    c.ends-least.ensures.least in
    let from = at.0 in
    let to = at.1 in
    search rules

pub returns : goal.returns
returns g c =
    let r = region_of c.args.cell.now in
    let items = items_of c.args.entries.now in
    let least = c.ends-least.result.0 in
    let greatest = c.ends-least.result.1 in
    let low : to_z w32 (of_z w32 least) ≡ least = search rules in
    let high : to_z w32 (of_z w32 greatest) ≡ greatest = search rules in
    let first : region_of c.split-low.result.0 ≡ left_of r c.args.d greatest = c.split-low.ensures.left ∙ ap (λ (x : ℤ). left_of r c.args.d x) high in
    let both : region_of c.split-both.result.1 ≡ right_of (left_of r c.args.d greatest) c.args.d least =
    c.split-both.ensures.right ∙ (λ i. right_of (first i) c.args.d (low i)) in
    let lie = cut_above g.row.D c.args.d greatest r items c.requires.within c.requires.inside c.ends-least.ensures.greatest in
    record {
      inside = subst (λ (s : Region). LieIn g.row.D s items) (sym both)
          (cut_below g.row.D c.args.d least (left_of r c.args.d greatest) items c.requires.within lie c.ends-least.ensures.least);
      exact = subst (λ (s : Region). HasExtent c.args.d (width s c.args.d) items) (sym both)
          (exact_between g.row.D c.args.d least greatest r items c.requires.within c.requires.inside c.ends-least.ensures.least c.ends-least.ensures.greatest);
      others = λ e apart. ap (λ (s : Region). width s e) both ∙ other_side c.args.d e least greatest r apart;
    }
