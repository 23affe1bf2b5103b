use Rattle.std.proofs.Common.{rules, ◌≡◌, ◌<◌, length, take, drop, ℕ, ℤ, w32, to_z, of_z, arith, subst, sym, ap, ◌∙◌}
use Rattle.std.proofs.lemmas.List.Sorted.{length_permutation}
use Rattle.point_codec.specs.Points.{Region}
use Rattle.point_codec.specs.Cells.{left_of, right_of}
use Rattle.point_codec.specs.Seen.{items_of, region_of}
use Rattle.bkd_build.specs.Canon.{IsCanonSplit}
use Rattle.bkd_build.specs.Extents.{LieIn}
use Rattle.bkd_build.proofs.Nodes.{entries-IsPermutation, entries-take, entries-drop, split_of_cut}
use Rattle.bkd_build.proofs.Sides.{value_inside, low_lies, high_lies}
use Rattle.bkd_build.proofs.halves.halve.Goals as goal

pub returns-clause-lefts : goal.returns-clause-lefts
returns-clause-lefts g c =
    let round : to_z w32 (of_z w32 c.cut-at.result) ≡ c.cut-at.result = search rules in
    let r = region_of c.widest-dimension.new.cell in
    let d = c.widest-dimension.result in
    record {
      are = entries-take c.left_count-rank.result c.cut-at.new.entries c.left_count-rank.ensures.left
          (entries-IsPermutation c.args.entries.now c.cut-at.new.entries c.cut-at.ensures.same c.requires.entries.are);
      inside = subst (λ (s : Region). LieIn g.row.D s (items_of (take c.left_count-rank.result c.cut-at.new.entries)))
          (sym (c.split-low.ensures.left ∙ ap (λ (x : ℤ). left_of r d x) round))
          (low_lies g.row.D d c.left_count-rank.result c.cut-at.result r c.args.entries.now c.cut-at.new.entries c.cut-at.ensures.same
          c.widest-dimension.ensures.widest.dimension c.widest-dimension.ensures.inside c.cut-at.ensures.split c.cut-at.ensures.cut);
    }

pub returns-clause-rights : goal.returns-clause-rights
returns-clause-rights g c =
    let there : c.left_count-rank.result < length c.cut-at.new.entries =
    omega (arith, length_permutation c.args.entries.now c.cut-at.new.entries c.cut-at.ensures.same, c.left_count-rank.ensures.right) in
    let round : to_z w32 (of_z w32 c.cut-at.result) ≡ c.cut-at.result = search rules in
    let r = region_of c.widest-dimension.new.cell in
    let d = c.widest-dimension.result in
    record {
      are = entries-drop c.left_count-rank.result c.cut-at.new.entries there
          (entries-IsPermutation c.args.entries.now c.cut-at.new.entries c.cut-at.ensures.same c.requires.entries.are);
      inside = subst (λ (s : Region). LieIn g.row.D s (items_of (drop c.left_count-rank.result c.cut-at.new.entries)))
          (sym (c.split-low.ensures.right ∙ ap (λ (x : ℤ). right_of r d x) round))
          (high_lies g.row.D d c.left_count-rank.result c.cut-at.result r c.args.entries.now c.cut-at.new.entries c.cut-at.ensures.same
          c.widest-dimension.ensures.widest.dimension c.widest-dimension.ensures.inside c.cut-at.ensures.split);
    }

pub returns-clause-split : goal.returns-clause-split
returns-clause-split g c =
    let rank : ℕ = c.left_count-rank.result in
    let fs = c.cut-at.new.entries in
    let round : c.cut-at.result ≡ to_z w32 (of_z w32 c.cut-at.result) = search rules in
    subst (λ (x : ℤ). IsCanonSplit g.row.D c.args.leaf_size c.widest-dimension.result x (items_of (take rank fs)) (items_of (drop rank fs))) round
    (split_of_cut g.row.D c.args.leaf_size c.widest-dimension.result rank c.cut-at.result c.args.entries.now fs c.cut-at.ensures.same c.requires.many
    c.left_count-rank.ensures.value c.left_count-rank.ensures.right
    c.widest-dimension.ensures.widest c.cut-at.ensures.cut c.cut-at.ensures.split)

pub split-low-requires : goal.split-low-requires
split-low-requires g c =
    let at =
    value_inside g.row.D c.widest-dimension.result c.left_count-rank.result c.cut-at.result (region_of c.widest-dimension.new.cell) c.args.entries.now
    c.cut-at.new.entries c.cut-at.ensures.same c.widest-dimension.ensures.widest.dimension c.widest-dimension.ensures.inside c.cut-at.ensures.split in
    let from = at.0 in
    let to = at.1 in
    search rules
