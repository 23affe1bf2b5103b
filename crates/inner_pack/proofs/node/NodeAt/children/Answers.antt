use Rattle.std.proofs.Common.{◌≡◌, ◌+◌, ◌-◌, ◌/◌, ◌∙◌, sym, ap, rules, to_z, of_z, to_z-of_z, FitsSigned, w32}
use Rattle.std.proofs.Math.Logic.{∥∥₁_elim, ∥∥₁_prop}
use Rattle.std.proofs.lemmas.Grind.{merely}
use Rattle.point_codec.specs.Cells.{left_of, right_of}
use Rattle.point_codec.specs.Seen.{region_of}
use Rattle.inner_pack.specs.Places.{spot_at}
use Rattle.inner_pack.specs.Trees.{cell_of, leaf_count}
use Rattle.inner_pack.specs.Bodies.{right_begin}
use Rattle.inner_pack.specs.Spelled.{IsSomeTree}
use Rattle.inner_pack.proofs.PlaceLemmas.{count_shaped}
use Rattle.inner_pack.proofs.Walking.{as_inner, begins_at, left_child, right_child, right_spot, at_otherwise}
use Rattle.inner_pack.proofs.node.NodeAt.children.Goals as goal

pub new-left-requires : goal.new-left-requires
new-left-requires g c =
    let D = g.row.D in
    let N = c.args.self.now in
    let s0 = spot_at N.page N.offset in
    let cell = region_of N.cell in
    let head = c.head-head.result in
    let hf : FitsSigned w32 c.head-head.result.at = search rules in
    let at_is : to_z w32 (of_z w32 c.head-head.result.at) ≡ c.head-head.result.at = to_z-of_z hf in
    let lp = region_of c.split-left_path.result.0 in
    let rp = region_of c.split-left_path.result.1 in
    let lpath : lp ≡ left_of cell head.dimension head.at = c.split-left_path.ensures.left ∙ (λ i. left_of cell head.dimension (at_is i)) in
    let rpath : rp ≡ right_of cell head.dimension head.at = c.split-left_path.ensures.right ∙ (λ i. right_of cell head.dimension (at_is i)) in
    let moved = c.with_key-references.result in
    let some : ∥ IsSomeTree D N.form (N.leaves - N.leaves / 2) s0 lp moved head.left.bytes.now head.left.places.now ∥₁ = ∥∥₁_elim N.some ∥∥₁_prop (λ q.
    let y = c.head-head.ensures.says q.path q.tree q.cell_is q.is in
    let node = as_inner D N.form N.leaves s0 cell N.references N.bytes.now N.places.now q.path q.tree y.dimension y.value y.l y.r q.cell_is y.is q.is in
    merely (record {
      tree = y.l;
      is = left_child D N.form N.leaves s0 cell N.references N.bytes.now N.places.now y.dimension y.value y.l y.r head lp moved node y.says lpath
          c.with_key-references.ensures;
    })) in
    search rules

pub new-right-requires : goal.new-right-requires
new-right-requires g c =
    let D = g.row.D in
    let N = c.args.self.now in
    let s0 = spot_at N.page N.offset in
    let cell = region_of N.cell in
    let head = c.head-head.result in
    let hf : FitsSigned w32 c.head-head.result.at = search rules in
    let at_is : to_z w32 (of_z w32 c.head-head.result.at) ≡ c.head-head.result.at = to_z-of_z hf in
    let lp = region_of c.split-left_path.result.0 in
    let rp = region_of c.split-left_path.result.1 in
    let lpath : lp ≡ left_of cell head.dimension head.at = c.split-left_path.ensures.left ∙ (λ i. left_of cell head.dimension (at_is i)) in
    let rpath : rp ≡ right_of cell head.dimension head.at = c.split-left_path.ensures.right ∙ (λ i. right_of cell head.dimension (at_is i)) in
    let moved = c.with_key-references.result in
    let some : ∥ IsSomeTree D N.form (N.leaves / 2) (spot_at (N.page + head.pages) head.offset) rp moved head.right.bytes.now head.right.places.now ∥₁ =
    ∥∥₁_elim N.some ∥∥₁_prop (λ q.
    let y = c.head-head.ensures.says q.path q.tree q.cell_is q.is in
    let node = as_inner D N.form N.leaves s0 cell N.references N.bytes.now N.places.now q.path q.tree y.dimension y.value y.l y.r q.cell_is y.is q.is in
    merely (record {
      tree = y.r;
      is = right_child D N.form N.leaves s0 cell N.references N.bytes.now N.places.now y.dimension y.value y.l y.r head rp moved node y.says rpath
          c.with_key-references.ensures;
    })) in
    search rules

pub returns-clause-some : goal.returns-clause-some
returns-clause-some g c first s path t h =
    let D = g.row.D in
    let N = c.args.self.now in
    let s0 = spot_at N.page N.offset in
    let cell = region_of N.cell in
    let head = c.head-head.result in
    let hf : FitsSigned w32 c.head-head.result.at = search rules in
    let at_is : to_z w32 (of_z w32 c.head-head.result.at) ≡ c.head-head.result.at = to_z-of_z hf in
    let lp = region_of c.split-left_path.result.0 in
    let rp = region_of c.split-left_path.result.1 in
    let lpath : lp ≡ left_of cell head.dimension head.at = c.split-left_path.ensures.left ∙ (λ i. left_of cell head.dimension (at_is i)) in
    let rpath : rp ≡ right_of cell head.dimension head.at = c.split-left_path.ensures.right ∙ (λ i. right_of cell head.dimension (at_is i)) in
    let moved = c.with_key-references.result in
    let same : s ≡ s0 = (λ i. spot_at (sym h.page_is i) (sym h.offset_is i)) in
    let here = begins_at D N.form N.leaves s s0 path N.references N.bytes.now N.places.now t (sym same) h.is in
    let y = c.head-head.ensures.says path t h.cell_is here in
    let node = as_inner D N.form N.leaves s0 cell N.references N.bytes.now N.places.now path t y.dimension y.value y.l y.r h.cell_is y.is here in
    let known : path ≡ cell = sym (h.cell_is ∙ ap (cell_of path) y.is) in
    let lto : left_of path y.dimension y.value ≡ lp = (λ i. left_of (known i) (sym y.says.dimension i) (sym y.says.value i)) ∙ sym lpath in
    let rto : right_of path y.dimension y.value ≡ rp = (λ i. right_of (known i) (sym y.says.dimension i) (sym y.says.value i)) ∙ sym rpath in
    let count : first + leaf_count y.l ≡ N.first + (N.leaves - N.leaves / 2) =
    (λ i. sym h.first_is i + count_shaped (N.leaves - N.leaves / 2) y.l node.shaped.1 i) in
    let begin : right_begin s y.l y.r ≡ spot_at (N.page + head.pages) head.offset =
    (λ i. right_begin (same i) y.l y.r) ∙ sym (right_spot N.form s0 N.references y.dimension y.value y.l y.r head y.says) in
    record {
      dimension = y.dimension;
      value = y.value;
      l = y.l;
      r = y.r;
      is = y.is;
      left_is = at_otherwise c.new-left.result N.first first s0 s lp (left_of path y.dimension y.value) y.l (sym h.first_is) same lto
          (c.new-left.ensures.at y.l
          (left_child D N.form N.leaves s0 cell N.references N.bytes.now N.places.now y.dimension y.value y.l y.r head lp moved node y.says lpath
          c.with_key-references.ensures));
      right_is = at_otherwise c.new-right.result (N.first + (N.leaves - N.leaves / 2)) (first + leaf_count y.l) (spot_at (N.page + head.pages) head.offset)
          (right_begin s y.l y.r) rp (right_of path y.dimension y.value) y.r count begin rto
          (c.new-right.ensures.at y.r
          (right_child D N.form N.leaves s0 cell N.references N.bytes.now N.places.now y.dimension y.value y.l y.r head rp moved node y.says rpath
          c.with_key-references.ensures));
    }
