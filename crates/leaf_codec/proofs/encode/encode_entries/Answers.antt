use Rattle.std.proofs.Common.{rules, ◌≡◌, ◌≤◌, ◌<◌, ◌^◌, ℕ, Option, unwrap_or, length, map, arith, ap, ◌∙◌}
use Rattle.std.specs.List.{All, range_with_len}
use Rattle.std.specs.List.Sorted.{IsPermutation, IsStrictlySortedBy}
use Rattle.std.proofs.lemmas.List.Sorted.{All-permutation, IsPermutation-map, length_permutation}
use Rattle.point_codec.specs.Seen.{items_of}
use Rattle.point_codec.specs.declared.entries.Entry.{Entry}
use Rattle.leaf_codec.specs.Dimensions.{shared_prefix, sorted_dimension}
use Rattle.leaf_codec.specs.LeafOrder.{leaf_order, item_of}
use Rattle.leaf_codec.specs.Leaves.{leaf_limit}
use Rattle.leaf_codec.proofs.Permuted.{shared_prefix-IsPermutation, sorted_dimension-IsPermutation}
use Rattle.leaf_codec.proofs.encode.encode_entries.Goals as goal

-- what was found of the entries as they were holds in leaf order
pub spell-requires : goal.spell-requires
spell-requires g c =
    let D = g.row.D in
    let were = c.args.entries.now in
    let are = c.arrange_by.new.entries in
    let same : IsPermutation were are = c.arrange_by.ensures.same in
    let moved : IsPermutation (items_of were) (items_of are) = IsPermutation-map (λ (e : Entry D). item_of e) were are same in
    let some : 1 ≤ length are = omega (arith, length_permutation were are same, c.requires.some) in
    let few : length are ≤ leaf_limit D = omega (arith, length_permutation were are same, c.requires.few) in
    let numbers : All (λ (e : Entry D). e.doc < 2 ^ 24) are = All-permutation (λ (e : Entry D). e.doc < 2 ^ 24) were are same c.requires.numbers in
    let up : IsStrictlySortedBy (leaf_order D (items_of are)) (items_of are) = c.arrange_by.ensures.strictly c.requires.once in
    let lengths : c.of-dimensions.result.lengths ≡ map (λ d. shared_prefix d (items_of are)) (range_with_len 0 D) =
    c.of-dimensions.ensures.lengths
    ∙ (λ i. map (λ d. shared_prefix-IsPermutation d (items_of were) (items_of are) moved i) (range_with_len 0 D)) in
    let sorted : c.of-dimensions.result.sorted ≡ unwrap_or (sorted_dimension D (items_of are)) D =
    c.of-dimensions.ensures.sorted
    ∙ ap (λ (o : Option ℕ). unwrap_or o D) (sorted_dimension-IsPermutation D (items_of were) (items_of are) moved) in
    search rules
