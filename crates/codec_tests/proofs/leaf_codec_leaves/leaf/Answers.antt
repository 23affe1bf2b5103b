use Rattle.std.proofs.Common.{◌<◌, ◌^◌, ℕ, List, arith, rules}
use Rattle.std.specs.List.{All}
use Rattle.std.specs.List.Sorted.{IsPermutation}
use Rattle.std.proofs.lemmas.List.{get_or-map, length-map}
use Rattle.std.proofs.lemmas.List.Elements.{All-map}
use Rattle.std.proofs.lemmas.List.Sorted.{length_permutation}
use Rattle.std.proofs.lemmas.Map.Views.{All-map-IsPermutation}
use Rattle.point_codec.specs.declared.entries.Entry.{Entry}
use Rattle.codec_tests.proofs.leaf_codec_leaves.leaf.Goals as goal

small : {D : ℕ} (xs ys : List (Entry D)) → IsPermutation xs ys → All (λ (e : Entry D). e.doc < 2 ^ 24) xs → All (λ (e : Entry D). e.doc < 2 ^ 24) ys
small {D} xs ys p h k d lt =
    let doc = λ (e : Entry D). e.doc in
    let all = All-map-IsPermutation doc (λ (n : ℕ). n < 2 ^ 24) xs ys p (All-map (λ (n : ℕ). n < 2 ^ 24) doc xs h) in
    omega (arith, all k d.doc (omega (arith, lt, length-map ys doc)), get_or-map doc ys k d d.doc lt)

pub encode_leaf-requires : goal.encode_leaf-requires
encode_leaf-requires g c =
    let long = length_permutation c.args.entries.now c.arrange.new.entries c.arrange.ensures.same in (
      search rules,
      (
        c.requires.dims,
        (
          omega (arith, c.requires.some, long),
          (
            omega (arith, c.requires.few, long),
            (
              small c.args.entries.now c.arrange.new.entries c.arrange.ensures.same c.requires.numbers,
              c.arrange.ensures.strictly c.requires.once,
            ),
          ),
        ),
      ),
    )
