-- The segment of the tests: three leaves in one dimension.
use Rattle.std.proofs.Common.{◌≡◌, ℕ, List, [], ◌∷◌, ◌++◌, length, map, refl, sym, subst, arith, pos}
use Rattle.point_codec.specs.Points.{Item, Region}
use Rattle.point_codec.specs.Seen.{region_of}
use Rattle.point_codec.specs.declared.boxes.Cell.{Cell}
use Rattle.leaf_codec.specs.Leaves.{SpellsLeafIn}
use Rattle.inner_pack.specs.Bodies.{Body, HasTree}
use Rattle.inner_pack.specs.Parts.{ArePartsOf}
use Rattle.codec_tests.proofs.SmallTrees.{line, three, are_three_parts}
use Rattle.segment_file.specs.Written.{CanWrite}

abbrev pub wide : Region
wide = line (pos 5) (pos 7)

abbrev pub narrow : Region
narrow = line (pos 7) (pos 7)

pub parts_of_three : (root : Region) (cells : List (Cell 1)) → root ≡ wide → map region_of cells ≡ wide ∷ narrow ∷ narrow ∷ []
    → ArePartsOf 1 root ((0, pos 7) ∷ (0, pos 7) ∷ []) (12 ∷ 9 ∷ 9 ∷ []) cells three
parts_of_three root cells e es =
    subst (λ (r : Region). ArePartsOf 1 r ((0, pos 7) ∷ (0, pos 7) ∷ []) (12 ∷ 9 ∷ 9 ∷ []) cells three) (sym e) (are_three_parts cells es)

pub can_write_three : (index : Body) (root cell : Region) (a b c : List ℕ) (xs ys zs : List Item)
    → index.leaves ≡ 3 → HasTree 1 index root three → root ≡ wide → cell ≡ narrow
    → length a ≡ 12 → length b ≡ 9 → length c ≡ 9
    → SpellsLeafIn 1 a 2 root xs → SpellsLeafIn 1 b 2 cell ys → SpellsLeafIn 1 c 1 cell zs
    → CanWrite 1 7 2 5 index (a ∷ b ∷ c ∷ [])
can_write_three index root cell a b c xs ys zs leaves has at_root at_cell la lb lc first second third =
    let first_spells : SpellsLeafIn 1 a 2 wide xs = subst (λ (r : Region). SpellsLeafIn 1 a 2 r xs) at_root first in
    let second_spells : SpellsLeafIn 1 b 2 narrow ys = subst (λ (r : Region). SpellsLeafIn 1 b 2 r ys) at_cell second in
    let third_spells : SpellsLeafIn 1 c 1 narrow zs = subst (λ (r : Region). SpellsLeafIn 1 c 1 r zs) at_cell third in
    record {
      items = (xs ++ ys) ++ zs;
      fits = record {
        least_leaf = omega arith;
        greatest_leaf = omega arith;
        some = omega arith;
        few = omega arith;
        leaves_are = leaves;
        root = root;
        tree = three;
        has = has;
        spells = record {
          front_leaves = a ∷ b ∷ [];
          back_leaves = c ∷ [];
          front_items = xs ++ ys;
          back_items = zs;
          front_spells = record {
            front_leaves = a ∷ [];
            back_leaves = b ∷ [];
            front_items = xs;
            back_items = ys;
            front_spells = (a, refl, la, first_spells);
            back_spells = (b, refl, lb, second_spells);
            leaves_joined = refl;
            items_joined = refl;
          };
          back_spells = (c, refl, lc, third_spells);
          leaves_joined = refl;
          items_joined = refl;
        };
      };
    }
