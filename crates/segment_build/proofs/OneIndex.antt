-- Entries have one canonical index.
use Rattle.std.proofs.Common.{◌≡◌, ℕ, List, map, refl, ap, subst}
use Rattle.std.specs.List.Sorted.{IsPermutation}
use Rattle.point_codec.specs.Points.{Item}
use Rattle.leaf_codec.specs.Spelling.{spelling}
use Rattle.bkd_build.specs.Canon.{BuiltValue, Canon, IsBuilt, leaves_of}
use Rattle.bkd_build.proofs.Leaves.{built_in_any_order, one_built}
use Rattle.segment_file.specs.Heads.{Head}
use Rattle.segment_build.specs.NewSegments.{IsCanonical}

-- what is built has the index of a canonical head
beside : (D leaf_size : ℕ) (head : Head) (items : List Item) (h : IsCanonical D head items) → head.leaf_size ≡ leaf_size
    → IsBuilt D leaf_size items (record { index = head.index; leaves = map (spelling D) (leaves_of h.tree) })
beside D leaf_size head items h same = record {
  tree = h.tree;
  root = h.root;
  canon = subst (λ (n : ℕ). Canon D n items h.root h.tree) same h.canon;
  form = h.form;
  index = h.index;
  leaves = refl;
}

pub one_canonical : (D : ℕ) (xs ys : List Item) (g h : Head) → g.leaf_size ≡ h.leaf_size → IsPermutation xs ys → IsCanonical D g xs → IsCanonical D h ys
    → g.index ≡ h.index
one_canonical D xs ys g h same moved p q =
    ap (λ (b : BuiltValue). b.index) (one_built D h.leaf_size xs ys _ _ moved (beside D h.leaf_size g xs p same) (beside D h.leaf_size h ys q refl))

pub canonical_in_any_order : (D : ℕ) (xs ys : List Item) (h : Head) → IsPermutation xs ys → IsCanonical D h xs → IsCanonical D h ys
canonical_in_any_order D xs ys h moved p =
    let b = built_in_any_order D h.leaf_size xs ys _ moved (beside D h.leaf_size h xs p refl) in
    record { root = b.root; tree = b.tree; canon = b.canon; form = b.form; index = b.index }
