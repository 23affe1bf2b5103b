-- What is built is a segment in memory with all its entries, and can be written.
use Rattle.std.proofs.Common.{◌≡◌, ℕ, ◌+◌, ◌-◌, ◌*◌, ◌/◌, ◌%◌, ◌<◌, ◌≤◌, min, true, List, [], ◌++◌, length, map, get_or, refl, sym, ap, ◌∙◌, subst, arith, ℤ}
use Rattle.std.specs.List.Sorted.{IsPermutation}
use Rattle.std.proofs.Math.Logic.{∥∥₁_elim, ∥∥₁_map}
use Rattle.std.proofs.Props.{props}
use Rattle.std.proofs.lemmas.Grind.{merely}
use Rattle.std.proofs.lemmas.Nat.{div-add-mod', mod_below}
use Rattle.std.proofs.lemmas.List.{length-append, map-append, get_or_append_left, get_or-append_right}
use Rattle.std.proofs.lemmas.List.Sorted.{length_permutation}
use Rattle.point_codec.specs.Points.{Item, in_box}
use Rattle.point_codec.specs.Seen.{items_of}
use Rattle.point_codec.specs.declared.entries.Entry.{Entry}
use Rattle.leaf_codec.specs.Leaves.{leaf_limit}
use Rattle.leaf_codec.specs.Spelling.{spelling}
use Rattle.leaf_codec.proofs.Items.{length-items}
use Rattle.inner_pack.specs.Trees.{leaf_count}
use Rattle.inner_pack.specs.Bodies.{Body}
use Rattle.live_bits.specs.LiveSet.{LiveSet}
use Rattle.segment_file.specs.Heads.{Head, leaves_for, count_of}
use Rattle.segment_file.specs.Written.{head_of, SpellsLeaves, FitsSegment, CanWrite}
use Rattle.bkd_build.specs.Canon as canon
use Rattle.bkd_build.specs.Canon.{KdTree, Leaf, Split, entries_of, leaves_of, index_tree_of, IsCanon, BuiltValue, IsBuilt}
use Rattle.bkd_build.proofs.Counts.{leaves_unique}
use Rattle.bkd_build.proofs.Leaves.{size_at, are_leaves, built_in_any_order}
use Rattle.bkd_build.proofs.Whole.{unmapped}
use Rattle.segment_build.specs.NewSegments.{NewSegmentData, HasEntries, HasSomeEntries}

-- the least multiple of a leaf that has the entries
holds_all : (leaf_size count n left : ℕ) → n * leaf_size + left ≡ count + leaf_size - 1 → left < leaf_size → 1 ≤ count
    → (count ≤ n * leaf_size) × (n * leaf_size < count + leaf_size)
holds_all leaf_size count n left is less some = (omega arith, omega arith)

-- both crates count the same leaves
pub same_leaves_for : (leaf_size count : ℕ) → 1 ≤ leaf_size → 1 ≤ count → leaves_for count leaf_size ≡ canon.leaves_for leaf_size count
same_leaves_for leaf_size count some one =
    let whole : ℕ = count + leaf_size - 1 in
    let fits = holds_all leaf_size count (whole / leaf_size) (whole % leaf_size) (div-add-mod' whole leaf_size) (mod_below whole leaf_size some) one in
    leaves_unique leaf_size (whole / leaf_size) count some fits.0 fits.1

-- the index counts the leaves
pub leaves_counted : (D : ℕ) (t : KdTree) → leaf_count (index_tree_of D t) ≡ length (leaves_of t)
leaves_counted D (Leaf items own) = refl
leaves_counted D (Split d x l r) = omega (arith, length-append (leaves_of l) (leaves_of r), leaves_counted D l, leaves_counted D r)

-- the leaves of a subtree have the counts that the head says, where the first of them has this number
abbrev HasCounts : Head → (first : ℕ) → List (List Item) → Type 0
HasCounts head first leaves = (k : ℕ) → k < length leaves → length (get_or leaves k []) ≡ count_of head (first + k)

left_counts : (head : Head) (first : ℕ) (ls rs : List (List Item)) → HasCounts head first (ls ++ rs) → HasCounts head first ls
left_counts head first ls rs h k lt =
    ap (λ (xs : List Item). length xs) (sym (get_or_append_left ls rs [] k lt)) ∙ h k (omega (arith, length-append ls rs, lt))

right_counts : (head : Head) (first n : ℕ) (ls rs : List (List Item)) → n ≡ length ls → HasCounts head first (ls ++ rs) → HasCounts head (first + n) rs
right_counts head first n ls rs is h k lt =
    let back : k + n - n ≡ k = omega arith in
    let at : get_or (ls ++ rs) (k + n) [] ≡ get_or rs k [] =
    get_or-append_right ls rs n (k + n) [] (sym is) (omega arith) ∙ ap (λ (i : ℕ). get_or rs i []) back in
    ap (λ (xs : List Item). length xs) (sym at) ∙ h (k + n) (omega (arith, length-append ls rs, lt, is)) ∙ ap (count_of head) (omega arith)

-- the leaves of a canonical subtree are spelled one behind the other
spells_leaves : (D leaf_size : ℕ) (head : Head) (first : ℕ) (t : KdTree) → IsCanon D leaf_size t → HasCounts head first (leaves_of t)
    → SpellsLeaves D head first (index_tree_of D t) (map (spelling D) (leaves_of t)) (entries_of t)
spells_leaves D leaf_size head first (Leaf items own) h counts = (
  spelling D items,
  refl,
  refl,
  record {
    spells = record { are_leaf = h.entries; is = refl };
    counted = counts 0 (omega arith) ∙ ap (count_of head) (omega arith);
    inside = unmapped (λ (p : List ℤ). in_box own p ≡ true) items h.cell.holds;
  },
)
spells_leaves D leaf_size head first (Split d x l r) h counts = record {
  front_leaves = map (spelling D) (leaves_of l);
  back_leaves = map (spelling D) (leaves_of r);
  front_items = entries_of l;
  back_items = entries_of r;
  front_spells = spells_leaves D leaf_size head first l h.1 (left_counts head first (leaves_of l) (leaves_of r) counts);
  back_spells = spells_leaves D leaf_size head (first + leaf_count (index_tree_of D l)) r h.2
      (right_counts head first (leaf_count (index_tree_of D l)) (leaves_of l) (leaves_of r) (leaves_counted D l) counts);
  leaves_joined = map-append (spelling D) (leaves_of l) (leaves_of r);
  items_joined = refl;
}

-- ---- what is built

-- it is a segment of its entries, in the order of the leaves
fits_built : (D id leaf_size : ℕ) (items : List Item) (b : BuiltValue) → 2 ≤ leaf_size → leaf_size ≤ leaf_limit D → 1 ≤ length items → length items ≤ 16777216
    → (h : IsBuilt D leaf_size items b) → FitsSegment D id leaf_size (length items) b.index b.leaves (entries_of h.tree)
fits_built D id leaf_size items b two limit some few h =
    let t : KdTree = h.tree in
    let one : 1 ≤ leaf_size = omega arith in
    let all : length (entries_of t) ≡ length items = length_permutation items (entries_of t) h.canon.same in
    let head : Head = head_of id (length items) leaf_size b.index in
    let counts : HasCounts head 0 (leaves_of t) = λ k lt.
    size_at D leaf_size t one h.canon.canon k [] lt ∙ ap (λ (n : ℕ). min leaf_size (n - k * leaf_size)) all ∙ ap (count_of head) (omega arith) in
    record {
      least_leaf = two;
      greatest_leaf = limit;
      some = some;
      few = few;
      leaves_are = (are_leaves D leaf_size items b one h).told ∙ sym (same_leaves_for leaf_size (length items) one some);
      root = h.root;
      tree = index_tree_of D t;
      has = h.index;
      spells = subst (λ (bs : List (List ℕ)). SpellsLeaves D head 0 (index_tree_of D t) bs (entries_of t)) (sym h.leaves)
          (spells_leaves D leaf_size head 0 t h.canon.canon counts);
    }

abbrev pub segment_of : BuiltValue → (leaf_size entries : ℕ) → LiveSet → NewSegmentData
segment_of b leaf_size entries live = record { index = b.index; leaves = b.leaves; leaf_size = leaf_size; entries = entries; live = live }

-- it has the entries of its leaves
has_leaves : (D leaf_size count : ℕ) (items : List Item) (b : BuiltValue) (live : LiveSet) → 2 ≤ leaf_size → leaf_size ≤ leaf_limit D → 1 ≤ length items
    → length items ≤ 16777216 → count ≡ length items
    → (h : IsBuilt D leaf_size items b) → HasEntries D (entries_of h.tree) (segment_of b leaf_size count live)
has_leaves D leaf_size count items b live two limit some few counted h = record {
  built = built_in_any_order D leaf_size items (entries_of h.tree) b h.canon.same h;
  counted = counted ∙ sym (length_permutation items (entries_of h.tree) h.canon.same);
  fits = λ id.
      subst (λ (n : ℕ). FitsSegment D id leaf_size n b.index b.leaves (entries_of h.tree)) (sym counted)
      (fits_built D id leaf_size items b two limit some few h);
}

-- the same of the entries that it was built of
pub has_built : {D : ℕ} (leaf_size count : ℕ) (es : List (Entry D)) (b : BuiltValue) (live : LiveSet) → 2 ≤ leaf_size → leaf_size ≤ leaf_limit D → 1 ≤ length es
    → length es ≤ 16777216 → count ≡ length es
    → IsBuilt D leaf_size (items_of es) b → (items : List Item) × IsPermutation (items_of es) items × HasEntries D items (segment_of b leaf_size count live)
has_built {D} leaf_size count es b live two limit some few counted h =
    let long : length (items_of es) ≡ length es = length-items es in (
      entries_of h.tree,
      h.canon.same,
      has_leaves D leaf_size count (items_of es) b live two limit (omega (arith, long, some)) (omega (arith, long, few)) (counted ∙ sym long) h,
    )

pub some_built : {D : ℕ} (leaf_size count : ℕ) (es : List (Entry D)) (b : BuiltValue) (live : LiveSet) → 2 ≤ leaf_size → leaf_size ≤ leaf_limit D
    → 1 ≤ length es → length es ≤ 16777216 → count ≡ length es
    → IsBuilt D leaf_size (items_of es) b → ∥ HasSomeEntries D (segment_of b leaf_size count live) ∥₁
some_built {D} leaf_size count es b live two limit some few counted h =
    let (items, same, has) = has_built {D = D} leaf_size count es b live two limit some few counted h in
    merely (record { items = items; has = has })

-- ---- what has entries

-- the entries of a segment are the same whatever is live
pub has_live : (D : ℕ) (items : List Item) (n : NewSegmentData) (live : LiveSet) → HasEntries D items n → HasEntries D items (record n { live = live })
has_live D items n live h = record { built = h.built; counted = h.counted; fits = h.fits }

pub some_live : (D : ℕ) (n : NewSegmentData) (live : LiveSet) → ∥ HasSomeEntries D n ∥₁ → ∥ HasSomeEntries D (record n { live = live }) ∥₁
some_live D n live some = ∥∥₁_map some (λ s. record { items = s.items; has = has_live D s.items n live s.has })

-- its parts are those of its entries
pub fits_parts : (D id : ℕ) (n : NewSegmentData) (index : Body) (leaves : List (List ℕ)) (items : List Item) → index ≡ n.index → leaves ≡ n.leaves
    → HasEntries D items n
    → FitsSegment D id n.leaf_size n.entries index leaves items
fits_parts D id n index leaves items same_index same_leaves h =
    subst (λ (i : Body). FitsSegment D id n.leaf_size n.entries i leaves items) (sym same_index)
    (subst (λ (bs : List (List ℕ)). FitsSegment D id n.leaf_size n.entries n.index bs items) (sym same_leaves) (h.fits id))

-- so it can be written
pub can_write : (D id : ℕ) (n : NewSegmentData) (index : Body) (leaves : List (List ℕ)) → index ≡ n.index → leaves ≡ n.leaves → ∥ HasSomeEntries D n ∥₁
    → ∥ CanWrite D id n.leaf_size n.entries index leaves ∥₁
can_write D id n index leaves same_index same_leaves some =
    ∥∥₁_map some (λ s. record { items = s.items; fits = fits_parts D id n index leaves s.items same_index same_leaves s.has })

-- it has 1 to 8 dimensions
pub some_dims : (D : ℕ) (n : NewSegmentData) → ∥ HasSomeEntries D n ∥₁ → (1 ≤ D) × (D ≤ 8)
some_dims D n some = ∥∥₁_elim some (hlevel props) (λ s. let t = (s.has.fits 0).has.tree in (t.some_dims, t.few_dims))

-- and 1 to 2^24 entries
pub some_counted : (D : ℕ) (n : NewSegmentData) → ∥ HasSomeEntries D n ∥₁ → (1 ≤ n.entries) × (n.entries ≤ 16777216)
some_counted D n some = ∥∥₁_elim some (hlevel props) (λ s. let f = s.has.fits 0 in (f.some, f.few))
