-- The file that is written is that of its segment.
use Rattle.std.proofs.Common.{◌≡◌, ◌≤◌, ◌<◌, ◌^◌, ◌+◌, ◌*◌, ℕ, List, [], ◌∷◌, ◌++◌, length, refl}
use Rattle.std.proofs.Common.{sym, ap, subst, ◌∙◌, arith, append_assoc, length-append, map, All}
use Rattle.std.proofs.lemmas.List.{map-append, length-map}
use Rattle.std.proofs.lemmas.List.Elements.{All-cons}
use Rattle.outer_io.specs.declared.file_name.FileName.TheVariants.{Segment}
use Rattle.point_codec.specs.Points.{Item, Region}
use Rattle.leaf_codec.specs.Leaves.{SpellsLeafIn}
use Rattle.inner_pack.specs.Places.{Spot, front, leaf_begin, leaf_end, end_of}
use Rattle.inner_pack.specs.Trees.{IndexTree, Leaf, Split, leaf_count, lengths_of}
use Rattle.inner_pack.specs.Bodies.{Body, first_length, pages_of}
use Rattle.inner_pack.proofs.PlaceLemmas.{AreLengths, head_length, tail_lengths, fitted_here, fitted_fits}
use Rattle.inner_pack.proofs.PlaceLemmas.{right_first, lengths_first, length-lengths_of, count_shaped, first_fits}
use Rattle.page_cache.specs.FilePages.{page_at, payloads_of}
use Rattle.page_cache.specs.Bodies.{padded_body}
use Rattle.page_cache.proofs.PageRuns.{payloads_join, payloads_of_one}
use Rattle.segment_file.specs.Heads.{Head, Fields, HasRanges, fields_bytes, fields_of, index_pages, page_of, count_of}
use Rattle.segment_file.specs.Segments.{part_of, IsHeadOf, HoldsLeaf, HoldsTree, IsSegment}
use Rattle.segment_file.specs.Written.{SpellsLeaves, head_of, FitsSegment}
use Rattle.segment_file.specs.Pieced.{IsPaged, laid_pages}
use Rattle.segment_file.proofs.Lists.{fronts_equal, backs_equal, filled_length}
use Rattle.segment_file.proofs.HeadReads.{first_length as page_length}
use Rattle.segment_file.proofs.LaidTree.{IsLaidAt, AllLaidFrom, AreLaid, laid_first, payloads_long, stands_in}

pub spelled_lengths : (D : ℕ) (head : Head) (first : ℕ) (t : IndexTree) (leaves : List (List ℕ)) (items : List Item) → SpellsLeaves D head first t leaves items
    → map length leaves ≡ lengths_of t
spelled_lengths D head first (Leaf len own) leaves items h = ap (λ (l : List (List ℕ)). map length l) h.1 ∙ ap (λ (n : ℕ). n ∷ []) h.2
spelled_lengths D head first (Split d x l r) leaves items h =
    ap (λ (ls : List (List ℕ)). map length ls) h.leaves_joined ∙ map-append (λ (b : List ℕ). length b) h.front_leaves h.back_leaves
    ∙ ap (λ (ns : List ℕ). ns ++ map length h.back_leaves) (spelled_lengths D head first l h.front_leaves h.front_items h.front_spells)
    ∙ ap (λ (ns : List ℕ). lengths_of l ++ ns) (spelled_lengths D head (first + leaf_count l) r h.back_leaves h.back_items h.back_spells)

-- the leaves behind the first ones stand next behind these
stand_front : (payloads : List ℕ) (base : ℕ) (e : Spot) (xs ys : List (List ℕ)) → AllLaidFrom payloads base e (xs ++ ys) → AllLaidFrom payloads base e xs
stand_front payloads base e [] ys h = tt
stand_front payloads base e (x ∷ xs) ys h = (h.0, stand_front payloads base (leaf_end (leaf_begin e (length x)) (length x)) xs ys h.1)

stand_back : (payloads : List ℕ) (base : ℕ) (e : Spot) (xs ys : List (List ℕ)) → AllLaidFrom payloads base e (xs ++ ys)
    → AllLaidFrom payloads base (end_of e (map length xs)) ys
stand_back payloads base e [] ys h = h
stand_back payloads base e (x ∷ xs) ys h = stand_back payloads base (leaf_end (leaf_begin e (length x)) (length x)) xs ys h.1

lengths_front : (ms ns : List ℕ) → AreLengths (ms ++ ns) → AreLengths ms
lengths_front [] ns h = λ k d lt. absurd (omega arith)
lengths_front (m ∷ ms) ns h =
    All-cons (λ (length : ℕ). (1 ≤ length) × (length ≤ 4064)) m ms (head_length m (ms ++ ns) h) (lengths_front ms ns (tail_lengths m (ms ++ ns) h))

lengths_back : (ms ns : List ℕ) → AreLengths (ms ++ ns) → AreLengths ns
lengths_back [] ns h = h
lengths_back (m ∷ ms) ns h = lengths_back ms ns (tail_lengths m (ms ++ ns) h)

-- ---- the leaves

leaf_held : (D : ℕ) (bytes payloads : List ℕ) (head : Head) (count first : ℕ) (s : Spot) (len : ℕ) (own : Region) (leaf : List ℕ) (items : List Item)
    → IsPaged (Segment head.id) count payloads bytes
    → length leaf ≡ len → 1 ≤ length leaf → s.offset + length leaf ≤ 4064 → IsLaidAt payloads (1 + index_pages head) s leaf
    → SpellsLeafIn D leaf (count_of head first) own items → HoldsLeaf D bytes head first s len own items
unfolding HoldsLeaf
leaf_held D bytes payloads head count first s len own leaf items p long some fits stands spells =
    let here = stands_in (Segment head.id) bytes payloads count (page_of head s.page) s.offset leaf p some fits stands.here in
    record {
      page = here.valid;
      spells = subst (λ (n : ℕ). SpellsLeafIn D (part_of s.offset n (page_at bytes (page_of head s.page))) (count_of head first) own items) long
          (subst (λ (l : List ℕ). SpellsLeafIn D l (count_of head first) own items) (sym here.part) spells);
    }

pub tree_held : (D : ℕ) (bytes payloads : List ℕ) (head : Head) (count first : ℕ) (e : Spot) (t : IndexTree) (leaves : List (List ℕ)) (items : List Item)
    → IsPaged (Segment head.id) count payloads bytes
    → AreLengths (lengths_of t) → SpellsLeaves D head first t leaves items → AllLaidFrom payloads (1 + index_pages head) e leaves
    → HoldsTree D bytes head first (leaf_begin e (first_length t)) t items
tree_held D bytes payloads head count first e (Leaf len own) leaves items p lengths h stands =
    let n = head_length len [] lengths in
    let here = subst (λ (ls : List (List ℕ)). AllLaidFrom payloads (1 + index_pages head) e ls) h.1 stands in
    let some = n.0 in
    let few = n.1 in
    let long = h.2 in
    let at = subst (λ (k : ℕ). IsLaidAt payloads (1 + index_pages head) (leaf_begin e k) h.0) h.2 here.0 in
    let room = fitted_fits e len few in
    leaf_held D bytes payloads head count first (leaf_begin e len) len own h.0 items p h.2 (omega arith) (omega arith) at h.3
tree_held D bytes payloads head count first e (Split d x l r) leaves items p lengths h stands =
    let both = subst (λ (ls : List (List ℕ)). AllLaidFrom payloads (1 + index_pages head) e ls) h.leaves_joined stands in
    let left_lengths = lengths_front (lengths_of l) (lengths_of r) lengths in
    let right_lengths = lengths_back (lengths_of l) (lengths_of r) lengths in
    let end_is : end_of e (map length h.front_leaves) ≡ end_of e (lengths_of l) =
    ap (λ (ns : List ℕ). end_of e ns) (spelled_lengths D head first l h.front_leaves h.front_items h.front_spells) in
    let back = subst (λ (s : Spot). AllLaidFrom payloads (1 + index_pages head) s h.back_leaves) end_is
    (stand_back payloads (1 + index_pages head) e h.front_leaves h.back_leaves both) in
    record {
      front_items = h.front_items;
      back_items = h.back_items;
      front_holds = tree_held D bytes payloads head count first e l h.front_leaves h.front_items p left_lengths h.front_spells
          (stand_front payloads (1 + index_pages head) e h.front_leaves h.back_leaves both);
      back_holds = subst (λ (s : Spot). HoldsTree D bytes head (first + leaf_count l) s r h.back_items) (sym (right_first e l r left_lengths))
          (tree_held D bytes payloads head count (first + leaf_count l) (end_of e (lengths_of l)) r h.back_leaves h.back_items p right_lengths h.back_spells
          back);
      joined = h.items_joined;
    }

-- the leaves of a tree are laid from the front on
leaves_laid : (pre payloads : List ℕ) (base : ℕ) (leaves : List (List ℕ)) (t : IndexTree) → length pre ≡ 4064 * base → map length leaves ≡ lengths_of t
    → AreLengths (lengths_of t) → payloads ≡ pre ++ laid_pages [] leaves
    → AreLaid payloads base front leaves
leaves_laid pre payloads base [] t front_is same lengths e = absurd (let some = ap (λ (ns : List ℕ). length ns) (same ∙ lengths_first t) in omega arith)
leaves_laid pre payloads base (leaf ∷ leaves) t front_is same lengths e =
    laid_first pre leaf payloads base leaves front_is (subst AreLengths (sym same) lengths) e

-- ---- the whole

pub written : (D id leaf_size entries : ℕ) (index : Body) (leaves : List (List ℕ)) (items : List Item) (bytes : List ℕ) (count : ℕ) (f : Fields)
    (fits : FitsSegment D id leaf_size entries index leaves items) → HasRanges D (head_of id entries leaf_size index)
    → f ≡ fields_of D (head_of id entries leaf_size index) (pages_of fits.tree) → pages_of fits.tree < 2 ^ 32
    → IsPaged (Segment id) count (padded_body (fields_bytes f) ++ padded_body index.bytes ++ laid_pages [] leaves) bytes
    → IsSegment D bytes (head_of id entries leaf_size index) items
unfolding IsSegment IsHeadOf
written D id leaf_size entries index leaves items bytes count f fits ranges fields narrow p =
    let head = head_of id entries leaf_size index in
    let t = fits.tree in
    let has = fits.has in
    let tree = has.tree in
    let lengths = tree.lengths in
    let same = spelled_lengths D head 0 t leaves items fits.spells in
    let pre = padded_body (fields_bytes f) ++ padded_body index.bytes in
    let one = page_length f in
    let more = filled_length index.bytes in
    let pre_is : length pre ≡ 4064 * (1 + index_pages head) =
    omega (arith, length-append (padded_body (fields_bytes f)) (padded_body index.bytes), one, more) in
    let laid_is = leaves_laid pre (pre ++ laid_pages [] leaves) (1 + index_pages head) leaves t pre_is same lengths refl in
    let total = laid_is.total in
    let end_is : (end_of front (map length leaves)).page ≡ (end_of front (lengths_of t)).page = ap (λ (ns : List ℕ). (end_of front ns).page) same in
    let long = payloads_long (Segment id) bytes 0 count (λ n low high. p.pages n low (omega arith)) in
    let all : length (pre ++ laid_pages [] leaves) ≡ 4064 * count = sym (ap (λ (l : List ℕ). length l) p.payloads_are) ∙ long in
    let pages_are : count ≡ 1 + index_pages head + pages_of t = omega arith in
    let rest = index_pages head + pages_of t in
    let split : 1 + rest ≡ count = omega arith in
    let I = payloads_of bytes 1 (index_pages head) in
    let L = payloads_of bytes (1 + index_pages head) (pages_of t) in
    let parts : payloads_of bytes 0 1 ++ (I ++ L) ≡ padded_body (fields_bytes f) ++ (padded_body index.bytes ++ laid_pages [] leaves) =
    ap (λ (l : List ℕ). payloads_of bytes 0 1 ++ l) (sym (payloads_join bytes 1 (index_pages head) (pages_of t))) ∙ sym (payloads_join bytes 0 1 rest)
    ∙ ap (λ (n : ℕ). payloads_of bytes 0 n) split ∙ p.payloads_are
    ∙ append_assoc (padded_body (fields_bytes f)) (padded_body index.bytes) (laid_pages [] leaves) in
    let first_long = payloads_long (Segment id) bytes 0 1 (λ n low high. p.pages n low (omega arith)) in
    let index_long = payloads_long (Segment id) bytes 1 (index_pages head) (λ n low high. p.pages n (omega arith) (omega arith)) in
    let first_is : payloads_of bytes 0 1 ≡ padded_body (fields_bytes f) =
    fronts_equal (payloads_of bytes 0 1) (padded_body (fields_bytes f)) (I ++ L) (padded_body index.bytes ++ laid_pages [] leaves) (omega arith) parts in
    let behind_is =
    backs_equal (payloads_of bytes 0 1) (padded_body (fields_bytes f)) (I ++ L) (padded_body index.bytes ++ laid_pages [] leaves) (omega arith) parts in
    let index_is : I ≡ padded_body index.bytes = fronts_equal I (padded_body index.bytes) L (laid_pages [] leaves) (omega arith) behind_is in
    let room = first_fits t lengths in
    record {
      head_is = record {
        root = fits.root;
        tree = t;
        spells = record {
          ranges = ranges;
          said_fits = narrow;
          has = fits.has;
          pages = λ n low high. p.pages n low (omega arith);
          first = sym (payloads_of_one bytes 0) ∙ first_is ∙ ap (λ (g : Fields). padded_body (fields_bytes g)) fields;
          index = index_is;
        };
        size = p.len ∙ ap (λ (n : ℕ). 4096 * n) pages_are;
      };
      root = fits.root;
      tree = t;
      has = fits.has;
      holds = subst (λ (s : Spot). HoldsTree D bytes head 0 s t items) (fitted_here front (first_length t) (omega arith))
          (tree_held D bytes (pre ++ laid_pages [] leaves) head count 0 front t leaves items p lengths fits.spells laid_is.all);
    }

-- ---- what is asked of the leaves

short_ones : (leaves : List (List ℕ)) → AreLengths (map length leaves) → All (λ b. length b ≤ 4064) leaves
short_ones [] h = λ k d lt. absurd (omega arith)
short_ones (x ∷ xs) h =
    let n = head_length (length x) (map length xs) h in
    All-cons (λ (b : List ℕ). length b ≤ 4064) x xs n.1 (short_ones xs (tail_lengths (length x) (map length xs) h))

pub short_leaves : (D id leaf_size entries : ℕ) (index : Body) (leaves : List (List ℕ)) (items : List Item)
    → FitsSegment D id leaf_size entries index leaves items → All (λ b. length b ≤ 4064) leaves
short_leaves D id leaf_size entries index leaves items fits =
    let has = fits.has in
    let tree = has.tree in
    short_ones leaves (subst AreLengths (sym (spelled_lengths D (head_of id entries leaf_size index) 0 fits.tree leaves items fits.spells)) tree.lengths)

pub few_leaves : (D id leaf_size entries : ℕ) (index : Body) (leaves : List (List ℕ)) (items : List Item)
    → FitsSegment D id leaf_size entries index leaves items → length leaves ≤ 8388608
few_leaves D id leaf_size entries index leaves items fits =
    let has = fits.has in
    let tree = has.tree in
    let few = tree.few in
    let same = spelled_lengths D (head_of id entries leaf_size index) 0 fits.tree leaves items fits.spells in
    let count = count_shaped index.leaves fits.tree tree.shaped in
    omega (arith, ap (λ (ns : List ℕ). length ns) same, length-map leaves (λ (b : List ℕ). length b), length-lengths_of fits.tree, count, few)

-- ---- its head

pub head_ranges : (D id leaf_size entries : ℕ) (index : Body) (leaves : List (List ℕ)) (items : List Item) → id < 2 ^ 64 → length index.bytes < 2 ^ 32
    → FitsSegment D id leaf_size entries index leaves items → HasRanges D (head_of id entries leaf_size index)
head_ranges D id leaf_size entries index leaves items small short fits =
    let has = fits.has in
    let tree = has.tree in
    record {
      some_dims = tree.some_dims;
      few_dims = tree.few_dims;
      id_fits = small;
      least_form = has.least_form;
      greatest_form = has.greatest_form;
      least_leaf = fits.least_leaf;
      greatest_leaf = fits.greatest_leaf;
      some = fits.some;
      few = fits.few;
      leaves_are = fits.leaves_are;
      short = short;
    }
