-- What a search begins with.
use Rattle.std.proofs.Common.{◌≡◌, ℕ, ◌+◌, ◌≤◌, ◌<◌, zero, List, [], ◌++◌, length, get_or, ℤ, Option, refl, sym, ap, subst, ◌∙◌, ◌⊎◌, inl, inr, arith}
use Rattle.std.proofs.lemmas.Bool.{cases_lt}
use Rattle.std.proofs.lemmas.List.{map-append}
use Rattle.std.proofs.lemmas.List.Sums.{sum_by-append}
use Rattle.std.proofs.lemmas.List.Elements.{All-get_or}
use Rattle.std.specs.List.{sum_by, All, range_with_len}
use Rattle.outer_io.specs.Files.{Files, bytes_of}
use Rattle.outer_io.specs.declared.file_name.FileName.TheVariants.{Segment}
use Rattle.point_codec.specs.Points.{Item, Region}
use Rattle.point_codec.specs.declared.entries.Near.{Near}
use Rattle.live_bits.specs.LiveSet.{LiveSet}
use Rattle.inner_pack.specs.Places.{front}
use Rattle.inner_pack.specs.Trees.{IndexTree, leaf_count}
use Rattle.inner_pack.specs.Bodies.{HasTree}
use Rattle.inner_pack.specs.declared.node.NodeAt.{NodeAt}
use Rattle.segment_file.specs.Heads.{Head}
use Rattle.segment_file.specs.Segments.{HoldsTree, IsSegment}
use Rattle.nearest_query.specs.declared.candidates.Candidates.{Candidates}
use Rattle.nearest_query.specs.declared.frontier.Waiting.{Waiting}
use Rattle.documents.specs.NearestEntries.{near_of, nears_of}
use Rattle.nearest_query.specs.Best.{AreAdded}
use Rattle.nearest_query.specs.Segments.{live_items, live_in, AreSegments, AreNearLeaves}
use Rattle.nearest_query.specs.Fronts.{leaf_sum, sum_below}
use Rattle.nearest_query.specs.Search.{World, IsNode, IsSought, HasRoot, HasRoots, head_at, live_at, nears_at, one_within, sum_of}
use Rattle.nearest_query.specs.Search.{sum_of_live, sum_of_dead}
use Rattle.nearest_query.specs.Segments.{no_head}
use Rattle.nearest_query.proofs.Touched.{live_and_dead, near_out}
use Rattle.nearest_query.proofs.Roots.{shaped_count, leaves_of, least_of, has_leaves, leaf_totals, near_totals, sum_in, near_in, HasNear, no_nears}

-- a segment's tree with its leaves
pub record Opened (D : ℕ) (bytes : List ℕ) (head : Head) (items : List Item) : Type 0 where
  pub root : Region
  pub tree : IndexTree
  pub has : HasTree D head.index root tree
  pub holds : HoldsTree D bytes head 0 front tree items

pub opened : (D : ℕ) (bytes : List ℕ) (head : Head) (items : List Item) → IsSegment D bytes head items → Opened D bytes head items
unfolding IsSegment
opened D bytes head items s = record { root = s.root; tree = s.tree; has = s.has; holds = s.holds }

module _ (D : ℕ) (at : List ℤ) (heads : List Head) (lives : List LiveSet) (files : Files) (contents : ℕ → List Item)
    (segments : AreSegments D files contents heads) where
  abbrev pub head_of : ℕ → Head
  head_of i = get_or heads i no_head

  abbrev pub bytes_at : ℕ → List ℕ
  bytes_at i = bytes_of (files (Segment (head_of i).id))

  pub open_at : (i : ℕ) → i < length heads → Opened D (bytes_at i) (head_of i) (contents (head_of i).id)
  open_at i h = opened D (bytes_at i) (head_of i) (contents (head_of i).id)
      (All-get_or (λ x. IsSegment D (bytes_of (files (Segment x.id))) x (contents x.id)) heads i no_head h segments)

  abbrev pub table_of : (i : ℕ) → (i < length heads) ⊎ (length heads ≤ i) → ℕ → List Item
  table_of i (inl h) n = leaves_of D (bytes_at i) (head_of i) 0 front (open_at i h).tree (contents (head_of i).id) (open_at i h).holds n
  table_of i (inr h) n = []

  abbrev pub leasts_of : (i : ℕ) → (i < length heads) ⊎ (length heads ≤ i) → ℕ → ℕ
  leasts_of i (inl h) n = least_of at 0 (open_at i h).tree n
  leasts_of i (inr h) n = 0

  abbrev pub world : World
  world = record {
    at = at;
    heads = heads;
    lives = lives;
    files = files;
    table = λ i. table_of i (cases_lt i (length heads));
    least = λ i. leasts_of i (cases_lt i (length heads));
  }

  record IsRoot (i : ℕ) : Type 0 where
    root : HasRoot D world i
    totals : (f : Near → ℕ)
        → leaf_sum (λ j n. sum_by f (nears_at world j n)) i 0 (head_of i).index.leaves
        ≡ sum_by f (nears_of at (live_items (live_at world i) (contents (head_of i).id)))
    near : (bound : Option ℕ) → HasNear D at bound (head_of i) (leaf_sum (one_within world bound) i 0 (head_of i).index.leaves)

  is_root : (i : ℕ) (c : (i < length heads) ⊎ (length heads ≤ i)) → i < length heads → world.table i ≡ table_of i c → world.least i ≡ leasts_of i c → IsRoot i
  is_root i (inr h) lt e f = absurd (omega arith)
  is_root i (inl h) lt e f =
      let o = open_at i h in
      let count : (head_of i).index.leaves ≡ leaf_count o.tree = shaped_count (head_of i).index.leaves o.tree o.has.tree.shaped in
      record {
        root = record {
          root = o.root;
          tree = o.tree;
          has = o.has;
          leaves =
              has_leaves D world i (bytes_at i) refl 0 front o.tree (contents (head_of i).id) o.holds (λ n a b. ap (λ t. t n) e) (λ n a b. ap (λ t. t n) f);
        };
        totals = λ k. ap (λ m. leaf_sum (λ j n. sum_by k (nears_at world j n)) i 0 m) count
            ∙ leaf_totals D world i (bytes_at i) refl k 0 front o.tree (contents (head_of i).id) o.holds (λ n a b. ap (λ t. t n) e);
        near = λ bound. record {
          root = o.root;
          tree = o.tree;
          has = o.has;
          is = ap (λ m. leaf_sum (one_within world bound) i 0 m) count ∙ near_totals world i bound 0 o.tree (λ n a b. ap (λ t. t n) f);
        };
      }

  root_at : (i : ℕ) → i < length heads → IsRoot i
  root_at i lt = is_root i (cases_lt i (length heads)) lt refl refl

  pub roots : HasRoots D world
  roots i lt = (root_at i lt).root

  pub start : (buffer : List Item) (waiting : List Waiting) (nodes : List (NodeAt D)) (found : Candidates) → length lives ≡ length heads
      → AreAdded [] (nears_of at buffer) found
      → All (IsNode D world nodes) waiting
      → ((g : ℕ → ℕ → ℕ) → ((i n : ℕ) → (live_at world i).live ≡ [] → g i n ≡ 0)
      → sum_by (sum_below g) waiting ≡ sum_by (λ i. leaf_sum g i 0 (head_at world i).index.leaves) (range_with_len 0 (length heads)))
      → IsSought D world (nears_of at (live_in contents heads lives ++ buffer)) waiting nodes found
  start buffer waiting nodes found same added all totals = record {
    seen = added.after;
    best = added.best;
    nodes_are = all;
    totals = λ f.
        let g : ℕ → ℕ → ℕ = λ i n. sum_by f (nears_at world i n) in
        let a = added.totals f in
        let z : sum_by f [] ≡ 0 = refl in
        let t = totals g (no_nears world f) in
        let i = sum_in f at contents heads lives 0 (λ i. leaf_sum g i 0 (head_at world i).index.leaves) same
        (λ i lt. let e : zero + i ≡ i = omega arith in ap (λ k. leaf_sum g k 0 (head_at world k).index.leaves) e ∙ (root_at i lt).totals f) in
        let j = ap (sum_by f) (map-append (near_of at) (live_in contents heads lives) buffer)
        ∙ sum_by-append f (nears_of at (live_in contents heads lives)) (nears_of at buffer) in
        omega (arith, a, z, t, i, j);
  }

  pub start_near : (bound : Option ℕ) (waiting : List Waiting) (n : ℕ) → AreNearLeaves D at bound heads n
      → ((g : ℕ → ℕ → ℕ) → sum_by (sum_below g) waiting ≤ sum_by (λ i. leaf_sum g i 0 (head_at world i).index.leaves) (range_with_len 0 (length heads)))
      → sum_by (sum_below (one_within world bound)) waiting ≤ n
  start_near bound waiting n all most =
      let a = most (one_within world bound) in
      let b = near_in D at bound heads 0 (λ i. leaf_sum (one_within world bound) i 0 (head_at world i).index.leaves) n all
      (λ i lt.
      let e : zero + i ≡ i = omega arith in
      subst (λ k. HasNear D at bound (head_of i) (leaf_sum (one_within world bound) k 0 (head_at world k).index.leaves)) (sym e) ((root_at i lt).near bound)) in
      omega (arith, a, b)

  -- what the segments have that a search looks at, and the others
  pub all_near : (bound : Option ℕ) (n : ℕ)
      → n ≡ sum_of_live world (one_within world bound) (length heads) + sum_of_dead world (one_within world bound) (length heads)
      → AreNearLeaves D at bound heads n
  all_near bound n is = subst (AreNearLeaves D at bound heads) (sym (is ∙ live_and_dead world (one_within world bound) (length heads)))
      (near_out D at bound heads 0 (sum_of world (one_within world bound))
      (λ i lt.
      let e : zero + i ≡ i = omega arith in
      subst (λ k. HasNear D at bound (head_of i) (sum_of world (one_within world bound) k)) (sym e) ((root_at i lt).near bound)))
