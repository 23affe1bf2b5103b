-- The parts of a subtree, and those of its children.
use Rattle.std.proofs.Common.{◌≡◌, ◌<◌, ◌≤◌, ◌+◌, ◌-◌, ◌/◌, ℕ, suc, List, [], ◌∷◌, ◌++◌, length, map, take, drop, get_or}
use Rattle.std.proofs.Common.{set, reverse, refl, sym, ap, subst, ◌∙◌, arith, All, append_assoc, length-append, ℤ, pos}
use Rattle.std.proofs.lemmas.List.{length-map, take-map, drop-map, map-append, length-take-le, length-drop, reverse-append, get_or-map}
use Rattle.std.proofs.lemmas.List.Elements.{All-take, All-drop}
use Rattle.std.proofs.Math.Seq.{take-append_seam, drop-append_seam}
use Rattle.point_codec.specs.Points.{Region}
use Rattle.point_codec.specs.Seen.{region_of}
use Rattle.point_codec.specs.Keys.{key}
use Rattle.point_codec.specs.Cells.{left_of, right_of}
use Rattle.point_codec.specs.declared.boxes.Cell.{Cell}
use Rattle.inner_pack.specs.declared.place.LeafPlace.{LeafPlace}
use Rattle.inner_pack.specs.declared.pack.Subtree.{Subtree}
use Rattle.inner_pack.specs.PackedParts.{AreChildParts}
use Rattle.inner_pack.specs.Places.{Spot, leaf_begin, leaf_end, LeafSpan, leaf_spans, end_of}
use Rattle.inner_pack.specs.Trees.{IndexTree, Leaf, Split, Cut, IsShaped, leaf_count, cuts_of, lengths_of, own_cells}
use Rattle.inner_pack.specs.Bodies.{first_length, right_begin, head_bytes, leaf_bytes, node_bytes}
use Rattle.inner_pack.specs.Packs.{AppendsReversed, IsSubtree}
use Rattle.inner_pack.proofs.PlaceLemmas.{placed_append, placed_first, fitted_again, first_fits, lengths_first, count_shaped, length-lengths_of}
use Rattle.inner_pack.proofs.PackBytes.{length-turned}
use Rattle.inner_pack.specs.Heads.{placed_of}

pub length-placed : (e : Spot) (xs : List ℕ) → length (leaf_spans e xs) ≡ length xs
length-placed e [] = refl
length-placed e (x ∷ xs) = ap suc (length-placed (leaf_end (leaf_begin e x) x) xs)

pub length-own_cells : (t : IndexTree) → length (own_cells t) ≡ leaf_count t
length-own_cells (Leaf m own) = refl
length-own_cells (Split d x l r) = omega (arith, length-append (own_cells l) (own_cells r), length-own_cells l, length-own_cells r)

pub length-cuts_of : (t : IndexTree) → length (cuts_of t) + 1 ≡ leaf_count t
length-cuts_of (Leaf m own) = refl
length-cuts_of (Split d x l r) = omega (arith, length-append (cuts_of l) (cuts_of r), length-cuts_of l, length-cuts_of r)

-- an inner node as the code has it
abbrev split_of : Cut → ℕ × ℤ
split_of c = (c.dimension, c.at)

-- ---- lists in two parts

taken : {X : Type 0} (n : ℕ) (zs xs ys : List X) → zs ≡ xs ++ ys → n ≡ length xs → take n zs ≡ xs
taken n zs xs ys e len = (λ i. take (len i) (e i)) ∙ take-append_seam xs ys

dropped : {X : Type 0} (n : ℕ) (zs xs ys : List X) → zs ≡ xs ++ ys → n ≡ length xs → drop n zs ≡ ys
dropped n zs xs ys e len = (λ i. drop (len i) (e i)) ∙ drop-append_seam xs ys

-- a list that is seen through f
seen_taken : {X Y : Type 0} (f : X → Y) (n : ℕ) (zs : List X) (xs ys : List Y) → map f zs ≡ xs ++ ys → n ≡ length xs → map f (take n zs) ≡ xs
seen_taken f n zs xs ys e len = sym (take-map f n zs) ∙ taken n (map f zs) xs ys e len

seen_dropped : {X Y : Type 0} (f : X → Y) (n : ℕ) (zs : List X) (xs ys : List Y) → map f zs ≡ xs ++ ys → n ≡ length xs → map f (drop n zs) ≡ ys
seen_dropped f n zs xs ys e len = sym (drop-map f n zs) ∙ dropped n (map f zs) xs ys e len

All-left : (xs ys : List ℕ) → All (λ (n : ℕ). (1 ≤ n) × (n ≤ 4064)) (xs ++ ys) → All (λ (n : ℕ). (1 ≤ n) × (n ≤ 4064)) xs
All-left xs ys all =
    subst (All (λ (n : ℕ). (1 ≤ n) × (n ≤ 4064))) (take-append_seam xs ys) (All-take (λ (n : ℕ). (1 ≤ n) × (n ≤ 4064)) (length xs) (xs ++ ys) all)

All-right : (xs ys : List ℕ) → All (λ (n : ℕ). (1 ≤ n) × (n ≤ 4064)) (xs ++ ys) → All (λ (n : ℕ). (1 ≤ n) × (n ≤ 4064)) ys
All-right xs ys all =
    subst (All (λ (n : ℕ). (1 ≤ n) × (n ≤ 4064))) (drop-append_seam xs ys) (All-drop (λ (n : ℕ). (1 ≤ n) × (n ≤ 4064)) (length xs) (xs ++ ys) all)

-- ---- the children

pub left_part : (D k : ℕ) (s : Spot) (nodes : List (ℕ × ℤ)) (places : List LeafPlace) (cells : List (Cell D)) (d : ℕ) (x : ℤ) (l r : IndexTree)
    → k ≡ length places - length places / 2 → IsSubtree D s nodes places cells (Split d x l r)
    → IsSubtree D s (take (k - 1) (drop 1 nodes)) (take k places) (take k cells) l
left_part D k s nodes places cells d x l r half p =
    let n = length places in
    let count : leaf_count l ≡ k = count_shaped (n - n / 2) l p.shaped.1 ∙ sym half in
    let fewer : length (take k places) ≡ k = length-take-le k places (omega arith) in
    record {
      path = left_of p.path d x;
      shaped = subst (λ (m : ℕ). IsShaped m l) (sym (fewer ∙ half)) p.shaped.1;
      cells_in = p.cells_in.1;
      lengths = All-left (lengths_of l) (lengths_of r) p.lengths;
      begins = p.begins;
      nodes_are = taken (k - 1) (drop 1 nodes) (map split_of (cuts_of l)) (map split_of (cuts_of r))
          (ap (drop 1) p.nodes_are ∙ map-append split_of (cuts_of l) (cuts_of r))
          (omega (arith, length-map (cuts_of l) split_of, length-cuts_of l));
      places_are = seen_taken placed_of k places (leaf_spans s (lengths_of l)) (leaf_spans (end_of s (lengths_of l)) (lengths_of r))
          (p.places_are ∙ placed_append s (lengths_of l) (lengths_of r))
          (omega (arith, length-placed s (lengths_of l), length-lengths_of l));
      cells_are = seen_taken region_of k cells (own_cells l) (own_cells r) p.cells_are (omega (arith, length-own_cells l));
    }

pub right_part : (D k : ℕ) (s : Spot) (nodes : List (ℕ × ℤ)) (places : List LeafPlace) (cells : List (Cell D)) (d : ℕ) (x : ℤ) (l r : IndexTree)
    → k ≡ length places - length places / 2 → IsSubtree D s nodes places cells (Split d x l r)
    → IsSubtree D (right_begin s l r) (drop k nodes) (drop k places) (drop k cells) r
unfolding right_begin
right_part D k s nodes places cells d x l r half p =
    let n = length places in
    let count : leaf_count l ≡ k = count_shaped (n - n / 2) l p.shaped.1 ∙ sym half in
    let fewer : length (drop k places) ≡ n / 2 = omega (arith, length-drop k places) in
    let e = end_of s (lengths_of l) in
    let all = All-right (lengths_of l) (lengths_of r) p.lengths in
    record {
      path = right_of p.path d x;
      shaped = subst (λ (m : ℕ). IsShaped m r) (sym fewer) p.shaped.2;
      cells_in = p.cells_in.2;
      lengths = all;
      begins = fitted_again e (first_length r) ((first_fits r all).1);
      nodes_are = dropped k nodes ((d, x) ∷ map split_of (cuts_of l)) (map split_of (cuts_of r))
          (p.nodes_are ∙ ap (λ (cs : List (ℕ × ℤ)). (d, x) ∷ cs) (map-append split_of (cuts_of l) (cuts_of r)))
          (omega (arith, length-map (cuts_of l) split_of, length-cuts_of l));
      places_are =
          seen_dropped placed_of k places (leaf_spans s (lengths_of l)) (leaf_spans e (lengths_of r))
          (p.places_are ∙ placed_append s (lengths_of l) (lengths_of r))
          (omega (arith, length-placed s (lengths_of l), length-lengths_of l)) ∙ sym (placed_first e r all);
      cells_are = seen_dropped region_of k cells (own_cells l) (own_cells r) p.cells_are (omega (arith, length-own_cells l));
    }

-- the first place tells where the subtree begins
pub first_place : (D : ℕ) (s : Spot) (nodes : List (ℕ × ℤ)) (places : List LeafPlace) (cells : List (Cell D)) (t : IndexTree) (p d : LeafPlace)
    → 0 < length places → p ≡ get_or places 0 d → IsSubtree D s nodes places cells t → placed_of p ≡ record { at = s; length = first_length t }
first_place D s nodes places cells t p d some is part =
    let seen : placed_of p ≡ get_or (map placed_of places) 0 (placed_of p) = ap placed_of is ∙ sym (get_or-map placed_of places 0 d (placed_of p) some) in
    let first : get_or (leaf_spans s (lengths_of t)) 0 (placed_of p) ≡ record { at = leaf_begin s (first_length t); length = first_length t } =
    ap (λ (ns : List ℕ). get_or (leaf_spans s ns) 0 (placed_of p)) (lengths_first t) in
    let begin : LeafSpan = record { at = s; length = first_length t } in
    let here : record { at = leaf_begin s (first_length t); length = first_length t } ≡ begin =
    ap (λ (e : Spot). record { at = e; length = first_length t }) part.begins in
    seen ∙ ap (λ (ps : List LeafSpan). get_or ps 0 (placed_of p)) part.places_are ∙ first ∙ here

-- ---- the children as the code has them

pub left_is : {D : ℕ} (s : Spot) (whole left right : Subtree D) (d : ℕ) (x : ℤ) (l r : IndexTree) → AreChildParts whole left right
    → IsSubtree D s whole.nodes.now whole.places.now whole.cells.now (Split d x l r) → IsSubtree D s left.nodes.now left.places.now left.cells.now l
left_is {D} s whole left right d x l r h part =
    let k = length left.places.now in
    let is : IsSubtree D s (take (k - 1) (drop 1 whole.nodes.now)) (take k whole.places.now) (take k whole.cells.now) l =
    left_part D k s whole.nodes.now whole.places.now whole.cells.now d x l r h.half part in
    subst (λ (ns : List (ℕ × ℤ)). IsSubtree D s ns left.places.now left.cells.now l) (sym h.left_nodes)
    (subst (λ (ps : List LeafPlace). IsSubtree D s (take (k - 1) (drop 1 whole.nodes.now)) ps left.cells.now l) (sym h.left_places)
    (subst (λ (cs : List (Cell D)). IsSubtree D s (take (k - 1) (drop 1 whole.nodes.now)) (take k whole.places.now) cs l) (sym h.left_cells) is))

pub right_is : {D : ℕ} (s : Spot) (whole left right : Subtree D) (d : ℕ) (x : ℤ) (l r : IndexTree) → AreChildParts whole left right
    → IsSubtree D s whole.nodes.now whole.places.now whole.cells.now (Split d x l r)
    → IsSubtree D (right_begin s l r) right.nodes.now right.places.now right.cells.now r
right_is {D} s whole left right d x l r h part =
    let k = length left.places.now in
    let is : IsSubtree D (right_begin s l r) (drop k whole.nodes.now) (drop k whole.places.now) (drop k whole.cells.now) r =
    right_part D k s whole.nodes.now whole.places.now whole.cells.now d x l r h.half part in
    subst (λ (ns : List (ℕ × ℤ)). IsSubtree D (right_begin s l r) ns right.places.now right.cells.now r) (sym h.right_nodes)
    (subst (λ (ps : List LeafPlace). IsSubtree D (right_begin s l r) (drop k whole.nodes.now) ps right.cells.now r) (sym h.right_places)
    (subst (λ (cs : List (Cell D)). IsSubtree D (right_begin s l r) (drop k whole.nodes.now) (drop k whole.places.now) cs r) (sym h.right_cells) is))

-- ---- what is written

-- a leaf is its length and its own cell
pub leaf_written : (D : ℕ) (s : Spot) (nodes : List (ℕ × ℤ)) (places : List LeafPlace) (cells : List (Cell D)) (references : List (List ℕ))
    (p other : LeafPlace) (own any : Cell D)
    (a b : List ℕ) (t : IndexTree) → length places < 2 → p ≡ get_or places 0 other → own ≡ get_or cells 0 any
    → AppendsReversed a b (leaf_bytes 3 p.length (region_of own)) → IsSubtree D s nodes places cells t → AppendsReversed a b (node_bytes 3 references s t)
leaf_written D s nodes places cells references p other own any a b (Leaf m cell) one is own_is written part =
    let count : length places ≡ 1 = part.shaped in
    let long : p.length ≡ m = ap (λ (z : LeafSpan). z.length) (first_place D s nodes places cells (Leaf m cell) p other (omega arith) is part) in
    let some : 0 < length cells = omega (arith, ap length part.cells_are, length-map cells (region_of {D = D})) in
    let seen : region_of own ≡ cell =
    ap region_of own_is ∙ sym (get_or-map region_of cells 0 any (region_of own) some) ∙ ap (λ (cs : List Region). get_or cs 0 (region_of own)) part.cells_are in
    written ∙ (λ i. a ++ reverse (leaf_bytes 3 (long i) (seen i)))
leaf_written D s nodes places cells references p other own any a b (Split d x l r) one is own_is written part =
    let two : 2 ≤ length places = part.shaped.0 in
    absurd (omega arith)

-- a node behind its children
node_joined : (a b c e right left head : List ℕ) → AppendsReversed a b right → AppendsReversed b c left → AppendsReversed c e head
    → AppendsReversed a e ((head ++ left) ++ right)
node_joined a b c e right left head p q r =
    let turned : reverse ((head ++ left) ++ right) ≡ reverse right ++ (reverse left ++ reverse head) =
    reverse-append (head ++ left) right ∙ ap (λ (t : List ℕ). reverse right ++ t) (reverse-append head left) in
    r ∙ (λ i. q i ++ reverse head) ∙ (λ i. (p i ++ reverse left) ++ reverse head)
    ∙ append_assoc (a ++ reverse right) (reverse left) (reverse head) ∙ append_assoc a (reverse right) (reverse left ++ reverse head)
    ∙ ap (λ (t : List ℕ). a ++ t) (sym turned)

pub node_written : {D : ℕ} (s : Spot) (whole left right : Subtree D) (p q other : LeafPlace) (v : ℕ × ℤ) (y : ℤ) (pages size : ℕ)
    (references below : List (List ℕ)) (a b c e : List ℕ)
    (t : IndexTree) → 2 ≤ length whole.places.now → AreChildParts whole left right → p ≡ get_or whole.places.now 0 other → q ≡ get_or right.places.now 0 other
    → v ≡ get_or whole.nodes.now 0 (0, pos 0) → y ≡ v.1 → pages ≡ q.page - p.page → size ≡ length c - length b → below ≡ set references v.0 (key v.1)
    → ((s : Spot) (t : IndexTree) → IsSubtree D s right.nodes.now right.places.now right.cells.now t → AppendsReversed a b (node_bytes 3 below s t))
    → ((s : Spot) (t : IndexTree) → IsSubtree D s left.nodes.now left.places.now left.cells.now t → AppendsReversed b c (node_bytes 3 below s t))
    → AppendsReversed c e (head_bytes references v.0 y pages q.offset size)
    → IsSubtree D s whole.nodes.now whole.places.now whole.cells.now t → AppendsReversed a e (node_bytes 3 references s t)
node_written {D} s whole left right p q other v y pages size references below a b c e (Leaf m own) two h p_is q_is v_is y_is pages_is size_is below_is
    right_done left_done head_done part =
    let one : length whole.places.now ≡ 1 = part.shaped in absurd (omega arith)
node_written {D} s whole left right p q other v y pages size references below a b c e (Split d x l r) two h p_is q_is v_is y_is pages_is size_is below_is
    right_done left_done head_done part =
    let split : v ≡ (d, x) = v_is ∙ ap (λ (ns : List (ℕ × ℤ)). get_or ns 0 (0, pos 0)) part.nodes_are in
    let dim : v.0 ≡ d = ap (λ (w : ℕ × ℤ). w.0) split in
    let value : v.1 ≡ x = ap (λ (w : ℕ × ℤ). w.1) split in
    let right_part_is = right_is s whole left right d x l r h part in
    let left_part_is = left_is s whole left right d x l r h part in
    let some : 0 < length right.places.now = omega (arith, ap length h.right_places, length-drop (length left.places.now) whole.places.now, h.half) in
    let begin = first_place D s whole.nodes.now whole.places.now whole.cells.now (Split d x l r) p other (omega arith) p_is part in
    let middle = first_place D (right_begin s l r) right.nodes.now right.places.now right.cells.now r q other some q_is right_part_is in
    let inner_is : below ≡ set references d (key x) = below_is ∙ (λ i. set references (dim i) (key (value i))) in
    let right_bytes : List ℕ = node_bytes 3 (set references d (key x)) (right_begin s l r) r in
    let left_bytes : List ℕ = node_bytes 3 (set references d (key x)) s l in
    let right_written : AppendsReversed a b right_bytes = subst (λ (w : List (List ℕ)). AppendsReversed a b (node_bytes 3 w (right_begin s l r) r)) inner_is
    (right_done (right_begin s l r) r right_part_is) in
    let left_written : AppendsReversed b c left_bytes =
    subst (λ (w : List (List ℕ)). AppendsReversed b c (node_bytes 3 w s l)) inner_is (left_done s l left_part_is) in
    let long : size ≡ length left_bytes = omega (arith, size_is, length-turned b c left_bytes left_written) in
    let further : pages ≡ (right_begin s l r).page - s.page = pages_is ∙ (λ i. (middle i).at.page - (begin i).at.page) in
    let head : AppendsReversed c e (head_bytes references d x ((right_begin s l r).page - s.page) (right_begin s l r).offset (length left_bytes)) =
    head_done ∙ (λ i. c ++ reverse (head_bytes references (dim i) ((y_is ∙ value) i) (further i) (middle i).at.offset (long i))) in
    node_joined a b c e right_bytes left_bytes (head_bytes references d x ((right_begin s l r).page - s.page) (right_begin s l r).offset (length left_bytes))
    right_written left_written head

-- how many parts the left child has
pub left_counts : {X Y Z : Type 0} (k : ℕ) (nodes : List X) (places : List Y) (cells : List Z) → length nodes + 1 ≡ length places → length cells ≡ length places
    → 1 ≤ k → k < length places
    → (length (take (k - 1) (drop 1 nodes)) + 1 ≡ length (take k places)) × (length (take k cells) ≡ length (take k places))
left_counts k nodes places cells many_nodes many_cells some all =
    let rest = length-drop 1 nodes in
    let left = length-take-le (k - 1) (drop 1 nodes) (omega arith) in
    let same = length-take-le k places (omega arith) in
    let cell = length-take-le k cells (omega arith) in
    (omega arith, omega arith)

-- a place that stands for none
abbrev pub nowhere : LeafPlace
nowhere = record { page = 0; offset = 0; length = 0 }
