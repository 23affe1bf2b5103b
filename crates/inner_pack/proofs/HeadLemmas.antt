-- What an inner node says of itself.
use Rattle.std.proofs.Common.{◌≡◌, ℕ, ℤ, pos, zero, suc, ◌+◌, ◌-◌, ◌*◌, ◌/◌, ◌^◌, ◌≤◌, ◌<◌, ◌≤ℤ◌, List, [], ◌∷◌, ◌++◌, length, take}
use Rattle.std.proofs.Common.{drop, FitsSigned, refl, sym, ap, ◌∙◌, arith, take_at, drop_at, to_z, of_z, to_z-of_z, cond, eqb, ltb}
use Rattle.std.proofs.Common.{lt-ltb, le-ltb, eq-eqb, ne_eqb, inl, inr, ◌%◌, length-append, length-drop, slice_set, slice_index_or}
use Rattle.std.specs.Int.{w32}
use Rattle.std.specs.List.{flat_map}
use Rattle.std.proofs.lemmas.Bool.{cases_lt, cases_eq, cond-true, cond-false}
use Rattle.std.proofs.lemmas.Int.{ints}
use Rattle.std.proofs.lemmas.List.Elements.{All-same, All-take, All-drop}
use Rattle.point_codec.specs.Points.{Region}
use Rattle.point_codec.specs.Keys.{key}
use Rattle.point_codec.specs.Cells.{left_of, right_of}
use Rattle.byte_cursor.specs.Vint.{vint, vint_groups}
use Rattle.inner_pack.specs.Places.{Spot, LeafSpan, leaf_spans, leaf_end}
use Rattle.inner_pack.specs.Trees.{IndexTree, Leaf, Split, IsCell, IsInCell, HasCells, leaf_count, lengths_of}
use Rattle.inner_pack.specs.Bodies.{cuts_table, places_table, place_bytes, cell_bytes, shared_front, node_bytes, first_length, right_begin}
use Rattle.inner_pack.specs.Spelled.{spelled_part, told_part, IsNodeOf}
use Rattle.inner_pack.specs.Heads.{SaysSplit}
use Rattle.inner_pack.specs.declared.head.Head.{Head}
use Rattle.inner_pack.proofs.PlaceLemmas.{AreLengths, rest_lengths, right_fits, right_from, right_to, places_first, places_split, count_shaped}
use Rattle.inner_pack.proofs.SpelledLemmas.{spelled_one, told_one, spelled_packed, told_packed, cuts_split}
use Rattle.inner_pack.proofs.SpelledLemmas.{cuts_long, places_long, fields, leaf_bytes_is, with_children_is}
use Rattle.inner_pack.proofs.CellLemmas.{length-cell}
use Rattle.inner_pack.proofs.KeyLemmas.{shared-le}

pub key_long : (x : ℤ) → length (key x) ≡ 4
key_long x = refl

pub key_back : (x : ℤ) → FitsSigned w32 x → key (to_z w32 (of_z w32 x)) ≡ key x
key_back x h = ap key (to_z-of_z h)

-- a value between two of 32 bits has 32 bits
pub between_fits : (a x b : ℤ) → a ≤ℤ x → x ≤ℤ b → FitsSigned w32 a → FitsSigned w32 b → FitsSigned w32 x
between_fits a x b lo hi fa fb = grind (arith, ints)

pub in_cell_fits : (D d : ℕ) (x : ℤ) (path : Region) → IsCell D path → IsInCell D path d x → FitsSigned w32 x
in_cell_fits D d x path cell h =
    between_fits (slice_index_or path.lo d (pos 0)) x (slice_index_or path.hi d (pos 0)) h.from h.to
    (cell.lo_fits d (pos 0) (omega (arith, h.dimension, cell.lo_dims))) (cell.hi_fits d (pos 0) (omega (arith, h.dimension, cell.hi_dims)))

-- the lengths on both sides
pub left_lengths : (l r : IndexTree) → AreLengths (lengths_of l ++ lengths_of r) → AreLengths (lengths_of l)
left_lengths l r h =
    All-same (λ (n : ℕ). (1 ≤ n) × (n ≤ 4064)) (lengths_of l) (take (length (lengths_of l)) (lengths_of l ++ lengths_of r))
    (sym (take_at (lengths_of l) (lengths_of r) (length (lengths_of l)) refl))
    (All-take (λ (n : ℕ). (1 ≤ n) × (n ≤ 4064)) (length (lengths_of l)) (lengths_of l ++ lengths_of r) h)

pub right_lengths : (l r : IndexTree) → AreLengths (lengths_of l ++ lengths_of r) → AreLengths (lengths_of r)
right_lengths l r h =
    All-same (λ (n : ℕ). (1 ≤ n) × (n ≤ 4064)) (lengths_of r) (drop (length (lengths_of l)) (lengths_of l ++ lengths_of r))
    (sym (drop_at (lengths_of l) (lengths_of r) (length (lengths_of l)) refl))
    (All-drop (λ (n : ℕ). (1 ≤ n) × (n ≤ 4064)) (length (lengths_of l)) (lengths_of l ++ lengths_of r) h)

-- ---- form 1

abbrev pub tail_places : Spot → IndexTree → List ℕ
tail_places s t = flat_map place_bytes (leaf_spans (leaf_end s (first_length t)) (rest_lengths t))

abbrev pub first_place : Spot → IndexTree → LeafSpan
first_place s t = record { at = s; length = first_length t }

pub record TableNode (leaves : ℕ) (s : Spot) (d : ℕ) (x : ℤ) (l r : IndexTree) (bytes places : List ℕ) : Type 0 where
  pub cut : bytes ≡ d ∷ (key x ++ (cuts_table l ++ cuts_table r))
  pub cuts : length (cuts_table l) ≡ 5 * (leaves - leaves / 2 - 1)
  pub split : places ≡ places_table s l ++ places_table (right_begin s l r) r
  pub long : length (places_table s l) ≡ 8 * (leaves - leaves / 2)
  pub first : places_table s l ≡ place_bytes (first_place s l) ++ tail_places s l
  pub middle : places_table (right_begin s l r) r ≡ place_bytes (first_place (right_begin s l r) r) ++ tail_places (right_begin s l r) r
  pub first_length_fits : s.offset + first_length l ≤ 4064
  pub middle_length_fits : (right_begin s l r).offset + first_length r ≤ 4064
  pub from : s.page ≤ (right_begin s l r).page
  pub to : (right_begin s l r).page ≤ s.page + leaves

pub table_node : (D form leaves : ℕ) (s : Spot) (path : Region) (references : List (List ℕ)) (bytes places : List ℕ) (d : ℕ) (x : ℤ) (l r : IndexTree)
    → form ≡ 1
    → IsNodeOf D form leaves s path references bytes places (Split d x l r) → TableNode leaves s d x l r bytes places
table_node D form leaves s path references bytes places d x l r one h =
    let ll = left_lengths l r h.lengths in
    let rl = right_lengths l r h.lengths in
    record {
      cut = h.spelled ∙ spelled_one form references s (Split d x l r) one ∙ cuts_split d x l r;
      cuts = cuts_long (leaves - leaves / 2) l (omega (arith, h.shaped.0)) h.shaped.1;
      split = h.told ∙ told_one form s (Split d x l r) one ∙ places_split s d x l r rl;
      long = places_long (leaves - leaves / 2) s l h.shaped.1;
      first = places_first s l h.fits;
      middle = places_first (right_begin s l r) r (right_fits s l r rl);
      first_length_fits = h.fits;
      middle_length_fits = right_fits s l r rl;
      from = right_from s l r;
      to = omega (arith, right_to s l r ll h.fits, count_shaped (leaves - leaves / 2) l h.shaped.1);
    }

pub joins_table : (form : ℕ) (references : List (List ℕ)) (s : Spot) (l r : IndexTree) (h : Head) (bytes places : List ℕ) → form ≡ 1 → AreLengths (lengths_of r)
    → SaysSplit form references s h.dimension h.at l r h
    → bytes ≡ h.dimension ∷ (h.key ++ (h.left.bytes.now ++ h.right.bytes.now)) → places ≡ h.left.places.now ++ h.right.places.now
    → (bytes ≡ spelled_part form references s (Split h.dimension h.at l r)) × (places ≡ told_part form s (Split h.dimension h.at l r))
joins_table form references s l r h bytes places one rl says eb ep =
    let lower = slice_set references h.dimension (key h.at) in (
      eb
          ∙ (λ i. h.dimension
          ∷ (says.key_is i
          ++ ((says.left_bytes ∙ spelled_one form lower s l one) i ++ (says.right_bytes ∙ spelled_one form lower (right_begin s l r) r one) i)))
          ∙ sym (cuts_split h.dimension h.at l r)
          ∙ sym (spelled_one form references s (Split h.dimension h.at l r) one),
      ep
          ∙ (λ i. (says.left_places ∙ told_one form s l one) i ++ (says.right_places ∙ told_one form (right_begin s l r) r one) i)
          ∙ sym (places_split s h.dimension h.at l r rl)
          ∙ sym (told_one form s (Split h.dimension h.at l r) one),
    )

-- ---- the packed forms

groups_few : (k n : ℕ) → length (vint_groups k n) ≤ k + 1
groups_few zero n = omega arith
groups_few (suc k) n = elim (cases_lt n 128) [
  | inl lt ↦ omega (arith, ap length (cond-true (ltb n 128) (n ∷ []) ((128 + n % 128) ∷ vint_groups k (n / 128)) (lt-ltb n 128 lt)))
  | inr le ↦ omega (arith, ap length (cond-false (ltb n 128) (n ∷ []) ((128 + n % 128) ∷ vint_groups k (n / 128)) (le-ltb n 128 le)), groups_few k (n / 128))
]

pub vint_few : (n : ℕ) → length (vint n) ≤ 5
unfolding vint
vint_few n = groups_few 4 n

own_few : (form D : ℕ) (own : Region) → D ≤ 8 → IsCell D own → length (cond (eqb form 3) (cell_bytes own) []) ≤ 64
own_few form D own le cell = elim (cases_eq form 3) [
  | inl e ↦ omega (arith, ap length (cond-true (eqb form 3) (cell_bytes own) [] (eq-eqb form 3 e)), length-cell D own cell)
  | inr ne ↦ omega (arith, ap length (cond-false (eqb form 3) (cell_bytes own) [] (ne_eqb form 3 ne)))
]

fields_long : (references : List (List ℕ)) (d : ℕ) (x : ℤ) (pages offset : ℕ) (lb rb : List ℕ)
    → length (fields references d (key x) pages offset lb rb) ≤ 20 + (length lb + length rb)
fields_long references d x pages offset lb rb =
    let p = shared_front (key x) (slice_index_or references d []) in
    let v1 = vint_few pages in
    let v2 = vint_few offset in
    let v3 = vint_few (length lb) in
    omega (
      arith,
      length-drop p (key x),
      key_long x,
      length-append (drop p (key x)) (vint pages ++ (vint offset ++ (vint (length lb) ++ (lb ++ rb)))),
      length-append (vint pages) (vint offset ++ (vint (length lb) ++ (lb ++ rb))),
      length-append (vint offset) (vint (length lb) ++ (lb ++ rb)),
      length-append (vint (length lb)) (lb ++ rb),
      length-append lb rb,
    )

-- a node takes fewer than 89 bytes for each of its leaves
pub node_long : (D form : ℕ) (references : List (List ℕ)) (s : Spot) (path : Region) (t : IndexTree) → D ≤ 8 → HasCells D path t
    → length (node_bytes form references s t) + 20 ≤ 89 * leaf_count t
node_long D form references s path (Leaf n own) le h =
    omega (arith, ap length (leaf_bytes_is form n own), length-append (vint n) (cond (eqb form 3) (cell_bytes own) []), vint_few n, own_few form D own le h.0)
node_long D form references s path (Split d x l r) le h =
    let lower = slice_set references d (key x) in
    let right = right_begin s l r in
    let lb = node_bytes form lower s l in
    let rb = node_bytes form lower right r in
    omega (
      arith,
      ap length (with_children_is references d x s right lb rb),
      fields_long references d x (right.page - s.page) right.offset lb rb,
      node_long D form lower s (left_of path d x) l le h.1,
      node_long D form lower right (right_of path d x) r le h.2,
    )

pub record PackedNode (form : ℕ) (references : List (List ℕ)) (s : Spot) (d : ℕ) (x : ℤ) (l r : IndexTree) (bytes : List ℕ) : Type 0 where
  pub is : bytes
      ≡ fields references d (key x) ((right_begin s l r).page - s.page) (right_begin s l r).offset (node_bytes form (slice_set references d (key x)) s l)
      (node_bytes form (slice_set references d (key x)) (right_begin s l r) r)
  pub few : shared_front (key x) (slice_index_or references d []) ≤ 4
  pub pages : (right_begin s l r).page - s.page < 2 ^ 32
  pub offset : (right_begin s l r).offset ≤ 4064
  pub left : length (node_bytes form (slice_set references d (key x)) s l) < 2 ^ 32
  pub high : (right_begin s l r).page - s.page ≤ leaf_count l

pub packed_node : (D form leaves : ℕ) (s : Spot) (path : Region) (references : List (List ℕ)) (bytes places : List ℕ) (d : ℕ) (x : ℤ) (l r : IndexTree) → D ≤ 8
    → 2 ≤ form → leaves ≤ 8388608
    → IsNodeOf D form leaves s path references bytes places (Split d x l r) → PackedNode form references s d x l r bytes
packed_node D form leaves s path references bytes places d x l r le packed few h =
    let ll = left_lengths l r h.lengths in
    let rl = right_lengths l r h.lengths in
    let lower = slice_set references d (key x) in
    let count = count_shaped (leaves - leaves / 2) l h.shaped.1 in
    let far = right_to s l r ll h.fits in
    record {
      is = h.spelled ∙ spelled_packed form references s (Split d x l r) packed
          ∙ with_children_is references d x s (right_begin s l r) (node_bytes form lower s l) (node_bytes form lower (right_begin s l r) r);
      few = omega (arith, shared-le (key x) (slice_index_or references d []), key_long x);
      pages = omega (arith, far, count, few);
      offset = omega (arith, right_fits s l r rl);
      left = omega (arith, node_long D form lower s (left_of path d x) l le h.cells.1, count, few);
      high = omega (arith, far);
    }

pub joins_packed : (form : ℕ) (references : List (List ℕ)) (s : Spot) (l r : IndexTree) (h : Head) (bytes places back : List ℕ) (code : ℕ) → 2 ≤ form
    → SaysSplit form references s h.dimension h.at l r h
    → bytes ≡ code ∷ (drop (code % 5) h.key ++ (vint h.pages ++ (vint h.offset ++ (vint (length h.left.bytes.now) ++ (h.left.bytes.now ++ h.right.bytes.now)))))
    → h.dimension ≡ code / 5 → shared_front h.key (slice_index_or references h.dimension []) ≡ code % 5 → places ≡ h.left.places.now
    → (bytes ≡ spelled_part form references s (Split h.dimension h.at l r)) × (places ≡ told_part form s (Split h.dimension h.at l r))
joins_packed form references s l r h bytes places back code packed says eb ed es ep =
    let lower = slice_set references h.dimension (key h.at) in
    let right = right_begin s l r in
    let lb : h.left.bytes.now ≡ node_bytes form lower s l = says.left_bytes ∙ spelled_packed form lower s l packed in
    let rb : h.right.bytes.now ≡ node_bytes form lower right r = says.right_bytes ∙ spelled_packed form lower right r packed in
    let front : code ≡ 5 * h.dimension + shared_front h.key (slice_index_or references h.dimension []) = omega (arith, ed, es) in
    let kept : fields references h.dimension h.key h.pages h.offset h.left.bytes.now h.right.bytes.now ≡ bytes =
    (λ i. sym front i ∷ (drop (es i) h.key ++ (vint h.pages ++ (vint h.offset ++ (vint (length h.left.bytes.now) ++ (h.left.bytes.now ++ h.right.bytes.now))))))
    ∙ sym eb in (
      sym kept
          ∙ (λ i. fields references h.dimension (says.key_is i) (says.pages i) (says.offset i) (lb i) (rb i))
          ∙ sym (with_children_is references h.dimension h.at s right (node_bytes form lower s l) (node_bytes form lower right r))
          ∙ sym (spelled_packed form references s (Split h.dimension h.at l r) packed),
      ep ∙ says.left_places ∙ told_packed form s l packed ∙ sym (told_packed form s (Split h.dimension h.at l r) packed),
    )
