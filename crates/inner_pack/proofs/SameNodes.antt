-- Nodes of the same bytes have the same split and the same parts.
use Rattle.std.proofs.Common.{◌≡◌, ℕ, ℤ, pos, ◌+◌, ◌-◌, ◌*◌, ◌/◌, ◌^◌, ◌≤◌, ◌<◌, List, [], ◌++◌, length, take, drop, FitsSigned, refl, sym, ap, subst}
use Rattle.std.proofs.Common.{◌∙◌, arith, get_or, take-append-drop, cond, eqb, inl, inr, length-drop, length-set, slice_set, slice_index_or, eq-eqb}
use Rattle.std.specs.Int.{w32, w16}
use Rattle.std.proofs.lemmas.Bool.{cases_eq, cond-true}
use Rattle.std.proofs.lemmas.List.Elements.{All-set}
use Rattle.byte_cursor.specs.Vint.{vint}
use Rattle.byte_cursor.proofs.SpelledVints.{vint_front}
use Rattle.byte_cursor.proofs.Numbers.{spelling_unique}
use Rattle.point_codec.specs.Points.{Region}
use Rattle.point_codec.specs.Keys.{key}
use Rattle.point_codec.specs.Cells.{left_of, right_of}
use Rattle.inner_pack.specs.Places.{Spot, leaf_begin}
use Rattle.inner_pack.specs.Trees.{IndexTree, Leaf, Split, IsCell, IsInCell}
use Rattle.inner_pack.specs.Bodies.{cuts_table, places_table, place_bytes, node_bytes, cell_bytes, shared_front, right_begin}
use Rattle.inner_pack.specs.Spelled.{spelled_part, told_part, IsNodeOf}
use Rattle.inner_pack.proofs.PlaceLemmas.{first_fits, right_fits}
use Rattle.inner_pack.proofs.CellLemmas.{key_front, key_one, cell_one, Fit}
use Rattle.inner_pack.proofs.KeyLemmas.{shared_take, key_again}
use Rattle.inner_pack.proofs.SpelledLemmas.{spelled_one, told_one, spelled_packed, told_packed, leaf_bytes_is, leaf_in_table, to_packed_leaf, fields}
use Rattle.inner_pack.proofs.NodeLemmas.{said_otherwise}
use Rattle.inner_pack.proofs.HeadLemmas.{TableNode, table_node, packed_node, key_long, between_fits, left_lengths, right_lengths}
use Rattle.byte_cursor.proofs.Lists.{split_same}

-- a cell with so many dimensions, whatever the order of its ends
pub record IsWide (D : ℕ) (r : Region) : Type 0 where
  pub lo_dims : length r.lo ≡ D
  pub hi_dims : length r.hi ≡ D
  pub lo_fits : Fit r.lo
  pub hi_fits : Fit r.hi

pub wide_cell : (D : ℕ) (r : Region) → IsCell D r → IsWide D r
wide_cell D r h = record { lo_dims = h.lo_dims; hi_dims = h.hi_dims; lo_fits = h.lo_fits; hi_fits = h.hi_fits }

pub inside_fits : (D d : ℕ) (x : ℤ) (path : Region) → IsWide D path → IsInCell D path d x → FitsSigned w32 x
inside_fits D d x path w h =
    between_fits (slice_index_or path.lo d (pos 0)) x (slice_index_or path.hi d (pos 0)) h.from h.to
    (w.lo_fits d (pos 0) (omega (arith, h.dimension, w.lo_dims))) (w.hi_fits d (pos 0) (omega (arith, h.dimension, w.hi_dims)))

pub left_wide : (D d : ℕ) (x : ℤ) (path : Region) → IsWide D path → FitsSigned w32 x → IsWide D (left_of path d x)
left_wide D d x path w f = record {
  lo_dims = w.lo_dims;
  hi_dims = length-set path.hi d x ∙ w.hi_dims;
  lo_fits = w.lo_fits;
  hi_fits = All-set (λ (y : ℤ). FitsSigned w32 y) path.hi d x f w.hi_fits;
}

pub right_wide : (D d : ℕ) (x : ℤ) (path : Region) → IsWide D path → FitsSigned w32 x → IsWide D (right_of path d x)
right_wide D d x path w f = record {
  lo_dims = length-set path.lo d x ∙ w.lo_dims;
  hi_dims = w.hi_dims;
  lo_fits = All-set (λ (y : ℤ). FitsSigned w32 y) path.lo d x f w.lo_fits;
  hi_fits = w.hi_fits;
}

-- ---- leaves

table_sizes : (a b : Spot) (m n : ℕ) → m < 2 ^ 16 → n < 2 ^ 16 → place_bytes (record { at = a; length = m }) ≡ place_bytes (record { at = b; length = n })
    → m ≡ n
table_sizes a b m n lm ln e = (spelling_unique w16 m n [] [] lm ln (ap (λ (t : List ℕ). drop 6 t ++ []) e)).0

pub one_leaf : (D form leaves : ℕ) (s u : Spot) (path : Region) (references : List (List ℕ)) (bytes places : List ℕ) (m n : ℕ) (own other : Region)
    → IsNodeOf D form leaves s path references bytes places (Leaf m own) → IsNodeOf D form leaves u path references bytes places (Leaf n other)
    → Leaf m own ≡ Leaf n other
one_leaf D form leaves s u path references bytes places m n own other h k = elim (cases_eq form 1) [
  | inl one ↦
      let bm = first_fits (Leaf m own) h.lengths in
      let bn = first_fits (Leaf n other) k.lengths in
      let told =
      sym (h.told ∙ told_one form s (Leaf m own) one ∙ leaf_in_table s m own) ∙ (k.told ∙ told_one form u (Leaf n other) one ∙ leaf_in_table u n other) in
      let size : m ≡ n = table_sizes (leaf_begin s m) (leaf_begin u n) m n (omega (arith, bm.1)) (omega (arith, bn.1)) told in
      let cell : own ≡ other = h.path_cells (omega (arith, one)) ∙ sym (k.path_cells (omega (arith, one))) in
      (λ i. Leaf (size i) (cell i))
  | inr ne ↦
      let packed : 2 ≤ form = omega (arith, h.least_form, ne) in
      let a = to_packed_leaf D form leaves s path references bytes places m own packed h in
      let b = to_packed_leaf D form leaves u path references bytes places n other packed k in
      let both = vint_front m n (cond (eqb form 3) (cell_bytes own) []) (cond (eqb form 3) (cell_bytes other) []) (omega (arith, a.greatest))
      (omega (arith, b.greatest))
      (sym (a.spelled ∙ leaf_bytes_is form m own) ∙ (b.spelled ∙ leaf_bytes_is form n other)) in
      let cell : own ≡ other = elim (cases_eq form 3) [
        | inl three ↦
            let ea = cond-true (eqb form 3) (cell_bytes own) [] (eq-eqb form 3 three) in
            let eb = cond-true (eqb form 3) (cell_bytes other) [] (eq-eqb form 3 three) in
            cell_one D own other a.cell b.cell (sym ea ∙ both.1 ∙ eb)
        | inr less ↦
            let two : form < 3 = omega (arith, h.greatest_form, less) in
            h.path_cells two ∙ sym (k.path_cells two)
      ] in
      (λ i. Leaf (both.0 i) (cell i))
]

-- ---- inner nodes: the same bytes have the same split and the same parts

record SameParts (d e : ℕ) (x y : ℤ) (lb lb2 lp lp2 rb rb2 rp rp2 : List ℕ) : Type 0 where
  pub dimension : d ≡ e
  pub value : x ≡ y
  pub left_bytes : lb ≡ lb2
  pub left_places : lp ≡ lp2
  pub right_bytes : rb ≡ rb2
  pub right_places : rp ≡ rp2

table_parts : (leaves : ℕ) (s u : Spot) (bytes places : List ℕ) (d e : ℕ) (x y : ℤ) (l l2 r r2 : IndexTree) → FitsSigned w32 x → FitsSigned w32 y
    → TableNode leaves s d x l r bytes places → TableNode leaves u e y l2 r2 bytes places
    → SameParts d e x y (cuts_table l) (cuts_table l2) (places_table s l) (places_table u l2) (cuts_table r) (cuts_table r2)
    (places_table (right_begin s l r) r) (places_table (right_begin u l2 r2) r2)
table_parts leaves s u bytes places d e x y l l2 r r2 fx fy a b =
    let same = sym a.cut ∙ b.cut in
    let head : d ≡ e = ap (λ (t : List ℕ). get_or t 0 0) same in
    let rest = key_front x y (cuts_table l ++ cuts_table r) (cuts_table l2 ++ cuts_table r2) fx fy (ap (λ (t : List ℕ). drop 1 t) same) in
    let cuts = split_same (cuts_table l) (cuts_table l2) (cuts_table r) (cuts_table r2) (a.cuts ∙ sym b.cuts) rest.1 in
    let told = split_same (places_table s l) (places_table u l2) (places_table (right_begin s l r) r) (places_table (right_begin u l2 r2) r2)
    (a.long ∙ sym b.long) (sym a.split ∙ b.split) in
    record { dimension = head; value = rest.0; left_bytes = cuts.0; left_places = told.0; right_bytes = cuts.1; right_places = told.1 }

-- a key is known by what it shares with a reference, and its rest
same_key : (j k reference : List ℕ) → shared_front j reference ≡ shared_front k reference
    → drop (shared_front j reference) j ≡ drop (shared_front k reference) k → j ≡ k
same_key j k reference sh back = key_again k reference (drop (shared_front j reference) j) j (shared_front k reference) refl back
    (sym (take-append-drop (shared_front j reference) j) ∙ (λ i. shared_take j reference i ++ drop (shared_front j reference) j)
    ∙ ap (λ n. take n reference ++ drop (shared_front j reference) j) sh)

fields_parts : (references : List (List ℕ)) (d e : ℕ) (x y : ℤ) (p1 p2 o1 o2 : ℕ) (lb lb2 rb rb2 : List ℕ) → FitsSigned w32 x → FitsSigned w32 y
    → shared_front (key x) (slice_index_or references d []) ≤ 4 → shared_front (key y) (slice_index_or references e []) ≤ 4
    → p1 < 2 ^ 32 → p2 < 2 ^ 32 → o1 ≤ 4064 → o2 ≤ 4064 → length lb < 2 ^ 32 → length lb2 < 2 ^ 32
    → fields references d (key x) p1 o1 lb rb ≡ fields references e (key y) p2 o2 lb2 rb2 → (d ≡ e) × (x ≡ y) × (lb ≡ lb2) × (rb ≡ rb2)
fields_parts references d e x y p1 p2 o1 o2 lb lb2 rb rb2 fx fy hs hs2 hp hp2 ho ho2 hl hl2 same =
    let q = shared_front (key x) (slice_index_or references d []) in
    let q2 = shared_front (key y) (slice_index_or references e []) in
    let code : 5 * d + q ≡ 5 * e + q2 = ap (λ (t : List ℕ). get_or t 0 0) same in
    let head : d ≡ e = omega (arith, code, hs, hs2) in
    let share : q ≡ q2 = omega (arith, code, hs, hs2) in
    let long : length (drop q (key x)) ≡ length (drop q2 (key y)) =
    omega (arith, length-drop q (key x), length-drop q2 (key y), key_long x, key_long y, share) in
    let tail = λ (p o : ℕ) (b c : List ℕ). vint p ++ (vint o ++ (vint (length b) ++ (b ++ c))) in
    let k = split_same (drop q (key x)) (drop q2 (key y)) (tail p1 o1 lb rb) (tail p2 o2 lb2 rb2) long (ap (λ (t : List ℕ). drop 1 t) same) in
    let v = vint_front p1 p2 (vint o1 ++ (vint (length lb) ++ (lb ++ rb))) (vint o2 ++ (vint (length lb2) ++ (lb2 ++ rb2))) hp hp2 k.1 in
    let o = vint_front o1 o2 (vint (length lb) ++ (lb ++ rb)) (vint (length lb2) ++ (lb2 ++ rb2)) (omega (arith, ho)) (omega (arith, ho2)) v.1 in
    let l = vint_front (length lb) (length lb2) (lb ++ rb) (lb2 ++ rb2) hl hl2 o.1 in
    let parts = split_same lb lb2 rb rb2 l.0 l.1 in
    let reference : slice_index_or references d [] ≡ slice_index_or references e [] = ap (λ n. slice_index_or references n []) head in
    let sh2 : shared_front (key y) (slice_index_or references d []) ≡ q2 = ap (shared_front (key y)) reference in
    let keys : key x ≡ key y = same_key (key x) (key y) (slice_index_or references d []) (share ∙ sym sh2) (k.0 ∙ ap (λ n. drop n (key y)) (sym sh2)) in
    (head, key_one x y fx fy keys, parts.0, parts.1)

-- the parts of the children
pub record SameChildren (form d e : ℕ) (x y : ℤ) (lower lower2 : List (List ℕ)) (s u v w : Spot) (l l2 r r2 : IndexTree) : Type 0 where
  pub dimension : d ≡ e
  pub value : x ≡ y
  pub left_bytes : spelled_part form lower s l ≡ spelled_part form lower2 u l2
  pub left_places : told_part form s l ≡ told_part form u l2
  pub right_bytes : spelled_part form lower v r ≡ spelled_part form lower2 w r2
  pub right_places : told_part form v r ≡ told_part form w r2

pub same_children : (D form n : ℕ) (s u : Spot) (path : Region) (references : List (List ℕ)) (bytes places : List ℕ) (d e : ℕ) (x y : ℤ) (l l2 r r2 : IndexTree)
    → D ≤ 8 → n ≤ 8388608 → FitsSigned w32 x → FitsSigned w32 y
    → IsNodeOf D form n s path references bytes places (Split d x l r) → IsNodeOf D form n u path references bytes places (Split e y l2 r2)
    → SameChildren form d e x y (slice_set references d (key x)) (slice_set references e (key y)) s u (right_begin s l r) (right_begin u l2 r2) l l2 r r2
same_children D form n s u path references bytes places d e x y l l2 r r2 few many fx fy h k = elim (cases_eq form 1) [
  | inl one ↦
      let p = table_parts n s u bytes places d e x y l l2 r r2 fx fy (table_node D form n s path references bytes places d x l r one h)
      (table_node D form n u path references bytes places e y l2 r2 one k) in
      let lower = slice_set references d (key x) in
      let lower2 = slice_set references e (key y) in
      let v = right_begin s l r in
      let w = right_begin u l2 r2 in
      record {
        dimension = p.dimension;
        value = p.value;
        left_bytes = spelled_one form lower s l one ∙ p.left_bytes ∙ sym (spelled_one form lower2 u l2 one);
        left_places = told_one form s l one ∙ p.left_places ∙ sym (told_one form u l2 one);
        right_bytes = spelled_one form lower v r one ∙ p.right_bytes ∙ sym (spelled_one form lower2 w r2 one);
        right_places = told_one form v r one ∙ p.right_places ∙ sym (told_one form w r2 one);
      }
  | inr ne ↦
      let packed : 2 ≤ form = omega (arith, h.least_form, ne) in
      let lower = slice_set references d (key x) in
      let lower2 = slice_set references e (key y) in
      let v = right_begin s l r in
      let w = right_begin u l2 r2 in
      let a = packed_node D form n s path references bytes places d x l r few packed many h in
      let b = packed_node D form n u path references bytes places e y l2 r2 few packed many k in
      let p = fields_parts references d e x y (v.page - s.page) (w.page - u.page) v.offset w.offset (node_bytes form lower s l) (node_bytes form lower2 u l2)
      (node_bytes form lower v r) (node_bytes form lower2 w r2)
      fx fy a.few b.few a.pages b.pages a.offset b.offset a.left b.left (sym a.is ∙ b.is) in
      record {
        dimension = p.0;
        value = p.1;
        left_bytes = spelled_packed form lower s l packed ∙ p.2 ∙ sym (spelled_packed form lower2 u l2 packed);
        left_places = told_packed form s l packed ∙ sym (told_packed form u l2 packed);
        right_bytes = spelled_packed form lower v r packed ∙ p.3 ∙ sym (spelled_packed form lower2 w r2 packed);
        right_places = told_packed form v r packed ∙ sym (told_packed form w r2 packed);
      }
]

pub own_bytes_left : (D form n : ℕ) (s : Spot) (path : Region) (references : List (List ℕ)) (bytes places : List ℕ) (d : ℕ) (x : ℤ) (l r : IndexTree)
    → IsNodeOf D form n s path references bytes places (Split d x l r)
    → IsNodeOf D form (n - n / 2) s (left_of path d x) (slice_set references d (key x)) (spelled_part form (slice_set references d (key x)) s l)
    (told_part form s l) l
own_bytes_left D form n s path references bytes places d x l r h = record {
  least_form = h.least_form;
  greatest_form = h.greatest_form;
  shaped = h.shaped.1;
  fits = h.fits;
  cells = h.cells.1;
  path_cells = λ lt. (h.path_cells lt).0;
  lengths = left_lengths l r h.lengths;
  spelled = refl;
  told = refl;
}

pub own_bytes_right : (D form n : ℕ) (s : Spot) (path : Region) (references : List (List ℕ)) (bytes places : List ℕ) (d : ℕ) (x : ℤ) (l r : IndexTree)
    → IsNodeOf D form n s path references bytes places (Split d x l r)
    → IsNodeOf D form (n / 2) (right_begin s l r) (right_of path d x) (slice_set references d (key x))
    (spelled_part form (slice_set references d (key x)) (right_begin s l r) r) (told_part form (right_begin s l r) r) r
own_bytes_right D form n s path references bytes places d x l r h = record {
  least_form = h.least_form;
  greatest_form = h.greatest_form;
  shaped = h.shaped.2;
  fits = right_fits s l r (right_lengths l r h.lengths);
  cells = h.cells.2;
  path_cells = λ lt. (h.path_cells lt).1;
  lengths = right_lengths l r h.lengths;
  spelled = refl;
  told = refl;
}

pub with_bytes : (D form n : ℕ) (s : Spot) (path other : Region) (references moved : List (List ℕ)) (bytes bytes2 places places2 : List ℕ) (t : IndexTree)
    → other ≡ path → moved ≡ references → bytes2 ≡ bytes → places2 ≡ places
    → IsNodeOf D form n s path references bytes places t → IsNodeOf D form n s other moved bytes2 places2 t
with_bytes D form n s path other references moved bytes bytes2 places places2 t ep er eb el h =
    subst (λ (q : List ℕ). IsNodeOf D form n s other moved bytes2 q t) (sym el)
    (subst (λ (q : List ℕ). IsNodeOf D form n s other moved q places t) (sym eb)
    (said_otherwise D form n s s path other references moved bytes places t refl ep er h))
