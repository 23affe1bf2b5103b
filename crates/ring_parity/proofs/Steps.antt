-- What the loops over positions and rings step by.
use Rattle.std.proofs.Common.{◌≡◌, ℕ, ℤ, ◌+◌, ◌-◌, ◌<◌, ◌≤◌, suc, zero, Bool, true, false, not, ◌||◌, List, []}
use Rattle.std.proofs.Common.{◌∷◌, ◌++◌, length, take, drop, get_or, refl, sym, ap, ◌∙◌, arith, ◌↔◌, subst, ◌*◌}
use Rattle.std.specs.Prelude.{IsTrue, zip, All, sum_by}
use Rattle.std.specs.List.{list_any}
use Rattle.std.specs.Cmp.Rules.{signed_items}
use Rattle.std.specs.Ordering.{int_eq}
use Rattle.std.proofs.lemmas.List.{length-map, get_or-map, get_or-drop, length-drop, take-map, take_more, take-append-drop, append-nil}
use Rattle.std.proofs.lemmas.List.Concat.{flat_map-append}
use Rattle.std.proofs.lemmas.List.Folds.{list_any-append, list_any_at}
use Rattle.std.proofs.lemmas.Slice.Zip.{get_or-zip, length-zip}
use Rattle.std.proofs.lemmas.Bool.{or_from, or_left, or_right}
use Rattle.std.specs.Bool.{beq}
use Rattle.ring_parity.proofs.Crossing.{xor}
use Rattle.ring_parity.proofs.Parity.{oddly-cons, oddly-append}
use lib.Pointwise.{pointwise}
use Rattle.point_codec.specs.Seen.{coordinates_of}
use Rattle.point_codec.specs.declared.coordinates.Point.{Point}
use Rattle.ring_parity.specs.Edges.{EdgeEnds, counts}
use Rattle.std.proofs.lemmas.List.Elements.{All-more}
use Rattle.std.proofs.lemmas.List.Sums.{sum_by_more}
use Rattle.ring_parity.specs.Rings.{edges_of, all_edges, is_odd, IsClosed, IsLinearRing}

-- `==` on the first and the last position says whether a ring is closed
pub closed_by : (at : List (Point 2)) (first last : Point 2) → 0 < length at → first ≡ get_or at 0 first → last ≡ get_or at (length at - 1) last
    → (r : Bool) → r ≡ pointwise int_eq first.c last.c → IsTrue r ↔ IsClosed (coordinates_of at)
closed_by at first last some f l r e =
    let start : get_or (coordinates_of at) 0 [] ≡ first.c = get_or-map (λ (p : Point 2). p.c) at 0 first [] some ∙ ap (λ (p : Point 2). p.c) (sym f) in
    let within : length at - 1 < length at = omega arith in
    let end : get_or (coordinates_of at) (length (coordinates_of at) - 1) [] ≡ last.c =
    (rw (length-map at (λ (p : Point 2). p.c)) (get_or-map (λ (p : Point 2). p.c) at (length at - 1) last [] within)) ∙ ap (λ (p : Point 2). p.c) (sym l) in
    let decides = signed_items first.c last.c in
    (λ t. start ∙ decides.0 (sym e ∙ t) ∙ sym end, λ c. e ∙ decides.1 (sym start ∙ c ∙ end))

-- the rings so far with one more linear ring
pub linear_more : (list : List (List (List ℤ))) (i : ℕ) (at : List (Point 2)) (ring : List (List ℤ)) → i < length list → ring ≡ get_or list i ring
    → coordinates_of at ≡ ring → 4 ≤ length at → IsClosed (coordinates_of at) → All IsLinearRing (take i list) → All IsLinearRing (take (i + 1) list)
linear_more list i at ring there is seen enough closed before =
    let long : length at ≡ length ring = sym (length-map at (λ (p : Point 2). p.c)) ∙ ap length seen in
    let linear : IsLinearRing ring = record { enough = omega (arith, long); closed = subst IsClosed seen closed } in
    All-more IsLinearRing list i ring there before (subst IsLinearRing is linear)

pub positions_more : (list : List (List (List ℤ))) (i : ℕ) (at : List (Point 2)) (ring : List (List ℤ)) → i < length list → ring ≡ get_or list i ring
    → coordinates_of at ≡ ring → 4 ≤ length at → 4 * i ≤ sum_by length (take i list) → 4 * (i + 1) ≤ sum_by length (take (i + 1) list)
positions_more list i at ring there is seen enough before =
    let long : length at ≡ length ring = sym (length-map at (λ (p : Point 2). p.c)) ∙ ap length seen in
    omega (arith, long, ap length is, sum_by_more length list i ring there)

-- the edges up to one more position
pairs_more : (a : List ℤ) (rest : List (List ℤ)) (j : ℕ) (d : List ℤ) → j < length rest
    → zip (a ∷ take (suc j) rest) (take (suc j) rest) ≡ zip (a ∷ take j rest) (take j rest) ++ (get_or (a ∷ rest) j d, get_or rest j d) ∷ []
pairs_more a [] j d h = absurd (omega arith)
pairs_more a (b ∷ rest) zero d h = refl
pairs_more a (b ∷ rest) (suc j) d h = ap (λ (es : List EdgeEnds). (a, b) ∷ es) (pairs_more b rest j d (omega arith))

ring_more : (ring : List (List ℤ)) (j : ℕ) (d : List ℤ) → suc j < length ring
    → edges_of (take (suc (suc j)) ring) ≡ edges_of (take (suc j) ring) ++ (get_or ring j d, get_or ring (suc j) d) ∷ []
ring_more [] j d h = absurd (omega arith)
ring_more (a ∷ rest) j d h = pairs_more a rest j d (omega arith)

pub edges_more : (at : List (Point 2)) (i : ℕ) (a b : Point 2) → 1 ≤ i → i < length at → a ≡ get_or at (i - 1) a → b ≡ get_or at i b
    → edges_of (coordinates_of (take (i + 1) at)) ≡ edges_of (coordinates_of (take i at)) ++ (a.c, b.c) ∷ []
edges_more at zero a b s h p q = absurd (omega arith)
edges_more at (suc j) a b s h p q =
    let ring : List (List ℤ) = coordinates_of at in
    let long : length ring ≡ length at = length-map at (λ (v : Point 2). v.c) in
    let before : suc j - 1 ≡ j = omega arith in
    let more : suc j + 1 ≡ suc (suc j) = omega arith in
    let start : get_or ring j [] ≡ a.c = get_or-map (λ (v : Point 2). v.c) at j a [] (omega arith) ∙ ap (λ (v : Point 2). v.c) (sym (rw before at p)) in
    let end : get_or ring (suc j) [] ≡ b.c = get_or-map (λ (v : Point 2). v.c) at (suc j) b [] h ∙ ap (λ (v : Point 2). v.c) (sym q) in
    ap edges_of (sym (take-map (λ (v : Point 2). v.c) (suc j + 1) at))
    ∙ ap (λ n. edges_of (take n ring)) more
    ∙ ring_more ring j [] (omega (arith, long))
    ∙ ap (λ (es : List (List ℤ)). edges_of es ++ (get_or ring j [], get_or ring (suc j) []) ∷ []) (take-map (λ (v : Point 2). v.c) (suc j) at)
    ∙ ap (λ (v : List ℤ). edges_of (coordinates_of (take (suc j) at)) ++ (v, get_or ring (suc j) []) ∷ []) start
    ∙ ap (λ (v : List ℤ). edges_of (coordinates_of (take (suc j) at)) ++ (a.c, v) ∷ []) end

-- the edges of one more ring
pub rings_more : (rings : List (List (List ℤ))) (i : ℕ) (ring : List (List ℤ)) → i < length rings → ring ≡ get_or rings i ring
    → all_edges (take (i + 1) rings) ≡ all_edges (take i rings) ++ edges_of ring
rings_more rings i ring there is =
    ap all_edges (take_more rings i ring there) ∙ flat_map-append edges_of (take i rings) (get_or rings i ring ∷ [])
    ∙ ap (λ (es : List EdgeEnds). all_edges (take i rings) ++ es) (append-nil (edges_of (get_or rings i ring)) ∙ ap edges_of (sym is))

-- no edge passes a test so far, and the next one does not either
pub none_more : (test : EdgeEnds → Bool) (at : List (Point 2)) (i : ℕ) (a b : Point 2) → 1 ≤ i → i < length at → a ≡ get_or at (i - 1) a → b ≡ get_or at i b
    → list_any test (edges_of (coordinates_of (take i at))) ≡ false → test (a.c, b.c) ≡ false
    → list_any test (edges_of (coordinates_of (take (i + 1) at))) ≡ false
none_more test at i a b s h p q none e =
    ap (list_any test) (edges_more at i a b s h p q) ∙ list_any-append test (edges_of (coordinates_of (take i at))) ((a.c, b.c) ∷ [])
    ∙ or_from (list_any test (edges_of (coordinates_of (take i at)))) (test (a.c, b.c) || false) none (or_from (test (a.c, b.c)) false e refl)

-- an edge that passes the test settles the answer
pub some_at : (test : EdgeEnds → Bool) (at : List (Point 2)) (i : ℕ) (a b : Point 2) → 1 ≤ i → i < length at → a ≡ get_or at (i - 1) a → b ≡ get_or at i b
    → test (a.c, b.c) ≡ true → list_any test (edges_of (coordinates_of at)) ≡ true
some_at test at i a b s h p q e =
    let ring : List (List ℤ) = coordinates_of at in
    let long : length ring ≡ length at = length-map at (λ (v : Point 2). v.c) in
    let start : get_or ring (i - 1) [] ≡ a.c = get_or-map (λ (v : Point 2). v.c) at (i - 1) a [] (omega arith) ∙ ap (λ (v : Point 2). v.c) (sym p) in
    let end : get_or ring i [] ≡ b.c = get_or-map (λ (v : Point 2). v.c) at i b [] h ∙ ap (λ (v : Point 2). v.c) (sym q) in
    let next : get_or (drop 1 ring) (i - 1) [] ≡ get_or ring i [] = get_or-drop 1 ring (i - 1) [] ∙ ap (λ n. get_or ring n []) (omega arith) in
    let edge : get_or (edges_of ring) (i - 1) ([], []) ≡ (a.c, b.c) =
    get_or-zip ring (drop 1 ring) (i - 1) ([], []) (omega (arith, long)) (omega (arith, long, length-drop 1 ring))
    ∙ ap (λ (v : List ℤ). (v, get_or (drop 1 ring) (i - 1) [])) start ∙ ap (λ (v : List ℤ). (a.c, v)) (next ∙ end) in
    list_any_at test (edges_of ring) (i - 1) ([], []) (omega (arith, long, length-drop 1 ring, length-zip ring (drop 1 ring))) (ap test edge ∙ e)

pub some_in : (test : EdgeEnds → Bool) (rings : List (List (List ℤ))) (i : ℕ) (ring : List (List ℤ)) → i < length rings → ring ≡ get_or rings i ring
    → list_any test (edges_of ring) ≡ true → list_any test (all_edges rings) ≡ true
some_in test rings i ring there is e =
    let parts : all_edges rings ≡ all_edges (take (i + 1) rings) ++ all_edges (drop (i + 1) rings) =
    ap all_edges (sym (take-append-drop (i + 1) rings)) ∙ flat_map-append edges_of (take (i + 1) rings) (drop (i + 1) rings) in
    ap (list_any test) parts ∙ list_any-append test (all_edges (take (i + 1) rings)) (all_edges (drop (i + 1) rings))
    ∙ or_left (list_any test (all_edges (take (i + 1) rings))) (list_any test (all_edges (drop (i + 1) rings)))
    (ap (list_any test) (rings_more rings i ring there is) ∙ list_any-append test (all_edges (take i rings)) (edges_of ring)
    ∙ or_right (list_any test (all_edges (take i rings))) (list_any test (edges_of ring)) e)

-- the parity with one more edge, and with one more ring
pub differ : (a b : Bool) → not (beq a b) ≡ xor a b
differ true true = refl
differ true false = refl
differ false true = refl
differ false false = refl

xor_false : (a : Bool) → xor a false ≡ a
xor_false true = refl
xor_false false = refl

pub odd_more : (p : List ℤ) (at : List (Point 2)) (i : ℕ) (a b : Point 2) → 1 ≤ i → i < length at → a ≡ get_or at (i - 1) a → b ≡ get_or at i b
    → (o t : Bool) → o ≡ is_odd (edges_of (coordinates_of (take i at))) p → t ≡ counts (a.c, b.c) p
    → not (beq o t) ≡ is_odd (edges_of (coordinates_of (take (i + 1) at))) p
odd_more p at i a b s h f g o t oo tt' =
    let edges : List EdgeEnds = edges_of (coordinates_of (take i at)) in
    differ o t
    ∙ ap (λ x. xor x t) oo ∙ ap (λ x. xor (is_odd edges p) x) (tt' ∙ sym (oddly-cons (λ e. counts e p) (a.c, b.c) [] ∙ xor_false (counts (a.c, b.c) p)))
    ∙ sym (oddly-append (λ e. counts e p) edges ((a.c, b.c) ∷ [])) ∙ ap (λ es. is_odd es p) (sym (edges_more at i a b s h f g))
