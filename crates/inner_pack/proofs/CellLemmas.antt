-- Cells and keys in bytes.
use Rattle.std.proofs.Common.{◌≡◌, ℕ, ℤ, pos, negsuc, ◌+◌, ◌*◌, ◌<◌, List, [], ◌∷◌, ◌++◌, length, take, drop}
use Rattle.std.proofs.Common.{set, All, FitsSigned, refl, sym, ap, ◌∙◌, arith, add-one, length-append, append_assoc, append-nil}
use Rattle.std.proofs.Common.{take-add, take-suc-set, Option, Some, None, MatchOption, IsSomeAnd, IfSome}
use Rattle.std.specs.List.{flat_map}
use Rattle.std.specs.Int.{w32}
use Rattle.std.proofs.lemmas.List.Elements.{All-head, All-tail}
use Rattle.std.proofs.lemmas.List.Concat.{flat_map-append}
use Rattle.byte_cursor.proofs.Numbers.{spelling_unique}
use Rattle.point_codec.specs.Points.{Region}
use Rattle.point_codec.specs.Keys.{rank, key}
use Rattle.inner_pack.specs.Trees.{IsCell}
use Rattle.inner_pack.specs.Bodies.{cell_bytes}
use Rattle.point_codec.proofs.KeyOrder.{rank-lt}

-- of what an option holds
pub some_and : {A : Type 0} (o : Option A) (N : Type 0) (P Q : A → Type 0) → MatchOption o N P → (N → ⊥) → ((x : A) → P x → Q x) → IsSomeAnd o Q
some_and None N P Q m none some = absurd (none m)
some_and (Some x) N P Q m none some = some x m

-- ---- keys

abbrev pub Fit : List ℤ → Type 0
Fit c = All (λ x. FitsSigned w32 x) c

rank_one : (x y : ℤ) → FitsSigned w32 x → FitsSigned w32 y → rank x ≡ rank y → x ≡ y
rank_one (pos a) (pos b) f g e = ap pos (omega arith)
rank_one (pos a) (negsuc b) f g e = absurd (omega arith)
rank_one (negsuc a) (pos b) f g e = absurd (omega arith)
rank_one (negsuc a) (negsuc b) f g e = ap negsuc (omega arith)

-- no bytes begin with two keys
pub key_front : (x y : ℤ) (a b : List ℕ) → FitsSigned w32 x → FitsSigned w32 y → key x ++ a ≡ key y ++ b → (x ≡ y) × (a ≡ b)
key_front x y a b f g e =
    let u = spelling_unique w32 (rank x) (rank y) a b (rank-lt x f) (rank-lt y g) e in
    (rank_one x y f g u.0, u.1)

pub key_one : (x y : ℤ) → FitsSigned w32 x → FitsSigned w32 y → key x ≡ key y → x ≡ y
key_one x y f g e = (key_front x y [] [] f g (ap (λ (t : List ℕ). t ++ []) e)).0

pub keys_front : (c e : List ℤ) (x y : List ℕ) → length c ≡ length e → Fit c → Fit e → flat_map key c ++ x ≡ flat_map key e ++ y → (c ≡ e) × (x ≡ y)
keys_front [] [] x y long f g h = (refl, h)
keys_front [] (b ∷ us) x y long f g h = absurd (omega arith)
keys_front (a ∷ ts) [] x y long f g h = absurd (omega arith)
keys_front (a ∷ ts) (b ∷ us) x y long f g h =
    let one = key_front a b (flat_map key ts ++ x) (flat_map key us ++ y) (All-head (λ (z : ℤ). FitsSigned w32 z) a ts f)
    (All-head (λ (z : ℤ). FitsSigned w32 z) b us g) h in
    let rest = keys_front ts us x y (omega arith) (All-tail (λ (z : ℤ). FitsSigned w32 z) a ts f) (All-tail (λ (z : ℤ). FitsSigned w32 z) b us g) one.1 in
    ((λ i. one.0 i ∷ rest.0 i), rest.1)

pub length-keys : (c : List ℤ) → length (flat_map key c) ≡ 4 * length c
length-keys [] = omega arith
length-keys (a ∷ ts) = omega (arith, length-keys ts)

-- one more key is read
pub key_more : (c : List ℤ) (front : List ℕ) (d : ℕ) (x : ℤ) → d < length c → flat_map key (take d c) ≡ take (4 * d) front → key x ≡ take 4 (drop (4 * d) front)
    → flat_map key (take (d + 1) (set c d x)) ≡ take (4 * (d + 1)) front
key_more c front d x lt before here =
    let next : 4 * d + 4 ≡ 4 * (d + 1) = omega arith in
    ap (λ n. flat_map key (take n (set c d x))) (add-one d)
    ∙ ap (flat_map key) (take-suc-set c d x lt)
    ∙ flat_map-append key (take d c) (x ∷ [])
    ∙ (λ i. before i ++ (append-nil (key x) ∙ here) i)
    ∙ sym (take-add (4 * d) 4 front)
    ∙ ap (λ n. take n front) next

-- ---- cells

pub length-cell : (D : ℕ) (r : Region) → IsCell D r → length (cell_bytes r) ≡ 8 * D
unfolding cell_bytes
length-cell D r h = omega (arith, length-append (flat_map key r.lo) (flat_map key r.hi), length-keys r.lo, length-keys r.hi, h.lo_dims, h.hi_dims)

-- no bytes begin with two cells
pub cell_front : (D : ℕ) (r s : Region) (x y : List ℕ) → IsCell D r → IsCell D s → cell_bytes r ++ x ≡ cell_bytes s ++ y → (r ≡ s) × (x ≡ y)
unfolding cell_bytes
cell_front D r s x y h k e =
    let lo = keys_front r.lo s.lo (flat_map key r.hi ++ x) (flat_map key s.hi ++ y) (h.lo_dims ∙ sym k.lo_dims) h.lo_fits k.lo_fits
    (sym (append_assoc (flat_map key r.lo) (flat_map key r.hi) x) ∙ e ∙ append_assoc (flat_map key s.lo) (flat_map key s.hi) y) in
    let hi = keys_front r.hi s.hi x y (h.hi_dims ∙ sym k.hi_dims) h.hi_fits k.hi_fits lo.1 in
    ((λ i. record { lo = lo.0 i; hi = hi.0 i }), hi.1)

pub cell_one : (D : ℕ) (r s : Region) → IsCell D r → IsCell D s → cell_bytes r ≡ cell_bytes s → r ≡ s
cell_one D r s h k e = (cell_front D r s [] [] h k (ap (λ (t : List ℕ). t ++ []) e)).0

-- keys that spell a cell are those of its ends
pub cell_read : (D : ℕ) (b : List ℕ) (lo hi : List ℤ) (r : Region) → length lo ≡ D → Fit lo → length hi ≡ D → Fit hi → b ≡ flat_map key lo ++ flat_map key hi
    → IsCell D r → b ≡ cell_bytes r
    → (lo ≡ r.lo) × (hi ≡ r.hi)
unfolding cell_bytes
cell_read D b lo hi r ll fl lh fh e h k =
    let first = keys_front lo r.lo (flat_map key hi) (flat_map key r.hi) (ll ∙ sym h.lo_dims) fl h.lo_fits (sym e ∙ k) in
    let second = keys_front hi r.hi [] [] (lh ∙ sym h.hi_dims) fh h.hi_fits (ap (λ (t : List ℕ). t ++ []) first.1) in
    (first.0, second.0)

pub cell_joined : (lo hi : List ℤ) → flat_map key lo ++ flat_map key hi ≡ cell_bytes (record { lo = lo; hi = hi })
unfolding cell_bytes
cell_joined lo hi = refl

-- what holds of an option where it holds of what it is made of
pub some_if : {A : Type 0} (o : Option A) (N : Type 0) (P Q : A → Type 0) → MatchOption o N P → ((x : A) → P x → Q x) → IfSome o Q
some_if None N P Q m some = tt
some_if (Some x) N P Q m some = some x m

pub if_map : {A : Type 0} (o : Option A) (P Q : A → Type 0) → IfSome o P → ((x : A) → P x → Q x) → IfSome o Q
if_map None P Q h f = tt
if_map (Some x) P Q h f = f x h

pub none_long : (b : List ℕ) → length b ≡ 0 → b ≡ []
none_long [] e = refl
none_long (x ∷ xs) e = absurd (omega arith)
