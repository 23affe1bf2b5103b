-- Bytes that are appended, and turned.
use Rattle.std.proofs.Common.{◌≡◌, ◌<◌, ◌≤◌, ◌+◌, ◌-◌, ◌*◌, ◌^◌, ℕ, List, [], ◌∷◌, ◌++◌, length, reverse, take, drop, get_or}
use Rattle.std.proofs.Common.{refl, sym, ap, subst, ◌∙◌, arith, append_assoc, length-append, length-drop, ℤ, map, set}
use Rattle.std.proofs.lemmas.List.{length-reverse, take_more, take_more_set, map_push}
use Rattle.std.proofs.Math.Seq.{take-append_seam, drop-append_seam, take-length}
use Rattle.std.specs.List.{flat_map}
use Rattle.byte_cursor.specs.Vint.{vint, AppendsVint}
use Rattle.byte_cursor.proofs.SpelledVints.{length-vint, appended}
use Rattle.point_codec.specs.Points.{Region}
use Rattle.point_codec.specs.Keys.{key}
use Rattle.inner_pack.specs.Bodies.{shared_front, head_bytes, leaf_bytes, cell_bytes}
use Rattle.inner_pack.specs.Packs.{AppendsReversed}

pub turned : (old mid new bytes : List ℕ) (from : ℕ) → from ≡ length old → mid ≡ old ++ bytes → new ≡ take from mid ++ reverse (drop from mid)
    → AppendsReversed old new bytes
turned old mid new bytes from here e t =
    t
    ∙ (λ i. take (here i) (e i) ++ reverse (drop (here i) (e i)))
    ∙ (λ i. take-append_seam old bytes i ++ reverse (drop-append_seam old bytes i))

pub length-turned : (old new bytes : List ℕ) → AppendsReversed old new bytes → length new ≡ length old + length bytes
length-turned old new bytes h = ap length h ∙ length-append old (reverse bytes) ∙ ap (λ (n : ℕ). length old + n) (length-reverse bytes)

pub leaf_joined : (old a b : List ℕ) (size : ℕ) (own : Region) → a ≡ old ++ vint size → b ≡ a ++ cell_bytes own → b ≡ old ++ leaf_bytes 3 size own
unfolding leaf_bytes
leaf_joined old a b size own e f = f ∙ ap (λ (t : List ℕ). t ++ cell_bytes own) e ∙ append_assoc old (vint size) (cell_bytes own)

pub length-leaf : (size : ℕ) (own : Region) → size < 2 ^ 32 → length (leaf_bytes 3 size own) ≤ 5 + length (cell_bytes own)
unfolding leaf_bytes
length-leaf size own lt = omega (arith, length-append (vint size) (cell_bytes own), length-vint size lt)

joined : (old : List ℕ) (code : ℕ) (k p o l : List ℕ) → ((((old ++ code ∷ []) ++ k) ++ p) ++ o) ++ l ≡ old ++ ((((code ∷ k) ++ p) ++ o) ++ l)
joined old code k p o l = simp append_assoc

pub head_joined : (references : List (List ℕ)) (d : ℕ) (x : ℤ) (pages offset left : ℕ) (old a b c e f : List ℕ)
    → a ≡ old ++ (5 * d + shared_front (key x) (get_or references d [])) ∷ []
    → b ≡ a ++ drop (shared_front (key x) (get_or references d [])) (key x) → c ≡ b ++ vint pages → e ≡ c ++ vint offset → f ≡ e ++ vint left
    → f ≡ old ++ head_bytes references d x pages offset left
unfolding head_bytes
head_joined references d x pages offset left old a b c e f p q r s t =
    let k = shared_front (key x) (get_or references d []) in
    let rest = drop k (key x) in
    t ∙ (λ i. s i ++ vint left) ∙ (λ i. (r i ++ vint offset) ++ vint left) ∙ (λ i. ((q i ++ vint pages) ++ vint offset) ++ vint left)
    ∙ (λ i. (((p i ++ rest) ++ vint pages) ++ vint offset) ++ vint left)
    ∙ joined old (5 * d + k) rest (vint pages) (vint offset) (vint left)

pub length-head : (references : List (List ℕ)) (d : ℕ) (x : ℤ) (pages offset left : ℕ) → length (key x) ≡ 4 → pages < 2 ^ 32 → offset < 2 ^ 32 → left < 2 ^ 32
    → length (head_bytes references d x pages offset left) ≤ 20
unfolding head_bytes
length-head references d x pages offset left four p o l =
    let k = shared_front (key x) (get_or references d []) in
    let rest = drop k (key x) in
    omega (
      arith,
      length-append (((k ∷ rest) ++ vint pages) ++ vint offset) (vint left),
      length-append ((k ∷ rest) ++ vint pages) (vint offset),
      length-append (k ∷ rest) (vint pages),
      length-drop k (key x),
      length-vint pages p,
      length-vint offset o,
      length-vint left l,
    )

-- what both keys share, where one of them is this coordinate's
pub shared_key : (n : ℕ) (k reference : List ℕ) (x : ℤ) → n ≡ shared_front k reference → k ≡ key x → n ≡ shared_front (key x) reference
shared_key n k reference x e is = e ∙ ap (λ (a : List ℕ). shared_front a reference) is

pub grown : (old new bytes : List ℕ) → new ≡ old ++ bytes → length new ≡ length old + length bytes
grown old new bytes e = ap length e ∙ length-append old bytes

pub cell_written : (old a b : List ℕ) (cell : Region) → a ≡ old ++ flat_map key cell.lo → b ≡ a ++ flat_map key cell.hi → b ≡ old ++ cell_bytes cell
unfolding cell_bytes
cell_written old a b cell e f = f ∙ ap (λ (t : List ℕ). t ++ flat_map key cell.hi) e ∙ append_assoc old (flat_map key cell.lo) (flat_map key cell.hi)

pub length-key : (x : ℤ) → length (key x) ≡ 4
length-key x = refl

-- what is left of a key of four bytes
pub key_rest : (x : ℤ) (k : List ℕ) (m n : ℕ) → k ≡ key x → m ≡ n → take (4 - m) (drop m k) ≡ drop n (key x)
key_rest x k m n e same =
    let left : 4 - n ≡ length (drop n (key x)) = omega (arith, length-drop n (key x), length-key x) in
    (λ i. take (4 - same i) (drop (same i) (e i))) ∙ ap (λ (j : ℕ). take j (drop n (key x))) left ∙ take-length (drop n (key x))

pub vint_appended : (old new : List ℕ) (m n : ℕ) → m ≡ n → n < 2 ^ 32 → AppendsVint old new m → new ≡ old ++ vint n
vint_appended old new m n e lt h = appended old new n lt (subst (λ (k : ℕ). AppendsVint old new k) e h)

pub keys_more : (keys : List (List ℕ)) (c : List ℤ) (d : ℕ) (k : List ℕ) (e : ℤ) → d < length keys → d < length c → k ≡ key (get_or c d e)
    → take d keys ≡ map key (take d c)
    → take (d + 1) (set keys d k) ≡ map key (take (d + 1) c)
keys_more keys c d k e under below is filled =
    take_more_set keys d k under ∙ (λ i. filled i ++ is i ∷ []) ∙ sym (map_push key (take d c) (get_or c d e)) ∙ ap (map key) (sym (take_more c d e below))
