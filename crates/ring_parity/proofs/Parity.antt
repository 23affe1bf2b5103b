-- Odd counts: how they add up, and that along a closed ring each mark is met twice.
use Rattle.std.proofs.Common.{◌≡◌, ℕ, ℤ, ◌+◌, ◌-◌, ◌%◌, suc, Bool, true, false, not, cond, eqb, List, [], ◌∷◌, ◌++◌, length, get_or, refl, sym, ap, ◌∙◌, arith}
use Rattle.std.specs.Prelude.{count_by, zip, All}
use Rattle.std.specs.Bool.{beq}
use Rattle.std.proofs.lemmas.Bool.Decides.{nat_tests}
use Rattle.std.proofs.lemmas.List.Sums.{sum_by-cons}
use Rattle.std.proofs.lemmas.List.Elements.{All-head, All-tail}
use Rattle.ring_parity.specs.Edges.{EdgeEnds}
use Rattle.ring_parity.specs.Rings.{edges_of, all_edges, IsClosed, AreClosed}
use Rattle.ring_parity.proofs.Crossing.{xor}

-- an odd number of the elements passes the test
abbrev pub oddly : {X : Type 0} → (X → Bool) → List X → Bool
oddly test xs = eqb (count_by test xs % 2) 1

odd_more : (m : ℕ) (b : Bool) → eqb ((cond b 1 0 + m) % 2) 1 ≡ xor b (eqb (m % 2) 1)
odd_more m true = grind (arith, nat_tests)
odd_more m false = grind (arith, nat_tests)

pub oddly-cons : {X : Type 0} (test : X → Bool) (x : X) (xs : List X) → oddly test (x ∷ xs) ≡ xor (test x) (oddly test xs)
oddly-cons test x xs = rw (sum_by-cons (λ y. cond (test y) 1 0) x xs) (odd_more (count_by test xs) (test x))

xor_assoc : (a b c : Bool) → xor (xor a b) c ≡ xor a (xor b c)
xor_assoc true true true = refl
xor_assoc true true false = refl
xor_assoc true false c = refl
xor_assoc false b c = refl

pub oddly-append : {X : Type 0} (test : X → Bool) (xs ys : List X) → oddly test (xs ++ ys) ≡ xor (oddly test xs) (oddly test ys)
oddly-append test [] ys = refl
oddly-append test (x ∷ xs) ys =
    oddly-cons test x (xs ++ ys) ∙ ap (λ b. xor (test x) b) (oddly-append test xs ys)
    ∙ sym (xor_assoc (test x) (oddly test xs) (oddly test ys)) ∙ ap (λ b. xor b (oddly test ys)) (sym (oddly-cons test x xs))

xor_swap : (a b c d : Bool) → xor (xor a b) (xor c d) ≡ xor (xor a c) (xor b d)
xor_swap true true true d = refl
xor_swap true true false true = refl
xor_swap true true false false = refl
xor_swap true false true true = refl
xor_swap true false true false = refl
xor_swap true false false d = refl
xor_swap false true true true = refl
xor_swap false true true false = refl
xor_swap false true false d = refl
xor_swap false false c d = refl

-- two odd counts differ where the elements at which the tests differ are odd in number
pub oddly_xor : {X : Type 0} (f g : X → Bool) (xs : List X) → oddly (λ x. xor (f x) (g x)) xs ≡ xor (oddly f xs) (oddly g xs)
oddly_xor f g [] = refl
oddly_xor f g (x ∷ xs) =
    oddly-cons (λ y. xor (f y) (g y)) x xs ∙ ap (λ b. xor (xor (f x) (g x)) b) (oddly_xor f g xs)
    ∙ xor_swap (f x) (g x) (oddly f xs) (oddly g xs)
    ∙ ap (λ b. xor b (xor (g x) (oddly g xs))) (sym (oddly-cons f x xs)) ∙ ap (λ b. xor (oddly f (x ∷ xs)) b) (sym (oddly-cons g x xs))

-- tests that agree at each element
pub oddly_same : {X : Type 0} (f g : X → Bool) (xs : List X) → All (λ x. f x ≡ g x) xs → oddly f xs ≡ oddly g xs
oddly_same f g [] h = refl
oddly_same f g (x ∷ xs) h =
    oddly-cons f x xs
    ∙ (rw (All-head (λ y. f y ≡ g y) x xs h, oddly_same f g xs (All-tail (λ y. f y ≡ g y) x xs h)) (sym (oddly-cons g x xs)))

differ_is : (a b : Bool) → not (beq a b) ≡ xor a b
differ_is true true = refl
differ_is true false = refl
differ_is false true = refl
differ_is false false = refl

pub xor_self : (a : Bool) → xor a a ≡ false
xor_self true = refl
xor_self false = refl

xor_middle : (a b c : Bool) → xor (xor a b) (xor b c) ≡ xor a c
xor_middle true true true = refl
xor_middle true true false = refl
xor_middle true false c = refl
xor_middle false true true = refl
xor_middle false true false = refl
xor_middle false false c = refl

-- along a chain of edges the marks between its ends are met twice
chain : (marked : List ℤ → Bool) (a : List ℤ) (rest : List (List ℤ))
    → oddly (λ (e : EdgeEnds). xor (marked e.0) (marked e.1)) (zip (a ∷ rest) rest) ≡ xor (marked a) (marked (get_or (a ∷ rest) (length rest) []))
chain marked a [] = sym (xor_self (marked a))
chain marked a (b ∷ rest) =
    oddly-cons (λ (e : EdgeEnds). xor (marked e.0) (marked e.1)) (a, b) (zip (b ∷ rest) rest)
    ∙ ap (λ t. xor (xor (marked a) (marked b)) t) (chain marked b rest)
    ∙ xor_middle (marked a) (marked b) (marked (get_or (b ∷ rest) (length rest) []))

closes : (marked : List ℤ → Bool) (ring : List (List ℤ)) → IsClosed ring → oddly (λ (e : EdgeEnds). xor (marked e.0) (marked e.1)) (edges_of ring) ≡ false
closes marked [] h = refl
closes marked (a ∷ rest) h =
    let e : suc (length rest) - 1 ≡ length rest = omega arith in
    let same : a ≡ get_or (a ∷ rest) (length rest) [] = rw e at h in
    chain marked a rest ∙ ap (λ v. xor (marked a) (marked v)) (sym same) ∙ xor_self (marked a)

even : (n : ℕ) → eqb (n % 2) 1 ≡ false → n % 2 ≡ 0
even n h = grind (arith, nat_tests)

uneven : (n : ℕ) → n % 2 ≡ 0 → eqb (n % 2) 1 ≡ false
uneven n h = grind (arith, nat_tests)

pub AreClosed-from : (edges : List EdgeEnds) → ((marked : List ℤ → Bool) → oddly (λ (e : EdgeEnds). xor (marked e.0) (marked e.1)) edges ≡ false)
    → AreClosed edges
unfolding AreClosed
AreClosed-from edges h = λ marked.
    even _ (oddly_same (λ e. not (beq (marked e.0) (marked e.1))) (λ e. xor (marked e.0) (marked e.1)) edges (λ k d l. differ_is _ _) ∙ h marked)

pub AreClosed-marks : (edges : List EdgeEnds) → AreClosed edges → (marked : List ℤ → Bool)
    → oddly (λ (e : EdgeEnds). xor (marked e.0) (marked e.1)) edges ≡ false
unfolding AreClosed
AreClosed-marks edges h marked =
    oddly_same (λ e. xor (marked e.0) (marked e.1)) (λ e. not (beq (marked e.0) (marked e.1))) edges (λ k d l. sym (differ_is _ _)) ∙ uneven _ (h marked)

pub AreClosed-all_edges : (rings : List (List (List ℤ))) → All IsClosed rings → AreClosed (all_edges rings)
AreClosed-all_edges rings h = AreClosed-from (all_edges rings) (λ marked. all_close marked rings h)
  where
    all_close : (marked : List ℤ → Bool) (rings : List (List (List ℤ))) → All IsClosed rings
        → oddly (λ (e : EdgeEnds). xor (marked e.0) (marked e.1)) (all_edges rings) ≡ false
    all_close marked [] h = refl
    all_close marked (ring ∷ rings) h =
        oddly-append (λ (e : EdgeEnds). xor (marked e.0) (marked e.1)) (edges_of ring) (all_edges rings)
        ∙ (rw (closes marked ring (All-head IsClosed ring rings h)) (all_close marked rings (All-tail IsClosed ring rings h)))
