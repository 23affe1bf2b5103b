-- Lists of one length, place by place.
use Rattle.std.proofs.Common.{◌≡◌, ℕ, zero, suc, ◌+◌, ◌<◌, List, [], ◌∷◌, ◌++◌, length, take, get_or, Some, refl, sym, subst, arith}
use Rattle.std.specs.List.{AllZip, Contains, slice_get}
use Rattle.std.proofs.lemmas.List.{take_more}
use Rattle.documents.proofs.Lists.{cons_head, cons_tail}
use Rattle.index_opening.proofs.Ordered.{zip_pushed}

some_is : {X : Type 0} (x y : X) → Some x ≡ Some y → x ≡ y
some_is x y e = cc

-- what stands at one place of both
pub zip_at : {A B : Type 0} (R : A → B → Type 0) (xs : List A) (ys : List B) (i : ℕ) (x : A) (y : B) → AllZip R xs ys → slice_get xs i ≡ Some x
    → slice_get ys i ≡ Some y → R x y
zip_at R [] ys i x y all at bt = absurd cc
zip_at R (a ∷ xs) [] i x y all at bt = absurd all
zip_at {A} {B} R (a ∷ xs) (b ∷ ys) zero x y all at bt = subst (λ (z : A). R z y) (some_is a x at) (subst (R a) (some_is b y bt) all.0)
zip_at R (a ∷ xs) (b ∷ ys) (suc i) x y all at bt = zip_at R xs ys i x y all.1 at bt

pub get_in : {X : Type 0} (xs : List X) (i : ℕ) (x : X) → slice_get xs i ≡ Some x → Contains xs x
get_in [] i x at = absurd cc
get_in {X} (y ∷ ys) zero x at = subst (Contains (y ∷ ys)) (some_is y x at) (cons_head y ys)
get_in (y ∷ ys) (suc i) x at = cons_tail y ys x (get_in ys i x at)

-- by what stands between them
pub zip_over : {A B C : Type 0} (R : A → B → Type 0) (S : B → C → Type 0) (xs : List A) (ys : List B) (zs : List C) → AllZip R xs ys → AllZip S ys zs
    → AllZip (λ x z. (y : B) × R x y × S y z) xs zs
zip_over R S [] [] [] p q = tt
zip_over R S [] [] (z ∷ zs) p q = absurd q
zip_over R S [] (y ∷ ys) zs p q = absurd p
zip_over R S (x ∷ xs) [] zs p q = absurd p
zip_over R S (x ∷ xs) (y ∷ ys) [] p q = absurd q
zip_over R S (x ∷ xs) (y ∷ ys) (z ∷ zs) p q = ((y, p.0, q.0), zip_over R S xs ys zs p.1 q.1)

pub zip_long : {A B : Type 0} (R : A → B → Type 0) (xs : List A) (ys : List B) → AllZip R xs ys → length ys ≡ length xs
zip_long R [] [] p = refl
zip_long R [] (y ∷ ys) p = absurd p
zip_long R (x ∷ xs) [] p = absurd p
zip_long R (x ∷ xs) (y ∷ ys) p = omega (arith, zip_long R xs ys p.1)

-- one place more of both, as a loop over them has it
pub zip_step : {A B : Type 0} (R : A → B → Type 0) (xs : List A) (ys : List B) (i : ℕ) (x : A) (y : B) → i < length xs → i < length ys
    → R (get_or xs i x) (get_or ys i y) → AllZip R (take i xs) (take i ys)
    → AllZip R (take (i + 1) xs) (take (i + 1) ys)
zip_step {A} {B} R xs ys i x y lt less r all =
    subst (λ (zs : List A). AllZip R zs (take (i + 1) ys)) (sym (take_more xs i x lt))
    (subst (AllZip R (take i xs ++ get_or xs i x ∷ [])) (sym (take_more ys i y less))
    (zip_pushed R (take i xs) (take i ys) (get_or xs i x) (get_or ys i y) all r))
