-- Two lists of one length, of which a relation holds place by place.
use Rattle.std.proofs.Common.{◌≡◌, List, [], ◌∷◌, map, refl, subst, inl, inr}
use Rattle.std.specs.List.{AllZip, Contains}
use Rattle.documents.proofs.Lists.{cons_head, cons_tail, cons_cases, nil_none}

-- where each element has one partner at most, a list has one too
pub zip_once : {A B : Type 0} (R : A → B → Type 0) → ((a : A) (x y : B) → R a x → R a y → x ≡ y) → (ks : List A) (xs ys : List B) → AllZip R ks xs
    → AllZip R ks ys → xs ≡ ys
zip_once R once [] [] [] p q = refl
zip_once R once [] [] (y ∷ ys) p q = absurd q
zip_once R once [] (x ∷ xs) ys p q = absurd p
zip_once R once (k ∷ ks) [] ys p q = absurd p
zip_once R once (k ∷ ks) (x ∷ xs) [] p q = absurd q
zip_once {A} {B} R once (k ∷ ks) (x ∷ xs) (y ∷ ys) p q =
    let front : x ≡ y = once k x y p.0 q.0 in
    let back : xs ≡ ys = zip_once R once ks xs ys p.1 q.1 in
    λ i. front i ∷ back i

-- another relation that follows for each pair, the partners mapped
pub zip_map : {A B C : Type 0} (R : A → B → Type 0) (S : A → C → Type 0) (f : B → C) (ks : List A) (xs : List B)
    → ((a : A) (x : B) → Contains ks a → R a x → S a (f x)) → AllZip R ks xs → AllZip S ks (map f xs)
zip_map R S f [] [] more p = tt
zip_map R S f [] (x ∷ xs) more p = absurd p
zip_map R S f (k ∷ ks) [] more p = absurd p
zip_map R S f (k ∷ ks) (x ∷ xs) more p = (more k x (cons_head k ks) p.0, zip_map R S f ks xs (λ a y h. more a y (cons_tail k ks a h)) p.1)

-- pairs of one relation are pairs of a weaker one
pub zip_moved : {A B : Type 0} (R S : A → B → Type 0) (ks : List A) (xs : List B) → ((a : A) (x : B) → Contains ks a → R a x → S a x) → AllZip R ks xs
    → AllZip S ks xs
zip_moved R S [] [] more p = tt
zip_moved R S [] (x ∷ xs) more p = absurd p
zip_moved R S (k ∷ ks) [] more p = absurd p
zip_moved R S (k ∷ ks) (x ∷ xs) more p = (more k x (cons_head k ks) p.0, zip_moved R S ks xs (λ a y h. more a y (cons_tail k ks a h)) p.1)

-- each partner is that of an element
pub partner_of : {A B : Type 0} (R : A → B → Type 0) (ks : List A) (xs : List B) → AllZip R ks xs → (x : B) → Contains xs x → (a : A) × Contains ks a × R a x
partner_of R [] [] p x h = nil_none x _ h
partner_of R [] (y ∷ ys) p x h = absurd p
partner_of R (k ∷ ks) [] p x h = absurd p
partner_of {A} {B} R (k ∷ ks) (y ∷ ys) p x h = elim (cons_cases y ys x h) [
  | inl here ↦ (k, cons_head k ks, subst (λ (z : B). R k z) here p.0)
  | inr later ↦ let found = partner_of R ks ys p.1 x later in (found.0, cons_tail k ks found.0 found.1, found.2)
]

-- maps that agree for each pair give one list
pub zip_same : {A B C : Type 0} (R : A → B → Type 0) (f : A → C) (g : B → C) → ((a : A) (x : B) → R a x → g x ≡ f a) → (ks : List A) (xs : List B)
    → AllZip R ks xs → map g xs ≡ map f ks
zip_same R f g same [] [] p = refl
zip_same R f g same [] (x ∷ xs) p = absurd p
zip_same R f g same (k ∷ ks) [] p = absurd p
zip_same R f g same (k ∷ ks) (x ∷ xs) p =
    let front : g x ≡ f k = same k x p.0 in
    let back : map g xs ≡ map f ks = zip_same R f g same ks xs p.1 in
    λ i. front i ∷ back i

-- each element has its partner
pub held_of : {A B : Type 0} (R : A → B → Type 0) (ks : List A) (xs : List B) → AllZip R ks xs → (k : A) → Contains ks k → (x : B) × R k x
held_of R [] xs p k h = nil_none k _ h
held_of R (a ∷ ks) [] p k h = absurd p
held_of {A} {B} R (a ∷ ks) (y ∷ ys) p k h = elim (cons_cases a ks k h) [
  | inl here ↦ (y, subst (λ (z : A). R z y) here p.0)
  | inr later ↦ held_of R ks ys p.1 k later
]
