-- Lists of bytes, taken apart.
use Rattle.std.proofs.Common.{◌≡◌, ◌≤◌, ◌+◌, ◌++◌, ℕ, List, [], ◌∷◌, length, get_or, take, drop, refl, sym, ap, ◌∙◌, arith, take_at, drop_at}
use Rattle.std.proofs.lemmas.List.{drop_more}

-- four bytes, one by one
pub four_at : (bs : List ℕ) (at : ℕ) → at + 4 ≤ length bs
    → take 4 (drop at bs) ≡ get_or bs at 0 ∷ get_or bs (at + 1) 0 ∷ get_or bs (at + 2) 0 ∷ get_or bs (at + 3) 0 ∷ []
four_at bs at within =
    let d0 = drop_more bs at 0 (omega arith) in
    let d1 = drop_more bs (at + 1) 0 (omega arith) in
    let d2 = drop_more bs (at + 2) 0 (omega arith) in
    let d3 = drop_more bs (at + 3) 0 (omega arith) in
    let e1 : at + 1 + 1 ≡ at + 2 = omega arith in
    let e2 : at + 2 + 1 ≡ at + 3 = omega arith in
    ap (take 4) (d0
    ∙ ap (λ (t : List ℕ). get_or bs at 0 ∷ t)
    (d1 ∙ ap (λ (t : List ℕ). get_or bs (at + 1) 0 ∷ t)
    (ap (λ n. drop n bs) e1 ∙ d2 ∙ ap (λ (t : List ℕ). get_or bs (at + 2) 0 ∷ t) (ap (λ n. drop n bs) e2 ∙ d3))))

pub split_same : (a b x y : List ℕ) → length a ≡ length b → a ++ x ≡ b ++ y → (a ≡ b) × (x ≡ y)
split_same a b x y long e = (
  sym (take_at a x (length b) long) ∙ ap (take (length b)) e ∙ take_at b y (length b) refl,
  sym (drop_at a x (length b) long) ∙ ap (drop (length b)) e ∙ drop_at b y (length b) refl,
)
