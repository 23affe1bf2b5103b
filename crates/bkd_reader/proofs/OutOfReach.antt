-- Entries beyond the reach of a shape, which are no hits.
use Rattle.std.proofs.Common.{◌≡◌, ◌≤◌, ◌+◌, ◌-◌, ℕ, Bool, true, false, ◌&&◌, List, [], ◌∷◌, ◌++◌}
use Rattle.std.proofs.Common.{get_or, take, drop, ℤ, int_lt, int_le, refl, sym, ap, subst, ◌∙◌, arith}
use Rattle.std.specs.Prelude.{All}
use Rattle.std.proofs.lemmas.Int.{ints}
use Rattle.std.proofs.lemmas.List.{drop-drop, append-nil, take-append-drop}
use Rattle.std.proofs.lemmas.List.Elements.{All-head, All-tail, All-drop}
use Rattle.point_codec.specs.Points.{Item}
use Rattle.live_bits.specs.LiveSet.{LiveSet, is_live}
use Rattle.cell_relate.specs.Relations.{IsReach}
use Rattle.leaf_codec.specs.Ascending.{coordinate}
use Rattle.bkd_reader.specs.Hits.{hits_in}
use Rattle.bkd_reader.proofs.HitLemmas.{hits_join}

-- the shape has none of the entries
abbrev pub HasNone : (List ℤ → Bool) → List Item → Type 0
HasNone has xs = All (λ x. has x.at ≡ false) xs

not_both : (a b : ℤ) → int_lt a b ≡ true → int_le b a ≡ true → ⊥
not_both a b h k = grind (arith, ints)

never : (b : Bool) → (b ≡ true → ⊥) → b ≡ false
never true h = absurd (h refl)
never false h = refl

pub none_below : (has : List ℤ → Bool) (d : ℕ) (low high : ℤ) (xs : List Item) → IsReach has d low high
    → All (λ x. int_lt (coordinate d x) low ≡ true) xs → HasNone has xs
none_below has d low high xs reach below k e lt =
    let x : Item = get_or xs k e in
    never (has x.at) (λ h. not_both (coordinate d x) low (below k e lt) (reach x.at h).0)

pub none_above : (has : List ℤ → Bool) (d : ℕ) (low high : ℤ) (xs : List Item) → IsReach has d low high
    → All (λ x. int_lt high (coordinate d x) ≡ true) xs → HasNone has xs
none_above has d low high xs reach above k e lt =
    let x : Item = get_or xs k e in
    never (has x.at) (λ h. not_both high (coordinate d x) (above k e lt) (reach x.at h).1)

no_hit : (live : LiveSet) (doc : ℕ) (b : Bool) → b ≡ false → (is_live live doc && b) ≡ false
no_hit live doc b h = rw h (both (is_live live doc))
  where
    both : (a : Bool) → (a && false) ≡ false
    both true = refl
    both false = refl

pub no_hits : (has : List ℤ → Bool) (live : LiveSet) (xs : List Item) → HasNone has xs → hits_in has live xs ≡ []
unfolding hits_in
no_hits has live [] none = refl
no_hits has live (x ∷ xs) none =
    rw (no_hit live x.doc (has x.at) (All-head (λ (y : Item). has y.at ≡ false) x xs none))
    (no_hits has live xs (All-tail (λ (y : Item). has y.at ≡ false) x xs none))

-- before the first place nothing is found
pub none_before : (has : List ℤ → Bool) (live : LiveSet) (old : List ℕ) (xs : List Item) (n : ℕ) → HasNone has (take n xs)
    → old ≡ old ++ hits_in has live (take n xs)
none_before has live old xs n none = sym (ap (λ (out : List ℕ). old ++ out) (no_hits has live (take n xs) none) ∙ append-nil old)

-- what is none from one place on is none from a later one on
pub none_from : (has : List ℤ → Bool) (xs : List Item) (n end : ℕ) → end ≤ n → HasNone has (drop end xs) → HasNone has (drop n xs)
none_from has xs n end le none =
    let far : end + (n - end) ≡ n = omega arith in
    subst (HasNone has) (drop-drop (n - end) end xs ∙ ap (λ k. drop k xs) far)
    (All-drop (λ (x : Item). has x.at ≡ false) (n - end) (drop end xs) none)

-- and from the last place on nothing more
pub none_behind : (has : List ℤ → Bool) (live : LiveSet) (xs : List Item) (n end : ℕ) → end ≤ n → HasNone has (drop end xs)
    → hits_in has live (take n xs) ≡ hits_in has live xs
none_behind has live xs n end le none =
    sym (append-nil (hits_in has live (take n xs)))
    ∙ ap (λ out. hits_in has live (take n xs) ++ out) (sym (no_hits has live (drop n xs) (none_from has xs n end le none)))
    ∙ sym (hits_join has live (take n xs) (drop n xs))
    ∙ ap (hits_in has live) (take-append-drop n xs)
