-- What was found is what is replied.
use Rattle.std.proofs.Common.{◌≡◌, ℕ, ◌+◌, ◌<◌, List, [], ◌∷◌, ◌++◌, drop, get_or, length, length-append, map, sym, take, ◌∙◌, Result, Ok, Err, refl, ap}
use Rattle.std.proofs.lemmas.Grind.{not_there}
use Rattle.std.proofs.lemmas.List.{map-append, take-append-drop, take_more}
use Rattle.point_codec.specs.declared.entries.Near.{Near}
use Rattle.documents.specs.Nearest.{found_of}
use Rattle.page_cache.specs.declared.faults.PageFault.{PageFault}
use Rattle.page_cache.specs.declared.faults.PageFault.TheVariants as page
use Rattle.page_cache.specs.Evidence.{NotDamaged}
use Rattle.batch_run.specs.Queries.{near_of}

-- documents that were found, from their distances and numbers
pub nears_again : (xs : List Near) → map near_of (found_of xs) ≡ xs
nears_again [] = refl
nears_again (x ∷ xs) = ap (λ (ys : List Near). x ∷ ys) (nears_again xs)

-- where something is known to be there that rules damage out, there is none
pub undamaged : {T P : Type 0} (r : Result T PageFault) → ∥ P ∥₁ → (P → NotDamaged r) → NotDamaged r
undamaged (Ok x) there h = tt
undamaged (Err page.Failed) there h = tt
undamaged (Err (page.Damaged d)) there h = not_there there h
undamaged (Err page.Memory) there h = tt

-- one query more is replied behind those before it
pub replied_next : {Q R : Type 0} (f : Q → R) (xs : List Q) (i : ℕ) (x : Q) (before now : List R) (y : R) → i < length xs → x ≡ get_or xs i x
    → before ≡ map f (take i xs) → now ≡ before ++ y ∷ [] → y ≡ f x → now ≡ map f (take (i + 1) xs)
replied_next f xs i x before now y lt is so more reply =
    more ∙ ap (λ zs. zs ++ y ∷ []) so ∙ ap (λ z. map f (take i xs) ++ z ∷ []) (reply ∙ ap f is)
    ∙ sym (map-append f (take i xs) (get_or xs i x ∷ [])) ∙ ap (map f) (sym (take_more xs i x lt))

-- where both halves are replied, the whole list is
pub halves_replied : {Q R : Type 0} (f : Q → R) (xs left right : List Q) (n : ℕ) (first second all : List R) → left ≡ take n xs → right ≡ drop n xs
    → first ≡ map f left → second ≡ map f right → all ≡ first ++ second → all ≡ map f xs
halves_replied f xs left right n first second all front back one two is =
    is ∙ ap (λ ys. ys ++ second) (one ∙ ap (map f) front) ∙ ap (λ ys. map f (take n xs) ++ ys) (two ∙ ap (map f) back)
    ∙ sym (map-append f (take n xs) (drop n xs)) ∙ ap (map f) (take-append-drop n xs)

pub halves_counted : {Q R : Type 0} (xs left right : List Q) (n : ℕ) (first second all : List R) → left ≡ take n xs → right ≡ drop n xs
    → length first ≡ length left → length second ≡ length right → all ≡ first ++ second → length all ≡ length xs
halves_counted xs left right n first second all front back one two is =
    ap length is ∙ length-append first second ∙ ap (λ k. k + length second) (one ∙ ap length front) ∙ ap (λ k. length (take n xs) + k) (two ∙ ap length back)
    ∙ sym (length-append (take n xs) (drop n xs)) ∙ ap length (take-append-drop n xs)
