-- Lists one behind the other, of which the first ones have one length.
use Rattle.std.proofs.Common.{◌≡◌, ◌≤◌, ◌-◌, ◌*◌, ℕ, List, [], ◌++◌, length, take, drop, replicate}
use Rattle.std.proofs.Common.{refl, sym, ap, ◌∙◌, arith, length-append, length-drop, append-nil}
use Rattle.std.proofs.lemmas.List.{take_at, drop_at, take-append-drop, length-take, length-replicate}
use Rattle.page_cache.specs.Bodies.{pages_for, padded_body}

pub fronts_equal : (a b x y : List ℕ) → length a ≡ length b → a ++ x ≡ b ++ y → a ≡ b
fronts_equal a b x y same e = sym (take_at a x (length b) same) ∙ ap (λ (l : List ℕ). take (length b) l) e ∙ take_at b y (length b) refl

pub backs_equal : (a b x y : List ℕ) → length a ≡ length b → a ++ x ≡ b ++ y → x ≡ y
backs_equal a b x y same e = sym (drop_at a x (length b) same) ∙ ap (λ (l : List ℕ). drop (length b) l) e ∙ drop_at b y (length b) refl

-- bodies of one length are equal where their pages are
pub bodies_equal : (a b : List ℕ) → length a ≡ length b → padded_body a ≡ padded_body b → a ≡ b
bodies_equal a b same e = fronts_equal a b (replicate (4064 * pages_for (length a) - length a) 0) (replicate (4064 * pages_for (length b) - length b) 0) same e

-- how many pages hold so many bytes
pub pages_hold : (n : ℕ) → n ≤ 4064 * pages_for n
pages_hold n = omega arith

pub filled_length : (body : List ℕ) → length (padded_body body) ≡ 4064 * pages_for (length body)
filled_length body =
    let hold = pages_hold (length body) in
    length-append body (replicate (4064 * pages_for (length body) - length body) 0)
    ∙ omega (arith, length-replicate {A = ℕ} (4064 * pages_for (length body) - length body) 0)

-- payloads of so many pages that begin a body of that length are the body's
pub are_filled : (payloads body rest : List ℕ) (len : ℕ) → length payloads ≡ 4064 * pages_for len → length body ≡ len → payloads ++ rest ≡ padded_body body
    → payloads ≡ padded_body body
are_filled payloads body rest len long same e =
    let full = filled_length body in
    let pages : 4064 * pages_for len ≡ 4064 * pages_for (length body) = ap (λ (n : ℕ). 4064 * pages_for n) (sym same) in
    fronts_equal payloads (padded_body body) rest [] (long ∙ pages ∙ sym full) (e ∙ sym (append-nil (padded_body body)))

-- such payloads have the body in front, and zeros behind
pub front_of_filled : (payloads body : List ℕ) (len : ℕ) → length body ≡ len → payloads ≡ padded_body body → take len payloads ≡ body
front_of_filled payloads body len same e =
    ap (λ (l : List ℕ). take len l) e ∙ take_at body (replicate (4064 * pages_for (length body) - length body) 0) len same

pub back_of_filled : (payloads body : List ℕ) (len : ℕ) → length body ≡ len → payloads ≡ padded_body body
    → drop len payloads ≡ replicate (length (drop len payloads)) 0
back_of_filled payloads body len same e =
    let back : drop len payloads ≡ replicate (4064 * pages_for (length body) - length body) 0 =
    ap (λ (l : List ℕ). drop len l) e ∙ drop_at body (replicate (4064 * pages_for (length body) - length body) 0) len same in
    back ∙ ap (λ (n : ℕ). replicate n 0) (sym (ap (λ (l : List ℕ). length l) back ∙ length-replicate {A = ℕ} (4064 * pages_for (length body) - length body) 0))

-- and the other way round
pub filled_from : (payloads : List ℕ) (len : ℕ) → length payloads ≡ 4064 * pages_for len → drop len payloads ≡ replicate (length (drop len payloads)) 0
    → payloads ≡ padded_body (take len payloads)
filled_from payloads len long blank =
    let hold = pages_hold len in
    let front : length (take len payloads) ≡ len = omega (arith, length-take len payloads) in
    let back : length (drop len payloads) ≡ 4064 * pages_for (length (take len payloads)) - length (take len payloads) =
    length-drop len payloads ∙ ap (λ (n : ℕ). n - len) long ∙ ap (λ (n : ℕ). 4064 * pages_for n - n) (sym front) in
    sym (take-append-drop len payloads) ∙ ap (λ (l : List ℕ). take len payloads ++ l) (blank ∙ ap (λ (n : ℕ). replicate n 0) back)
