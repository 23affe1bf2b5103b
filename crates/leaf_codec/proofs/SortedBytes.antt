-- What the sorted bytes begin with tells how they are spelled.
use Rattle.std.proofs.Common.{◌≡◌, ◌<◌, ◌≤◌, ◌*◌, ℕ, List, ◌∷◌, ◌++◌, length, take, refl, sym, ap, take_at, ◌∙◌, arith, inl, inr, ltb, length-append}
use Rattle.std.specs.List.{flat_map}
use Rattle.std.proofs.lemmas.Bool.{cases_lt, lt-ltb, le-ltb, cond-true, cond-false}
use Rattle.leaf_codec.specs.Spelling.{pieces, piece_bytes, sorted_bytes}
use Rattle.leaf_codec.specs.Words.{pairs_expanded}
use Rattle.leaf_codec.proofs.Lengths.{length-pieces}
use Rattle.leaf_codec.proofs.Pieces.{pairs_of_pieces}
use Rattle.byte_cursor.proofs.Lists.{split_same}

pub plain_is : (bs : List ℕ) → length bs ≤ 2 * length (pieces bs) → sorted_bytes bs ≡ 0 ∷ bs
unfolding sorted_bytes
plain_is bs many =
    cond-false (ltb (2 * length (pieces bs)) (length bs)) (1 ∷ length (pieces bs) ∷ flat_map piece_bytes (pieces bs)) (0 ∷ bs)
    (le-ltb (2 * length (pieces bs)) (length bs) many)

pub pieces_are : (bs : List ℕ) → 2 * length (pieces bs) < length bs → sorted_bytes bs ≡ 1 ∷ length (pieces bs) ∷ flat_map piece_bytes (pieces bs)
unfolding sorted_bytes
pieces_are bs few =
    cond-true (ltb (2 * length (pieces bs)) (length bs)) (1 ∷ length (pieces bs) ∷ flat_map piece_bytes (pieces bs)) (0 ∷ bs)
    (lt-ltb (2 * length (pieces bs)) (length bs) few)

heads : (a b : ℕ) (x y : List ℕ) → a ∷ x ≡ b ∷ y → a ≡ b
heads a b x y e = cc

tails : (a b : ℕ) (x y : List ℕ) → a ∷ x ≡ b ∷ y → x ≡ y
tails a b x y e = cc

-- bytes in form f of the sorted bytes: these are plain, or in pieces
pub record InForm (f : ℕ) (b bs tail : List ℕ) : Type 0 where
  pub plain : f ≡ 0 → (length bs ≤ 2 * length (pieces bs)) × (b ≡ bs ++ tail)
  pub cut : f ≡ 1 → (2 * length (pieces bs) < length bs) × (b ≡ length (pieces bs) ∷ (flat_map piece_bytes (pieces bs) ++ tail))
  pub known : f ≤ 1

pub in_form : (f : ℕ) (b bs tail : List ℕ) → f ∷ b ≡ sorted_bytes bs ++ tail → InForm f b bs tail
in_form f b bs tail e = elim (cases_lt (2 * length (pieces bs)) (length bs)) [
  | inl few ↦
      let is = e ∙ ap (λ (t : List ℕ). t ++ tail) (pieces_are bs few) in
      let one = heads f 1 b (length (pieces bs) ∷ (flat_map piece_bytes (pieces bs) ++ tail)) is in
      record {
        plain = λ none. absurd (omega (arith, none, one));
        cut = λ _. (few, tails f 1 b (length (pieces bs) ∷ (flat_map piece_bytes (pieces bs) ++ tail)) is);
        known = omega (arith, one);
      }
  | inr many ↦
      let is = e ∙ ap (λ (t : List ℕ). t ++ tail) (plain_is bs many) in
      let none = heads f 0 b (bs ++ tail) is in
      record {
        plain = λ _. (many, tails f 0 b (bs ++ tail) is);
        cut = λ one. absurd (omega (arith, none, one));
        known = omega (arith, none);
      }
]

-- the front of bytes that begin with the spelling of pieces
pub record CutFront (number : ℕ) (left bs tail : List ℕ) : Type 0 where
  pub few : 2 * number < length bs
  pub enough : 2 * number ≤ length left
  pub spelled : take (2 * number) left ≡ flat_map piece_bytes (pieces bs)
  pub expanded : pairs_expanded (take (2 * number) left) ≡ bs

pub cut_front : (number : ℕ) (left bs tail : List ℕ) → 1 ∷ number ∷ left ≡ sorted_bytes bs ++ tail → CutFront number left bs tail
cut_front number left bs tail e =
    let c = (in_form 1 (number ∷ left) bs tail e).cut refl in
    let spelled = flat_map piece_bytes (pieces bs) in
    let sized = heads number (length (pieces bs)) left (spelled ++ tail) c.1 in
    let is = tails number (length (pieces bs)) left (spelled ++ tail) c.1 in
    let long : length spelled ≡ 2 * number = length-pieces (pieces bs) ∙ ap (λ n. 2 * n) (sym sized) in
    let front : take (2 * number) left ≡ spelled = ap (take (2 * number)) is ∙ take_at spelled tail (2 * number) long in
    record {
      few = omega (arith, c.0, sized);
      enough = omega (arith, ap length is, length-append spelled tail, long);
      spelled = front;
      expanded = ap pairs_expanded front ∙ pairs_of_pieces bs;
    }

-- bytes whose pieces are spelled so, where these are due
pub cut_is : (number : ℕ) (spelled rest bs : List ℕ) → flat_map piece_bytes (pieces bs) ≡ spelled → length spelled ≡ 2 * number → 2 * number < length bs
    → 1 ∷ number ∷ (spelled ++ rest) ≡ sorted_bytes bs ++ rest
cut_is number spelled rest bs is long few =
    let sized : length (pieces bs) ≡ number = omega (arith, ap length is, length-pieces (pieces bs), long) in
    (λ i. 1 ∷ sym sized i ∷ (sym is i ++ rest)) ∙ sym (ap (λ (t : List ℕ). t ++ rest) (pieces_are bs (omega (arith, few, sized))))

pub plain_front : (b bs tail : List ℕ) → 0 ∷ b ≡ sorted_bytes bs ++ tail
    → (length bs ≤ length b) × (length bs ≤ 2 * length (pieces bs)) × (take (length bs) b ≡ bs)
plain_front b bs tail e =
    let p = (in_form 0 b bs tail e).plain refl in
    (omega (arith, ap length p.1, length-append bs tail), p.0, ap (take (length bs)) p.1 ∙ take_at bs tail (length bs) refl)

-- bytes begin with the sorted bytes of one list only, as long as it is
pub sorted_front : (a b x y : List ℕ) → length a ≡ length b → sorted_bytes a ++ x ≡ sorted_bytes b ++ y → (a ≡ b) × (x ≡ y)
sorted_front a b x y long e = elim (cases_lt (2 * length (pieces a)) (length a)) [
  | inl few ↦
      let is : 1 ∷ length (pieces a) ∷ (flat_map piece_bytes (pieces a) ++ x) ≡ sorted_bytes b ++ y =
      sym (ap (λ (t : List ℕ). t ++ x) (pieces_are a few)) ∙ e in
      let c = cut_front (length (pieces a)) (flat_map piece_bytes (pieces a) ++ x) b y is in
      let front = take_at (flat_map piece_bytes (pieces a)) x (2 * length (pieces a)) (length-pieces (pieces a)) in
      let same : a ≡ b = sym (pairs_of_pieces a) ∙ ap pairs_expanded (sym front) ∙ c.expanded in
      (same, (split_same (sorted_bytes a) (sorted_bytes b) x y (ap (λ t. length (sorted_bytes t)) same) e).1)
  | inr many ↦
      let is : 0 ∷ (a ++ x) ≡ sorted_bytes b ++ y = sym (ap (λ (t : List ℕ). t ++ x) (plain_is a many)) ∙ e in
      let p = plain_front (a ++ x) b y is in
      let same : a ≡ b = sym (take_at a x (length b) long) ∙ p.2 in
      (same, (split_same (sorted_bytes a) (sorted_bytes b) x y (ap (λ t. length (sorted_bytes t)) same) e).1)
]

pub sorted_some : (bs tail : List ℕ) → 1 ≤ length (sorted_bytes bs ++ tail)
sorted_some bs tail = elim (cases_lt (2 * length (pieces bs)) (length bs)) [
  | inl few ↦ omega (arith, ap (λ (t : List ℕ). length (t ++ tail)) (pieces_are bs few))
  | inr many ↦ omega (arith, ap (λ (t : List ℕ). length (t ++ tail)) (plain_is bs many))
]

pub cut_some : (b bs tail : List ℕ) → 1 ∷ b ≡ sorted_bytes bs ++ tail → 1 ≤ length b
cut_some b bs tail e = omega (arith, ap length ((in_form 1 b bs tail e).cut refl).1)
