-- Pieces as they are spelled.
use Rattle.std.proofs.Common.{◌≡◌, ◌≢◌, ℕ, suc, Bool, true, subst, ◌+◌, ◌-◌, ◌%◌, ◌<◌, ◌≤◌, false, eqb, List, [], ◌∷◌}
use Rattle.std.proofs.Common.{◌++◌, length, get_or, drop, replicate, refl, sym, ap, ◌∙◌, arith, inl, inr, ◌⊎◌, add-one}
use Rattle.std.specs.Prelude.{◌||◌, not}
use Rattle.std.specs.List.{flat_map}
use Rattle.std.proofs.lemmas.Bool.{cases_Bool, cases_lt, eqb-true, eqb-false}
use Rattle.std.proofs.lemmas.List.Elements.{All-head, All-tail}
use Rattle.leaf_codec.specs.Words.{AreBytes, pairs_expanded}
use Rattle.leaf_codec.specs.Spelling.{runs, pieces_of_run, pieces, piece_bytes}
use Rattle.leaf_codec.proofs.Pieces.{BeginsOther, one_run, runs_head, run_joined, short_run, long_run, alone, begins_nil, pieces_front, pieces_nil, more}

-- ---- pieces as they are spelled

-- these are the pieces of the bytes that they say
abbrev pub IsCut : List ℕ → Type 0
IsCut spelled = flat_map piece_bytes (pieces (pairs_expanded spelled)) ≡ spelled

-- the bytes that pieces say begin with the first piece's byte
pairs_begin : (c m : ℕ) (spelled : List ℕ) → pairs_expanded (c ∷ m ∷ spelled) ≡ c ∷ (replicate m c ++ pairs_expanded spelled)
pairs_begin c m spelled = rw add-one refl

piece_again : (b l : ℕ) (ys : List ℕ) → pieces (replicate (l + 1) b ++ ys) ≡ (b, l + 1) ∷ pieces ys
    → flat_map piece_bytes (pieces (replicate (l + 1) b ++ ys)) ≡ b ∷ l ∷ flat_map piece_bytes (pieces ys)
piece_again b l ys is =
    let back : l + 1 - 1 ≡ l = omega arith in
    ap (flat_map piece_bytes) is ∙ ap (λ n. b ∷ n ∷ flat_map piece_bytes (pieces ys)) back

-- no pieces, and one alone
cut_none : IsCut []
cut_none = ap (flat_map piece_bytes) pieces_nil

cut_one : (b l : ℕ) → l < 256 → IsCut (b ∷ l ∷ [])
cut_one b l few =
    piece_again b l [] (pieces_front b (l + 1) [] (omega arith) (omega arith) (inr (begins_nil b)))
    ∙ ap (λ (t : List ℕ). b ∷ l ∷ t) cut_none

-- less than two pieces are cut right
pub cut_short : (spelled : List ℕ) → length spelled < 4 → length spelled % 2 ≡ 0 → AreBytes spelled → IsCut spelled
cut_short [] few even bytes = cut_none
cut_short (b ∷ []) few even bytes = absurd (omega (arith, even))
cut_short (b ∷ l ∷ []) few even bytes = cut_one b l (All-head (λ (x : ℕ). x < 256) l [] (All-tail (λ (x : ℕ). x < 256) b (l ∷ []) bytes))
cut_short (b ∷ l ∷ c ∷ []) few even bytes = absurd (omega (arith, even))
cut_short (b ∷ l ∷ c ∷ m ∷ rest) few even bytes = absurd (omega arith)

-- a piece stands by itself where it is of 256 bytes or another byte follows
stands : (b l c m : ℕ) (spelled : List ℕ) → l < 256 → (l ≡ 255) ⊎ (b ≢ c)
    → pieces (pairs_expanded (b ∷ l ∷ c ∷ m ∷ spelled)) ≡ (b, l + 1) ∷ pieces (pairs_expanded (c ∷ m ∷ spelled))
unfolding BeginsOther
stands b l c m spelled few alone =
    pieces_front b (l + 1) (pairs_expanded (c ∷ m ∷ spelled)) (omega arith) (omega arith) (elim alone [
      | inl whole ↦ inl (omega (arith, whole))
      | inr other ↦ inr (subst (BeginsOther b) (sym (pairs_begin c m spelled)) (begins c (λ e. other (sym e)) (replicate m c ++ pairs_expanded spelled)))
    ])
  where
    begins : (y : ℕ) → y ≢ b → (ys : List ℕ) → BeginsOther b (y ∷ ys)
    begins y apart ys = apart

-- and goes on where it isn't and the same byte follows
first_again : (b n : ℕ) (ps : List (ℕ × ℕ)) (l : ℕ) (tail : List ℕ) → l + 2 ≤ n → l < 255 → flat_map piece_bytes (pieces_of_run (b, n) ++ ps) ≡ b ∷ l ∷ tail → ⊥
first_again b n ps l tail more few is = elim (cases_lt 256 n) [
  | inl long ↦
      let m : ℕ = n - 257 in
      let is_long : n ≡ suc m + 256 = omega arith in
      let cut : pieces_of_run (b, n) ≡ (b, 256) ∷ pieces_of_run (b, suc m) = ap (λ k. pieces_of_run (b, k)) is_long ∙ long_run b m in
      let two : b ∷ 255 ∷ flat_map piece_bytes (pieces_of_run (b, suc m) ++ ps) ≡ b ∷ l ∷ tail =
      sym (ap (λ (t : List (ℕ × ℕ)). flat_map piece_bytes (t ++ ps)) cut) ∙ is in
      let same : 255 ≡ l = second b 255 _ b l tail two in
      absurd (omega (arith, same))
  | inr short ↦
      let cut : pieces_of_run (b, n) ≡ (b, n) ∷ [] = short_run b n (omega arith) short in
      let two : b ∷ (n - 1) ∷ flat_map piece_bytes ps ≡ b ∷ l ∷ tail = sym (ap (λ (t : List (ℕ × ℕ)). flat_map piece_bytes (t ++ ps)) cut) ∙ is in
      let same : n - 1 ≡ l = second b (n - 1) _ b l tail two in
      absurd (omega (arith, same))
]
  where
    second : (a x : ℕ) (xs : List ℕ) (b y : ℕ) (ys : List ℕ) → a ∷ x ∷ xs ≡ b ∷ y ∷ ys → x ≡ y
    second a x xs b y ys e = cc

goes_on : (b l c m : ℕ) (spelled : List ℕ) → l < 255 → b ≡ c → IsCut (b ∷ l ∷ c ∷ m ∷ spelled) → ⊥
unfolding pieces
goes_on b l c m spelled few same is =
    let ys : List ℕ = replicate m c ++ pairs_expanded spelled in
    let h = runs_head c ys in
    let starts : runs (pairs_expanded (c ∷ m ∷ spelled)) ≡ one_run b (suc h.0) h.1 =
    ap runs (pairs_begin c m spelled) ∙ h.2 ∙ ap (λ x. one_run x (suc h.0) h.1) (sym same) in
    let all : runs (pairs_expanded (b ∷ l ∷ c ∷ m ∷ spelled)) ≡ one_run b (suc h.0 + (l + 1)) h.1 =
    run_joined b (l + 1) (suc h.0) (pairs_expanded (c ∷ m ∷ spelled)) h.1 starts in
    first_again b (suc h.0 + (l + 1)) (flat_map pieces_of_run h.1) l (c ∷ m ∷ spelled) (omega arith) few
    (sym (ap (λ (rs : List (ℕ × ℕ)). flat_map piece_bytes (flat_map pieces_of_run rs)) all) ∙ is)

-- the first piece is cut right exactly where the two bytes say so, and then all are exactly where the others are
pub record CutStep (spelled : List ℕ) (right : Bool) : Type 0 where
  pub onward : right ≡ true → IsCut spelled → IsCut (drop 2 spelled)
  pub back : right ≡ true → IsCut (drop 2 spelled) → IsCut spelled
  pub wrong : right ≡ false → IsCut spelled → ⊥

pub cut_step : (spelled : List ℕ) (right : Bool) → 4 ≤ length spelled → get_or spelled 1 0 < 256
    → (eqb (get_or spelled 1 0) 255 || not (eqb (get_or spelled 0 0) (get_or spelled 2 0))) ≡ right → CutStep spelled right
cut_step [] right long few is = absurd (omega arith)
cut_step (b ∷ []) right long few is = absurd (omega arith)
cut_step (b ∷ l ∷ []) right long few is = absurd (omega arith)
cut_step (b ∷ l ∷ c ∷ []) right long few is = absurd (omega arith)
cut_step (b ∷ l ∷ c ∷ m ∷ spelled) right long few is = record {
  onward = λ right_is h. tail2 b l b l _ _ (sym (piece_again b l (pairs_expanded (c ∷ m ∷ spelled)) (stands b l c m spelled few (apart (is ∙ right_is)))) ∙ h);
  back = λ right_is h.
      piece_again b l (pairs_expanded (c ∷ m ∷ spelled)) (stands b l c m spelled few (apart (is ∙ right_is))) ∙ ap (λ (t : List ℕ). b ∷ l ∷ t) h;
  wrong = λ right_is. (let w = both (is ∙ right_is) in goes_on b l c m spelled w.0 w.1);
}
  where
    tail2 : (a x b y : ℕ) (xs ys : List ℕ) → a ∷ x ∷ xs ≡ b ∷ y ∷ ys → xs ≡ ys
    tail2 a x b y xs ys e = cc

    apart : (eqb l 255 || not (eqb b c)) ≡ true → (l ≡ 255) ⊎ (b ≢ c)
    apart is_right = elim (cases_Bool (eqb l 255)) [
      | inl whole ↦ inl (eqb-true l 255 whole)
      | inr part ↦ elim (cases_Bool (eqb b c)) [
        | inl same ↦ absurd (let no : false ≡ true = sym (λ j. part j || not (same j)) ∙ is_right in cc)
        | inr other ↦ inr (eqb-false b c other)
      ]
    ]

    both : (eqb l 255 || not (eqb b c)) ≡ false → (l < 255) × (b ≡ c)
    both is_wrong = elim (cases_Bool (eqb l 255)) [
      | inl whole ↦ absurd (let yes : true ≡ false = sym (λ j. whole j || not (eqb b c)) ∙ is_wrong in cc)
      | inr part ↦ elim (cases_Bool (eqb b c)) [
        | inl same ↦ (let less : l ≢ 255 = eqb-false l 255 part in omega arith, eqb-true b c same)
        | inr other ↦ absurd (let yes : true ≡ false = sym (λ j. part j || not (other j)) ∙ is_wrong in cc)
      ]
    ]
