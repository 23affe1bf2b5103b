-- The pieces of bytes, one after another from the front.
use Rattle.std.proofs.Common.{◌≡◌, ◌≢◌, ℕ, zero, suc, ◌+◌, ◌-◌, ◌*◌, ◌/◌, ◌%◌, ◌<◌, ◌≤◌, false, eqb, List, [], ◌∷◌, ◌++◌, length}
use Rattle.std.proofs.Common.{get_or, take, drop, replicate, refl, sym, ap, ◌∙◌, arith, inl, inr, ◌⊎◌, append-nil, add-one}
use Rattle.std.specs.List.{flat_map, All}
use Rattle.std.proofs.lemmas.Bool.{cases_Bool, cases_eq, eqb-true, eqb-false, eq-eqb, ne_eqb, cond-true, cond-false}
use Rattle.std.proofs.lemmas.List.{replicate-append-replicate, same_lists, get_or_default, get_or-take}
use Rattle.std.proofs.lemmas.List.{get_or-replicate, length-take, length-replicate, take-append-drop}
use Rattle.std.proofs.lemmas.List.Concat.{flat_map-append}
use Rattle.std.proofs.lemmas.List.Elements.{All-nil, All-cons, All-head, All-tail, All-append, All-replicate}
use Rattle.leaf_codec.specs.Words.{pairs_expanded}
use Rattle.leaf_codec.specs.Spelling.{add_to_runs, runs, pieces_of_run, pieces, piece_bytes}

-- the list doesn't begin with b
unfoldable pub BeginsOther : ℕ → List ℕ → Type 0
BeginsOther b [] = Unit {0}
BeginsOther b (y ∷ ys) = y ≢ b

-- b is the first byte of some runs
abbrev pub one_run : ℕ → ℕ → List (ℕ × ℕ) → List (ℕ × ℕ)
one_run b n rs = (b, n) ∷ rs

adds_same : (b n : ℕ) (rs : List (ℕ × ℕ)) → add_to_runs b (one_run b n rs) ≡ one_run b (n + 1) rs
adds_same b n rs = cond-true (eqb b b) (one_run b (n + 1) rs) ((b, 1) ∷ one_run b n rs) (eq-eqb b b refl)

adds_other : (b c n : ℕ) (rs : List (ℕ × ℕ)) → b ≢ c → add_to_runs b (one_run c n rs) ≡ one_run b 1 (one_run c n rs)
adds_other b c n rs apart = cond-false (eqb b c) (one_run b (n + 1) rs) ((b, 1) ∷ one_run c n rs) (ne_eqb b c apart)

-- the runs of a list begin with its first byte
pub runs_head : (y : ℕ) (ys : List ℕ) → (m : ℕ) × (rs : List (ℕ × ℕ)) × (runs (y ∷ ys) ≡ one_run y (suc m) rs)
runs_head y ys = by (runs ys)
  where
    by : (rs : List (ℕ × ℕ)) → (m : ℕ) × (rest : List (ℕ × ℕ)) × (add_to_runs y rs ≡ one_run y (suc m) rest)
    by [] = (0, [], refl)
    by (r ∷ rs) = elim (cases_Bool (eqb y r.0)) [
      | inl same ↦ (r.1, rs, cond-true (eqb y r.0) ((y, r.1 + 1) ∷ rs) ((y, 1) ∷ r ∷ rs) same ∙ ap (λ n. one_run y n rs) (omega arith))
      | inr apart ↦ (0, r ∷ rs, cond-false (eqb y r.0) ((y, r.1 + 1) ∷ rs) ((y, 1) ∷ r ∷ rs) apart)
    ]

-- equal bytes before other ones are a run
run_alone : (b k : ℕ) (ys : List ℕ) → BeginsOther b ys → runs (replicate (suc k) b ++ ys) ≡ one_run b (suc k) (runs ys)
unfolding BeginsOther
run_alone b zero [] other = refl
run_alone b zero (y ∷ ys) other =
    let h = runs_head y ys in
    ap (add_to_runs b) h.2 ∙ adds_other b y (suc h.0) h.1 (λ e. other (sym e)) ∙ ap (one_run b 1) (sym h.2)
run_alone b (suc k) ys other =
    ap (add_to_runs b) (run_alone b k ys other) ∙ adds_same b (suc k) (runs ys) ∙ ap (λ n. one_run b n (runs ys)) (omega arith)

-- and before a run of their own they make it longer
pub run_joined : (b k m : ℕ) (ys : List ℕ) (rs : List (ℕ × ℕ)) → runs ys ≡ one_run b m rs → runs (replicate k b ++ ys) ≡ one_run b (m + k) rs
run_joined b zero m ys rs is = is ∙ ap (λ n. one_run b n rs) (omega arith)
run_joined b (suc k) m ys rs is =
    ap (add_to_runs b) (run_joined b k m ys rs is) ∙ adds_same b (m + k) rs ∙ ap (λ n. one_run b n rs) (omega arith)

pub short_run : (b k : ℕ) → 1 ≤ k → k ≤ 256 → pieces_of_run (b, k) ≡ (b, k) ∷ []
short_run b k some few =
    let none : (k - 1) / 256 ≡ 0 = omega arith in
    let all : (k - 1) % 256 + 1 ≡ k = omega arith in
    (λ i. replicate (none i) (b, 256) ++ (b, all i) ∷ [])

pub long_run : (b m : ℕ) → pieces_of_run (b, suc m + 256) ≡ (b, 256) ∷ pieces_of_run (b, suc m)
long_run b m =
    let one_more : (suc m + 256 - 1) / 256 ≡ suc ((suc m - 1) / 256) = omega arith in
    let same : (suc m + 256 - 1) % 256 ≡ (suc m - 1) % 256 = omega arith in
    (λ i. replicate (one_more i) (b, 256) ++ (b, same i + 1) ∷ [])

pub alone : (b k : ℕ) (ys : List ℕ) → suc k ≤ 256 → BeginsOther b ys → pieces (replicate (suc k) b ++ ys) ≡ (b, suc k) ∷ pieces ys
unfolding pieces
alone b k ys few other =
    ap (flat_map pieces_of_run) (run_alone b k ys other)
    ∙ ap (λ (ps : List (ℕ × ℕ)). ps ++ flat_map pieces_of_run (runs ys)) (short_run b (suc k) (omega arith) few)

joined : (b k y : ℕ) (ys : List ℕ) → suc k ≡ 256 → y ≡ b → pieces (replicate (suc k) b ++ (y ∷ ys)) ≡ (b, suc k) ∷ pieces (y ∷ ys)
unfolding pieces
joined b k y ys whole same =
    let h = runs_head y ys in
    let starts : runs (y ∷ ys) ≡ one_run b (suc h.0) h.1 = h.2 ∙ ap (λ c. one_run c (suc h.0) h.1) same in
    ap (flat_map pieces_of_run) (run_joined b (suc k) (suc h.0) (y ∷ ys) h.1 starts)
    ∙ ap (λ n. pieces_of_run (b, suc h.0 + n) ++ flat_map pieces_of_run h.1) whole
    ∙ ap (λ (ps : List (ℕ × ℕ)). ps ++ flat_map pieces_of_run h.1) (long_run b h.0)
    ∙ ap (λ n. (b, n) ∷ (pieces_of_run (b, suc h.0) ++ flat_map pieces_of_run h.1)) (sym whole)
    ∙ ap (λ rs. (b, suc k) ∷ flat_map pieces_of_run rs) (sym starts)

pub begins_nil : (b : ℕ) → BeginsOther b []
unfolding BeginsOther
begins_nil b = tt

begins_cons : (b y : ℕ) (ys : List ℕ) → eqb y b ≡ false → BeginsOther b (y ∷ ys)
unfolding BeginsOther
begins_cons b y ys apart = eqb-false y b apart

-- the first piece: equal bytes, 256 of them or as many as there are
pub pieces_front : (b k : ℕ) (ys : List ℕ) → 1 ≤ k → k ≤ 256 → (k ≡ 256) ⊎ BeginsOther b ys → pieces (replicate k b ++ ys) ≡ (b, k) ∷ pieces ys
pieces_front b zero ys some few ends = absurd (omega arith)
pieces_front b (suc k) ys some few (inr other) = alone b k ys few other
pieces_front b (suc k) [] some few (inl whole) = alone b k [] few (begins_nil b)
pieces_front b (suc k) (y ∷ ys) some few (inl whole) = elim (cases_Bool (eqb y b)) [
  | inl same ↦ joined b k y ys whole (eqb-true y b same)
  | inr apart ↦ alone b k (y ∷ ys) few (begins_cons b y ys apart)
]

-- no bytes make no pieces
pub pieces_nil : pieces [] ≡ []
unfolding pieces
pieces_nil = refl

-- what stands at a place of the rest
begins_from : (b n : ℕ) (bs : List ℕ) → (n < length bs → get_or bs n 0 ≢ b) → BeginsOther b (drop n bs)
unfolding BeginsOther
begins_from b zero [] h = tt
begins_from b (suc n) [] h = tt
begins_from b zero (y ∷ bs) h = h (omega arith)
begins_from b (suc n) (y ∷ bs) h = begins_from b n bs (λ lt. h (omega arith))

-- the first n bytes are b, and n is 256 or another byte stands behind them
pub pieces_from : (b n : ℕ) (bs : List ℕ) → 1 ≤ n → n ≤ 256 → n ≤ length bs → ((k : ℕ) → k < n → get_or bs k 0 ≡ b)
    → (n < length bs → n < 256 → get_or bs n 0 ≢ b) → pieces bs ≡ (b, n) ∷ pieces (drop n bs)
pieces_from b n bs some few within same ends =
    let front : take n bs ≡ replicate n b = same_lists (take n bs) (replicate n b) (omega (arith, length-take n bs, length-replicate n b)) (λ k d lt.
    let under : k < n = omega (arith, lt, length-take n bs) in
    get_or-take n bs k d under ∙ get_or_default bs k d 0 (omega arith) ∙ same k under ∙ sym (get_or-replicate n k b d under)) in
    ap pieces (sym (take-append-drop n bs) ∙ ap (λ (t : List ℕ). t ++ drop n bs) front)
    ∙ pieces_front b n (drop n bs) some few (elim (cases_eq n 256) [
      | inl whole ↦ inl whole
      | inr part ↦ inr (begins_from b n bs (λ lt. ends lt (omega arith)))
    ])

-- ---- the bytes again from their pieces

-- the bytes of pieces as they are spelled
abbrev pub expanded : List (ℕ × ℕ) → List ℕ
expanded ps = flat_map (λ (p : ℕ × ℕ). replicate p.1 p.0) ps

replicate-joined : (m n b : ℕ) → replicate m b ++ replicate n b ≡ replicate (m + n) b
replicate-joined m n b = replicate-append-replicate m n b

expanded-same : (k b : ℕ) → expanded (replicate k (b, 256)) ≡ replicate (k * 256) b
expanded-same zero b = refl
expanded-same (suc k) b =
    ap (λ (t : List ℕ). replicate 256 b ++ t) (expanded-same k b) ∙ replicate-joined 256 (k * 256) b ∙ ap (λ n. replicate n b) (omega arith)

run_expanded : (b n : ℕ) → 1 ≤ n → expanded (pieces_of_run (b, n)) ≡ replicate n b
run_expanded b n some =
    let k = (n - 1) / 256 in
    let l = (n - 1) % 256 + 1 in
    let whole : k * 256 + l ≡ n = omega arith in
    flat_map-append (λ (p : ℕ × ℕ). replicate p.1 p.0) (replicate k (b, 256)) ((b, l) ∷ [])
    ∙ (λ i. expanded-same k b i ++ append-nil (replicate l b) i)
    ∙ replicate-joined (k * 256) l b ∙ ap (λ m. replicate m b) whole

pub more : (b n : ℕ) (rs : List (ℕ × ℕ)) → replicate (n + 1) b ++ expanded rs ≡ b ∷ (replicate n b ++ expanded rs)
more b n rs = rw add-one refl

-- runs of bytes: each has some, and together they are the bytes
AreRuns : List (ℕ × ℕ) → List ℕ → Type 0
AreRuns rs bs = (All (λ (r : ℕ × ℕ). 1 ≤ r.1) rs) × (expanded rs ≡ bs)

adds_run : (b : ℕ) (rs : List (ℕ × ℕ)) (bs : List ℕ) → AreRuns rs bs → AreRuns (add_to_runs b rs) (b ∷ bs)
unfolding AreRuns
adds_run b [] bs h = (All-cons (λ (r : ℕ × ℕ). 1 ≤ r.1) (b, 1) [] (omega arith) h.0, ap (λ (t : List ℕ). b ∷ t) h.1)
adds_run b (r ∷ rs) bs h = elim (cases_Bool (eqb b r.0)) [
  | inl same ↦ (
      let e : add_to_runs b (r ∷ rs) ≡ (b, r.1 + 1) ∷ rs = cond-true (eqb b r.0) ((b, r.1 + 1) ∷ rs) ((b, 1) ∷ r ∷ rs) same in
      let head : b ≡ r.0 = eqb-true b r.0 same in
      rw e (
        All-cons (λ (q : ℕ × ℕ). 1 ≤ q.1) (b, r.1 + 1) rs (omega arith) (All-tail (λ (q : ℕ × ℕ). 1 ≤ q.1) r rs h.0),
        more b r.1 rs ∙ ap (λ (t : List ℕ). b ∷ t) (ap (λ c. replicate r.1 c ++ expanded rs) head ∙ h.1),
      ))
  | inr apart ↦ (
      let e : add_to_runs b (r ∷ rs) ≡ (b, 1) ∷ r ∷ rs = cond-false (eqb b r.0) ((b, r.1 + 1) ∷ rs) ((b, 1) ∷ r ∷ rs) apart in
      rw e (All-cons (λ (q : ℕ × ℕ). 1 ≤ q.1) (b, 1) (r ∷ rs) (omega arith) h.0, ap (λ (t : List ℕ). b ∷ t) h.1))
]

runs_are : (bs : List ℕ) → AreRuns (runs bs) bs
unfolding AreRuns
runs_are [] = (All-nil (λ (r : ℕ × ℕ). 1 ≤ r.1), refl)
runs_are (b ∷ bs) = adds_run b (runs bs) bs (runs_are bs)

all_expanded : (rs : List (ℕ × ℕ)) → All (λ (r : ℕ × ℕ). 1 ≤ r.1) rs → expanded (flat_map pieces_of_run rs) ≡ expanded rs
all_expanded [] h = refl
all_expanded (r ∷ rs) h =
    flat_map-append (λ (p : ℕ × ℕ). replicate p.1 p.0) (pieces_of_run r) (flat_map pieces_of_run rs)
    ∙ (λ i. run_expanded r.0 r.1 (All-head (λ (q : ℕ × ℕ). 1 ≤ q.1) r rs h) i ++ all_expanded rs (All-tail (λ (q : ℕ × ℕ). 1 ≤ q.1) r rs h) i)

pub pieces_expanded : (bs : List ℕ) → expanded (pieces bs) ≡ bs
unfolding pieces AreRuns
pieces_expanded bs = all_expanded (runs bs) (runs_are bs).0 ∙ (runs_are bs).1

-- each piece has some bytes
some_each : (rs : List (ℕ × ℕ)) → All (λ (p : ℕ × ℕ). 1 ≤ p.1) (flat_map pieces_of_run rs)
some_each [] = All-nil (λ (p : ℕ × ℕ). 1 ≤ p.1)
some_each (r ∷ rs) = All-append (λ (p : ℕ × ℕ). 1 ≤ p.1) (pieces_of_run r) (flat_map pieces_of_run rs)
    (All-append (λ (p : ℕ × ℕ). 1 ≤ p.1) (replicate ((r.1 - 1) / 256) (r.0, 256)) ((r.0, (r.1 - 1) % 256 + 1) ∷ [])
    (All-replicate (λ (p : ℕ × ℕ). 1 ≤ p.1) ((r.1 - 1) / 256) (r.0, 256) (omega arith))
    (All-cons (λ (p : ℕ × ℕ). 1 ≤ p.1) (r.0, (r.1 - 1) % 256 + 1) [] (omega arith) (All-nil (λ (p : ℕ × ℕ). 1 ≤ p.1)))) (some_each rs)

pub pieces_some : (bs : List ℕ) → All (λ (p : ℕ × ℕ). 1 ≤ p.1) (pieces bs)
unfolding pieces
pieces_some bs = some_each (runs bs)

pub spelled_expanded : (ps : List (ℕ × ℕ)) → All (λ (p : ℕ × ℕ). 1 ≤ p.1) ps → pairs_expanded (flat_map piece_bytes ps) ≡ expanded ps
spelled_expanded [] h = refl
spelled_expanded (p ∷ ps) h =
    let some : 1 ≤ p.1 = All-head (λ (q : ℕ × ℕ). 1 ≤ q.1) p ps h in
    let long : p.1 - 1 + 1 ≡ p.1 = omega arith in
    (λ i. replicate (long i) p.0 ++ spelled_expanded ps (All-tail (λ (q : ℕ × ℕ). 1 ≤ q.1) p ps h) i)

-- the bytes from the spelling of their pieces
pub pairs_of_pieces : (bs : List ℕ) → pairs_expanded (flat_map piece_bytes (pieces bs)) ≡ bs
pairs_of_pieces bs = spelled_expanded (pieces bs) (pieces_some bs) ∙ pieces_expanded bs
