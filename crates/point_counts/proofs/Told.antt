-- The filled buckets of a table, and what they are of the entries that are counted in it.
use Rattle.std.proofs.Common.{◌≡◌, ℕ, ◌+◌, ◌*◌, ◌/◌, ◌%◌, ◌<◌, ◌≤◌, ◌^◌, Bool, true, false, ◌&&◌, ⊎_elim, eqb, cond}
use Rattle.std.proofs.Common.{List, [], ◌∷◌, ◌++◌, length, get_or, ℤ, refl, sym, ap, subst, ◌∙◌, arith}
use Rattle.std.specs.List.{AllPairs, Contains, count_by}
use Rattle.std.proofs.lemmas.Bool.{eqb-true, eq-eqb, ne_eqb, true≢false}
use Rattle.std.proofs.lemmas.Nat.{div-mul-add}
use Rattle.std.proofs.Math.Nat.{mod-add-div', mod-lt}
use Rattle.std.proofs.lemmas.List.Elements.{Contains-append_cases, Contains-append_left, Contains-append_right}
use Rattle.std.proofs.lemmas.List.Elements.{Contains-get_or}
use Rattle.std.proofs.lemmas.List.Quantifiers.{all_pairs_push}
use Rattle.std.proofs.lemmas.List.Sums.{count_by-le-length, get_or-le-sum_by}
use Rattle.documents.proofs.Lists.{cons_cases, cons_head, nil_none, pairs_none}
use Rattle.point_codec.specs.Points.{Item, in_box}
use Rattle.point_counts.specs.declared.plan.Bucket.{Bucket}
use Rattle.point_counts.specs.Grids.{Plan, IsPlan, BucketComesBefore, IsGrid, column_of, row_of, bucket_count, is_in_bucket}
use Rattle.point_counts.specs.Grids.{number_of}
use Rattle.point_counts.specs.Tables.{is_at, all_at, place_in, HasCounts}
use Rattle.point_counts.proofs.Buckets.{div_rises, place_below, row_below}

-- ---- the buckets told so far

pub record IsTold (rows : ℕ) (table : List ℕ) (upto : ℕ) (b : Bucket) : Type 0 where
  pub low : b.y < rows
  pub place : b.x * rows + b.y < upto
  pub count : b.n ≡ get_or table (b.x * rows + b.y) 0
  pub some : 1 ≤ b.n

abbrev pub HasTold : (rows : ℕ) → List Bucket → ℕ → Type 0
HasTold rows buckets k = (b : Bucket) × Contains buckets b × (b.x ≡ k / rows) × (b.y ≡ k % rows)

pub record AreTold (rows : ℕ) (table : List ℕ) (upto : ℕ) (buckets : List Bucket) : Type 0 where
  pub rises : AllPairs BucketComesBefore buckets
  pub each : (b : Bucket) → Contains buckets b → IsTold rows table upto b
  pub all : (k : ℕ) → k < upto → 1 ≤ get_or table k 0 → HasTold rows buckets k

pub told_none : (rows : ℕ) (table : List ℕ) → AreTold rows table 0 []
told_none rows table = record {
  rises = pairs_none BucketComesBefore;
  each = λ b h. nil_none b (IsTold rows table 0 b) h;
  all = λ k lt some. absurd (omega (arith, lt));
}

further : (rows : ℕ) (table : List ℕ) (upto : ℕ) (b : Bucket) → IsTold rows table upto b
    → IsTold rows table (upto + 1) b
further rows table upto b h = record {
  low = h.low;
  place = let p = h.place in omega (arith, p);
  count = h.count;
  some =
      h.some;
}

-- what holds of all places before one and of that one holds of all before the next
one_more : (P : ℕ → Type 0) (k : ℕ) → ((j : ℕ) → j < k → P j) → P k → (j : ℕ) → j < k + 1 → P j
one_more P k before here j lt = by (eqb j k) refl
  where
    by : (b : Bool) → eqb j k ≡ b → P j
    by true e = subst P (sym (eqb-true j k e)) here
    by false e = before j (omega (arith, lt, λ (same : j ≡ k). true≢false (sym (eq-eqb j k same) ∙ e)))

pub told_zero : (rows : ℕ) (table : List ℕ) (k : ℕ) (buckets : List Bucket) → AreTold rows table k buckets
    → get_or table k 0 ≡ 0 → AreTold rows table (k + 1) buckets
told_zero rows table k buckets was zero = record {
  rises = was.rises;
  each = λ b h. further rows table k b (was.each b h);
  all = one_more (λ j. 1 ≤ get_or table j 0 → HasTold rows buckets j) k was.all
      (λ some. absurd (omega (arith, some, zero)));
}

before : (rows : ℕ) (a b : Bucket) → a.y < rows → b.y < rows → a.x * rows + a.y < b.x * rows + b.y → BucketComesBefore a b
before rows a b low high less = record {
  column =
      let le = div_rises rows (a.x * rows + a.y) (b.x * rows + b.y) (omega (arith, low)) (omega (arith, less)) in
      omega (arith, le, div-mul-add a.x rows a.y low, div-mul-add b.x rows b.y high);
  tie = λ back.
      let le = div_rises rows (a.x * rows + a.y) (b.x * rows + b.y) (omega (arith, low)) (omega (arith, less)) in
      let same : a.x ≡ b.x = omega (arith, back, le, div-mul-add a.x rows a.y low, div-mul-add b.x rows b.y high) in
      let products = ap (λ (n : ℕ). n * rows) same in
      omega (arith, less, products);
}

-- the place of a bucket that is told by division
divided : (k rows x y : ℕ) → x ≡ k / rows → y ≡ k % rows → x * rows + y ≡ k
divided k rows x y a b =
    ap (λ (n : ℕ). n * rows + y) a ∙ ap (λ (n : ℕ). k / rows * rows + n) b
    ∙ (let whole = mod-add-div' k rows in omega (arith, whole))

pub told_more : (rows : ℕ) (table : List ℕ) (k : ℕ) (buckets : List Bucket) (b : Bucket) → 1 ≤ rows
    → AreTold rows table k buckets → b.x ≡ k / rows → b.y ≡ k % rows → b.n ≡ get_or table k 0 → 1 ≤ b.n
    → AreTold rows table (k + 1) (buckets ++ b ∷ [])
told_more rows table k buckets b some was x y n filled =
    let at = divided k rows b.x b.y x y in
    let low : b.y < rows = (let less = mod-lt k some in omega (arith, less, y)) in
    record {
      rises = all_pairs_push BucketComesBefore buckets b was.rises (λ j d lt.
          let w = was.each (get_or buckets j d) (Contains-get_or buckets j d lt) in
          let p = w.place in
          before rows (get_or buckets j d) b w.low low (omega (arith, p, at)));
      each = λ a h. ⊎_elim
          (λ there. further rows table k a (was.each a there))
          (λ there. ⊎_elim
          (λ same. subst (IsTold rows table (k + 1)) same (record {
            low = low;
            place = omega (arith, at);
            count = n ∙ ap (λ (j : ℕ). get_or table j 0) (sym at);
            some = filled;
          }))
          (λ none. nil_none a (IsTold rows table (k + 1) a) none) (cons_cases b [] a there))
          (Contains-append_cases buckets (b ∷ []) a h);
      all = one_more (λ j. 1 ≤ get_or table j 0 → HasTold rows (buckets ++ b ∷ []) j) k
          (λ j lt there. let h = was.all j lt there in (h.0, Contains-append_left buckets (b ∷ []) h.0 h.1, h.2, h.3))
          (λ there. (b, Contains-append_right buckets (b ∷ []) b (cons_head b []), x, y));
    }

-- ---- a bucket's place

same_place : (rows c r x y : ℕ) → r < rows → y < rows → eqb (c * rows + r) (x * rows + y) ≡ (eqb c x && eqb r y)
same_place rows c r x y low high = by (eqb c x) refl (eqb r y) refl
  where
    by : (a : Bool) → eqb c x ≡ a → (b : Bool) → eqb r y ≡ b → eqb (c * rows + r) (x * rows + y) ≡ (a && b)
    by true e true f =
        let columns = ap (λ (n : ℕ). n * rows) (eqb-true c x e) in
        let places = eqb-true r y f in
        eq-eqb (c * rows + r) (x * rows + y) (omega (arith, columns, places))
    by true e false f =
        let columns = ap (λ (n : ℕ). n * rows) (eqb-true c x e) in
        ne_eqb (c * rows + r) (x * rows + y) (λ same. true≢false (sym (eq-eqb r y (omega (arith, columns, same))) ∙ f))
    by false e b f =
        ne_eqb (c * rows + r) (x * rows + y)
        (λ same. true≢false (sym (eq-eqb c x (sym (div-mul-add c rows r low) ∙ ap (λ (n : ℕ). n / rows) same
        ∙ div-mul-add x rows y high)) ∙ e))

module _ (D : ℕ) (plan : Plan) (is : IsPlan D plan) where
  in_bucket : (x y : ℕ) (at : List ℤ) → y < row_of plan plan.bounds.hi + 1
      → is_at plan.bounds (place_in plan) (x * (row_of plan plan.bounds.hi + 1) + y) at ≡ is_in_bucket plan x y at
  in_bucket x y at high = by (in_box plan.bounds at) refl
    where
      by : (b : Bool) → in_box plan.bounds at ≡ b
          → (b && eqb (place_in plan at) (x * (row_of plan plan.bounds.hi + 1) + y))
          ≡ ((b && eqb (column_of plan at) x) && eqb (row_of plan at) y)
      by true e = same_place (row_of plan plan.bounds.hi + 1) (column_of plan at) (row_of plan at) x y
          (row_below D plan at is e) high
      by false e = refl

  counted_there : (x y : ℕ) (entries : List Item) → y < row_of plan plan.bounds.hi + 1
      → all_at plan.bounds (place_in plan) entries (x * (row_of plan plan.bounds.hi + 1) + y)
      ≡ number_of plan x y entries
  counted_there x y entries high = λ i. count_by (λ e. in_bucket x y e.at high i) entries

  some_counted : (p : Item → Bool) (xs : List Item) (e : Item) → Contains xs e → p e ≡ true → 1 ≤ count_by p xs
  some_counted p xs e (i, lt, eq) t = subst (λ b. cond b 1 0 ≤ count_by p xs) (ap p eq ∙ t)
      (get_or-le-sum_by (λ x. cond (p x) 1 0) xs i e lt)

  -- the filled buckets of a table in which the entries are counted
  pub is_grid : (table : List ℕ) (buckets : List Bucket) (entries : List Item) → length entries < 2 ^ 64
      → HasCounts (all_at plan.bounds (place_in plan) entries) table
      → length table ≡ bucket_count plan → AreTold (row_of plan plan.bounds.hi + 1) table (length table) buckets
      → IsGrid plan entries buckets
  is_grid table buckets entries few counts long told = record {
    rises = told.rises;
    filled = λ k d lt. (told.each (get_or buckets k d) (Contains-get_or buckets k d lt)).some;
    counted = λ k d lt.
        let w = told.each (get_or buckets k d) (Contains-get_or buckets k d lt) in
        let b = get_or buckets k d in
        let place = b.x * (row_of plan plan.bounds.hi + 1) + b.y in
        let at = counts.each place w.place in
        let most = count_by-le-length (λ (e : Item). is_at plan.bounds (place_in plan) place e.at) entries in
        let n = w.count in
        let same : b.n ≡ all_at plan.bounds (place_in plan) entries place = omega (arith, at, most, few, n) in
        same ∙ counted_there b.x b.y entries w.low;
    each = λ e there inside.
        let place = place_in plan e.at in
        let lt : place < length table = (let below = place_below D plan e.at is inside in omega (arith, below, long)) in
        let at = counts.each place lt in
        let some = some_counted (λ (x : Item). is_at plan.bounds (place_in plan) place x.at) entries e there
        (ap (λ b. b && eqb place place) inside ∙ eq-eqb place place refl) in
        let h = told.all place lt (omega (arith, at, some)) in
        let low = row_below D plan e.at is inside in
        let column = div-mul-add (column_of plan e.at) (row_of plan plan.bounds.hi + 1) (row_of plan e.at) low in
        let row : place % (row_of plan plan.bounds.hi + 1) ≡ row_of plan e.at =
        (let whole = mod-add-div' place (row_of plan plan.bounds.hi + 1) in
        let products = ap (λ (n : ℕ). n * (row_of plan plan.bounds.hi + 1)) column in
        omega (arith, whole, products)) in
        (h.0, h.1, h.2 ∙ column, h.3 ∙ row);
  }
