-- The numbers of a leaf: the least, the greatest, rows and bytes.
use Rattle.std.proofs.Common.{◌≡◌, ◌≢◌, ◌<◌, ◌≤◌, ◌+◌, ◌-◌, ℕ, zero, suc, min, max, true, false, List}
use Rattle.std.proofs.Common.{[], ◌∷◌, ◌++◌, length, get_or, refl, sym, ap, ◌∙◌, arith, append-nil}
use Rattle.std.specs.List.{flat_map, fold, range_with_len}
use Rattle.std.proofs.lemmas.Bool.{false_from_ne_true, cond-true, cond-false}
use Rattle.std.proofs.lemmas.List.{same_lists, get_or_default}
use Rattle.std.proofs.lemmas.List.FromFn.{length-range_with_len, get_or-range_with_len}
use Rattle.std.specs.Cmp.Lexicographic.{bytes_decides}
use Rattle.leaf_codec.specs.Spelling.{least, greatest, is_row, form, width, numbers, low_bytes}
use Rattle.byte_cursor.specs.Vint.{vint}

-- the least of numbers, as a loop over all of them from the first finds it
pub least_is : (ns : List ℕ) → 0 < length ns → fold min (get_or ns 0 0) ns ≡ least ns
least_is [] some = absurd (omega arith)
least_is (n ∷ ns) some = ap (λ m. fold min m ns) (omega arith)

fold_min-le : (m : ℕ) (ns : List ℕ) → fold min m ns ≤ m
fold_min-le m [] = omega arith
fold_min-le m (n ∷ ns) = omega (arith, fold_min-le (min m n) ns)

fold_min-under : (m : ℕ) (ns : List ℕ) (i : ℕ) → i < length ns → fold min m ns ≤ get_or ns i 0
fold_min-under m [] i lt = absurd (omega arith)
fold_min-under m (n ∷ ns) zero lt = omega (arith, fold_min-le (min m n) ns)
fold_min-under m (n ∷ ns) (suc i) lt = fold_min-under (min m n) ns i (omega arith)

pub least-le : (ns : List ℕ) (i : ℕ) → i < length ns → least ns ≤ get_or ns i 0
least-le [] i lt = absurd (omega arith)
least-le (n ∷ ns) zero lt = fold_min-le n ns
least-le (n ∷ ns) (suc i) lt = fold_min-under n ns i (omega arith)

fold_max-le : (m : ℕ) (ns : List ℕ) → m ≤ fold max m ns
fold_max-le m [] = omega arith
fold_max-le m (n ∷ ns) = omega (arith, fold_max-le (max m n) ns)

fold_max-over : (m : ℕ) (ns : List ℕ) (i : ℕ) → i < length ns → get_or ns i 0 ≤ fold max m ns
fold_max-over m [] i lt = absurd (omega arith)
fold_max-over m (n ∷ ns) zero lt = omega (arith, fold_max-le (max m n) ns)
fold_max-over m (n ∷ ns) (suc i) lt = fold_max-over (max m n) ns i (omega arith)

pub le-greatest : (ns : List ℕ) (i : ℕ) → i < length ns → get_or ns i 0 ≤ greatest ns
le-greatest ns i lt = fold_max-over 0 ns i lt

pub least-le-greatest : (ns : List ℕ) → 0 < length ns → least ns ≤ greatest ns
least-le-greatest ns some = omega (arith, least-le ns 0 some, le-greatest ns 0 some)

-- ---- rows

pub row_true : (first : ℕ) (ns : List ℕ) → first ≡ least ns → ((k : ℕ) → k < length ns → get_or ns k 0 ≡ first + k) → is_row ns ≡ true
unfolding is_row
row_true first ns is each =
    (bytes_decides ns (range_with_len (least ns) (length ns))).1
    (same_lists ns (range_with_len (least ns) (length ns)) (sym (length-range_with_len (least ns) (length ns))) (λ k d lt.
    get_or_default ns k d 0 lt ∙ each k lt ∙ ap (λ n. n + k) is ∙ sym (get_or-range_with_len (least ns) (length ns) k d lt)))

pub row_at : (ns : List ℕ) (k : ℕ) → is_row ns ≡ true → k < length ns → get_or ns k 0 ≡ least ns + k
unfolding is_row
row_at ns k row lt =
    let same = (bytes_decides ns (range_with_len (least ns) (length ns))).0 row in
    ap (λ (xs : List ℕ). get_or xs k 0) same ∙ get_or-range_with_len (least ns) (length ns) k 0 lt

pub row_false : (ns : List ℕ) (k : ℕ) → k < length ns → get_or ns k 0 ≢ least ns + k → is_row ns ≡ false
row_false ns k lt apart = false_from_ne_true (is_row ns) (λ row. apart (row_at ns k row lt))

-- ---- the bytes

flat_map_nothing : (ns : List ℕ) (f : ℕ → List ℕ) → ((n : ℕ) → f n ≡ []) → flat_map f ns ≡ []
flat_map_nothing [] f h = refl
flat_map_nothing (n ∷ ns) f h = (λ i. h n i ++ flat_map_nothing ns f h i)

pub form_row : (ns : List ℕ) → is_row ns ≡ true → form ns ≡ 0
unfolding form
form_row ns row = cond-true (is_row ns) 0 (width (greatest ns - least ns)) row

pub form_other : (ns : List ℕ) → is_row ns ≡ false → form ns ≡ width (greatest ns - least ns)
unfolding form
form_other ns other = cond-false (is_row ns) 0 (width (greatest ns - least ns)) other

-- the numbers in the form that they have
pub numbers_are : (ns : List ℕ) (w : ℕ) → form ns ≡ w → numbers ns ≡ w ∷ vint (least ns) ++ flat_map (λ n. low_bytes w (n - least ns)) ns
unfolding numbers
numbers_are ns w is = λ i. is i ∷ vint (least ns) ++ flat_map (λ n. low_bytes (is i) (n - least ns)) ns

pub numbers_row : (ns : List ℕ) → is_row ns ≡ true → numbers ns ≡ 0 ∷ vint (least ns)
numbers_row ns row =
    numbers_are ns 0 (form_row ns row)
    ∙ ap (λ (t : List ℕ). 0 ∷ vint (least ns) ++ t) (flat_map_nothing ns (λ n. low_bytes 0 (n - least ns)) (λ n. refl))
    ∙ append-nil (0 ∷ vint (least ns))
