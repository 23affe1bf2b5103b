-- What a line adds: points of as many coordinates as there are dimensions, each a whole number of 32 bits.
use Rattle.std.proofs.Common.{◌≡◌, ℕ, zero, suc, ◌+◌, ◌*◌, ◌==◌, ◌≤◌, ◌^◌, ◌-◌, ◌&&◌, Bool, true, false, cond, List, [], ◌∷◌, length, map, take, drop}
use Rattle.std.proofs.Common.{Option, Some, None, Result, Ok, Err, arith, refl, sym, ap, ◌∙◌, subst, ℤ, pos}
use Rattle.std.proofs.Common.{length-take-le, length-drop}
use Rattle.std.specs.Prelude.{All, FitsSigned, nat_lt, nat_le, is_some, option_map, neg_ℤ, ok_or}
use Rattle.std.specs.List.{Contains, list_any}
use Rattle.std.specs.Str.{all_ascii_digits}
use Rattle.std.specs.Str.Parse.{digits_value}
use Rattle.std.specs.Ordering.{eq_by_cmp, int_cmp, is_eq}
use Rattle.std.specs.declared.cmp.Ordering.{Ordering}
use Rattle.std.specs.declared.cmp.Ordering.TheVariants.{Less, Equal, Greater}
use Rattle.std.proofs.lemmas.Cmp.{eq_by_cmp_equiv}
use Rattle.std.specs.Cmp.Lexicographic.{slice_cmp}
use Rattle.std.specs.FinMap as finite
use Rattle.std.specs.FinMap.Entries.{is_some-find}
use Rattle.std.proofs.lemmas.Bool.Decides.{nat_tests}
use Rattle.std.proofs.lemmas.Int.{ints}
use Rattle.std.proofs.lemmas.List.Elements.{All-contains, All-contains_itself, All-cons, All-nil, All-take, All-drop, All-weaker}
use Rattle.std.proofs.lemmas.Map.Views.{Contains-from_any, list_any-from_Contains}
use mir.Syntax.{w32}
use Rattle.number_text.specs.Number.{coordinate, number_up_to}
use Rattle.point_codec.specs.Points.{ordered_points}
use Rattle.point_codec.proofs.Corners.{both_true}
use Rattle.point_codec.proofs.Ordered.{points_exact, points_total}
use Rattle.script_lang.specs.Reading.{box_of, corners_of, onto_values, pieces, values_of}
use Rattle.script_lang.specs.declared.faults.LineFault.{LineFault}
use Rattle.script_lang.specs.declared.faults.LineFault.TheVariants as fault

-- ---- a coordinate is a number of 32 bits

abbrev Fits : ℤ → Type 0
Fits x = FitsSigned w32 x

some_inj : {X : Type 0} (x y : X) → Some x ≡ Some y → x ≡ y
some_inj x y e = cc

number_fits : (limit : ℕ) (bs : List ℕ) (n : ℕ) → number_up_to limit bs ≡ Some n → n ≤ limit
unfolding number_up_to
number_fits limit bs n e = by ((nat_lt 0 (length bs) && all_ascii_digits bs) && nat_le (digits_value 10 bs) limit) refl e
  where
    by : (b : Bool) → ((nat_lt 0 (length bs) && all_ascii_digits bs) && nat_le (digits_value 10 bs) limit) ≡ b
        → cond b (Some (digits_value 10 bs)) None ≡ Some n → n ≤ limit
    by true t same =
        let least : nat_le (digits_value 10 bs) limit ≡ true =
        (both_true (nat_lt 0 (length bs) && all_ascii_digits bs) (nat_le (digits_value 10 bs) limit) t).1 in
        let few : digits_value 10 bs ≤ limit = grind (arith, nat_tests) in
        let is = some_inj (digits_value 10 bs) n same in
        omega (arith, few, is)
    by false t same = cc

negated_fits : (o : Option ℕ) (x : ℤ) → ((n : ℕ) → o ≡ Some n → n ≤ 2 ^ 31) → option_map (λ n. neg_ℤ (pos n)) o ≡ Some x → Fits x
negated_fits None x few e = cc
negated_fits (Some zero) x few e = let is = some_inj (neg_ℤ (pos zero)) x e in subst Fits is (grind (arith, ints))
negated_fits (Some (suc n)) x few e =
    let is = some_inj (neg_ℤ (pos (suc n))) x e in
    let most = few (suc n) refl in
    subst Fits is (grind (arith, ints, most))

positive_fits : (o : Option ℕ) (x : ℤ) → ((n : ℕ) → o ≡ Some n → n ≤ 2 ^ 31 - 1) → option_map pos o ≡ Some x → Fits x
positive_fits None x few e = cc
positive_fits (Some n) x few e =
    let is = some_inj (pos n) x e in
    let most = few n refl in
    subst Fits is (grind (arith, ints, most))

coordinate_fits : (word : List ℕ) (x : ℤ) → coordinate word ≡ Some x → Fits x
unfolding coordinate
coordinate_fits [] x e = cc
coordinate_fits (c ∷ cs) x e = by (c == 45) e
  where
    by : (b : Bool) → cond b (option_map (λ n. neg_ℤ (pos n)) (number_up_to (2 ^ 31) cs)) (option_map pos (number_up_to (2 ^ 31 - 1) (c ∷ cs))) ≡ Some x
        → Fits x
    by true same = negated_fits (number_up_to (2 ^ 31) cs) x (number_fits (2 ^ 31) cs) same
    by false same = positive_fits (number_up_to (2 ^ 31 - 1) (c ∷ cs)) x (number_fits (2 ^ 31 - 1) (c ∷ cs)) same

-- ---- the values of words

-- as many as there are words
pub record AreValues (words : List (List ℕ)) (xs : List ℤ) : Type 0 where
  pub long : length xs ≡ length words
  pub fits : All Fits xs

values_by : (place : ℕ) (word : List ℕ) (words : List (List ℕ)) (one : Option ℤ) (others : Result (List ℤ) LineFault)
    → ((x : ℤ) → one ≡ Some x → Fits x) → ((xs : List ℤ) → others ≡ Ok xs → AreValues words xs)
    → (f : LineFault) (xs : List ℤ) → onto_values (ok_or one f) others ≡ Ok xs → AreValues (word ∷ words) xs
values_by place word words None others first rest f xs e = cc
values_by place word words (Some x) (Err g) first rest f xs e = cc
values_by place word words (Some x) (Ok ys) first rest f xs e =
    let is : x ∷ ys ≡ xs = cc in
    let later = rest ys refl in
    subst (AreValues (word ∷ words)) is (record { long = ap suc later.long; fits = All-cons Fits x ys (first x refl) later.fits })

pub are_values : (place : ℕ) (words : List (List ℕ)) (xs : List ℤ) → values_of coordinate place words ≡ Ok xs → AreValues words xs
are_values place [] xs e = let is : [] ≡ xs = cc in subst (AreValues []) is (record { long = refl; fits = All-nil Fits })
are_values place (w ∷ ws) xs e =
    values_by place w ws (coordinate w) (values_of coordinate (place + 1) ws) (coordinate_fits w) (are_values (place + 1) ws) _ xs e

-- the ends of a box have as many coordinates as are asked for
pub box_long : (r place : ℕ) (words : List (List ℕ)) (ends : List ℤ × List ℤ) → box_of r place words ≡ Ok ends → (length ends.0 ≡ r) × (length ends.1 ≡ r)
unfolding box_of
box_long r place words ends e = by (length words == 2 * r) (values_of coordinate place words) refl refl e
  where
    by : (b : Bool) (read : Result (List ℤ) LineFault) → (length words == 2 * r) ≡ b → values_of coordinate place words ≡ read
        → cond b (corners_of r read) (Err fault.Words) ≡ Ok ends → (length ends.0 ≡ r) × (length ends.1 ≡ r)
    by false read t is same = cc
    by true (Err f) t is same = cc
    by true (Ok xs) t is same =
        let two : length words ≡ 2 * r = grind (arith, nat_tests) in
        let values = are_values place words xs is in
        let pair : (take r xs, drop r xs) ≡ ends = cc in
        let short : r ≤ length xs = omega (arith, two, values.long) in
        let less = length-drop r xs in
        subst (λ (p : List ℤ × List ℤ). (length p.0 ≡ r) × (length p.1 ≡ r)) pair (length-take-le r xs short, omega (arith, less, two, values.long))

-- ---- points

pub record IsPoint (dims : ℕ) (p : List ℤ) : Type 0 where
  pub long : length p ≡ dims
  pub fits : All Fits p

pub pieces_are : (count dims : ℕ) (xs : List ℤ) → length xs ≡ count * dims → All Fits xs → All (IsPoint dims) (pieces count dims xs)
pieces_are zero dims xs long fits = All-nil (IsPoint dims)
pieces_are (suc n) dims xs long fits =
    let all : length xs ≡ dims + n * dims = omega (arith, long) in
    let short : dims ≤ length xs = omega (arith, all) in
    All-cons (IsPoint dims) (take dims xs) (pieces n dims (drop dims xs))
    (record { long = length-take-le dims xs short; fits = All-take Fits dims xs fits })
    (pieces_are n dims (drop dims xs) (let less = length-drop dims xs in omega (arith, less, all)) (All-drop Fits dims xs fits))

-- what stands in order was there before
module _ (ps : List (List ℤ)) (q : List ℤ) where
  abbrev same_point : List ℤ → List ℤ → Bool
  same_point = eq_by_cmp (slice_cmp int_cmp)

  abbrev marked : List (List ℤ × Unit {0})
  marked = map (λ p. (p, tt)) ps

  unmarked : (xs : List (List ℤ)) → map {B = List ℤ} (λ e. e.0) (map {B = List ℤ × Unit {0}} (λ p. (p, tt)) xs) ≡ xs
  unmarked [] = refl
  unmarked (x ∷ xs) = ap (λ ys. x ∷ ys) (unmarked xs)

  any_before : list_any (same_point q) (ordered_points ps) ≡ list_any (same_point q) ps
  any_before =
      let m = finite.from_entries {R = slice_cmp int_cmp} marked in
      sym (sym (ap (list_any (same_point q)) (unmarked ps))
      ∙ sym (is_some-find (slice_cmp int_cmp) q marked)
      ∙ ap is_some (sym (finite.get-from_entries points_total marked q) ∙ finite.get-entries m q)
      ∙ is_some-find (slice_cmp int_cmp) q (finite.entries m))

  equal : (o : Ordering) → is_eq o ≡ true → o ≡ Equal
  equal Less h = cc
  equal Equal h = refl
  equal Greater h = cc

  one_point : (x y : List ℤ) → same_point x y ≡ true → x ≡ y
  one_point x y e = points_exact x y (equal (slice_cmp int_cmp x y) e)

  was_there : Contains (ordered_points ps) q → Contains ps q
  was_there there = Contains-from_any one_point q ps (sym any_before ∙ list_any-from_Contains (eq_by_cmp_equiv points_total) q (ordered_points ps) there)

pub all_ordered : (P : List ℤ → Type 0) (ps : List (List ℤ)) → All P ps → All P (ordered_points ps)
all_ordered P ps all =
    All-weaker (λ q. Contains (ordered_points ps) q) P (λ q there. All-contains P ps q all (was_there ps q there)) (ordered_points ps)
    (All-contains_itself (ordered_points ps))
