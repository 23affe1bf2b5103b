-- How many leaves so many entries fill, and how they are shared among the halves of a node.
use Rattle.std.proofs.Common.{◌≡◌, ℕ, ◌+◌, ◌-◌, ◌*◌, ◌/◌, ◌<◌, ◌≤◌, sym, arith, inl, inr, mul-le-mul_right}
use Rattle.std.proofs.lemmas.Bool.{cases_lt}
use Rattle.std.proofs.lemmas.Grind.{div_ceil_times}
use Rattle.bkd_build.specs.Canon.{leaves_for, left_count}

-- the leaves hold the entries, and one leaf fewer doesn't
pub leaves_hold : (leaf_size count : ℕ) → 1 ≤ leaf_size
    → (count ≤ leaves_for leaf_size count * leaf_size) × (leaves_for leaf_size count * leaf_size < count + leaf_size)
leaves_hold leaf_size count some = let p : 0 < leaf_size = omega arith in div_ceil_times count leaf_size p

no_fewer : (leaf_size m n count : ℕ) → n < m → m * leaf_size < count + leaf_size → count ≤ n * leaf_size → ⊥
no_fewer leaf_size m n count lt h k = omega (arith, mul-le-mul_right leaf_size lt)

-- there is one such number
pub leaves_unique : (leaf_size n count : ℕ) → 1 ≤ leaf_size → count ≤ n * leaf_size → n * leaf_size < count + leaf_size → n ≡ leaves_for leaf_size count
leaves_unique leaf_size n count some holds few =
    let told = leaves_hold leaf_size count some in
    elim (cases_lt n (leaves_for leaf_size count)) [
      | inl below ↦ absurd (no_fewer leaf_size (leaves_for leaf_size count) n count below told.1 holds)
      | inr above ↦ elim (cases_lt (leaves_for leaf_size count) n) [
        | inl over ↦ absurd (no_fewer leaf_size n (leaves_for leaf_size count) count over few told.0)
        | inr not_over ↦ omega arith
      ]
    ]

-- more entries than a leaf has fill two leaves or more
pub two_leaves : (leaf_size count : ℕ) → 1 ≤ leaf_size → leaf_size < count → 2 ≤ leaves_for leaf_size count
two_leaves leaf_size count some many = elim (cases_lt (leaves_for leaf_size count) 2) [
  | inl few ↦ absurd (omega (arith, mul-le-mul_right {m = leaves_for leaf_size count} {n = 1} leaf_size (omega arith), (leaves_hold leaf_size count some).0))
  | inr enough ↦ enough
]

-- both halves of a node with more than one leaf have entries
parts_fit : (leaf_size count n m : ℕ) → 1 ≤ leaf_size → 1 ≤ m → m < n → n * leaf_size < count + leaf_size → (1 ≤ m * leaf_size) × (m * leaf_size < count)
parts_fit leaf_size count n m some one less few = (omega (arith, mul-le-mul_right leaf_size one), omega (arith, mul-le-mul_right leaf_size less))

pub left_fits : (leaf_size count : ℕ) → 1 ≤ leaf_size → leaf_size < count → (1 ≤ left_count leaf_size count) × (left_count leaf_size count < count)
left_fits leaf_size count some many =
    let n : ℕ = leaves_for leaf_size count in
    let two : 2 ≤ n = two_leaves leaf_size count some many in
    let one : 1 ≤ n - n / 2 = omega arith in
    let less : n - n / 2 < n = omega arith in
    parts_fit leaf_size count n (n - n / 2) some one less (leaves_hold leaf_size count some).1

-- the left half has full leaves, as many as it is to have
pub left_leaves : (leaf_size count : ℕ) → 1 ≤ leaf_size → leaf_size < count
    → leaves_for leaf_size (left_count leaf_size count) ≡ leaves_for leaf_size count - leaves_for leaf_size count / 2
left_leaves leaf_size count some many =
    sym (leaves_unique leaf_size (leaves_for leaf_size count - leaves_for leaf_size count / 2) (left_count leaf_size count) some (omega arith) (omega arith))

rest_fits : (leaf_size count n m k : ℕ) → n ≡ m + k → m * leaf_size ≤ count → count ≤ n * leaf_size → n * leaf_size < count + leaf_size
    → (count - m * leaf_size ≤ k * leaf_size) × (k * leaf_size < count - m * leaf_size + leaf_size)
rest_fits leaf_size count n m k is below holds few =
    let e : n * leaf_size ≡ m * leaf_size + k * leaf_size = rw is (omega arith) in
    (omega arith, omega arith)

-- and the right half the others
pub right_leaves : (leaf_size count : ℕ) → 1 ≤ leaf_size → leaf_size < count
    → leaves_for leaf_size (count - left_count leaf_size count) ≡ leaves_for leaf_size count / 2
right_leaves leaf_size count some many =
    let n : ℕ = leaves_for leaf_size count in
    let told = leaves_hold leaf_size count some in
    let left = left_fits leaf_size count some many in
    let is : n ≡ (n - n / 2) + n / 2 = omega arith in
    let fits = rest_fits leaf_size count n (n - n / 2) (n / 2) is (omega (arith, left.1)) told.0 told.1 in
    sym (leaves_unique leaf_size (n / 2) (count - left_count leaf_size count) some fits.0 fits.1)

-- one leaf has them where it can
pub one_leaf_for : (leaf_size count : ℕ) → 1 ≤ count → count ≤ leaf_size → leaves_for leaf_size count ≡ 1
one_leaf_for leaf_size count some few = sym (leaves_unique leaf_size 1 count (omega arith) (omega arith) (omega arith))
