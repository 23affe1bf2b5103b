-- Where there is no sorted dimension all keys are equal, and keys are equal in their shared bytes.
use Rattle.std.proofs.Common.{◌≡◌, ◌≢◌, ℕ, zero, suc, ◌+◌, ◌<◌, ◌≤◌, Bool, true, false, ltb, List}
use Rattle.std.proofs.Common.{get_or, sym, ap, subst, ◌∙◌, arith, inl, inr, unwrap_or}
use Rattle.std.specs.List.{range_with_len}
use Rattle.std.specs.Prelude.{Contains}
use Rattle.std.proofs.lemmas.Bool.{cases_Bool, cases_lt, cases_eq, ltb-false, false≢true}
use Rattle.std.proofs.lemmas.List.FromFn.{get_or-range_with_len, length-range_with_len}
use Rattle.std.proofs.lemmas.List.Sums.{count_by-le-length, fails_before_first, prefix_len-le-length}
use Rattle.point_codec.specs.Points.{Item}
use Rattle.leaf_codec.specs.Dimensions.{key_byte, count_values, different, shared_prefix, varies, spread, narrowest, sorted_dimension}
use Rattle.leaf_codec.proofs.Narrowest.{IsNarrowestBelow, narrowest_none, narrowest_takes, narrowest_keeps, narrowest_is}
use Rattle.leaf_codec.proofs.Shared.{two_bytes}
use Rattle.leaf_codec.proofs.Written.{sorted_number, shared_prefix-le}

pub count_values-le : (p : ℕ → Bool) → count_values p ≤ 256
unfolding count_values
count_values-le p = omega (arith, count_by-le-length p (range_with_len 0 256), length-range_with_len 0 256)

pub ends : (D : ℕ) (v : ℕ → Bool) (s : ℕ → ℕ) → ((e : ℕ) → s e ≤ 256) → (n : ℕ) → n ≤ D → (best : ℕ) × (least : ℕ) × IsNarrowestBelow n D v s best least
ends D v s small zero le = (D, 257, narrowest_none D 257 v s (omega arith))
ends D v s small (suc n) le =
    let before = ends D v s small n (omega arith) in
    let next : n + 1 ≡ suc n = omega arith in
    elim (cases_Bool (v n)) [
      | inl moves ↦ elim (cases_lt (s n) before.1) [
        | inl less ↦
            (n, s n, subst (λ (m : ℕ). IsNarrowestBelow m D v s n (s n)) next (narrowest_takes n D v s before.0 before.1 before.2 (omega arith) moves less))
        | inr more ↦ (
          before.0,
          before.1,
          subst (λ (m : ℕ). IsNarrowestBelow m D v s before.0 before.1) next
              (narrowest_keeps n D v s before.0 before.1 before.2 (omega arith) (λ _. more) (λ _. small n)),
        )
      ]
      | inr still ↦ (
        before.0,
        before.1,
        subst (λ (m : ℕ). IsNarrowestBelow m D v s before.0 before.1) next
            (narrowest_keeps n D v s before.0 before.1 before.2 (omega arith) (λ moves. absurd (false≢true (sym still ∙ moves))) (λ _. small n)),
      )
    ]

none_varies : (D : ℕ) (v : ℕ → Bool) (s : ℕ → ℕ) → ((e : ℕ) → s e ≤ 256) → unwrap_or (narrowest D v s) D ≡ D → (e : ℕ) → e < D → v e ≡ false
none_varies D v s small none e lt =
    let end = ends D v s small D (omega arith) in
    let all : end.0 ≡ D = sym (narrowest_is D v s end.0 end.1 end.2 (λ k _ _. small k)) ∙ none in
    elim (cases_Bool (v e)) [
      | inl moves ↦ absurd (omega (arith, end.2.none all, end.2.least_of e lt moves, small e))
      | inr still ↦ still
    ]

-- without a sorted dimension whole keys are shared
pub all_shared : (D : ℕ) (items : List Item) → sorted_number D items ≡ D → (d : ℕ) → d < D → shared_prefix d items ≡ 4
unfolding sorted_dimension
all_shared D items none d lt =
    omega (
      arith,
      ltb-false (shared_prefix d items) 4 (none_varies D (varies items) (spread items) (λ e. count_values-le _) none d lt),
      shared_prefix-le d items,
    )

-- a shared byte takes one value
shared_once : (d k : ℕ) (items : List Item) → k < shared_prefix d items → different d k items ≤ 1
unfolding shared_prefix
shared_once d k items lt =
    let under : k < 4 = omega
    (arith, lt, prefix_len-le-length (λ i. Rattle.std.proofs.Common.not (ltb 1 (different d i items))) (range_with_len 0 4), length-range_with_len 0 4) in
    let place : get_or (range_with_len 0 4) k 0 ≡ k = get_or-range_with_len 0 4 k 0 under ∙ omega arith in
    omega (
      arith,
      ltb-false 1 (different d k items)
          (sym (ap (λ i. ltb 1 (different d i items)) place) ∙ fails_before_first (λ i. ltb 1 (different d i items)) (range_with_len 0 4) k 0 lt),
    )

pub shared_same : (d k i j : ℕ) (items : List Item) (x y : Item) → k < shared_prefix d items → Contains items x → Contains items y
    → key_byte d k x ≡ key_byte d k y
shared_same d k i j items x y lt hx hy = elim (cases_eq (key_byte d k x) (key_byte d k y)) [
  | inl same ↦ same
  | inr apart ↦ absurd (omega (arith, two_bytes d k items x y hx hy apart, shared_once d k items lt))
]
