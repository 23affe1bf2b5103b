-- What the first bytes of a body say of its length.
use Rattle.std.proofs.Common.{◌≡◌, ◌≤◌, ◌<◌, ◌^◌, ◌+◌, ◌/◌, ℕ, List, ◌++◌, length, take, drop, sym, ap, ◌∙◌, arith, append_assoc, length-append}
use Rattle.std.proofs.lemmas.List.{take_at, take-append-le, take-append-drop}
use Rattle.live_bits.specs.LiveSet.{LiveSet}
use Rattle.live_bits.specs.LiveBody.{head, IsLiveBody}
use Rattle.live_bits.proofs.Heads.{head-length, live_in-length, sizes_unique}

-- bytes that a body begins with begin with its head, where they are long enough
pub begins : (segment generation : ℕ) (s : LiveSet) (front body x y : List ℕ) → 36 ≤ length front → IsLiveBody segment generation s body
    → front ++ x ≡ body ++ y
    → front ≡ head segment generation s.base s.span (length s.live) ++ drop 36 front
begins segment generation s front body x y long h e =
    let first = head segment generation s.base s.span (length s.live) in
    let behind : front ++ x ≡ first ++ (h.bits ++ y) = e ∙ ap (λ (l : List ℕ). l ++ y) h.spelling ∙ append_assoc first h.bits y in
    let same : take 36 front ≡ first =
    sym (take-append-le 36 front x long) ∙ ap (λ (l : List ℕ). take 36 l) behind
    ∙ take_at first (h.bits ++ y) 36 (head-length segment generation s.base s.span (length s.live)) in
    sym (take-append-drop 36 front) ∙ ap (λ (l : List ℕ). l ++ drop 36 front) same

pub record IsFrontOf (s : LiveSet) (base span count : ℕ) (body : List ℕ) : Type 0 where
  pub base_is : s.base ≡ base
  pub span_is : s.span ≡ span
  pub limit : s.base + s.span ≤ 16777216
  pub len : length body ≡ 36 + (span + 7) / 8

-- the sizes with which the bytes begin are those of the body
pub front_of : (segment generation : ℕ) (s : LiveSet) (front body x y : List ℕ) (base span count : ℕ) (bits : List ℕ) → 36 ≤ length front
    → IsLiveBody segment generation s body
    → front ++ x ≡ body ++ y → base < 2 ^ 32 → span < 2 ^ 32 → count < 2 ^ 32 → front ≡ head segment generation base span count ++ bits
    → IsFrontOf s base span count body
front_of segment generation s front body x y base span count bits long h e hb hs hc parts =
    let first = head segment generation s.base s.span (length s.live) in
    let limit = h.are_bits.limit in
    let few : length s.live ≤ s.span = omega (arith, ap (λ (l : List ℕ). length l) h.numbers, live_in-length s.base s.span h.bits) in
    let same = sizes_unique segment generation s.base s.span (length s.live) base span count (drop 36 front) bits (omega arith) (omega arith) (omega arith) hb
    hs hc (sym (begins segment generation s front body x y long h e) ∙ parts) in
    let span_is = same.1 in
    let len = h.are_bits.len in
    record {
      base_is = same.0;
      span_is = same.1;
      limit = limit;
      len = ap (λ (l : List ℕ). length l) h.spelling ∙ length-append first h.bits
          ∙ omega (arith, len, head-length segment generation s.base s.span (length s.live), ap (λ (n : ℕ). (n + 7) / 8) span_is);
    }
