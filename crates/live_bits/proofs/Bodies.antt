-- A body has one set, and a set one body.
use Rattle.std.proofs.Common.{◌≡◌, ◌≤◌, ◌+◌, ◌-◌, ℕ, List, ◌++◌, length, sym, ap, ◌∙◌, arith, inl, inr}
use Rattle.std.proofs.lemmas.Bool.{cases_lt}
use Rattle.live_bits.specs.LiveSet.{LiveSet, is_live}
use Rattle.live_bits.specs.LiveBody.{head, is_set, live_in, live_set, AreBits, IsLiveBody}
use Rattle.live_bits.proofs.Heads.{spelt, live_in-length}
use Rattle.live_bits.proofs.LiveNumbers.{live_inside}
use Rattle.live_bits.proofs.SameBits.{same_bytes}

pub one_set : (segment generation : ℕ) (s t : LiveSet) (bytes : List ℕ) → IsLiveBody segment generation s bytes → IsLiveBody segment generation t bytes → s ≡ t
one_set segment generation s t bytes p q =
    let limit = q.are_bits.limit in
    let few : length t.live ≤ t.span = omega (arith, ap length q.numbers, live_in-length t.base t.span q.bits) in
    let same = spelt segment generation s bytes t.base t.span (length t.live) q.bits (omega arith) (omega arith) (omega arith) p q.spelling in
    let lists = same.numbers ∙ sym q.numbers in
    λ i. record { base = same.base_is i; span = same.span_is i; live = lists i }

-- bits with the same live numbers are the same bits
same_bits : (base span : ℕ) (x y : List ℕ) → AreBits base span x → AreBits base span y → live_in base span x ≡ live_in base span y → (i : ℕ)
    → is_set x i ≡ is_set y i
same_bits base span x y p q e i =
    elim (cases_lt i span) [
      | inl lt ↦
          let place : base + i - base ≡ i = omega arith in
          let at : (bits : List ℕ) → is_live (live_set base span bits) (base + i) ≡ is_set bits i = λ bits.
          live_inside base span bits (base + i) (omega arith) (omega arith) ∙ ap (λ (k : ℕ). is_set bits k) place in
          sym (at x) ∙ ap (λ (live : List ℕ). is_live (record { base = base; span = span; live = live }) (base + i)) e ∙ at y
      | inr le ↦ p.past i le ∙ sym (q.past i le)
    ]

pub one_body : (segment generation : ℕ) (s : LiveSet) (a b : List ℕ) → IsLiveBody segment generation s a → IsLiveBody segment generation s b → a ≡ b
one_body segment generation s a b p q =
    let bits = same_bytes p.bits q.bits (p.are_bits.len ∙ sym q.are_bits.len) p.are_bytes q.are_bytes
    (same_bits s.base s.span p.bits q.bits p.are_bits q.are_bits (sym p.numbers ∙ q.numbers)) in
    p.spelling ∙ ap (λ (xs : List ℕ). head segment generation s.base s.span (length s.live) ++ xs) bits ∙ sym q.spelling
