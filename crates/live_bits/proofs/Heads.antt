-- The head of a body in its parts, and what the bytes of a body say of its set.
use Rattle.std.proofs.Common.{◌≡◌, ◌≢◌, ◌<◌, ◌≤◌, ◌-◌, ◌^◌, ℕ, List, ◌++◌, length, get_or, drop, refl, sym, ap, subst, ◌∙◌, arith, append_assoc, All}
use Rattle.std.specs.Prelude.{codes}
use Rattle.std.specs.Int.{w32, w64, to_be_bytes}
use Rattle.std.proofs.lemmas.List.{append_cancel_left, drop_at}
use Rattle.std.proofs.lemmas.List.Elements.{All-drop, All-from_get_or}
use Rattle.std.proofs.lemmas.List.Sums.{length-filter, count_by-le-length}
use Rattle.byte_cursor.proofs.Numbers.{spelling_unique}
use Rattle.live_bits.specs.LiveSet.{LiveSet}
use Rattle.live_bits.specs.LiveBody.{head, is_set, numbers_from, live_in, live_set, AreBits, IsLiveBody}
use Rattle.live_bits.proofs.LiveNumbers.{numbers_from-length}

abbrev pub name : ℕ → ℕ → List ℕ
name segment generation = codes "BKDPLIV1" ++ to_be_bytes w64 segment ++ to_be_bytes w64 generation

abbrev pub sizes : ℕ → ℕ → ℕ → List ℕ
sizes base span count = to_be_bytes w32 base ++ to_be_bytes w32 span ++ to_be_bytes w32 count

pub head-parts : (segment generation base span count : ℕ) (bits : List ℕ)
    → head segment generation base span count ++ bits ≡ name segment generation ++ (sizes base span count ++ bits)
unfolding head
head-parts segment generation base span count bits = refl

pub head-length : (segment generation base span count : ℕ) → length (head segment generation base span count) ≡ 36
unfolding head
head-length segment generation base span count = refl

-- ---- a word that is taken, and one that isn't there

pub second_other : (first second third whole rest : List ℕ) → whole ≡ first ++ rest → ((x : List ℕ) → rest ≢ second ++ x) → (x : List ℕ)
    → whole ≢ first ++ second ++ third ++ x
second_other first second third whole rest e other x f =
    other (third ++ x)
    (append_cancel_left first rest (second ++ (third ++ x)) (sym e ∙ f ∙ append_assoc (first ++ second) third x ∙ append_assoc first second (third ++ x)))

pub third_other : (first second third whole rest last : List ℕ) → whole ≡ first ++ rest → rest ≡ second ++ last → ((x : List ℕ) → last ≢ third ++ x)
    → (x : List ℕ) → whole ≢ first ++ second ++ third ++ x
third_other first second third whole rest last e g other x f =
    other x (append_cancel_left (first ++ second) last (third ++ x)
    (append_assoc first second last ∙ sym (e ∙ ap (λ (r : List ℕ). first ++ r) g) ∙ f ∙ append_assoc (first ++ second) third x))

-- ---- the fields that the bytes spell are those of any set whose body they are

-- a span has at least as many numbers as are live in it
pub live_in-length : (base span : ℕ) (bits : List ℕ) → length (live_in base span bits) ≤ span
unfolding live_in
live_in-length base span bits =
    omega (
      arith,
      length-filter (λ (n : ℕ). is_set bits (n - base)) (numbers_from base span),
      count_by-le-length (λ (n : ℕ). is_set bits (n - base)) (numbers_from base span),
      numbers_from-length base span,
    )

pub record IsSpelt (s : LiveSet) (base span count : ℕ) (bits : List ℕ) : Type 0 where
  pub base_is : s.base ≡ base
  pub span_is : s.span ≡ span
  pub count_is : length s.live ≡ count
  pub are_bytes : All (λ b. b < 256) bits
  pub are_bits : AreBits base span bits
  pub numbers : s.live ≡ live_in base span bits

pub sizes_unique : (segment generation a b c d e f : ℕ) (x y : List ℕ) → a < 2 ^ 32 → b < 2 ^ 32 → c < 2 ^ 32 → d < 2 ^ 32 → e < 2 ^ 32 → f < 2 ^ 32
    → head segment generation a b c ++ x ≡ head segment generation d e f ++ y → (a ≡ d) × (b ≡ e) × (c ≡ f) × (x ≡ y)
sizes_unique segment generation a b c d e f x y ha hb hc hd he hf same =
    let numbers = append_cancel_left (name segment generation) (sizes a b c ++ x) (sizes d e f ++ y)
    (sym (head-parts segment generation a b c x) ∙ same ∙ head-parts segment generation d e f y) in
    let first = spelling_unique w32 a d (to_be_bytes w32 b ++ (to_be_bytes w32 c ++ x)) (to_be_bytes w32 e ++ (to_be_bytes w32 f ++ y)) ha hd numbers in
    let second = spelling_unique w32 b e (to_be_bytes w32 c ++ x) (to_be_bytes w32 f ++ y) hb he first.1 in
    let third = spelling_unique w32 c f x y hc hf second.1 in
    (first.0, second.0, third.0, third.1)

pub spelt : (segment generation : ℕ) (s : LiveSet) (bytes : List ℕ) (base span count : ℕ) (bits : List ℕ) → base < 2 ^ 32 → span < 2 ^ 32 → count < 2 ^ 32
    → IsLiveBody segment generation s bytes → bytes ≡ head segment generation base span count ++ bits → IsSpelt s base span count bits
spelt segment generation s bytes base span count bits hb hs hc h e =
    let limit = h.are_bits.limit in
    let few : length s.live ≤ s.span = omega (arith, ap length h.numbers, live_in-length s.base s.span h.bits) in
    let same = sizes_unique segment generation s.base s.span (length s.live) base span count h.bits bits (omega arith) (omega arith) (omega arith) hb hs hc
    (sym h.spelling ∙ e) in
    record {
      base_is = same.0;
      span_is = same.1;
      count_is = same.2;
      are_bytes = subst (All (λ (b : ℕ). b < 256)) same.3 h.are_bytes;
      are_bits = subst (λ (n : ℕ). AreBits n span bits) same.0
          (subst (λ (n : ℕ). AreBits s.base n bits) same.1 (subst (λ (xs : List ℕ). AreBits s.base s.span xs) same.3 h.are_bits));
      numbers = h.numbers ∙ ap (λ (n : ℕ). live_in n s.span h.bits) same.0 ∙ ap (λ (n : ℕ). live_in base n h.bits) same.1
          ∙ ap (λ (xs : List ℕ). live_in base span xs) same.3;
    }

-- what stands behind a front of bytes is bytes
pub bytes_behind : (bytes front bits : List ℕ) → ((i : ℕ) → get_or bytes i 0 < 256) → bytes ≡ front ++ bits → All (λ b. b < 256) bits
bytes_behind bytes front bits small e =
    let all = All-drop (λ (b : ℕ). b < 256) (length front) bytes (All-from_get_or (λ (b : ℕ). b < 256) bytes 0 (λ i lt. small i)) in
    subst (All (λ (b : ℕ). b < 256)) (ap (λ (xs : List ℕ). drop (length front) xs) e ∙ drop_at front bits (length front) refl) all

-- fields that meet the rules make the bytes a body
pub body_of : (segment generation base span count : ℕ) (bytes bits : List ℕ) → AreBits base span bits → All (λ b. b < 256) bits
    → count ≡ length (live_in base span bits)
    → bytes ≡ head segment generation base span count ++ bits → IsLiveBody segment generation (live_set base span bits) bytes
body_of segment generation base span count bytes bits are all counted e = record {
  bits = bits;
  are_bytes = all;
  are_bits = are;
  numbers = refl;
  spelling = e ∙ ap (λ (n : ℕ). head segment generation base span n ++ bits) counted;
}
