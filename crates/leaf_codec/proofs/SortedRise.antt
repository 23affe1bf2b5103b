-- The sorted bytes of entries in leaf order never fall.
use Rattle.std.proofs.Common.{◌≡◌, ◌<◌, ◌≤◌, ◌+◌, ◌-◌, ◌*◌, ◌^◌, ℕ, Bool, List, get_or, take, drop, refl, ap, subst, ◌∙◌, arith}
use Rattle.std.proofs.Common.{cond, eqb, ltb, inl, inr, mul-le-mul_right}
use Rattle.std.proofs.lemmas.Bool.{cases_lt, eq-eqb, lt-ltb, cond-true}
use Rattle.std.proofs.lemmas.List.Elements.{All-take, All-drop}
use Rattle.point_codec.specs.Points.{Region}
use Rattle.leaf_codec.specs.declared.read_numbers.Numbers.{Numbers}
use Rattle.leaf_codec.specs.declared.read_parts.Parts.{Parts}
use Rattle.leaf_codec.specs.Raw.{RawKeys, AreRawKeys, start_of, gap_of, place_of}
use Rattle.leaf_codec.specs.Views.{IsParts, AscendInside, NeverFall, items_said, raw_numbers_of, raw_keys_of}
use Rattle.leaf_codec.specs.Words.{number_of}
use Rattle.leaf_codec.proofs.Bytes.{number_of-lt}
use Rattle.leaf_codec.proofs.OrderedKeys.{rank_of, less_rank}
use Rattle.leaf_codec.proofs.ReadKeys.{key_parts, key_number}
use Rattle.leaf_codec.proofs.ViewLemmas.{up_at}

-- of two numbers with one front, the one that isn't the greater has no greater middle
middle_le : (scale front a b x y : ℕ) → y < scale → front + a * scale + x ≤ front + b * scale + y → a ≤ b
middle_le scale front a b x y lt le = elim (cases_lt b a) [
  | inl under ↦
      let more : b + 1 ≤ a = omega arith in
      let rows : (b + 1) * scale ≤ a * scale = mul-le-mul_right scale more in
      absurd (omega (arith, rows, lt, le))
  | inr over ↦ over
]

bytes_rise : (D n i j : ℕ) (r : RawKeys) → AreRawKeys D n r → i < n → j < n → r.sorted < D → rank_of D r i r.sorted ≤ rank_of D r j r.sorted
    → get_or r.bytes i 0 ≤ get_or r.bytes j 0
bytes_rise D n i j r h here there lt le =
    let small = λ (x : ℕ). x < 256 in
    let gap = gap_of r.lengths r.sorted r.sorted in
    let front = number_of (take (get_or r.lengths r.sorted 0) (drop (start_of r.lengths r.sorted) r.prefixes)) * 256 ^ (4 - get_or r.lengths r.sorted 0) in
    let left : ℕ → List ℕ = λ k. take gap (drop (k * place_of r.lengths r.sorted D + place_of r.lengths r.sorted r.sorted) r.rests) in
    let scale : cond (eqb r.sorted r.sorted) (256 ^ gap) 0 ≡ 256 ^ gap = ap (λ (t : Bool). cond t (256 ^ gap) 0) (eq-eqb r.sorted r.sorted refl) in
    let bytes = All-take small gap _ (All-drop small (j * place_of r.lengths r.sorted D + place_of r.lengths r.sorted r.sorted) r.rests h.rest_bytes) in
    let low : number_of (left j) < 256 ^ gap =
    omega (arith, number_of-lt (left j) bytes, ap (λ m. 256 ^ m) (key_parts D n r j r.sorted h there lt).back) in
    let number : (k : ℕ) → k < n → rank_of D r k r.sorted ≡ front + get_or r.bytes k 0 * 256 ^ gap + number_of (left k) = λ k under.
    key_number D n r k r.sorted h under lt ∙ ap (λ m. front + get_or r.bytes k 0 * m + number_of (left k)) scale in
    middle_le (256 ^ gap) front (get_or r.bytes i 0) (get_or r.bytes j 0) (number_of (left i)) (number_of (left j)) low
    (omega (arith, le, number i here, number j there))

pub sorted_rise : (D : ℕ) (n : Numbers) (p : Parts) (cell : Region) → IsParts D p → p.count ≡ n.count
    → AscendInside (cond (ltb p.sorted D) p.sorted 0) cell (items_said D n p) → p.sorted < D → NeverFall (take p.count p.table)
sorted_rise D n p cell h counted a lt k under =
    let next : k + 1 < p.count = omega (arith, under, h.raw.counted) in
    let here : k < p.count = omega (arith, next) in
    let leads : cond (ltb p.sorted D) p.sorted 0 ≡ p.sorted = cond-true (ltb p.sorted D) p.sorted 0 (lt-ltb p.sorted D lt) in
    let by = subst (λ (d : ℕ). AscendInside d cell (items_said D n p)) leads a in
    let less = up_at D n.count k p.sorted (raw_numbers_of n) (raw_keys_of p) cell by (omega (arith, next, counted)) in
    bytes_rise D p.count k (k + 1) (raw_keys_of p) h.raw here next lt (less_rank D p.sorted k (k + 1) (raw_numbers_of n) (raw_keys_of p) lt less)
