-- The dimensions are those of the items that the fields say exactly where none that varies is narrower than the sorted one.
use Rattle.std.proofs.Common.{◌≡◌, ◌<◌, ◌≤◌, ℕ, Bool, get_or, take, refl, sym, ap, ◌∙◌, arith, ltb, inl, inr, unwrap_or, ltb-true}
use Rattle.std.proofs.lemmas.Bool.{cases_eq, lt-ltb}
use Rattle.std.specs.Prelude.{List}
use Rattle.leaf_codec.specs.declared.read_parts.Parts.{Parts}
use Rattle.leaf_codec.specs.Dimensions.{different, count_values, shared_prefix, narrowest}
use Rattle.leaf_codec.specs.Raw.{RawNumbers, raw_items}
use Rattle.leaf_codec.specs.Views.{IsParts, AreDimensionsOf, IsWide, raw_keys_of}
use Rattle.leaf_codec.proofs.DimensionsFound.{shared_spreads, lengths_found, sorted_found_in}
use Rattle.leaf_codec.proofs.NarrowestOf.{none_narrower, narrowest_from, narrowest_still}
use Rattle.leaf_codec.proofs.NoneVaries.{count_values-le}
use Rattle.leaf_codec.proofs.SeenBytes.{has_value}
use Rattle.leaf_codec.proofs.SpreadLemmas.{spread_sorted}
use Rattle.leaf_codec.proofs.Written.{get_or-lengths}

-- how many values the byte behind the prefix that is said takes in dimension d
abbrev pub spread_said : ℕ → RawNumbers → Parts → ℕ → ℕ
spread_said D n p d = different d (get_or p.lengths.now d 0) (raw_items D p.count n (raw_keys_of p))

abbrev moves_said : Parts → ℕ → Bool
moves_said p d = ltb (get_or p.lengths.now d 0) 4

-- the dimensions are those of the items
abbrev pub AreTheirs : ℕ → RawNumbers → Parts → Type 0
AreTheirs D n p = AreDimensionsOf D (raw_items D p.count n (raw_keys_of p)) p.lengths.now p.sorted

-- the spread is that of the sorted dimension
abbrev pub IsSpread : ℕ → RawNumbers → Parts → ℕ → Type 0
IsSpread D n p least = least ≡ spread_said D n p p.sorted

pub is_spread : (D : ℕ) (n : RawNumbers) (p : Parts) (least : ℕ) → IsParts D p → p.sorted < D → least ≡ count_values (has_value (take p.count p.table))
    → IsSpread D n p least
is_spread D n p least h lt is = is ∙ spread_sorted D p.sorted n p h lt refl

sorted_moves : (D : ℕ) (p : Parts) → IsParts D p → p.sorted < D → get_or p.lengths.now p.sorted 0 < 4
sorted_moves D p h lt = h.raw.sorts.moves (omega (arith, lt, h.raw.dims))

pub two_of : (D : ℕ) (n : RawNumbers) (p : Parts) (least : ℕ) → IsParts D p → p.sorted < D → IsSpread D n p least → AreTheirs D n p → 2 ≤ least
two_of D n p least h lt is a =
    let items = raw_items D p.count n (raw_keys_of p) in
    let same : shared_prefix p.sorted items ≡ get_or p.lengths.now p.sorted 0 =
    sym (get_or-lengths D p.sorted items lt) ∙ ap (λ (t : List ℕ). get_or t p.sorted 0) a.lengths_are in
    let spreads = shared_spreads p.sorted items (omega (arith, same, sorted_moves D p h lt)) in
    omega (arith, is, ap (λ m. different p.sorted m items) same, spreads)

pub wide_of : (D : ℕ) (n : RawNumbers) (p : Parts) (least d : ℕ) → p.sorted < D → IsSpread D n p least → AreTheirs D n p → d < D
    → IsWide (raw_items D p.count n (raw_keys_of p)) p.lengths.now p.sorted least d
wide_of D n p least d lt is a within apart moves =
    let found : unwrap_or (narrowest D (moves_said p) (spread_said D n p)) D ≡ p.sorted =
    sorted_found_in D p.count n (raw_keys_of p) a.lengths_are ∙ a.sorted_is in
    omega (
      arith,
      is,
      none_narrower D p.sorted (moves_said p) (spread_said D n p) (λ e. count_values-le _) found lt d within apart (lt-ltb (get_or p.lengths.now d 0) 4 moves),
    )

pub dimensions_from : (D : ℕ) (n : RawNumbers) (p : Parts) (least : ℕ) → IsParts D p → p.sorted < D → IsSpread D n p least → 2 ≤ least
    → ((d : ℕ) → d < D → IsWide (raw_items D p.count n (raw_keys_of p)) p.lengths.now p.sorted least d) → AreTheirs D n p
dimensions_from D n p least h lt is two wide =
    let r = raw_keys_of p in
    let lengths = lengths_found D p.count n r h.raw
    (λ d under moves. elim (cases_eq d p.sorted) [
      | inl same ↦ omega (arith, ap (spread_said D n p) same, is, two)
      | inr apart ↦ omega (arith, wide d under apart moves, two)
    ]) in
    record {
      lengths_are = lengths;
      sorted_is = sym (sorted_found_in D p.count n r lengths)
          ∙ narrowest_from D p.sorted (moves_said p) (spread_said D n p) (λ e. count_values-le _) lt
          (lt-ltb (get_or p.lengths.now p.sorted 0) 4 (sorted_moves D p h lt))
          (λ e under apart also. omega (arith, is, wide e under apart (ltb-true (get_or p.lengths.now e 0) 4 also)));
    }

pub dimensions_still : (D : ℕ) (n : RawNumbers) (p : Parts) → IsParts D p → p.sorted ≡ D → AreTheirs D n p
dimensions_still D n p h none =
    let r = raw_keys_of p in
    let four : (d : ℕ) → d < D → get_or p.lengths.now d 0 ≡ 4 = λ d under. h.raw.sorts.still (none ∙ sym h.raw.dims) d 0 (omega (arith, under, h.raw.dims)) in
    let lengths = lengths_found D p.count n r h.raw (λ d under moves. absurd (omega (arith, moves, four d under))) in
    record {
      lengths_are = lengths;
      sorted_is = sym (sorted_found_in D p.count n r lengths)
          ∙ narrowest_still D (moves_said p) (spread_said D n p) (λ e. count_values-le _)
          (λ e under also. omega (arith, four e under, ltb-true (get_or p.lengths.now e 0) 4 also))
          ∙ sym none;
    }
