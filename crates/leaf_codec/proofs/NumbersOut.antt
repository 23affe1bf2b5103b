-- The numbers of a leaf, all together.
use Rattle.std.proofs.Common.{◌≡◌, ◌+◌, ℕ, List, [], ◌∷◌, ◌++◌, map, refl, sym, ap, ◌∙◌, arith}
use Rattle.std.proofs.lemmas.List.{append-nil}
use Rattle.std.specs.List.{range_with_len}
use Rattle.std.proofs.lemmas.List.FromFn.{map-range_with_len_more}
use Rattle.point_codec.specs.Points.{Item}
use Rattle.leaf_codec.specs.Raw.{RawNumbers, RawKeys, offset_at, raw_docs, raw_item, raw_items}

-- the numbers with one more, the least and its offset
pub docs_more : (i : ℕ) (r : RawNumbers) → raw_docs (i + 1) r ≡ raw_docs i r ++ (r.least + offset_at r i) ∷ []
unfolding raw_docs
docs_more i r = map-range_with_len_more (λ k. r.least + offset_at r k) 0 i i (omega arith)

each_said : (D : ℕ) (numbers : RawNumbers) (r : RawKeys) (ks : List ℕ)
    → map (λ (x : Item). x.doc) (map (raw_item D numbers r) ks) ≡ map (λ k. numbers.least + offset_at numbers k) ks
unfolding raw_item
each_said D numbers r [] = refl
each_said D numbers r (k ∷ ks) = ap (λ (ns : List ℕ). (numbers.least + offset_at numbers k) ∷ ns) (each_said D numbers r ks)

-- they are those of the entries
pub docs_said : (D n : ℕ) (numbers : RawNumbers) (r : RawKeys) → map (λ (x : Item). x.doc) (raw_items D n numbers r) ≡ raw_docs n numbers
unfolding raw_items raw_docs
docs_said D n numbers r = each_said D numbers r (range_with_len 0 n)

-- before the first number nothing is put
pub docs_none : (old now : List ℕ) (r : RawNumbers) → now ≡ old → now ≡ old ++ raw_docs 0 r
unfolding raw_docs
docs_none old now r is = is ∙ sym (append-nil old)
