-- Leaves that are laid into pages are where the tree says.
use Rattle.std.proofs.Common.{◌≡◌, ◌≤◌, ◌<◌, ◌+◌, ◌-◌, ◌*◌, ℕ, zero, suc, List, [], ◌∷◌, ◌++◌, length, take, drop, replicate, Bool}
use Rattle.std.proofs.Common.{true, false, refl, sym, ap, subst, ◌∙◌, arith, append_assoc, length-append, length-drop, map, inl, inr}
use Rattle.std.specs.Prelude.{if◌then◌else◌, nat_le}
use Rattle.std.proofs.lemmas.Bool.{lt-leb, le-leb, cases_lt}
use Rattle.std.proofs.lemmas.List.{take_at, drop_at, take-append-le, drop-append-le, length-take}
use Rattle.std.proofs.Math.Seq.{drop-append-add}
use Rattle.outer_io.specs.declared.file_name.FileName.{FileName}
use Rattle.inner_pack.specs.Places.{Spot, front, leaf_begin, leaf_end, end_of}
use Rattle.inner_pack.proofs.PlaceLemmas.{AreLengths, head_length, tail_lengths, fitted_here, fitted_next}
use Rattle.page_file.specs.Page.{payload_of}
use Rattle.page_file.proofs.Pages.{payload_of-length}
use Rattle.page_cache.specs.FilePages.{kind_of, number_of, page_at, IsFilePage, ArePages, payloads_of}
use Rattle.page_cache.specs.Bodies.{pages_for, padded_body}
use Rattle.page_cache.proofs.PageRuns.{payloads_join, payloads_of_one}
use Rattle.segment_file.specs.Segments.{part_of}
use Rattle.segment_file.specs.Pieced.{IsPaged, laid_pages}
use Rattle.segment_file.proofs.Lists.{filled_length}

begins_if : (b : Bool) (current leaf fits next : List ℕ) → (rest : List ℕ) × (fits ≡ (current ++ leaf) ++ rest)
    → (rest : List ℕ) × ((if b then fits else padded_body current ++ next) ≡ current ++ rest)
begins_if true current leaf fits next h = (leaf ++ h.0, h.1 ∙ append_assoc current leaf h.0)
begins_if false current leaf fits next h = (
  replicate (4064 * pages_for (length current) - length current) 0 ++ next,
  append_assoc current (replicate (4064 * pages_for (length current) - length current) 0) next,
)

-- the payloads begin with what stands already
pub laid_begins : (current : List ℕ) (leaves : List (List ℕ)) → (rest : List ℕ) × (laid_pages current leaves ≡ current ++ rest)
laid_begins current [] = (replicate (4064 * pages_for (length current) - length current) 0, refl)
laid_begins current (leaf ∷ leaves) =
    begins_if (nat_le (length current + length leaf) 4064) current leaf (laid_pages (current ++ leaf) leaves) (laid_pages leaf leaves)
    (laid_begins (current ++ leaf) leaves)

laid_here : (current leaf : List ℕ) (leaves : List (List ℕ)) → length current + length leaf ≤ 4064
    → laid_pages current (leaf ∷ leaves) ≡ laid_pages (current ++ leaf) leaves
laid_here current leaf leaves fits =
    ap (λ (b : Bool). if b then laid_pages (current ++ leaf) leaves else padded_body current ++ laid_pages leaf leaves)
    (le-leb (length current + length leaf) 4064 fits)

laid_next : (current leaf : List ℕ) (leaves : List (List ℕ)) → 4064 < length current + length leaf
    → laid_pages current (leaf ∷ leaves) ≡ padded_body current ++ laid_pages leaf leaves
laid_next current leaf leaves over =
    ap (λ (b : Bool). if b then laid_pages (current ++ leaf) leaves else padded_body current ++ laid_pages leaf leaves)
    (lt-leb (length current + length leaf) 4064 over)

-- the bytes stand at this spot of the leaf pages, of which the first is page `base`
pub record IsLaidAt (payloads : List ℕ) (base : ℕ) (s : Spot) (leaf : List ℕ) : Type 0 where
  pub here : take (length leaf) (drop (4064 * (base + s.page) + s.offset) payloads) ≡ leaf

abbrev pub AllLaidFrom : (payloads : List ℕ) (base : ℕ) → Spot → List (List ℕ) → Type 0
AllLaidFrom payloads base e [] = Unit {0}
AllLaidFrom payloads base e (leaf ∷ leaves) =
    IsLaidAt payloads base (leaf_begin e (length leaf)) leaf × AllLaidFrom payloads base (leaf_end (leaf_begin e (length leaf)) (length leaf)) leaves

stand : (pre leaf rest payloads : List ℕ) (k : ℕ) → length pre ≡ k → payloads ≡ pre ++ (leaf ++ rest) → take (length leaf) (drop k payloads) ≡ leaf
stand pre leaf rest payloads k len e =
    ap (λ (l : List ℕ). take (length leaf) (drop k l)) e ∙ ap (λ (l : List ℕ). take (length leaf) l) (drop_at pre (leaf ++ rest) k len)
    ∙ take_at leaf rest (length leaf) refl

pub record AreLaid (payloads : List ℕ) (base : ℕ) (e : Spot) (leaves : List (List ℕ)) : Type 0 where
  pub all : AllLaidFrom payloads base e leaves
  pub total : length payloads ≡ 4064 * (base + (end_of e (map length leaves)).page + 1)

add_first : (payloads : List ℕ) (base : ℕ) (e s : Spot) (leaf : List ℕ) (leaves : List (List ℕ)) → leaf_begin e (length leaf) ≡ s
    → IsLaidAt payloads base s leaf
    → AreLaid payloads base (leaf_end s (length leaf)) leaves
    → AreLaid payloads base e (leaf ∷ leaves)
add_first payloads base e s leaf leaves same here rest = record {
  all = subst (λ (x : Spot). IsLaidAt payloads base x leaf × AllLaidFrom payloads base (leaf_end x (length leaf)) leaves) (sym same) (here, rest.all);
  total = rest.total ∙ ap (λ (x : Spot). 4064 * (base + (end_of (leaf_end x (length leaf)) (map length leaves)).page + 1)) (sym same);
}

-- the last page holds something already
pub are_laid : (pre current payloads : List ℕ) (base : ℕ) (e : Spot) (leaves : List (List ℕ)) → length pre ≡ 4064 * (base + e.page) → e.offset ≡ length current
    → 1 ≤ length current → length current ≤ 4064
    → AreLengths (map length leaves) → payloads ≡ pre ++ laid_pages current leaves → AreLaid payloads base e leaves
are_laid pre current payloads base e [] front_is offset some few lengths same = record {
  all = tt;
  total =
      (let full = filled_length current in
      omega (arith, full, front_is, some, few, ap (λ (l : List ℕ). length l) same, length-append pre (padded_body current)));
}
are_laid pre current payloads base e (leaf ∷ leaves) front_is offset some few lengths same =
    let n = head_length (length leaf) (map length leaves) lengths in
    let others = tail_lengths (length leaf) (map length leaves) lengths in
    elim (cases_lt 4064 (length current + length leaf)) [
      | inl over ↦
          let s : Spot = record { page = e.page + 1; offset = 0 } in
          let full : length (padded_body current) ≡ 4064 = (let f = filled_length current in omega arith) in
          let next : payloads ≡ (pre ++ padded_body current) ++ laid_pages leaf leaves =
          same ∙ ap (λ (l : List ℕ). pre ++ l) (laid_next current leaf leaves over) ∙ sym (append_assoc pre (padded_body current) (laid_pages leaf leaves)) in
          let begin = laid_begins leaf leaves in
          let len : length (pre ++ padded_body current) ≡ 4064 * (base + (e.page + 1)) =
          omega (arith, length-append pre (padded_body current), full, front_is) in
          add_first payloads base e s leaf leaves (fitted_next e (length leaf) (omega arith))
          (record {
            here = stand (pre ++ padded_body current) leaf begin.0 payloads (4064 * (base + (e.page + 1)) + 0) (omega (arith, len))
                (next ∙ ap (λ (l : List ℕ). (pre ++ padded_body current) ++ l) begin.1);
          })
          (are_laid (pre ++ padded_body current) leaf payloads base (record { page = e.page + 1; offset = 0 + length leaf }) leaves len (omega arith) n.0 n.1
          others
          next)
      | inr fits ↦
          let next : payloads ≡ pre ++ laid_pages (current ++ leaf) leaves = same ∙ ap (λ (l : List ℕ). pre ++ l) (laid_here current leaf leaves fits) in
          let begin = laid_begins (current ++ leaf) leaves in
          let parts : payloads ≡ (pre ++ current) ++ (leaf ++ begin.0) =
          next ∙ ap (λ (l : List ℕ). pre ++ l) (begin.1 ∙ append_assoc current leaf begin.0) ∙ sym (append_assoc pre current (leaf ++ begin.0)) in
          let long = length-append current leaf in
          add_first payloads base e e leaf leaves (fitted_here e (length leaf) (omega arith))
          (record {
            here = stand (pre ++ current) leaf begin.0 payloads (4064 * (base + e.page) + e.offset)
                (omega (arith, length-append pre current, front_is, offset)) parts;
          })
          (are_laid pre (current ++ leaf) payloads base (record { page = e.page; offset = e.offset + length leaf }) leaves front_is (omega arith) (omega arith)
          (omega arith) others next)
    ]

-- the first leaf begins the first page
pub laid_first : (pre leaf payloads : List ℕ) (base : ℕ) (leaves : List (List ℕ)) → length pre ≡ 4064 * base → AreLengths (length leaf ∷ map length leaves)
    → payloads ≡ pre ++ laid_pages [] (leaf ∷ leaves)
    → AreLaid payloads base front (leaf ∷ leaves)
laid_first pre leaf payloads base leaves front_is lengths same =
    let n = head_length (length leaf) (map length leaves) lengths in
    let others = tail_lengths (length leaf) (map length leaves) lengths in
    let next : payloads ≡ pre ++ laid_pages leaf leaves = same ∙ ap (λ (l : List ℕ). pre ++ l) (laid_here [] leaf leaves (omega arith)) in
    let begin = laid_begins leaf leaves in
    add_first payloads base front front leaf leaves (fitted_here front (length leaf) (omega arith))
    (record { here = stand pre leaf begin.0 payloads (4064 * (base + 0) + 0) (omega arith) (next ∙ ap (λ (l : List ℕ). pre ++ l) begin.1) })
    (are_laid pre leaf payloads base (record { page = 0; offset = 0 + length leaf }) leaves (omega arith) (omega arith) n.0 n.1 others next)

-- ---- from the payloads of a file to its pages

payloads_length : (name : FileName) (bytes : List ℕ) (count : ℕ) → ArePages name bytes 0 count → length (payloads_of bytes 0 count) ≡ 4064 * count
unfolding payloads_of IsFilePage
payloads_length name bytes zero pages = refl
payloads_length name bytes (suc count) pages =
    let before = payloads_length name bytes count (λ n from below. pages n from (omega arith)) in
    let page = payload_of-length (kind_of name) (number_of name) (0 + count) (page_at bytes (0 + count)) (pages (0 + count) (omega arith) (omega arith)) in
    omega (arith, before, page, length-append (payloads_of bytes 0 count) (payload_of (page_at bytes (0 + count))))

page_payload : (name : FileName) (bytes : List ℕ) (page : ℕ) → IsFilePage name bytes page → length (payload_of (page_at bytes page)) ≡ 4064
unfolding IsFilePage
page_payload name bytes page valid = payload_of-length (kind_of name) (number_of name) page (page_at bytes page) valid

pub payloads_long : (name : FileName) (bytes : List ℕ) (from count : ℕ) → ArePages name bytes from (from + count)
    → length (payloads_of bytes from count) ≡ 4064 * count
unfolding payloads_of IsFilePage
payloads_long name bytes from zero pages = refl
payloads_long name bytes from (suc count) pages =
    let before = payloads_long name bytes from count (λ n low high. pages n low (omega arith)) in
    let page =
    payload_of-length (kind_of name) (number_of name) (from + count) (page_at bytes (from + count)) (pages (from + count) (omega arith) (omega arith)) in
    omega (arith, before, page, length-append (payloads_of bytes from count) (payload_of (page_at bytes (from + count))))

pub record StandsIn (name : FileName) (bytes : List ℕ) (page offset : ℕ) (leaf : List ℕ) : Type 0 where
  pub valid : IsFilePage name bytes page
  pub part : part_of offset (length leaf) (page_at bytes page) ≡ leaf

pub stands_in : (name : FileName) (bytes payloads : List ℕ) (count page offset : ℕ) (leaf : List ℕ) → IsPaged name count payloads bytes → 1 ≤ length leaf
    → offset + length leaf ≤ 4064
    → take (length leaf) (drop (4064 * page + offset) payloads) ≡ leaf → StandsIn name bytes page offset leaf
stands_in name bytes payloads count page offset leaf p some fits here =
    let k = 4064 * page + offset in
    let whole = payloads_length name bytes count p.pages in
    let total : length payloads ≡ 4064 * count = sym (ap (λ (l : List ℕ). length l) p.payloads_are) ∙ whole in
    let taken : length leaf ≤ length payloads - k =
    omega (arith, ap (λ (l : List ℕ). length l) here, length-take (length leaf) (drop k payloads), length-drop k payloads) in
    let inside : page < count = omega arith in
    let split : page + (1 + (count - page - 1)) ≡ count = omega arith in
    let A = payloads_of bytes 0 page in
    let B = payload_of (page_at bytes page) in
    let C = payloads_of bytes (page + 1) (count - page - 1) in
    let parts : payloads ≡ A ++ (B ++ C) =
    sym p.payloads_are ∙ ap (λ (n : ℕ). payloads_of bytes 0 n) (sym split) ∙ payloads_join bytes 0 page (1 + (count - page - 1))
    ∙ ap (λ (l : List ℕ). A ++ l)
    (ap (λ (n : ℕ). payloads_of bytes n (1 + (count - page - 1))) (let z : 0 + page ≡ page = omega arith in z) ∙ payloads_join bytes page 1 (count - page - 1)
    ∙ ap (λ (l : List ℕ). l ++ C) (payloads_of_one bytes page)) in
    let valid = p.pages page (omega arith) inside in
    let long : length B ≡ 4064 = page_payload name bytes page valid in
    let front_is : length A ≡ 4064 * page = payloads_length name bytes page (λ n from below. p.pages n from (omega arith)) in
    let dropped : drop k payloads ≡ drop offset B ++ C =
    ap (λ (l : List ℕ). drop k l) parts ∙ ap (λ (m : ℕ). drop (m + offset) (A ++ (B ++ C))) (sym front_is) ∙ drop-append-add A (B ++ C) offset
    ∙ drop-append-le offset B C (omega arith) in
    record {
      valid = valid;
      part = sym (take-append-le (length leaf) (drop offset B) C (omega (arith, length-drop offset B)))
          ∙ ap (λ (l : List ℕ). take (length leaf) l) (sym dropped) ∙ here;
    }
