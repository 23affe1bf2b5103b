-- Entries that are numbered from a first number on, and one more.
use Rattle.std.proofs.Common.{◌≡◌, ℕ, ◌+◌, ◌-◌, ◌≤◌, ◌^◌, ◌++◌, List, [], ◌∷◌, length, map, get_or, ℤ, ap, ◌∙◌, inl, inr, arith}
use Rattle.std.specs.Prelude.{EachIndex, slice_index, min}
use Rattle.std.proofs.lemmas.Bool.{cases_Bool, ltb-false, ltb-true}
use Rattle.std.proofs.Common.{ltb}
use Rattle.std.proofs.lemmas.List.{get_or_append_left, get_or_push, length-append, length-map, map-append}
use Rattle.point_codec.specs.declared.entries.Entry.{Entry}

-- the points of entries
abbrev pub points_in : {D : ℕ} → List (Entry D) → List (List ℤ)
points_in entries = map (λ e. e.point.c) entries

-- the entries have the numbers from first on, where these are numbers of 32 bits
abbrev pub AreFrom : {D : ℕ} → ℕ → List (Entry D) → Type 0
AreFrom first entries =
    first + length entries ≤ 2 ^ 32 → EachIndex entries (λ k. slice_index (map (λ e. e.doc) entries) k ≡ first + k)

pub from_none : {D : ℕ} (first : ℕ) (entries : List (Entry D)) → entries ≡ [] → AreFrom first entries
from_none first entries none = λ fits k lt. absurd (omega (arith, lt, ap length none))

-- the next number, which stays where there is none of 32 bits
abbrev pub next_of : ℕ → ℕ → ℕ
next_of first count = min (first + count) 4294967295

pub from_more : {D : ℕ} (first : ℕ) (entries : List (Entry D)) (e : Entry D) → e.doc ≡ next_of first (length entries) → AreFrom first entries
    → AreFrom first (entries ++ e ∷ [])
from_more {D} first entries e is from = λ fits k lt.
    let numbers : List (Entry D) → List ℕ = λ es. map (λ (x : Entry D). x.doc) es in
    let long = length-append entries (e ∷ []) in
    let split = map-append (λ (x : Entry D). x.doc) entries (e ∷ []) in
    let counted = length-map entries (λ (x : Entry D). x.doc) in
    elim (cases_Bool (ltb k (length entries))) [
      | inl inside ↦ ap (λ ns. get_or ns k 0) split
          ∙ get_or_append_left (numbers entries) (numbers (e ∷ [])) 0 k (omega (arith, counted, ltb-true k (length entries) inside))
          ∙ from (omega (arith, fits, long)) k (ltb-true k (length entries) inside)
      | inr behind ↦
          let last : k ≡ length entries = omega (arith, lt, long, ltb-false k (length entries) behind) in
          let number : e.doc ≡ first + k = omega (arith, is, last, fits, long) in
          ap (λ ns. get_or ns k 0) split ∙ get_or_push (numbers entries) e.doc 0 k (omega (arith, counted, last)) ∙ number
    ]
