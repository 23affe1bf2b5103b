-- What is taken out of a list makes it no longer, and found documents read either way.
use Rattle.std.proofs.Common.{◌≡◌, ℕ, ◌≤◌, ◌^◌, ℤ, suc, cond, Bool, true, false, List, [], ◌∷◌, length, map, filter, refl, ap, arith}
use Rattle.std.proofs.lemmas.List.{length-map}
use Rattle.point_codec.specs.declared.entries.Near.{Near}
use Rattle.documents.specs.Documents.{Document, hits, passes}
use Rattle.documents.specs.Nearest as nearest
use Rattle.script_lang.specs.Replies as replies
use Rattle.index_model.specs.Sessions.{AreGiven}

kept_fewer : {X : Type 0} (test : X → Bool) (xs : List X) → length (filter test xs) ≤ length xs
kept_fewer test [] = omega arith
kept_fewer test (x ∷ xs) = elim (test x) as (λ b. length (cond b (x ∷ filter test xs) (filter test xs)) ≤ suc (length xs)) [
  | true ↦ omega (arith, kept_fewer test xs)
  | false ↦ omega (arith, kept_fewer test xs)
]

pub still_given : (next points_given : ℕ) (docs : List Document) (test : Document → Bool)
    → AreGiven next points_given docs → AreGiven next points_given (filter test docs)
still_given next points_given docs test h = record { fewer = h.fewer; limit = h.limit; docs = omega (arith, h.docs, kept_fewer test docs) }

pub few_hits : (next points_given : ℕ) (docs : List Document) (test : List ℤ → Bool) → AreGiven next points_given docs → length (hits test docs) ≤ 2 ^ 24
few_hits next points_given docs test h =
    let same : length (hits test docs) ≡ length (filter (passes test) docs) = length-map (filter (passes test) docs) (λ d. d.number) in
    omega (arith, h.docs, h.fewer, h.limit, kept_fewer (passes test) docs)

pub numbers_first : (ns : List Near) → map (λ found. (found.1, found.0)) (nearest.found_of ns) ≡ replies.found_of ns
numbers_first [] = refl
numbers_first (n ∷ ns) = ap (λ found. (n.doc, n.dist2) ∷ found) (numbers_first ns)
