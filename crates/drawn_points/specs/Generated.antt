-- The generated index, and what is said of it.
use Rattle.std.specs.Prelude.{ℕ, ◌+◌, ◌%◌, ◌==◌, Bool, not, ◌&&◌, nat_lt, List, [], ◌∷◌, ◌++◌, length, map, filter}
use Rattle.std.specs.Prelude.{fold, None, Some, codes, decimal, ℤ, pos, ◌+ℤ◌, ◌-ℤ◌}
use Rattle.std.specs.List.{range_with_len, sum_by}
use Rattle.point_codec.specs.Points.{Region, in_box}
use Rattle.documents.specs.Documents.{Document, hits}
use Rattle.documents.specs.Nearest.{nearest}
use Rattle.script_lang.specs.Requests.{Request, Create, Add, Delete}
use Rattle.script_lang.specs.Replies.{text_line}
use Rattle.index_model.specs.State.{State}
use Rattle.index_model.specs.Step.{step, left_by}
use Rattle.index_model.specs.Script.{Answer}
use Rattle.drawn_points.specs.Draws.{point, points}

-- ---- the index

abbrev pub after : State → Request → State
after state request = left_by state (step state request)

-- a document for each of the first n points
abbrev pub adds : ℕ → ℕ → List Request
adds seed n = map (λ i. Add (point seed i ∷ [])) (range_with_len 0 n)

-- every document goes whose number is below n and a multiple of 10
abbrev pub deletes : ℕ → List Request
deletes n = map Delete (filter (λ i. i % 10 == 0) (range_with_len 0 n))

-- an index of 2 dimensions with leaves as large as they may be, its documents, and those that go
abbrev pub requests : ℕ → ℕ → List Request
requests seed n = Create 2 333 ∷ adds seed n ++ deletes n

unfoldable pub made_state : ℕ → ℕ → State
made_state seed n = fold after None (requests seed n)

abbrev pub docs_of : State → List Document
docs_of None = []
docs_of (Some i) = i.docs

-- ---- what is said of it

-- the box that reaches 5,000 from a point in each direction
abbrev pub box_round : List ℤ → Region
box_round center = record { lo = map (λ c. c -ℤ pos 5000) center; hi = map (λ c. c +ℤ pos 5000) center }

-- the hits of all boxes round the points
abbrev pub box_hits : List Document → List (List ℤ) → ℕ
box_hits docs centers = sum_by (λ center. length (hits (in_box (box_round center)) docs)) centers

-- the squared distances of all answers to the points' queries for the nearest 10
abbrev pub near_sum : List Document → List (List ℤ) → ℕ
near_sum docs targets = sum_by (λ target. sum_by (λ found. found.0) (nearest 10 target docs)) targets

-- after the documents' points come those of 64 boxes, and then those of 16 queries
abbrev pub summary : ℕ → ℕ → List Document → List ℕ
summary seed n docs =
    text_line (codes "docs " ++ decimal n ++ codes " live " ++ decimal (length docs))
    ++ text_line (codes "box hits " ++ decimal (box_hits docs (points seed n 64)))
    ++ text_line (codes "nearest sum " ++ decimal (near_sum docs (points seed (n + 64) 16)))

-- what is answered and left: an index is made only where none is
unfoldable pub generate_answer : State → ℕ → ℕ → Answer
generate_answer None n seed =
    record { state = made_state seed n; text = summary seed n (docs_of (made_state seed n)); refused = 0 }
generate_answer (Some i) n seed = record { state = Some i; text = text_line (codes "index exists"); refused = 1 }

-- ---- the documents, said at once

abbrev pub document : ℕ → ℕ → Document
document seed i = record { number = i; points = point seed i ∷ [] }

abbrev pub documents : ℕ → ℕ → List Document
documents seed n = map (document seed) (range_with_len 0 n)

-- those that stay where the multiples of 10 below the bound have gone
abbrev pub stays : ℕ → Document → Bool
stays bound d = not (nat_lt d.number bound && d.number % 10 == 0)

abbrev pub kept_docs : ℕ → List Document → List Document
kept_docs bound docs = filter (stays bound) docs
