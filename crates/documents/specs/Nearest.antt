-- The documents nearest to a point, over one list.
use Rattle.std.specs.Prelude.{ℕ, min, List, [], ◌∷◌, map, take, fold, ℤ}
use Rattle.std.specs.declared.cmp.Ordering.{Ordering}
use Rattle.std.specs.Ordering.{nat_cmp, ordering_then}
use Rattle.point_codec.specs.Points.{dist2}
use Rattle.point_codec.specs.Order.{in_order}
use Rattle.point_codec.specs.declared.entries.Near.{Near}
use Rattle.documents.specs.Documents.{Document}

-- a document's distance from a point is the least squared distance of its points; a document has a point
abbrev pub distance : List ℤ → List (List ℤ) → ℕ
distance at [] = 0
distance at (p ∷ ps) = fold min (dist2 p at) (map (λ q. dist2 q at) ps)

-- by distance, and where that is equal by number
abbrev pub nearer : ℕ × ℕ → ℕ × ℕ → Ordering
nearer a b = ordering_then (nat_cmp a.0 b.0) (nat_cmp a.1 b.1)

-- each document's distance and number
abbrev pub distances : List ℤ → List Document → List (ℕ × ℕ)
distances at docs = map (λ d. (distance at d.points, d.number)) docs

-- the k nearest documents, each as its distance and number: the first k in ascending order
abbrev pub nearest : ℕ → List ℤ → List Document → List (ℕ × ℕ)
nearest k at docs = take k (in_order nearer (distances at docs))

-- found documents as distances and numbers
abbrev pub found_of : List Near → List (ℕ × ℕ)
found_of nears = map (λ n. (n.dist2, n.doc)) nears
