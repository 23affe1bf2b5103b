-- What the definitions see of the types of this crate: plain lists of whole numbers.
use Rattle.std.specs.Prelude.{ℕ, List, ℤ, map}
use Rattle.point_codec.specs.Points.{Region, Item}
use Rattle.point_codec.specs.declared.coordinates.Point.{Point}
use Rattle.point_codec.specs.declared.boxes.Cell.{Cell}
use Rattle.point_codec.specs.declared.entries.Entry.{Entry}

-- the points, each as the list of its coordinates
abbrev pub coordinates_of : {D : ℕ} → List (Point D) → List (List ℤ)
coordinates_of points = map (λ p. p.c) points

-- a cell as its two ends
abbrev pub region_of : {D : ℕ} → Cell D → Region
region_of cell = record { lo = cell.lo.c; hi = cell.hi.c }

-- entries as numbers with their points
abbrev pub items_of : {D : ℕ} → List (Entry D) → List Item
items_of entries = map (λ e. record { doc = e.doc; at = e.point.c }) entries
