-- The elements of arrays, as a program goes over them.
use Rattle.std.proofs.Common.{◌≡◌, ℕ, ◌+◌, ◌<◌, List, [], ◌∷◌, length, drop, get_or, map, Some, None, refl, ap, add-one}
use Rattle.std.proofs.Math.Seq.{drop-cons}
use Rattle.serde_json.specs.Data.{Data}
use Rattle.serde_json.specs.Find.{as_array}
use Rattle.serde_json.specs.View.{view, items_of, items_view}
use Rattle.serde_json.specs.declared.value.Value.{Value}
use Rattle.polygon_query.specs.GeoJson.{list_of, elements}

list_of-items_of : (ds : List Data) → list_of (items_of ds) ≡ ds
list_of-items_of [] = refl
list_of-items_of (d ∷ ds) = ap (λ es. d ∷ es) (list_of-items_of ds)

pub elements-array : (d : Data) (vs : List Value) → Some (items_view vs) ≡ as_array d → elements d ≡ map view vs
elements-array d vs h = rw (← h) (list_of-items_of (map view vs))

pub elements-none : (d : Data) → None ≡ as_array d → elements d ≡ []
elements-none d h = rw (← h) refl

-- the elements from i on: element i, and those after it
pub view_dropped : (vs : List Value) (i : ℕ) (v : Value) → i < length vs → v ≡ get_or vs i v → map view (drop i vs) ≡ view v ∷ map view (drop (i + 1) vs)
view_dropped vs i v h e = rw (drop-cons vs i v, add-one, ← e) refl

pub ruleset arrays = (elements-array, elements-none)
