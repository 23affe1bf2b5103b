-- Documents of one point each that are added all at once: one segment is built of them.
use Rattle.std.specs.Prelude.{◌≡◌, ◌+◌, ℕ, ℤ, List, [], ◌∷◌, ◌++◌, length, map, fold, EachIndex, slice_index}
use Rattle.point_codec.specs.Points.{Item}
use Rattle.point_codec.specs.declared.entries.Entry.{Entry}
use Rattle.index_model.specs.State.{Index}
use Rattle.segment_set.specs.Merges.{IsBufferWritten}
use Rattle.segment_set.specs.Settles.{SetMoment}

-- the points of entries, in their order
abbrev pub points_in : {D : ℕ} → List (Entry D) → List (List ℤ)
points_in entries = map (λ e. e.point.c) entries

-- the entries have the numbers from first on, in their order
abbrev pub AreNumbered : {D : ℕ} → ℕ → List (Entry D) → Type 0
AreNumbered first entries = EachIndex entries (λ k. slice_index (map (λ e. e.doc) entries) k ≡ first + k)

-- the index with a document of one point more
abbrev pub with_point : Index → List ℤ → Index
with_point i point =
    record i {
      next = i.next + 1;
      points_given = i.points_given + 1;
      docs = i.docs ++ record { number = i.next; points = point ∷ [] }
          ∷ [];
    }

-- and with one for each point, in their order
abbrev pub with_points : Index → List (List ℤ) → Index
with_points i points = fold with_point i points

-- these entries, a document each, went to one segment, and their numbers and points are counted
pub record WritesEntries (D : ℕ) (told : Type 0) (items : List Item) (old new : SetMoment) : Type 0 where
  pub written : IsBufferWritten D told old.set.leaf_size old.set.names new.set.names new.files items old.set.parts
      new.set.parts
  pub rest : new.set ≡ record old.set {
    names = new.set.names;
    parts = new.set.parts;
    next = old.set.next + length items;
    points_given = old.set.points_given + length items;
  }
