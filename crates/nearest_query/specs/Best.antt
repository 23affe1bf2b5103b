-- What is kept of the entries seen so far.
use Rattle.std.specs.Prelude.{ℕ, ◌≡◌, ◌≤◌, ◌<◌, ◌+◌, ◌↔◌, Some, IsTrue, true, false, List, ◌∷◌, ◌++◌, All, sum_by}
use Rattle.std.specs.Prelude.{length, nat_eq, nat_le, not, if◌then◌else◌}
use Rattle.std.specs.declared.cmp.Ordering.{Ordering}
use Rattle.std.specs.declared.cmp.Ordering.TheVariants.{Less}
use Rattle.std.specs.Ordering.{nat_cmp, ordering_then, is_lt}
use Rattle.std.specs.BTreeSet as sorted
use Rattle.std.specs.HashMap as hash
use Rattle.point_codec.specs.declared.entries.Near.{Near}
use Rattle.nearest_query.specs.declared.candidates.Candidates.{Candidates}
use Rattle.nearest_query.specs.declared.many.Many.{Many}
use Rattle.documents.specs.NearestEntries.{IsNearest}

-- by distance, and where that is equal by number
abbrev pub near_cmp : Near → Near → Ordering
near_cmp a b = ordering_then (nat_cmp a.dist2 b.dist2) (nat_cmp a.doc b.doc)

-- the distance that is kept of each number is that with which the number stands in order
unfoldable pub AreLinked : Many → Type 0
AreLinked c = (n : Near)
    → (hash.get nat_eq c.distances n.doc ≡ Some n.dist2) ↔ IsTrue (sorted.contains near_cmp c.in_order n)

-- many numbers, which are the nearest among the entries
pub record AreKept (entries : List Near) (c : Many) : Type 0 where
  pub some : 1 ≤ c.room
  pub linked : AreLinked c
  pub nearest : IsNearest c.room entries c.in_order.keys

-- the number was put in order and its distance kept
pub record IsInserted (n : Near) (old new : Many) : Type 0 where
  pub room : new.room ≡ old.room
  pub placed : sorted.Updates near_cmp old.in_order new.in_order n true
  pub counted : length new.in_order.keys ≡ length old.in_order.keys +
      (if not (sorted.contains near_cmp old.in_order n) then 1 else 0)
  pub ordered : sorted.IsOrdered near_cmp new.in_order
  pub kept : hash.Updates nat_eq old.distances new.distances n.doc (Some n.dist2)

-- the entry was put behind those that come before it and in front of one that doesn't
pub record IsInsertedAmong (n : Near) (old new : List Near) : Type 0 where
  pub front : List Near
  pub back : List Near
  pub before : old ≡ front ++ back
  pub after : new ≡ front ++ n ∷ back
  pub nearer : All (λ a. near_cmp a n ≡ Less) front
  pub others : (x : Near) (xs : List Near) → back ≡ x ∷ xs → is_lt (near_cmp x n) ≡ false

-- the candidates in order: in the one vector where there are at most 64 places
abbrev pub found_of : Candidates → List Near
found_of c = if nat_le c.many.room 64 then c.few.items else c.many.in_order.keys

-- the candidates are the nearest numbers among the entries
pub record AreBest (entries : List Near) (c : Candidates) : Type 0 where
  pub some : 1 ≤ c.many.room
  pub linked : AreLinked c.many
  pub nearest : IsNearest c.many.room entries (found_of c)

-- all places are taken by numbers that are nearer than this distance
abbrev pub AreNearer : ℕ → Candidates → Type 0
AreNearer dist2 c = (c.many.room ≤ length (found_of c)) × All (λ a. a.dist2 < dist2) (found_of c)

-- so many entries were seen: those seen before, and these
pub record AreAdded (seen entries : List Near) (c : Candidates) : Type 0 where
  pub after : List Near
  pub best : AreBest after c
  pub totals : (f : Near → ℕ) → sum_by f after ≡ sum_by f seen + sum_by f entries
