-- Where the leaves stand in the leaf pages of a segment: one behind the other, none over the end of a page.
use Rattle.std.specs.Prelude.{ℕ, ◌+◌, if◌then◌else◌, nat_le, List, [], ◌∷◌}

-- a leaf page, counted from 0, and an offset in its payload of 4,064 bytes
pub record Spot : Type 0 where
  pub page : ℕ
  pub offset : ℕ

abbrev pub spot_at : ℕ → ℕ → Spot
spot_at page offset = record { page = page; offset = offset }

-- the first leaf begins here
abbrev pub front : Spot
front = record { page = 0; offset = 0 }

-- where a leaf of so many bytes begins that comes next behind e: right there where it ends within the page, and else
-- at the front of the next page
abbrev pub leaf_begin : Spot → ℕ → Spot
leaf_begin e length = if nat_le (e.offset + length) 4064 then e else record { page = e.page + 1; offset = 0 }

-- where a leaf of so many bytes that begins at s ends
abbrev pub leaf_end : Spot → ℕ → Spot
leaf_end s length = record { page = s.page; offset = s.offset + length }

-- where a leaf begins, and how long it is
pub record LeafSpan : Type 0 where
  pub at : Spot
  pub length : ℕ

-- the leaves of these lengths in order, the first one next behind e
abbrev pub leaf_spans : Spot → List ℕ → List LeafSpan
leaf_spans e [] = []
leaf_spans e (n ∷ ns) = record { at = leaf_begin e n; length = n } ∷ leaf_spans (leaf_end (leaf_begin e n) n) ns

-- where the last of them ends
abbrev pub end_of : Spot → List ℕ → Spot
end_of e [] = e
end_of e (n ∷ ns) = end_of (leaf_end (leaf_begin e n) n) ns
