-- Notes of leaves that were read in a page.
use Rattle.std.specs.Prelude.{ℕ, ◌≢◌, List, take, drop, Contains}
use Rattle.point_codec.specs.Points.{Region}
use Rattle.leaf_codec.specs.Leaves.{SpellsSomeIn}
use Rattle.page_file.specs.Page.{payload_of}
use Rattle.page_cache.specs.declared.note.LeafNote.{LeafNote}

-- this part of the page's payload spells some leaf of that count inside the cell
abbrev pub HasLeaf : (D : ℕ) → (page : List ℕ) → (offset len count : ℕ) → Region → Type 0
HasLeaf D page offset len count cell = SpellsSomeIn D (take len (drop offset (payload_of page))) count cell

-- the cell of a note
abbrev pub noted_cell : LeafNote → Region
noted_cell n = record { lo = take n.dims n.lo; hi = take n.dims n.hi }

-- where the note is of a leaf, the page has that leaf
unfoldable pub Fits : LeafNote → List ℕ → Type 0
Fits n page = n.dims ≢ 0 → HasLeaf n.dims page n.offset n.length n.count (noted_cell n)

-- each note that is of a leaf is of one that the page has
abbrev pub AllFit : List LeafNote → List ℕ → Type 0
AllFit notes page = (n : LeafNote) → Contains notes n → Fits n page
