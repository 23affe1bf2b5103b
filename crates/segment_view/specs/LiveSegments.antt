-- Segments with their live bits, and the entries that live in them.
use Rattle.std.specs.Prelude.{ℕ, ◌≡◌, ◌≤◌, Bool, true, not, List, [], ◌∷◌, ◌++◌, length, map, filter, All}
use Rattle.std.specs.List.{flat_map, list_any}
use Rattle.std.specs.List.Sorted.{IsStrictlyIncreasing}
use Rattle.outer_io.specs.Files.{Files, bytes_of}
use Rattle.outer_io.specs.declared.file_name.FileName.TheVariants.{Segment}
use Rattle.point_codec.specs.Points.{Item}
use Rattle.live_bits.specs.LiveSet.{LiveSet, is_live, live_set_without}
use Rattle.documents.specs.Entries.{has_entry, is_among}
use Rattle.segment_file.specs.Heads.{Head}
use Rattle.segment_file.specs.Segments.{IsSegment}

-- a segment as a set has it: its head, and which of its numbers are live
pub record LiveSegment : Type 0 where
  pub head : Head
  pub live : LiveSet

abbrev pub live_segment : Head → LiveSet → LiveSegment
live_segment head live = record { head = head; live = live }

abbrev pub heads_of : List LiveSegment → List Head
heads_of parts = map (λ p. p.head) parts

abbrev pub lives_of : List LiveSegment → List LiveSet
lives_of parts = map (λ p. p.live) parts

abbrev pub ids_of : List LiveSegment → List ℕ
ids_of parts = map (λ p. p.head.id) parts

-- ---- their entries

-- the entries of each segment, by its id
abbrev pub Contents : Type 0
Contents = ℕ → List Item

-- the live entries of segments, one segment after another
abbrev pub live_in_parts : Contents → List LiveSegment → List Item
live_in_parts c parts = flat_map (λ p. filter (λ x. is_live p.live x.doc) (c p.head.id)) parts

-- the file of the segment holds its entries, and each live number is that of one of them
pub record IsRead (D : ℕ) (files : Files) (c : Contents) (p : LiveSegment) : Type 0 where
  pub held : IsSegment D (bytes_of (files (Segment p.head.id))) p.head (c p.head.id)
  pub found : (number : ℕ) → is_live p.live number ≡ true → has_entry number (c p.head.id) ≡ true

abbrev pub AreRead : ℕ → Files → Contents → List LiveSegment → Type 0
AreRead D files c parts = All (IsRead D files c) parts

-- ---- some of them

-- the segments of these ids
abbrev pub parts_among : List ℕ → List LiveSegment → List LiveSegment
parts_among ids parts = filter (λ p. is_among ids p.head.id) parts

-- the segments of other ids
abbrev pub parts_but : List ℕ → List LiveSegment → List LiveSegment
parts_but ids parts = filter (λ p. not (is_among ids p.head.id)) parts

-- the number is live in one of them
abbrev pub has_live : ℕ → List LiveSegment → Bool
has_live number parts = list_any (λ p. is_live p.live number) parts

-- the number is taken out of the live ones of each
abbrev pub cleared_parts : ℕ → List LiveSegment → List LiveSegment
cleared_parts number parts = map (λ p. live_segment p.head (live_set_without number p.live)) parts

-- the segment came to the others, which stay in their order
pub record IsPlaced (p : LiveSegment) (old new : List LiveSegment) : Type 0 where
  pub front : List LiveSegment
  pub back : List LiveSegment
  pub before : old ≡ front ++ back
  pub after : new ≡ front ++ p ∷ back

-- ---- how they are kept

-- each head with the live set of its place
abbrev pub parts_of : List Head → List LiveSet → List LiveSegment
parts_of (h ∷ hs) (live ∷ lives) = live_segment h live ∷ parts_of hs lives
parts_of [] lives = []
parts_of (h ∷ hs) [] = []

-- heads and live sets of one number, not above 16,777,216, in ascending order of their ids
pub record AreInStep (D : ℕ) (heads : List Head) (lives : List LiveSet) : Type 0 where
  pub few_dims : D ≤ 8
  pub same : length lives ≡ length heads
  pub ascend : IsStrictlyIncreasing (map (λ h. h.id) heads)
  pub few : length heads ≤ 16777216
