-- Which damage opening an index tells: the first one, by segment the head before the live bits, and then the numbers
-- of all.
use Rattle.std.specs.Prelude.{ℕ, ◌≡◌, List, take, slice_get, Some}
use Rattle.std.specs.List.{AllZip}
use Rattle.outer_io.specs.declared.file_name.FileName.{FileName}
use Rattle.outer_io.specs.declared.file_name.FileName.TheVariants.{Segment, Live}
use Rattle.outer_io.specs.Files.{Files}
use Rattle.live_bits.specs.LiveSet.{LiveSet}
use Rattle.page_cache.specs.declared.faults.Damage.{Damage}
use Rattle.page_cache.specs.declared.faults.Damage.TheVariants.{Page, Leaf, Body, Missing}
use Rattle.page_cache.specs.declared.faults.Damage.TheVariants.{Size, Unequal, NotGiven, Doubled}
use Rattle.commit_list.specs.declared.listed.Listed.{Listed}
use Rattle.commit_list.specs.Commits.{CommitData}
use Rattle.segment_file.specs.Heads.{Head}
use Rattle.stored_index.specs.Stored.{HasHead}
use Rattle.segment_view.specs.LiveSegments.{LiveSegment, lives_of}
use Rattle.document_checks.specs.Placed.{IsLeastMisplaced}
use Rattle.document_checks.specs.declared.told.Misplaced.TheVariants as misplaced
use Rattle.index_opening.specs.Opened.{IsOpened}

-- the damage is one of this file
abbrev pub IsOfFile : FileName → Damage → Type 0
IsOfFile name (Page file number bytes) = file ≡ name
IsOfFile name (Leaf file number offset len bytes) = file ≡ name
IsOfFile name (Body file bytes) = file ≡ name
IsOfFile name (Missing file) = file ≡ name
IsOfFile name (Size file size needed) = file ≡ name
IsOfFile name (Unequal file said found) = file ≡ name
IsOfFile name (NotGiven doc next) = ⊥
IsOfFile name (Doubled doc) = ⊥

-- the damage is that of the least number that is live where it may not be
abbrev pub IsOfLeast : (next : ℕ) → List LiveSet → Damage → Type 0
IsOfLeast n sets (NotGiven doc next) = (next ≡ n) × IsLeastMisplaced n sets (misplaced.NotGiven doc)
IsOfLeast n sets (Doubled doc) = IsLeastMisplaced n sets (misplaced.Doubled doc)
IsOfLeast n sets _ = ⊥

-- the damage is one of the segment's head, or of its live bits where its head is as the commit lists it
pub data IsFirstIn (told : Type 0) (files : Files) (c : CommitData) (s : Listed) (d : Damage) : Type 0 where
  OfHead : IsOfFile (Segment s.segment) d → IsFirstIn told files c s d
  OfLive : (head : Head) → (told → HasHead c.dims files s head) → head.leaf_size ≡ c.leaf_size
      → head.entries ≡ s.entries → IsOfFile (Live s.segment s.generation) d → IsFirstIn told files c s d

-- so it is of the first listed segment that can't be opened
pub record IsFirstListed (told : Type 0) (files : Files) (c : CommitData) (d : Damage) : Type 0 where
  pub place : ℕ
  pub segment : Listed
  pub there : slice_get c.listed place ≡ Some segment
  pub parts : List LiveSegment
  pub opened : AllZip (IsOpened told files c) (take place c.listed) parts
  pub here : IsFirstIn told files c segment d

-- or, where all can, of the numbers
pub data IsFirstOpened (told : Type 0) (files : Files) (c : CommitData) (d : Damage) : Type 0 where
  InSegment : IsFirstListed told files c d → IsFirstOpened told files c d
  InNumbers : (parts : List LiveSegment) → AllZip (IsOpened told files c) c.listed parts
      → IsOfLeast c.next (lives_of parts) d → IsFirstOpened told files c d
