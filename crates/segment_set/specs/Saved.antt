-- What is listed of segments when they are saved, and what is written of them.
use Rattle.std.specs.Prelude.{◌≡◌, ◌⊎◌, true, false, List, length, Contains}
use Rattle.outer_io.specs.declared.file_name.FileName.TheVariants.{Live, Segment}
use Rattle.outer_io.specs.Files.{Files, bytes_of}
use Rattle.live_bits.specs.LiveSet.{LiveSet, IsLiveSet}
use Rattle.commit_list.specs.declared.listed.Listed.{Listed}
use Rattle.commit_list.specs.Commits.{IsListed}
use Rattle.segment_file.specs.LiveFiles.{IsLiveFile}
use Rattle.segment_view.specs.LiveSegments.{LiveSegment}
use Rattle.file_names.specs.Names.{NameList, IsNextGeneration, is_named}
use Rattle.segment_set.specs.Sets.{SetData}
use Rattle.segment_set.specs.Kept.{IsSubset}

-- ---- what the last commit lists

-- the listed live file of the segment has at least what is live in it now
pub record CoversPart (files : Files) (l : Listed) (p : LiveSegment) : Type 0 where
  pub entries : l.entries ≡ p.head.entries
  pub live : LiveSet
  pub file : IsLiveFile l.segment l.generation (bytes_of (files (Live l.segment l.generation))) live
  pub count : length live.live ≡ l.live
  pub covers : IsSubset p.live live

-- the files of these lines of a commit are named, and each covers the segment of now that it is of
pub record AreCovering (files : Files) (last : List Listed) (s : SetData) : Type 0 where
  pub named : (l : Listed) → Contains last l → (is_named s.names.names (Segment l.segment) ≡ true)
      × (is_named s.names.names (Live l.segment l.generation) ≡ true)
  pub covers : (l : Listed) (p : LiveSegment) → Contains last l → Contains s.parts p → l.segment ≡ p.head.id
      → CoversPart files l p

-- ---- what is listed anew

-- the line says how many entries and live numbers the segment has, and its file of live bits is named
pub record IsLineOf (names : NameList) (l : Listed) (p : LiveSegment) : Type 0 where
  pub segment : l.segment ≡ p.head.id
  pub entries : l.entries ≡ p.head.entries
  pub live : l.live ≡ length p.live.live
  pub named : is_named names.names (Live l.segment l.generation) ≡ true

-- the last commit has no such line of the segment
abbrev pub HasNoLine : NameList → (last : List Listed) → LiveSegment → Type 0
HasNoLine names last p = (l : Listed) → Contains last l → IsLineOf names l p → ⊥

-- the lines say the same of a segment, whatever their generations
abbrev pub SayTheSame : Listed → Listed → Type 0
SayTheSame l m = (l.segment ≡ m.segment) × (l.entries ≡ m.entries) × (l.live ≡ m.live)

-- where the last commit lists the segment so, by a file that is named, it is listed as there
abbrev pub KeepsLine : NameList → (last : List Listed) → Listed → Type 0
KeepsLine names last l = (m : Listed) → Contains last m → SayTheSame m l
    → is_named names.names (Live m.segment m.generation) ≡ true → Contains last l

-- the line has the next generation that its segment's live bits have by a list of names
abbrev pub HasNextGeneration : NameList → Listed → Type 0
HasNextGeneration names l = IsNextGeneration (λ n. is_named names.names (Live l.segment n)) l.generation

-- the last commit has the line, or it has the next generation
abbrev pub IsLastOrNext : NameList → (last : List Listed) → Listed → Type 0
IsLastOrNext names last l = Contains last l ⊎ HasNextGeneration names l

-- the last commit has the line, or its file of live bits has a name that isn't in the list
abbrev pub IsLastOrFresh : NameList → (last : List Listed) → Listed → Type 0
IsLastOrFresh names last l = Contains last l ⊎ (is_named names.names (Live l.segment l.generation) ≡ false)

-- the live numbers are in a file of their own, under the next generation, whose name wasn't in the list
pub record IsAnew (told : Type 0) (before : NameList) (files : Files) (l : Listed) (live : LiveSet) : Type 0 where
  pub fresh : is_named before.names (Live l.segment l.generation) ≡ false
  pub rule : HasNextGeneration before l
  pub written : told → IsLiveFile l.segment l.generation (bytes_of (files (Live l.segment l.generation))) live

-- A commit may list the segment so. The last commit does, and the file was named, or it has no such line, and the live
-- bits are in a file of their own.
pub record IsSaved (told : Type 0) (last : List Listed) (before after : NameList) (files : Files) (l : Listed)
    (p : LiveSegment) : Type 0 where
  pub line : IsLineOf after l p
  pub may : IsListed after.next_segment l
  pub set : IsLiveSet p.live
  pub how : (Contains last l × IsLineOf before l p) ⊎ (HasNoLine before last p × IsAnew told before files l p.live)

-- all but the list of names and the saved commit is as before
pub record StaysButSaved (old new : SetData) : Type 0 where
  pub leaf_size : new.leaf_size ≡ old.leaf_size
  pub next : new.next ≡ old.next
  pub points_given : new.points_given ≡ old.points_given
  pub parts : new.parts ≡ old.parts
  pub buffer : new.buffer ≡ old.buffer
  pub snapshots : new.snapshots ≡ old.snapshots
  pub begun : new.begun ≡ old.begun
  pub cache : new.cache ≡ old.cache
