-- What contracts see of a session, and when it guards the files of its folder.
use Rattle.std.specs.Prelude.{◌≡◌, ◌≤◌, ◌<◌, ◌+◌, ◌⊎◌, ℕ, Bool, true, false, if◌then◌else◌, List, [], length, All}
use Rattle.std.specs.Prelude.{Contains, Option, None, Some}
use Rattle.outer_io.specs.declared.file_name.FileName.{FileName}
use Rattle.outer_io.specs.declared.file_name.FileName.TheVariants.{Commit}
use Rattle.outer_io.specs.Files.{Files, bytes_of}
use Rattle.point_codec.specs.Points.{Item}
use Rattle.live_bits.specs.LiveSet.{IsLiveSet}
use Rattle.commit_list.specs.declared.listed.Listed.{Listed}
use Rattle.commit_list.specs.Commits.{CommitData}
use Rattle.commit_list.specs.CommitFiles.{IsCommitFile}
use Rattle.stored_index.specs.Kept.{ListsFile}
use Rattle.segment_view.specs.LiveSegments.{LiveSegment}
use Rattle.file_names.specs.Names.{is_named}
use Rattle.segment_set.specs.Sets.{SetData, IsWell}
use Rattle.segment_set.specs.Kept.{HasCanonical, IsAsCommitted, StaysButCache}
use Rattle.segment_set.specs.Saved.{CoversPart, IsLastOrFresh, KeepsLine}
use Rattle.segment_set.specs.Faithful.{IsFaithful}
use Rattle.index_opening.specs.Evidence.{AreOfSome, IsExcess}
use Rattle.index_core.specs.Carried.{Carries}

-- the dimensions of a commit, where there is one
abbrev pub HasDims : ℕ → Option CommitData → Type 0
HasDims D None = Unit {0}
HasDims D (Some c) = c.dims ≡ D

-- a session has few dimensions, and its commit has as many
pub record IsOfDims (D : ℕ) (commit : Option CommitData) : Type 0 where
  pub few : D ≤ 8
  pub has : HasDims D commit

-- a session: its set, the commit that it attached or last wrote, and whether one was refused since then
pub record SessionData : Type 0 where
  pub set : SetData
  pub commit : Option CommitData
  pub refused : Bool

-- where there is a Commit file, it says a commit of these dimensions and of the set's leaf size, which has given no
-- number that the set hasn't, and lists nothing but files of the set's list of names
pub record ListsOnlyNamed (D : ℕ) (files : Files) (s : SetData) : Type 0 where
  pub commit : CommitData
  pub says : IsCommitFile (bytes_of (files Commit)) commit
  pub dims : commit.dims ≡ D
  pub leaf_size : commit.leaf_size ≡ s.leaf_size
  pub next : commit.next ≤ s.next
  pub points_given : commit.points_given ≤ s.points_given
  pub named : (m : FileName) → ListsFile commit m → is_named s.names.names m ≡ true

abbrev pub GuardsSet : ℕ → Files → SetData → Type 0
GuardsSet D files s = (files Commit ≡ None) ⊎ ListsOnlyNamed D files s

-- the Commit file says this commit, whose live files cover the segments of now that it lists
pub record IsLastCommit (files : Files) (s : SetData) (c : CommitData) : Type 0 where
  pub says : IsCommitFile (bytes_of (files Commit)) c
  pub covers : (l : Listed) (p : LiveSegment) → Contains c.listed l → Contains s.parts p → l.segment ≡ p.head.id
      → CoversPart files l p

-- the last commit is the one that is there; where there was none, there is no Commit file
abbrev pub IsLast : Files → SetData → Option CommitData → Type 0
IsLast files s None = files Commit ≡ None
IsLast files s (Some c) = IsLastCommit files s c

-- The session guards the files: no call of it changes what they keep before a commit has taken its place. Where a
-- commit was refused it isn't known which of the two is there.
pub record Guards (D : ℕ) (files : Files) (s : SessionData) : Type 0 where
  pub set : GuardsSet D files s.set
  pub last : s.refused ≡ false → IsLast files s.set s.commit

-- the commit lists the segment, and by its file of live bits has at least what is live in it
pub record IsListedWith (D : ℕ) (files : Files) (p : LiveSegment) : Type 0 where
  pub commit : CommitData
  pub says : IsCommitFile (bytes_of (files Commit)) commit
  pub dims : commit.dims ≡ D
  pub listed : Listed
  pub there : Contains commit.listed listed
  pub is : listed.segment ≡ p.head.id
  pub covers : CoversPart files listed p

-- it is known where the segment comes from: the commit lists it, or its file is the canonical tree of entries such as
-- documents have
abbrev pub IsTraced : ℕ → Files → LiveSegment → Type 0
IsTraced D files p = IsListedWith D files p ⊎ HasCanonical D files p.head

abbrev pub AreTraced : ℕ → Files → List LiveSegment → Type 0
AreTraced D files parts = (p : LiveSegment) → Contains parts p → IsTraced D files p

-- where more live entries are held and wait than points were given, the commit's segments have as many too many
abbrev pub IsAccounted : ℕ → Files → SetData → Type 0
IsAccounted D files s = (items : List Item) → AreOfSome D files s.parts items
    → s.points_given < length items + length s.buffer
    → ∥ IsExcess files s.points_given (length items + length s.buffer) ∥₁

-- it is known where each segment of now comes from, and where the live entries do
pub record IsSetTraced (D : ℕ) (files : Files) (s : SetData) : Type 0 where
  pub parts : AreTraced D files s.parts
  pub entries : IsAccounted D files s

-- the session guards the files, what its set keeps of them is theirs, and it is known where its segments and entries
-- come from
pub record Trusts (D : ℕ) (files : Files) (s : SessionData) : Type 0 where
  pub guards : Guards D files s
  pub faithful : IsFaithful D files s.set
  pub traced : IsSetTraced D files s.set

-- What the session knows of the files is so of those of now: it guards them, and can be trusted as before. Its segments
-- are carried.
pub record StaysTrue (D : ℕ) (told : Type 0) (old new : Files) (s t : SessionData) : Type 0 where
  pub guards : told → Guards D old s → Guards D new t
  pub faithful : told → IsFaithful D old s.set → IsFaithful D new t.set
  pub traced : told → Trusts D old s → IsSetTraced D new t.set
  pub carries : told → Carries old new s.set t.set

-- nothing changed since the last commit: there is one, none was refused since, and the set is as it says
pub record IsUnchanged (s : SessionData) : Type 0 where
  pub commit : CommitData
  pub is : s.commit ≡ Some commit
  pub done : s.refused ≡ false
  pub same : IsAsCommitted s.set commit

-- nothing changed but the kept pages: the session is as before, and so is each file
pub record IsStill (told : Type 0) (old new : Files) (s t : SessionData) : Type 0 where
  pub set : StaysButCache s.set t.set
  pub commit : t.commit ≡ s.commit
  pub refused : t.refused ≡ s.refused
  pub files : told → new ≡ old

-- what each session keeps to: its commit has its dimensions, the live numbers of each segment are a set, and its set
-- keeps to its rules
pub record IsSound (D : ℕ) (s : SessionData) : Type 0 where
  pub dims : HasDims D s.commit
  pub sets : All (λ p. IsLiveSet p.live) s.set.parts
  pub well : IsWell D s.set

-- the segments that a commit lists; none, where there is no commit
abbrev pub lines_of : Option CommitData → List Listed
lines_of None = []
lines_of (Some c) = c.listed

-- those that the last one lists; none, where one was refused since
abbrev pub last_lines : (refused : Bool) → Option CommitData → List Listed
last_lines refused commit = if refused then [] else lines_of commit

-- The session's commit was written anew. The files of live bits that it lists have names that weren't in the list, but
-- where the last commit lists a segment with as many live numbers, by a file that is named: it is listed so again.
pub record IsCommitAnew (s t : SessionData) : Type 0 where
  pub commit : CommitData
  pub is : t.commit ≡ Some commit
  pub fresh : All (IsLastOrFresh s.set.names (last_lines s.refused s.commit)) commit.listed
  pub kept : All (KeepsLine s.set.names (last_lines s.refused s.commit)) commit.listed
