-- What a commit leaves in the place of what was kept.
use Rattle.std.specs.Prelude.{ℕ, ◌≡◌, ◌≤◌, ◌⊎◌, length, Contains}
use Rattle.outer_io.specs.declared.file_name.FileName.TheVariants.{Commit, Live, Segment}
use Rattle.outer_io.specs.Files.{Files, bytes_of}
use Rattle.live_bits.specs.LiveSet.{LiveSet}
use Rattle.commit_list.specs.declared.listed.Listed.{Listed}
use Rattle.commit_list.specs.Commits.{CommitData}
use Rattle.commit_list.specs.CommitFiles.{IsCommitFile}
use Rattle.segment_file.specs.Heads.{Head}
use Rattle.segment_view.specs.LiveSegments.{LiveSegment}
use Rattle.segment_file.specs.LiveFiles.{IsLiveFile}
use Rattle.stored_index.specs.Kept.{SameKept}
use Rattle.segment_set.specs.Sets.{SetData}
use Rattle.segment_set.specs.Kept.{HasCanonical, IsAsCommitted}
use Rattle.segment_set.specs.Settles.{Flushes, SetMoment, moment}
use Rattle.segment_set.specs.Losing.{IsLossless}
use Rattle.segment_set.specs.Faithful.{IsFaithful}

-- the commit of before listed the segment too, and its file is as it was
pub record WasListed (old new : Files) (l : Listed) : Type 0 where
  pub commit : CommitData
  pub says : IsCommitFile (bytes_of (old Commit)) commit
  pub was : Listed
  pub there : Contains commit.listed was
  pub segment : was.segment ≡ l.segment
  pub entries : was.entries ≡ l.entries
  pub file : new (Segment l.segment) ≡ old (Segment l.segment)

-- its file is the canonical tree of as many entries as the commit says
pub record IsBuilt (D : ℕ) (files : Files) (l : Listed) : Type 0 where
  pub head : Head
  pub segment : head.id ≡ l.segment
  pub entries : head.entries ≡ l.entries
  pub canon : HasCanonical D files head

-- both files of a listed segment are there, and as many of its numbers are live as the commit says
pub record IsWhole (D : ℕ) (old new : Files) (l : Listed) : Type 0 where
  pub segment : WasListed old new l ⊎ IsBuilt D new l
  pub live : LiveSet
  pub file : IsLiveFile l.segment l.generation (bytes_of (new (Live l.segment l.generation))) live
  pub count : length live.live ≡ l.live

-- the one is no earlier commit than the other: dimensions and leaf size are the same, and no number that was given is
-- taken back
pub record IsLater (old new : CommitData) : Type 0 where
  pub dims : old.dims ≡ new.dims
  pub leaf_size : old.leaf_size ≡ new.leaf_size
  pub next : old.next ≤ new.next
  pub points_given : old.points_given ≤ new.points_given

-- The Commit file says a commit that is no earlier one than it said before, if it said one. Each segment that it lists
-- is whole.
pub record BringsCommit (old new : Files) : Type 0 where
  pub commit : CommitData
  pub says : IsCommitFile (bytes_of (new Commit)) commit
  pub later : (c : CommitData) → IsCommitFile (bytes_of (old Commit)) c → IsLater c commit
  pub whole : (l : Listed) → Contains commit.listed l → IsWhole commit.dims old new l

-- what is kept is the same, or a whole commit has taken its place
abbrev pub KeepsCommit : Files → Files → Type 0
KeepsCommit old new = SameKept old new ⊎ BringsCommit old new

-- the commit lists the segment, with a file of live bits that holds just the numbers that are live in it
pub record IsListedLive (files : Files) (c : CommitData) (p : LiveSegment) : Type 0 where
  pub listed : Listed
  pub there : Contains c.listed listed
  pub is : listed.segment ≡ p.head.id
  pub file : IsLiveFile listed.segment listed.generation
      (bytes_of (files (Live listed.segment listed.generation))) p.live

-- The commit is that of the set once it is flushed: choices of the policy were merged, each whole, and the buffer went
-- to a segment; all else is listed as it was, and with what is live. No live number is lost by that.
pub record IsCommitAfter (D : ℕ) (told : Type 0) (files new : Files) (s : SetData) (c : CommitData) : Type 0 where
  pub flushed : SetMoment
  pub flushes : Flushes D told (moment files s) flushed
  pub is : IsAsCommitted flushed.set c
  pub lives : (p : LiveSegment) → Contains flushed.set.parts p → IsListedLive new c p
  pub loses : IsFaithful D files s → IsLossless D files s flushed.set

-- what is kept is the same, or the commit of this set has taken its place
abbrev pub KeepsOwn : (D : ℕ) (told : Type 0) → (old new : Files) → SetData → Type 0
KeepsOwn D told old new s =
    SameKept old new ⊎ ((c : CommitData) × IsCommitFile (bytes_of (new Commit)) c × IsCommitAfter D told old new s c)
