-- What requests leave that need no segment to be written or merged.
use Rattle.std.specs.Prelude.{◌≡◌, ◌≤◌, ◌<◌, ◌+◌, ◌^◌, ◌⊎◌, ℕ, Bool, true, false, List, length, All, count_by, Option}
use Rattle.std.specs.Prelude.{None, Some}
use Rattle.outer_io.specs.declared.file_name.FileName.TheVariants.{Commit}
use Rattle.outer_io.specs.Files.{Files, bytes_of}
use Rattle.merge_policy.specs.Choice.{is_of_level}
use Rattle.commit_list.specs.Commits.{CommitData}
use Rattle.commit_list.specs.CommitFiles.{IsCommitFile}
use Rattle.segment_file.specs.Heads.{Head}
use Rattle.script_lang.specs.Requests.{Request}
use Rattle.script_lang.specs.Requests as asks
use Rattle.segment_view.specs.LiveSegments.{heads_of}
use Rattle.segment_set.specs.Sets.{SetData}
use Rattle.index_core.specs.Sessions.{SessionData}

-- it writes and merges no segment, if what it adds has room in the buffer
abbrev pub is_light : Request → Bool
is_light asks.Blank = true
is_light (asks.Create dims leaf_size) = true
is_light (asks.Add points) = true
is_light (asks.Delete doc) = true
is_light (asks.DeleteBox lo hi) = false
is_light (asks.InBox view lo hi) = true
is_light (asks.InPolygon view rings) = true
is_light (asks.Nearest view k target) = true
is_light asks.Flush = false
is_light asks.Merge = false
is_light (asks.MergeBegin positions) = false
is_light asks.MergeEnd = false
is_light (asks.Snapshot name) = true
is_light (asks.Release name) = true
is_light asks.Commit = false
is_light asks.Reopen = false

-- how many points it adds
abbrev pub points_in : Request → ℕ
points_in (asks.Add points) = length points
points_in _ = 0

-- the set alone says that it is refused: more points would be given than ever may be, or no merge is begun that could
-- end
abbrev pub IsBarred : Request → SetData → Type 0
IsBarred (asks.Add points) s = 2 ^ 24 < s.points_given + length points
IsBarred asks.MergeEnd s = s.begun ≡ None
IsBarred _ s = ⊥

-- what is live now and each snapshot are in segments with these heads
pub record LooksAt (heads : List Head) (s : SetData) : Type 0 where
  pub now : heads_of s.parts ≡ heads
  pub snapshots : All (λ v. heads_of v.parts ≡ heads) s.snapshots

-- the files and the segments are the same, and at most so many entries more wait
pub record StaysLight (told : Type 0) (points : ℕ) (old new : Files) (s t : SessionData) : Type 0 where
  pub files : told → new ≡ old
  pub heads : (heads : List Head) → LooksAt heads s.set → LooksAt heads t.set
  pub waits : length t.set.buffer ≤ length s.set.buffer + points

-- the commit lists at most ten segments of one level
abbrev pub HasFewOfLevels : CommitData → Type 0
HasFewOfLevels c = (level : ℕ) → count_by (λ l. is_of_level level l.entries) c.listed ≤ 10

abbrev pub CommitsFewOfLevels : Option CommitData → Type 0
CommitsFewOfLevels commit = (c : CommitData) → commit ≡ Some c → HasFewOfLevels c

-- the Commit file stays, or says a commit that lists at most ten segments of one level
abbrev pub KeepsLevels : Files → Files → Type 0
KeepsLevels old new = (new Commit ≡ old Commit)
    ⊎ ((c : CommitData) × IsCommitFile (bytes_of (new Commit)) c × HasFewOfLevels c)
