-- What commands that are done as a whole leave: documents are added without a line for each, and one text answers all.
use Rattle.std.specs.Prelude.{◌≡◌, ◌⊎◌, ◌+◌, ℕ, Bool, cond, List, ◌++◌, length, Contains, Result, Ok}
use Rattle.std.specs.Prelude.{Err, OnOk, ℤ}
use Rattle.outer_io.specs.declared.file_name.FileName.TheVariants.{Commit, Segment}
use Rattle.outer_io.specs.Files.{Files, bytes_of}
use Rattle.page_cache.specs.declared.faults.PageFault.{PageFault}
use Rattle.page_cache.specs.declared.faults.PageFault.TheVariants as page
use Rattle.commit_list.specs.declared.listed.Listed.{Listed}
use Rattle.commit_list.specs.Commits.{CommitData}
use Rattle.commit_list.specs.CommitFiles.{IsCommitFile}
use Rattle.segment_file.specs.Heads.{Head}
use Rattle.index_model.specs.State.{Index, State}
use Rattle.index_model.specs.Script.{Answer}
use Rattle.stored_index.specs.Kept.{ListsFile, SameKept}
use Rattle.stored_index.specs.Stored.{HasHead, IsStored}
pub use Rattle.segment_set.specs.AtOnce.{with_point, with_points}
use Rattle.segment_set.specs.Faithful.{IsFaithful}
use Rattle.segment_set.specs.Kept.{HasCanonical}
use Rattle.segment_set.specs.Seen.{Sees}
use Rattle.segment_set.specs.declared.faults.AddFault.{AddFault}
use Rattle.segment_set.specs.declared.faults.AddFault.TheVariants as add
use Rattle.index_core.specs.Sessions.{Guards, SessionData, StaysTrue}
use Rattle.index_core.specs.Effects.{BringsCanonical}
use Rattle.index_core.specs.Lasting.{Lasts}
use Rattle.index_core.specs.Calls.{ShowsFault}

-- a session between two calls: with the files of its folder, and the folder's faults
pub record SessionMoment : Type 0 where
  pub files : Files
  pub session : SessionData
  pub faults : ℕ

-- From the one place to the other a document came for each point, where it is done; after a fault some of them may
-- have come. What is kept stays, no live number goes, and each segment that is written is canonical.
pub record Adds {T : Type 0} (D : ℕ) (told : Type 0) (points : List (List ℤ)) (old new : SessionMoment)
    (result : Result T PageFault) : Type 0 where
  pub seen : told → (i : Index) → Sees D old.files old.session.set i
      → OnOk result (Sees D new.files new.session.set (with_points i points))
  pub points_given : OnOk result (new.session.set.points_given ≡ old.session.set.points_given + length points)
  pub stays : StaysTrue D told old.files new.files old.session new.session
  pub kept : told → Guards D old.files old.session → SameKept old.files new.files
  pub lasts : told → IsFaithful D old.files old.session.set
      → Lasts D (λ number. ⊥) old.files new.files old.session.set new.session.set
  pub canon : told → BringsCanonical D old.files new.files old.session.set.parts new.session.set.parts
  pub faults : ShowsFault D told old.files new.files old.session old.faults new.faults result

-- what becomes of a document that is added where all points fit, so that `Full` is never answered
abbrev pub add_result : Result ℕ AddFault → Result (Unit {0}) PageFault
add_result (Ok number) = Ok tt
add_result (Err add.Full) = Err page.Memory
add_result (Err add.Failed) = Err page.Failed
add_result (Err (add.Damaged d)) = Err (page.Damaged d)
add_result (Err add.Memory) = Err page.Memory

-- A command that is done as a whole appends the text of the answer and leaves its state stored, and it is said
-- whether it is refused. After a fault of the folder or want of memory what was stored is, or what the answer leaves.
-- The folder is never found damaged.
abbrev pub DoesWhole : Files → (stored : State) → Answer → (before after : List ℕ) → Result Bool PageFault → Type 0
DoesWhole files stored answer before after (Ok is_refused) =
    (after ≡ before ++ answer.text) × (answer.refused ≡ cond is_refused 1 0) × IsStored files answer.state
DoesWhole files stored answer before after (Err page.Failed) = IsStored files stored ⊎ IsStored files answer.state
DoesWhole files stored answer before after (Err page.Memory) = IsStored files stored ⊎ IsStored files answer.state
DoesWhole files stored answer before after (Err (page.Damaged damage)) = ⊥

-- the segment is listed by no commit of before
abbrev pub IsNewSegment : Files → ℕ → Type 0
IsNewSegment files id = (c : CommitData) → IsCommitFile (bytes_of (files Commit)) c → ListsFile c (Segment id) → ⊥

-- each segment that the commit lists and the one of before didn't is the canonical tree of the entries of its file
abbrev pub HasNewCanonical : (old new : Files) → Type 0
HasNewCanonical old new = (c : CommitData) → IsCommitFile (bytes_of (new Commit)) c → (l : Listed) → Contains c.listed l
    → IsNewSegment old l.segment
    → (head : Head) → HasHead c.dims new l head → HasCanonical c.dims new head
