-- How exporting ends, whatever the folder holds.
use Rattle.std.specs.Prelude.{ℕ, ◌+◌, ◌%◌, ◌==◌, ◌&&◌, ◌≡◌, ◌≤◌, ◌⊎◌, Bool, true, List, ◌++◌, sum_by, None, codes}
use Rattle.std.specs.Prelude.{Result, Ok, Err}
use Rattle.outer_io.specs.declared.file_name.FileName.TheVariants.{Commit as CommitName}
use Rattle.outer_io.specs.Files.{Files, bytes_of}
use Rattle.outer_io.specs.Parts.{WritesPart}
use Rattle.live_bits.specs.LiveSet.{LiveSet}
use Rattle.commit_list.specs.Commits.{CommitData}
use Rattle.commit_list.specs.CommitFiles.{IsCommitFile}
use Rattle.segment_file.specs.Heads.{Head}
use Rattle.index_model.specs.State.{State}
use Rattle.index_model.specs.Script.{Answer}
use Rattle.stored_index.specs.Stored.{HaveHeads, HaveLive, IsStored, IsUndefined}
use Rattle.index_opening.specs.Evidence.{IsFound}
use Rattle.folder_check.specs.Checked.{IsChecking, both_pages}
use Rattle.run_status.specs.Ends.{OnStatusDamage}
use Rattle.run_status.specs.declared.status.Status.{Status}
use Rattle.run_status.specs.declared.status.Status.TheVariants as status
use Rattle.run_status.specs.declared.stop.Stop.{Stop}
use Rattle.run_status.specs.declared.stop.Stop.TheVariants as stop
use Rattle.export_points.specs.Exported.{export_answer, refusal}

-- P holds of the export of these files: of the state that they store; or of the refusal where ranges are asked for and
-- the Commit file says an odd number of dimensions, which is told before any other file is looked at
pub data OfFiles (as_ranges : Bool) (files : Files) (P : Answer → Type 0) : Type 0 where
  OfStored : (state : State) → IsStored files state → P (export_answer as_ranges state) → OfFiles as_ranges files P
  OfOdd : (c : CommitData) → IsCommitFile (bytes_of (files CommitName)) c → (as_ranges && c.dims % 2 == 1) ≡ true
      → P (refusal None (codes "not ranges")) → OfFiles as_ranges files P

-- The export of the files went out, or a prefix of it where the sink failed or memory was wanting; else
-- nothing did, and where it ends as damaged the files store no state. No input is read.
abbrev pub EndsExport : (told : Type 0) → Bool → Files → (old new : List ℕ) → Status → Type 0
EndsExport told as_ranges files old new status.Done =
    OfFiles as_ranges files (λ a. (told → new ≡ old ++ a.text) × (a.refused ≡ 0))
EndsExport told as_ranges files old new (status.SomeRefused count) =
    OfFiles as_ranges files (λ a. (told → new ≡ old ++ a.text) × (a.refused ≡ count))
EndsExport told as_ranges files old new status.SinkFault =
    OfFiles as_ranges files (λ a. told → WritesPart old new a.text)
EndsExport told as_ranges files old new status.Memory =
    (told → new ≡ old) ⊎ OfFiles as_ranges files (λ a. told → WritesPart old new a.text)
EndsExport told as_ranges files old new (status.Damaged damage) = IsUndefined files × (told → new ≡ old)
EndsExport told as_ranges files old new status.FolderFault = told → new ≡ old
EndsExport told as_ranges files old new status.Usage = ⊥
EndsExport told as_ranges files old new status.SourceFault = ⊥
EndsExport told as_ranges files old new status.TooLarge = ⊥

-- exporting changes no file, and reads at most the pages that checking does; where it ends as damaged one of the files
-- that were looked at is named, and two numbers are a pair of them
pub record Exports (told : Type 0) (as_ranges : Bool) (old new : Files) (written written_now : List ℕ) (before now : ℕ)
    (s : Status) : Type 0 where
  pub ends : EndsExport told as_ranges old written written_now s
  pub files : new ≡ old
  pub reads : (pages : ℕ) → IsChecking old pages → now ≤ before + pages
  pub named : OnStatusDamage s (IsFound old)

-- the same of what a commit lists, which was read
pub record ExportsCommit (c : CommitData) (told : Type 0) (as_ranges : Bool) (old new : Files)
    (written written_now : List ℕ) (before now : ℕ) (s : Status) : Type 0 where
  pub ends : EndsExport told as_ranges old written written_now s
  pub files : new ≡ old
  pub reads : (heads : List Head) (sets : List LiveSet) → HaveHeads old c heads → HaveLive old c sets
      → now ≤ before + sum_by (both_pages old) c.listed
  pub named : OnStatusDamage s (IsFound old)

-- ---- sending

-- a text wasn't sent whole: where the sink failed or memory was wanting a prefix of it went out
abbrev pub IsCut : (told : Type 0) → (text old new : List ℕ) → Stop → Type 0
IsCut told text old new stop.SinkFault = told → WritesPart old new text
IsCut told text old new stop.Memory = told → WritesPart old new text
IsCut told text old new stop.FolderFault = ⊥
IsCut told text old new (stop.Damaged damage) = ⊥

-- a text of which so much is refused went out, or was cut
abbrev pub Sends : (told : Type 0) → (text : List ℕ) → (refused : ℕ) → (old new : List ℕ) → Result ℕ Stop → Type 0
Sends told text refused old new (Ok n) = (told → new ≡ old ++ text) × (n ≡ refused)
Sends told text refused old new (Err e) = IsCut told text old new e

-- a text went out but for what is left of it
pub record IsSentBut (left : List ℕ) (old new text : List ℕ) : Type 0 where
  pub sent : List ℕ
  pub whole : text ≡ sent ++ left
  pub grew : new ≡ old ++ sent

-- no call on the folder failed, and nothing stored is damaged
abbrev pub IsOfSink : {T : Type 0} → Result T Stop → Type 0
IsOfSink (Ok x) = Unit {0}
IsOfSink (Err stop.SinkFault) = Unit {0}
IsOfSink (Err stop.Memory) = Unit {0}
IsOfSink (Err stop.FolderFault) = ⊥
IsOfSink (Err (stop.Damaged damage)) = ⊥
