-- Which damage a check tells: the first one, in the order in which a folder is looked through.
use Rattle.std.specs.Prelude.{ℕ, ◌≡◌, List, All, take, slice_get, Some}
use Rattle.std.specs.List.{AllZip}
use Rattle.outer_io.specs.declared.file_name.FileName.TheVariants.{Commit}
use Rattle.outer_io.specs.Files.{Files, bytes_of}
use Rattle.page_cache.specs.declared.faults.Damage.{Damage}
use Rattle.commit_list.specs.Commits.{CommitData}
use Rattle.commit_list.specs.CommitFiles.{IsCommitFile}
use Rattle.segment_view.specs.LiveSegments.{LiveSegment, lives_of}
use Rattle.segment_view.specs.Damages.{IsReadDamage}
use Rattle.document_checks.specs.Placed.{IsPlacedOnce}
use Rattle.index_opening.specs.Opened.{IsOpened}
use Rattle.index_opening.specs.First.{IsFirstOpened, IsOfFile}
use Rattle.folder_check.specs.declared.findings.Finding.{Finding}
use Rattle.folder_check.specs.Found.{HasSegment, IsFinding, IsWrong}

-- the heads and the live bits of all listed segments are as the commit says, and each live number stands where it may
pub record AreOpened (told : Type 0) (files : Files) (c : CommitData) (parts : List LiveSegment) : Type 0 where
  pub opened : AllZip (IsOpened told files c) c.listed parts
  pub placed : (number : ℕ) → IsPlacedOnce c.next (lives_of parts) number

-- the damage is one of the leaves of the first segment of which not all are spelled
pub record IsFirstLeaf (D : ℕ) (files : Files) (parts : List LiveSegment) (d : Damage) : Type 0 where
  pub place : ℕ
  pub part : LiveSegment
  pub there : slice_get parts place ≡ Some part
  pub before : All (HasSegment D files) (take place parts)
  pub here : IsReadDamage D part.head d

-- The damage is the first of what a commit lists: what comes before it in this order is as it must be.
pub data IsFirstOfCommit (told : Type 0) (files : Files) (c : CommitData) (d : Damage) : Type 0 where
  -- by segment its head, then its live bits; then the numbers of all live bits
  InOpening : IsFirstOpened told files c d → IsFirstOfCommit told files c d
  -- then the leaves by segment
  InLeaves : (parts : List LiveSegment) → AreOpened told files c parts → IsFirstLeaf c.dims files parts d
      → IsFirstOfCommit told files c d
  -- then what was found in the leaves: by segment live numbers without an entry, the least crowded number, the points
  -- given
  InFound : (parts : List LiveSegment) (findings : List Finding) → AreOpened told files c parts
      → AllZip (IsFinding c.dims files) parts findings → IsWrong c.listed c.points_given findings d
      → IsFirstOfCommit told files c d

-- The Commit file comes before all.
pub data IsFirst (told : Type 0) (files : Files) (d : Damage) : Type 0 where
  OfCommit : IsOfFile Commit d → IsFirst told files d
  OfListed : (c : CommitData) → IsCommitFile (bytes_of (files Commit)) c → IsFirstOfCommit told files c d
      → IsFirst told files d
