-- How the program ends, by what its words ask for.
use Rattle.std.specs.Prelude.{ℕ, ◌≡◌, ◌⊎◌, Bool, true, false, List, ◌++◌, Option, None}
use Rattle.std.specs.Prelude.{Some}
use Rattle.outer_io.specs.Files.{Files}
use Rattle.outer_io.specs.Parts.{WritesPart}
use Rattle.script_lang.specs.Lines.{lines_of}
use Rattle.index_model.specs.State.{State}
use Rattle.index_model.specs.Script.{Answer}
use Rattle.stored_index.specs.Stored.{IsStored}
use Rattle.command_words.specs.Commands.{Task, Run, Load, Explain, Check, Generate, Session, Count, Ranges, Batch}
use Rattle.command_words.specs.Commands.{MergingBatch, Export, Info}
use Rattle.load_points.specs.Loaded.{load_answer}
use Rattle.drawn_points.specs.Generated.{generate_answer}
use Rattle.explain_queries.specs.Explained.{Scope, IsScope, TellsLine}
use Rattle.run_status.specs.Told.{EndsTold}
use Rattle.count_queries.specs.Counted as counts
use Rattle.script_run.specs.Languages.{meaning}
use Rattle.batch_queries.specs.Batched.{TellsBatch}
use Rattle.batch_queries.specs.Ends.{EndsBatch}
use Rattle.batch_queries.specs.Merging.{EndsMerging}
use Rattle.script_run.specs.Progress.{start}
use Rattle.script_run.specs.RangeScript.{AreRanges, EndsRanges}
use Rattle.script_run.specs.Runs.{Ends, EndsSession}
use Rattle.script_run.specs.declared.language.Language.TheVariants as language
use Rattle.export_points.specs.Ends.{EndsExport}
use Rattle.bkd_top.specs.Checking.{EndsCheck, EndsInfo}
use Rattle.run_status.specs.declared.status.Status.{Status}
use Rattle.run_status.specs.declared.status.Status.TheVariants as status

-- ---- what is asked

-- whether the command reads the input
abbrev pub reads_input : Task → Bool
reads_input (Run cache forks) = true
reads_input (Load columns forks) = true
reads_input (Explain cache) = true
reads_input Check = false
reads_input (Generate docs seed forks) = false
reads_input (Session cache forks) = true
reads_input (Count cache) = true
reads_input (Ranges cache forks) = true
reads_input (Batch forks) = true
reads_input (MergingBatch forks) = true
reads_input (Export as_ranges) = false
reads_input Info = false

-- its lines are done as they come, and no input is too large
abbrev pub is_session : Task → Bool
is_session (Session cache forks) = true
is_session _ = false

-- the whole input is read first
abbrev pub reads_whole : Task → Bool
reads_whole (Session cache forks) = false
reads_whole task = reads_input task

-- something is asked, and it is so
abbrev pub does : (Task → Bool) → Option Task → Bool
does test None = false
does test (Some task) = test task

-- ---- the place before

-- what the folder stores, its files, what the source has left, and all that went out before
pub record Before : Type 0 where
  pub state : State
  pub files : Files
  pub input : List ℕ
  pub written : List ℕ

-- ---- a command that is done at once

-- its text went out, and what it leaves is stored
pub record Tells (told : Type 0) (b : Before) (a : Answer) (files : Files) (new : List ℕ) : Type 0 where
  pub text : told → new ≡ b.written ++ a.text
  pub stored : IsStored files a.state

-- nothing went out, and the folder stores what it stored, or what the command leaves
pub record Fails (told : Type 0) (b : Before) (a : Answer) (files : Files) (new : List ℕ) : Type 0 where
  pub text : told → new ≡ b.written
  pub stored : IsStored files b.state ⊎ IsStored files a.state

-- the sink failed: a prefix of its text went out, and what it leaves is stored
pub record Cuts (told : Type 0) (b : Before) (a : Answer) (files : Files) (new : List ℕ) : Type 0 where
  pub text : told → WritesPart b.written new a.text
  pub stored : IsStored files a.state

-- nothing was written, and what is stored is what was stored before
pub record Rests (told : Type 0) (b : Before) (files : Files) (new : List ℕ) : Type 0 where
  pub text : told → new ≡ b.written
  pub stored : IsStored files b.state

-- how such a command ends whose definition says this answer
abbrev pub EndsWhole : (told : Type 0) → Before → Answer → Files → List ℕ → Status → Type 0
EndsWhole told b a files new status.Done = Tells told b a files new × (a.refused ≡ 0)
EndsWhole told b a files new (status.SomeRefused count) = Tells told b a files new × (a.refused ≡ count) × (count ≡ 1)
EndsWhole told b a files new status.FolderFault = Fails told b a files new
EndsWhole told b a files new status.Memory = Fails told b a files new
EndsWhole told b a files new status.SinkFault = Cuts told b a files new
EndsWhole told b a files new (status.Damaged damage) = ⊥
EndsWhole told b a files new status.Usage = Rests told b files new
EndsWhole told b a files new status.SourceFault = Rests told b files new
EndsWhole told b a files new status.TooLarge = Rests told b files new

-- ---- the program

-- Explaining, checking, counting, answering a batch and exporting leave what is stored. A script of ranges ends as one
-- of boxes over the points that they are kept as; over points that are ranges, also as one that is said by ranges.
abbrev pub EndsTask : (told : Type 0) → Task → Before → Files → List ℕ → Status → Type 0
EndsTask told (Run cache forks) b files new s =
    Ends (meaning language.Points) told (start b.state (lines_of b.input) b.written) files new s
EndsTask told (Load columns forks) b files new s = EndsWhole told b (load_answer b.state b.input columns) files new s
EndsTask told (Explain cache) b files new s = (scope : Scope) → IsScope b.files scope
    → EndsTold told (TellsLine scope) (lines_of b.input) b.written new s
EndsTask told Check b files new s = (files ≡ b.files) × EndsCheck told b.files b.written new s
EndsTask told (Generate docs seed forks) b files new s =
    EndsWhole told b (generate_answer b.state docs seed) files new s
EndsTask told (Session cache forks) b files new s =
    EndsSession (meaning language.Points) told (start b.state (lines_of b.input) b.written) files new s
EndsTask told (Count cache) b files new s =
    (scope : counts.Scope) → counts.IsScope b.files scope
    → EndsTold told (counts.TellsCount scope) (lines_of b.input) b.written new s
EndsTask told (Ranges cache forks) b files new s =
    Ends (meaning language.Ranges) told (start b.state (lines_of b.input) b.written) files new s
    × (AreRanges b.state → EndsRanges told (start b.state (lines_of b.input) b.written) files new s)
EndsTask told (Batch forks) b files new s = EndsBatch told (TellsBatch b.state) (lines_of b.input) b.written new s
EndsTask told (MergingBatch forks) b files new s =
    EndsMerging told (TellsBatch b.state) (lines_of b.input) b.written new s
EndsTask told (Export as_ranges) b files new s = (files ≡ b.files) × EndsExport told as_ranges b.files b.written new s
EndsTask told Info b files new s = (files ≡ b.files) × EndsInfo told b.files b.written new s
