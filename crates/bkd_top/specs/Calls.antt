-- What holds of every command, whatever the folder holds: which words are of none, what it reads of its input, and why
-- it ended so.
use Rattle.std.specs.Prelude.{ℕ, ◌≡◌, ◌≤◌, ◌^◌, ◌⊎◌, Bool, true, IsTrue, List, [], length, Option, None, Some}
use Rattle.outer_io.specs.Files.{Files}
use Rattle.script_lang.specs.Lines.{lines_of}
use Rattle.command_words.specs.Commands.{Task, Run, Load, Explain, Check, Generate, Session, Count, Ranges, Batch}
use Rattle.command_words.specs.Commands.{MergingBatch, Export, Info}
use Rattle.index_model.specs.State.{State}
use Rattle.stored_index.specs.Opening.{IsOpening}
use Rattle.stored_index.specs.Stored.{IsStored}
use Rattle.index_opening.specs.Evidence.{IsEvidentSince}
use Rattle.index_core.specs.Brought.{KeepsCommit}
use Rattle.index_core.specs.KeptLive.{KeepsLive}
use Rattle.index_core.specs.Light.{KeepsLevels}
use Rattle.index_core.specs.Whole.{HasNewCanonical}
use Rattle.run_status.specs.Ends.{IsAnswer, IsDamaged, OnStatusDamage}
use Rattle.run_status.specs.declared.status.Status.{Status}
use Rattle.run_status.specs.declared.status.Status.TheVariants as status
use Rattle.script_run.specs.Kept.{RunCosts, StatusKeeps}
use Rattle.script_run.specs.declared.language.Language.TheVariants as language
use Rattle.run_status.specs.Causes.{Counts, HasCauses, NoneRose, ReadsInput}
use Rattle.run_status.specs.Told.{Teller}
use Rattle.commands.specs.Looks.{ReadsFew}
use Rattle.commands.specs.Opens.{OpensOrStays, ReadsOrStays}
use Rattle.explain_queries.specs.Explained.{IsScope, TellsLine}
use Rattle.count_queries.specs.Counted as counts
use Rattle.batch_queries.specs.Ends.{LeavesNoText, ReadsOnce, StoresSome, TellsStored}
use Rattle.batch_queries.specs.Merging.{MergeLeaves}
use Rattle.export_points.specs.Ends.{Exports}
use Rattle.bkd_top.specs.Checking.{Checks, Informs}
use Rattle.bkd_top.specs.Commands.{Before, EndsTask, does, reads_input, reads_whole}

-- words of no command are told as that, unless memory was wanting, and no others are
pub record TellsUsage (task : Option Task) (s : Status) : Type 0 where
  pub only : s ≡ status.Usage → task ≡ None
  pub told : task ≡ None → (s ≡ status.Usage) ⊎ (s ≡ status.Memory)

-- where a command is asked for, this holds of it
abbrev pub OnTask : (Task → Type 0) → Option Task → Type 0
OnTask P None = Unit {0}
OnTask P (Some task) = P task

-- ---- the input

-- The whole input is read before anything is done, or none of it; but the lines of a session are read as they are
-- done, to the end of the input where all are.
abbrev pub TakesInput : Task → (left left_now : List ℕ) → Status → Type 0
TakesInput (Run cache forks) left now s = ReadsInput left now s
TakesInput (Load columns forks) left now s = ReadsInput left now s
TakesInput (Explain cache) left now s = ReadsInput left now s
TakesInput (Session cache forks) left now s = IsAnswer s → now ≡ []
TakesInput (Count cache) left now s = ReadsInput left now s
TakesInput (Ranges cache forks) left now s = ReadsInput left now s
TakesInput (Batch forks) left now s = ReadsInput left now s
TakesInput (MergingBatch forks) left now s = ReadsInput left now s
TakesInput Check left now s = Unit {0}
TakesInput (Export as_ranges) left now s = Unit {0}
TakesInput Info left now s = Unit {0}
TakesInput (Generate docs seed forks) left now s = Unit {0}

-- ---- damage

-- A folder that stored a state is never found damaged. A damage is shown by what it carries, and is true of told files:
-- of one that the commit of now lists, or that of before, as a snapshot may need it.
pub record TellsDamage (told : Type 0) (old new : Files) (s : Status) : Type 0 where
  pub never : told → (state : State) → IsStored old state → IsDamaged s → ⊥
  pub evident : OnStatusDamage s (IsEvidentSince old told new)

-- a command that answers lines over what is stored changes no file, whatever the status, and reads few pages
pub record LookCosts {Scope : Type 0} (is : Files → Scope → Type 0) (tells : Scope → Teller) (source : Type 0)
    (lines : List (List ℕ)) (old new : Files) (before now : ℕ) : Type 0 where
  pub files : new ≡ old
  pub reads : source → ReadsFew (is old) (λ s pages. IsOpening old pages) tells lines before now

-- A command that is done as a whole leaves few segments of each level. Whatever the folder holds, it changes no file
-- where it is refused, loses nothing that is kept where it isn't done, and no number that is kept live
pub record WholeLeaves (old new : Files) (s : Status) : Type 0 where
  pub unchanged : (count : ℕ) → s ≡ status.SomeRefused count → new ≡ old
  pub levels : (state : State) → IsStored old state → IsAnswer s → KeepsLevels old new
  pub undone : StatusKeeps old new s
  pub lasts : KeepsLive (λ number. ⊥) old new

-- ---- what each command leaves, whatever the folder holds

-- A call: whether its source and its sink tell what they hold, its input, the files before and after it, what had
-- gone out before and after, and the folder's reads before and after
pub record Call : Type 0 where
  pub source : Bool
  pub sink : Bool
  pub input : List ℕ
  pub old : Files
  pub new : Files
  pub written : List ℕ
  pub written_now : List ℕ
  pub before : ℕ
  pub now : ℕ

-- With a merge beside it what is stored stays, and few are listed where all is answered. Only files that store a state
-- are answered from.
pub record MergingLeaves (c : Call) (s : Status) : Type 0 where
  pub leaves : MergeLeaves c.old c.new s
  pub stored : TellsStored c.old c.written c.written_now s

-- Answering a batch changes no file, and where it is done each page was read once at most. Something is written only
-- over files that store a state, and nothing where it ends before all is answered.
pub record BatchLeaves (c : Call) (s : Status) : Type 0 where
  pub files : c.new ≡ c.old
  pub reads : IsAnswer s → ReadsOnce c.old c.before c.now
  pub stored : (LeavesNoText s → ⊥) → StoresSome c.old
  pub unwritten : LeavesNoText s → c.written_now ≡ c.written

abbrev pub LeavesTask : Task → Call → Status → Type 0
LeavesTask (Run cache forks) c s = IsTrue c.source
    → RunCosts language.Points (lines_of c.input) c.old c.new c.before c.now s
LeavesTask (Session cache forks) c s = IsTrue c.source
    → RunCosts language.Points (lines_of c.input) c.old c.new c.before c.now s
LeavesTask (Ranges cache forks) c s = IsTrue c.source
    → RunCosts language.Ranges (lines_of c.input) c.old c.new c.before c.now s
LeavesTask (Explain cache) c s =
    LookCosts IsScope TellsLine (IsTrue c.source) (lines_of c.input) c.old c.new c.before c.now
LeavesTask (Load columns forks) c s = WholeLeaves c.old c.new s
LeavesTask (Generate docs seed forks) c s = WholeLeaves c.old c.new s
LeavesTask (Count cache) c s =
    LookCosts counts.IsScope counts.TellsCount (IsTrue c.source) (lines_of c.input) c.old c.new c.before c.now
LeavesTask (Batch forks) c s = BatchLeaves c s
LeavesTask (MergingBatch forks) c s = MergingLeaves c s
LeavesTask Check c s = Checks (IsTrue c.sink) c.old c.new c.written c.written_now c.before c.now s
LeavesTask (Export as_ranges) c s =
    Exports (IsTrue c.sink) as_ranges c.old c.new c.written c.written_now c.before c.now s
LeavesTask Info c s = Informs (IsTrue c.sink) c.old c.new c.written c.written_now c.before c.now s

-- A command answers only where all that the commit lists can be opened, but for `generate` and `export`, which may
-- refuse before that by what the commit says. Where the Commit file is damaged none of them changes a file.
abbrev pub OpensTask : Task → (old new : Files) → Status → Type 0
OpensTask (Generate docs seed forks) old new s = ReadsOrStays (IsAnswer s) old new
OpensTask (Export as_ranges) old new s = ReadsOrStays (IsAnswer s) old new
OpensTask _ old new s = OpensOrStays (IsAnswer s) old new

-- ---- the program

-- what stood before the call, over a folder that stores this state
abbrev pub before_of : Call → State → Before
before_of c state = record { state = state; files = c.old; input = c.input; written = c.written }

-- over each state that the files store, of the command that is asked for, where the input that it reads is told
abbrev pub OverStored : Call → Option Task → (Before → Task → Type 0) → Type 0
OverStored c task P = (state : State) → IsStored c.old state → (a : Task) → task ≡ Some a
    → (reads_input a ≡ true → IsTrue c.source) → P (before_of c state) a

-- an input that is read as a whole isn't too large
abbrev pub IsShort : Task → List ℕ → Type 0
IsShort a input = reads_whole a ≡ true → length input ≤ 2 ^ 29

-- What is promised of every call, by the command that its words ask for, if they ask for one: `told` says that the
-- folder tells its files, `left` what the source has left, and the counts which faults were met before and after.
pub record Promises (told : Type 0) (task : Option Task) (c : Call) (left : List ℕ) (faults faults_now : Counts)
    (s : Status) : Type 0 where
  pub usage : TellsUsage task s
  -- the headline, and what each other end leaves of the text and of the folder
  pub ends : told → OverStored c task (λ b a. EndsTask (IsTrue c.sink) a b c.new c.written_now s)
  -- where no call failed it is done, or memory was wanting
  pub complete : told → OverStored c task (λ b a. IsShort a c.input → NoneRose faults faults_now
      → IsAnswer s ⊎ (s ≡ status.Memory))
  pub input : IsTrue c.source → OnTask (λ a. TakesInput a c.input left s) task
  -- too large is only what is read as a whole
  pub large : s ≡ status.TooLarge → does reads_whole task ≡ true
  -- each segment that the commit lists anew is canonical
  pub canon : told → (state : State) → IsStored c.old state → IsAnswer s → HasNewCanonical c.old c.new
  -- what it leaves and costs, whatever the folder holds
  pub leaves : told → OnTask (λ a. LeavesTask a c s) task
  -- whatever the folder holds, no answer hides a damage of what is opened, nor of the Commit file, and no file changes
  -- where this is damaged
  pub opened : told → OnTask (λ a. OpensTask a c.old c.new s) task
  -- whatever it ends with, what was kept is, or a commit of which each listed file is whole
  pub lasting : told → KeepsCommit c.old c.new
  -- why it ended otherwise
  pub damage : TellsDamage told c.old c.new s
  pub causes : HasCauses faults faults_now s
