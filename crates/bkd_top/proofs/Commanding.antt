-- What the words ask for, and how it ends.
use Rattle.std.proofs.Common.{◌≡◌, ℕ, Bool, true, false, List, [], None, Some, Option, refl, sym, ap, subst, ◌∙◌, ◌⊎◌, inl, inr, append-nil, arith}
use Rattle.std.proofs.lemmas.Bool.{false≢true}
use Rattle.outer_io.specs.Files.{Files}
use Rattle.script_lang.specs.Lines.{lines_of}
use Rattle.stored_index.specs.Stored.{IsStored}
use Rattle.command_words.specs.Commands.{Task, Run, Load, Explain, Check, Generate, Session, Count, Ranges, Batch, MergingBatch, Export, Info, task_of}
use Rattle.command_words.specs.declared.Words.{Words}
use Rattle.drawn_points.specs.Generated.{generate_answer}
use Rattle.explain_queries.specs.Explained.{IsScope, Scope, TellsLine}
use Rattle.run_status.specs.Told.{EndsTold, silence}
use Rattle.load_points.specs.Loaded.{load_answer}
use Rattle.count_queries.specs.Counted as counts
use Rattle.batch_queries.specs.Batched.{TellsBatch}
use Rattle.batch_queries.specs.Ends.{EndsBatch}
use Rattle.batch_queries.specs.Merging.{EndsMerging, MergeLeaves}
use Rattle.bkd_top.specs.Calls.{Call, LeavesTask, OnTask, TakesInput, WholeLeaves}
use Rattle.export_points.specs.Ends.{EndsExport}
use Rattle.bkd_top.specs.Checking.{EndsCheck, EndsInfo}
use Rattle.bkd_top.specs.Commands.{Before, EndsTask, EndsWhole, reads_input, reads_whole}
use Rattle.run_status.specs.Causes.{ReadsInput}
use Rattle.index_core.proofs.LosingNone.{keeps_same}
use Rattle.script_run.proofs.Calling.{nothing_costs}
use Rattle.stored_index.proofs.KeptFiles.{kept_itself}
use Rattle.script_run.specs.Languages.{meaning}
use Rattle.script_run.specs.Progress.{start}
use Rattle.script_run.specs.RangeScript.{AreRanges, EndsRanges}
use Rattle.script_run.specs.Runs.{Ends, EndsSession}
use Rattle.script_run.specs.declared.language.Language.TheVariants as language
use Rattle.run_status.specs.Causes.{Counts, HasCauses, NoneRose}
use Rattle.run_status.specs.Ends.{IsAnswer, IsDamaged}
use Rattle.run_status.specs.declared.status.Status.{Status}
use Rattle.run_status.specs.declared.status.Status.TheVariants as status
use Rattle.script_run.proofs.Going.{stops_here}
use Rattle.script_run.proofs.RangeScripts.{ends_ranges}

pub asked_is : (x y : Task) (o : Option Task) → o ≡ Some x → o ≡ Some y → x ≡ y
asked_is x y o is also = some_inj (sym is ∙ also)
  where
    some_inj : Some x ≡ Some y → x ≡ y
    some_inj e = cc

-- where every other end is ruled out, it is done, or memory was wanting
pub completes : (s : Status) (before now : Counts) → (s ≡ status.Usage → ⊥) → (s ≡ status.TooLarge → ⊥) → NoneRose before now → (IsDamaged s → ⊥)
    → HasCauses before now s
    → IsAnswer s ⊎ (s ≡ status.Memory)
completes status.Done before now usage large none damage causes = inl tt
completes (status.SomeRefused count) before now usage large none damage causes = inl tt
completes status.Memory before now usage large none damage causes = inr refl
completes status.Usage before now usage large none damage causes = absurd (usage refl)
completes status.TooLarge before now usage large none damage causes = absurd (large refl)
completes status.SourceFault before now usage large none damage causes = absurd (none.source (causes.source refl))
completes status.FolderFault before now usage large none damage causes = absurd (none.folder (causes.folder refl))
completes status.SinkFault before now usage large none damage causes = absurd (none.sink (causes.sink refl))
completes (status.Damaged d) before now usage large none damage causes = absurd (damage tt)

-- memory was wanting before anything was done
pub no_memory_ends : (told : Type 0) (a : Task) (b : Before) (files : Files) (new : List ℕ) → IsStored files b.state → files ≡ b.files
    → (told → new ≡ b.written) → EndsTask told a b files new status.Memory
no_memory_ends told (Run cache forks) b files new keeps same still =
    stops_here {told = told} (meaning language.Points) (start b.state (lines_of b.input) b.written) files new still (inl keeps)
no_memory_ends told (Load columns forks) b files new keeps same still = record { text = still; stored = inl keeps }
no_memory_ends told (Explain cache) b files new keeps same still =
    λ scope is. record { done = []; rest = lines_of b.input; whole = refl; of_done = silence; all = refl; text = λ t. still t ∙ sym (append-nil b.written) }
no_memory_ends told Check b files new keeps same still = (same, still)
no_memory_ends told (Export as_ranges) b files new keeps same still = (same, inl still)
no_memory_ends told Info b files new keeps same still = (same, still)
no_memory_ends told (Generate docs seed forks) b files new keeps same still = record { text = still; stored = inl keeps }
no_memory_ends told (Session cache forks) b files new keeps same still =
    stops_here {told = told} (meaning language.Points) (start b.state (lines_of b.input) b.written) files new still (inl keeps)
no_memory_ends told (Ranges cache forks) b files new keeps same still =
    let ends = stops_here {told = told} (meaning language.Ranges) (start b.state (lines_of b.input) b.written) files new still (inl keeps) in
    (ends, λ ranges. ends_ranges told b.state (lines_of b.input) b.written files new status.Memory ranges ends)
no_memory_ends told (Count cache) b files new keeps same still =
    λ scope is. record {
      done = [];
      rest = lines_of b.input;
      whole = refl;
      of_done = silence;
      all = refl;
      text = λ t. still t ∙ sym (append-nil b.written);
    }
no_memory_ends told (Batch forks) b files new keeps same still = still
no_memory_ends told (MergingBatch forks) b files new keeps same still = inl still

-- what passes a test of what is asked does not fail it
pub is_so : {P : Type 0} (test : Task → Bool) (w : Words) (a : Task) → task_of w ≡ a → test a ≡ true → test (task_of w) ≡ false → P
is_so test w a is so not_so = absurd (false≢true (sym not_so ∙ ap test is ∙ so))

pub not_so : {P : Type 0} (test : Task → Bool) (w : Words) (a : Task) → task_of w ≡ a → test a ≡ false → test (task_of w) ≡ true → P
not_so test w a is not so = absurd (false≢true (sym not ∙ ap test (sym is) ∙ so))

-- what reads the whole input reads the input
pub whole_reads : (a : Task) → reads_whole a ≡ true → reads_input a ≡ true
whole_reads (Run cache forks) e = refl
whole_reads (Load columns forks) e = refl
whole_reads (Explain cache) e = refl
whole_reads Check e = e
whole_reads (Export as_ranges) e = e
whole_reads Info e = e
whole_reads (Generate docs seed forks) e = e
whole_reads (Session cache forks) e = refl
whole_reads (Count cache) e = refl
whole_reads (Ranges cache forks) e = refl
whole_reads (Batch forks) e = refl
whole_reads (MergingBatch forks) e = refl

-- each command ends as its own definition says
module _ (told : Type 0) (w : Words) (b : Before) (files : Files) (new : List ℕ) (s : Status) where
  pub run_ends : (cache forks : ℕ) → task_of w ≡ Run cache forks → Ends (meaning language.Points) told (start b.state (lines_of b.input) b.written) files new s
      → EndsTask told (task_of w) b files new s
  run_ends cache forks is ends = subst (λ (a : Task). EndsTask told a b files new s) (sym is) ends

  pub load_ends : (columns : List (List ℕ)) (forks : ℕ) → task_of w ≡ Load columns forks → EndsWhole told b (load_answer b.state b.input columns) files new s
      → EndsTask told (task_of w) b files new s
  load_ends columns forks is ends = subst (λ (a : Task). EndsTask told a b files new s) (sym is) ends

  pub explain_ends : (cache : ℕ) → task_of w ≡ Explain cache
      → ((scope : Scope) → IsScope b.files scope → EndsTold told (TellsLine scope) (lines_of b.input) b.written new s) → EndsTask told (task_of w) b files new s
  explain_ends cache is ends = subst (λ (a : Task). EndsTask told a b files new s) (sym is) ends

  pub check_ends : task_of w ≡ Check → (files ≡ b.files) × EndsCheck told b.files b.written new s → EndsTask told (task_of w) b files new s
  check_ends is ends = subst (λ (a : Task). EndsTask told a b files new s) (sym is) ends

  pub export_ends : (as_ranges : Bool) → task_of w ≡ Export as_ranges → (files ≡ b.files) × EndsExport told as_ranges b.files b.written new s
      → EndsTask told (task_of w) b files new s
  export_ends as_ranges is ends = subst (λ (a : Task). EndsTask told a b files new s) (sym is) ends

  pub info_ends : task_of w ≡ Info → (files ≡ b.files) × EndsInfo told b.files b.written new s → EndsTask told (task_of w) b files new s
  info_ends is ends = subst (λ (a : Task). EndsTask told a b files new s) (sym is) ends

  pub generate_ends : (docs seed forks : ℕ) → task_of w ≡ Generate docs seed forks → EndsWhole told b (generate_answer b.state docs seed) files new s
      → EndsTask told (task_of w) b files new s
  generate_ends docs seed forks is ends = subst (λ (a : Task). EndsTask told a b files new s) (sym is) ends

  pub session_asked : (cache forks : ℕ) → task_of w ≡ Session cache forks
      → EndsSession (meaning language.Points) told (start b.state (lines_of b.input) b.written) files new s → EndsTask told (task_of w) b files new s
  session_asked cache forks is ends = subst (λ (a : Task). EndsTask told a b files new s) (sym is) ends

  pub ranges_ends : (cache forks : ℕ) → task_of w ≡ Ranges cache forks
      → Ends (meaning language.Ranges) told (start b.state (lines_of b.input) b.written) files new s
      × (AreRanges b.state → EndsRanges told (start b.state (lines_of b.input) b.written) files new s)
      → EndsTask told (task_of w) b files new s
  ranges_ends cache forks is ends = subst (λ (a : Task). EndsTask told a b files new s) (sym is) ends

  pub count_ends : (cache : ℕ) → task_of w ≡ Count cache
      → ((scope : counts.Scope) → counts.IsScope b.files scope → EndsTold told (counts.TellsCount scope) (lines_of b.input) b.written new s)
      → EndsTask told (task_of w) b files new s
  count_ends cache is ends = subst (λ (a : Task). EndsTask told a b files new s) (sym is) ends

  pub batch_ends : (forks : ℕ) → task_of w ≡ Batch forks → EndsBatch told (TellsBatch b.state) (lines_of b.input) b.written new s
      → EndsTask told (task_of w) b files new s
  batch_ends forks is ends = subst (λ (a : Task). EndsTask told a b files new s) (sym is) ends

  pub merging_ends : (forks : ℕ) → task_of w ≡ MergingBatch forks → EndsMerging told (TellsBatch b.state) (lines_of b.input) b.written new s
      → EndsTask told (task_of w) b files new s
  merging_ends forks is ends = subst (λ (a : Task). EndsTask told a b files new s) (sym is) ends

-- what is asked isn't nothing
pub is_none_and : {P : Type 0} (a : Task) (o : Option Task) → o ≡ None → o ≡ Some a → P
is_none_and a o none some = absurd (apart (sym none ∙ some))
  where
    apart : None ≡ Some a → ⊥
    apart e = cc

-- ---- the input

-- the words ask for this command, which takes its input so
pub taken_by : (w : Words) (a : Task) (left now : List ℕ) (s : Status) → task_of w ≡ a → TakesInput a left now s → TakesInput (task_of w) left now s
taken_by w a left now s is takes = subst (λ (b : Task). TakesInput b left now s) (sym is) takes

-- what reads the whole input takes it so
pub taken_whole : (a : Task) (left now : List ℕ) (s : Status) → reads_whole a ≡ true → TakesInput a left now s → ReadsInput left now s
taken_whole (Run cache forks) left now s e takes = takes
taken_whole (Load columns forks) left now s e takes = takes
taken_whole (Explain cache) left now s e takes = takes
taken_whole Check left now s e takes = absurd (false≢true e)
taken_whole (Export as_ranges) left now s e takes = absurd (false≢true e)
taken_whole Info left now s e takes = absurd (false≢true e)
taken_whole (Generate docs seed forks) left now s e takes = absurd (false≢true e)
taken_whole (Session cache forks) left now s e takes = absurd (false≢true e)
taken_whole (Count cache) left now s e takes = takes
taken_whole (Ranges cache forks) left now s e takes = takes
taken_whole (Batch forks) left now s e takes = takes
taken_whole (MergingBatch forks) left now s e takes = takes

-- for want of memory nothing was read
no_input : (left now : List ℕ) → ReadsInput left now status.Memory
no_input left now = record { too_large = λ e. absurd cc; fits = λ goes. absurd goes; whole = λ goes. absurd goes }

pub none_taken : (o : Option Task) (left now : List ℕ) → OnTask (λ a. TakesInput a left now status.Memory) o
none_taken None left now = tt
none_taken (Some (Run cache forks)) left now = no_input left now
none_taken (Some (Load columns forks)) left now = no_input left now
none_taken (Some (Explain cache)) left now = no_input left now
none_taken (Some Check) left now = tt
none_taken (Some (Export as_ranges)) left now = tt
none_taken (Some Info) left now = tt
none_taken (Some (Generate docs seed forks)) left now = tt
none_taken (Some (Session cache forks)) left now = λ answer. absurd answer
none_taken (Some (Count cache)) left now = no_input left now
none_taken (Some (Ranges cache forks)) left now = no_input left now
none_taken (Some (Batch forks)) left now = no_input left now
none_taken (Some (MergingBatch forks)) left now = no_input left now

-- ---- what is left

-- a call, by what it was made on and what it left
abbrev pub called : (source sink : Bool) (input : List ℕ) (old new : Files) (written written_now : List ℕ) (before now : ℕ) → Call
called source sink input old new written written_now before now = record {
  source = source;
  sink = sink;
  input = input;
  old = old;
  new = new;
  written = written;
  written_now = written_now;
  before = before;
  now = now;
}

-- the words ask for this command, which leaves so much
pub left_by : (w : Words) (a : Task) (c : Call) (s : Status) → task_of w ≡ a → LeavesTask a c s → LeavesTask (task_of w) c s
left_by w a c s is leaves = subst (λ (b : Task). LeavesTask b c s) (sym is) leaves

no_whole : (files : Files) → WholeLeaves files files status.Memory
no_whole files =
    record {
      unchanged = λ count e. refl;
      levels = λ state h a. absurd a;
      undone = inl (kept_itself files);
      lasts = keeps_same _ files files (kept_itself files);
    }

no_merge : (files : Files) → MergeLeaves files files status.Memory
no_merge files = record {
  stored = λ state h. h;
  kept = inl (kept_itself files);
  lasting = inl (kept_itself files);
  merged = λ a. absurd a;
  levels = λ a. absurd a;
  canon = λ a. absurd a;
}

-- where memory was wanting before anything was done each command has left what was there
none_left_of : (a : Task) (source sink : Bool) (input written : List ℕ) (files : Files) (reads : ℕ)
    → LeavesTask a
    (record { source = source; sink = sink; input = input; old = files; new = files; written = written; written_now = written; before = reads; now = reads })
    status.Memory
none_left_of (Run cache forks) source sink input written files reads = λ told. nothing_costs language.Points (lines_of input) files reads status.Memory (λ a. a)
none_left_of (Session cache forks) source sink input written files reads = λ told.
    nothing_costs language.Points (lines_of input) files reads status.Memory (λ a. a)
none_left_of (Ranges cache forks) source sink input written files reads = λ told.
    nothing_costs language.Ranges (lines_of input) files reads status.Memory (λ a. a)
none_left_of (Explain cache) source sink input written files reads = record { files = refl; reads = λ told scope is pages opening t tells. omega arith }
none_left_of (Count cache) source sink input written files reads = record { files = refl; reads = λ told scope is pages opening t tells. omega arith }
none_left_of (Batch forks) source sink input written files reads =
    record { files = refl; reads = λ answer. absurd answer; stored = λ some. absurd (some tt); unwritten = λ none. refl }
none_left_of (MergingBatch forks) source sink input written files reads =
    record { leaves = no_merge files; stored = record { unwritten = inr refl; answered = λ tells. absurd (tells tt) } }
none_left_of (Load columns forks) source sink input written files reads = no_whole files
none_left_of (Generate docs seed forks) source sink input written files reads = no_whole files
none_left_of Check source sink input written files reads =
    record { ends = λ told. refl; files = refl; reads = λ pages is. omega arith; named = tt; first = tt }
none_left_of (Export as_ranges) source sink input written files reads =
    record { ends = inl (λ told. refl); files = refl; reads = λ pages is. omega arith; named = tt }
none_left_of Info source sink input written files reads = record { ends = λ told. refl; files = refl; reads = λ pages is. omega arith; named = tt }

pub none_left : (o : Option Task) (source sink : Bool) (input written : List ℕ) (files : Files) (reads : ℕ)
    → OnTask (λ a. LeavesTask a
    (record { source = source; sink = sink; input = input; old = files; new = files; written = written; written_now = written; before = reads; now = reads })
    status.Memory) o
none_left None source sink input written files reads = tt
none_left (Some a) source sink input written files reads = none_left_of a source sink input written files reads
