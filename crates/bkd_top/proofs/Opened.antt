-- Which commands answer only where what the commit lists can be opened.
use Rattle.std.proofs.Common.{◌≡◌, ℕ, Bool, List, None, Some, Option, sym, subst, inl, inr}
use Rattle.outer_io.specs.Files.{Files}
use Rattle.command_words.specs.Commands.{Task, Run, Load, Explain, Check, Generate, Session, Count, Ranges, Batch, MergingBatch, Export, Info, task_of}
use Rattle.command_words.specs.declared.Words.{Words}
use Rattle.folder_check.specs.Checked.{IsChecked}
use Rattle.folder_check.specs.Informed.{IsInformed}
use Rattle.export_points.specs.Ends.{EndsExport, OfFiles, OfStored, OfOdd}
use Rattle.index_model.specs.Script.{Answer}
use Rattle.run_status.specs.Ends.{IsAnswer}
use Rattle.run_status.specs.declared.status.Status.{Status}
use Rattle.run_status.specs.declared.status.Status.TheVariants as status
use Rattle.commands.specs.Opens.{Opens, OpensOrStays, Reads, ReadsOrStays}
use Rattle.commands.proofs.Opening.{opens_all, opens_held, opens_stored, stays_same}
use Rattle.batch_queries.specs.Ends.{LeavesNoText, StoresSome}
use Rattle.bkd_top.specs.Calls.{OnTask, OpensTask}
use Rattle.bkd_top.specs.Checking.{EndsCheck, EndsInfo, EndsTelling}

-- ---- before anything was done

none_opened_of : (a : Task) (files : Files) → OpensTask a files files status.Memory
none_opened_of (Run cache forks) files = stays_same _ files (λ a. a)
none_opened_of (Load columns forks) files = stays_same _ files (λ a. a)
none_opened_of (Explain cache) files = stays_same _ files (λ a. a)
none_opened_of Check files = stays_same _ files (λ a. a)
none_opened_of (Generate docs seed forks) files = record { reads = λ a. absurd a; stays = λ bad i. files }
none_opened_of (Session cache forks) files = stays_same _ files (λ a. a)
none_opened_of (Count cache) files = stays_same _ files (λ a. a)
none_opened_of (Ranges cache forks) files = stays_same _ files (λ a. a)
none_opened_of (Batch forks) files = stays_same _ files (λ a. a)
none_opened_of (MergingBatch forks) files = stays_same _ files (λ a. a)
none_opened_of (Export as_ranges) files = record { reads = λ a. absurd a; stays = λ bad i. files }
none_opened_of Info files = stays_same _ files (λ a. a)

pub none_opened : (o : Option Task) (files : Files) → OnTask (λ a. OpensTask a files files status.Memory) o
none_opened None files = tt
none_opened (Some a) files = none_opened_of a files

-- the words ask for this command
pub opened_by : (w : Words) (a : Task) (old new : Files) (s : Status) → task_of w ≡ a → OpensTask a old new s → OpensTask (task_of w) old new s
opened_by w a old new s is h = subst (λ (b : Task). OpensTask b old new s) (sym is) h

-- ---- what is told

-- something is told of files that are opened
told_opens : (Tells : List ℕ → Type 0) (told : Type 0) (files : Files) (old new : List ℕ) (s : Status) → ((text : List ℕ) → Tells text → Opens files)
    → EndsTelling Tells told files old new s → IsAnswer s → Opens files
told_opens Tells told files old new status.Done by ends a = by ends.0 ends.1
told_opens Tells told files old new (status.SomeRefused count) by ends a = absurd ends
told_opens Tells told files old new status.SinkFault by ends a = absurd a
told_opens Tells told files old new status.FolderFault by ends a = absurd a
told_opens Tells told files old new status.Memory by ends a = absurd a
told_opens Tells told files old new status.Usage by ends a = absurd a
told_opens Tells told files old new status.SourceFault by ends a = absurd a
told_opens Tells told files old new status.TooLarge by ends a = absurd a
told_opens Tells told files old new (status.Damaged damage) by ends a = absurd a

checked_opens : (files : Files) (text : List ℕ) → IsChecked files text → Opens files
checked_opens files text (inl none) = inl none.0
checked_opens files text (inr ok) = opens_held files ok.commit ok.docs ok.holds

informed_opens : (files : Files) (text : List ℕ) → IsInformed files text → Opens files
informed_opens files text (inl none) = inl none.0
informed_opens files text (inr info) = opens_all files info.commit info.parts.heads info.parts.sets info.says info.parts.have info.parts.live

pub check_opens : (told : Type 0) (files files_now : Files) (old new : List ℕ) (s : Status) → files_now ≡ files → EndsCheck told files old new s
    → OpensOrStays (IsAnswer s) files files_now
check_opens told files files_now old new s same ends =
    record { opens = told_opens (IsChecked files) told files old new s (checked_opens files) ends; stays = λ bad. same }

pub info_opens : (told : Type 0) (files files_now : Files) (old new : List ℕ) (s : Status) → files_now ≡ files → EndsInfo told files old new s
    → OpensOrStays (IsAnswer s) files files_now
info_opens told files files_now old new s same ends =
    record { opens = told_opens (IsInformed files) told files old new s (informed_opens files) ends; stays = λ bad. same }

-- ---- export

-- what can be opened says a commit, or none is there
opened_reads : (files : Files) → Opens files → Reads files
opened_reads files (inl none) = inl none
opened_reads files (inr o) = inr (o.commit, o.says)

exported_reads : (as_ranges : Bool) (files : Files) (P : Answer → Type 0) → OfFiles as_ranges files P → Reads files
exported_reads as_ranges files P (OfStored state stored p) = opened_reads files (opens_stored files state stored)
exported_reads as_ranges files P (OfOdd c says odd p) = inr (c, says)

export_reads : (told : Type 0) (as_ranges : Bool) (files : Files) (old new : List ℕ) (s : Status) → EndsExport told as_ranges files old new s → IsAnswer s
    → Reads files
export_reads told as_ranges files old new status.Done ends a = exported_reads as_ranges files _ ends
export_reads told as_ranges files old new (status.SomeRefused count) ends a = exported_reads as_ranges files _ ends
export_reads told as_ranges files old new status.SinkFault ends a = absurd a
export_reads told as_ranges files old new status.FolderFault ends a = absurd a
export_reads told as_ranges files old new status.Memory ends a = absurd a
export_reads told as_ranges files old new status.Usage ends a = absurd a
export_reads told as_ranges files old new status.SourceFault ends a = absurd a
export_reads told as_ranges files old new status.TooLarge ends a = absurd a
export_reads told as_ranges files old new (status.Damaged damage) ends a = absurd a

pub export_opens : (told : Type 0) (as_ranges : Bool) (files files_now : Files) (old new : List ℕ) (s : Status) → files_now ≡ files
    → EndsExport told as_ranges files old new s → ReadsOrStays (IsAnswer s) files files_now
export_opens told as_ranges files files_now old new s same ends =
    record { reads = export_reads told as_ranges files old new s ends; stays = λ bad. same }

-- ---- batches

answer_told : (s : Status) → IsAnswer s → LeavesNoText s → ⊥
answer_told status.Done a none = none
answer_told (status.SomeRefused count) a none = none
answer_told status.SinkFault a none = a
answer_told status.FolderFault a none = a
answer_told status.Memory a none = a
answer_told status.Usage a none = a
answer_told status.SourceFault a none = a
answer_told status.TooLarge a none = a
answer_told (status.Damaged damage) a none = a

-- a list of queries is answered only where a state is stored
pub batch_opens : (files files_now : Files) (s : Status) → ((LeavesNoText s → ⊥) → StoresSome files) → ((Reads files → ⊥) → files_now ≡ files)
    → OpensOrStays (IsAnswer s) files files_now
batch_opens files files_now s stored stays = record {
  opens = λ a. let some = stored (answer_told s a) in opens_stored files some.0 some.1;
  stays = stays;
}
