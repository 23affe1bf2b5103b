-- What the program promises of a call, by what its words ask for.
use Rattle.std.proofs.Common.{◌≡◌, ℕ, Bool, true, IsTrue, List, None, Some, Option, refl, sym, subst, inl, inr, arith}
use Rattle.outer_io.specs.Files.{Files}
use Rattle.index_model.specs.State.{State}
use Rattle.stored_index.specs.Stored.{IsStored}
use Rattle.command_words.specs.Commands.{Task}
use Rattle.run_status.specs.Causes.{Counts, HasCauses}
use Rattle.run_status.specs.Ends.{IsAnswer}
use Rattle.run_status.specs.declared.status.Status.{Status}
use Rattle.run_status.specs.declared.status.Status.TheVariants as status
use Rattle.index_core.specs.Brought.{KeepsCommit}
use Rattle.index_core.specs.Whole.{HasNewCanonical}
use Rattle.index_core.proofs.Brought.{commit_itself}
use Rattle.bkd_top.specs.Calls.{Call, LeavesTask, OpensTask, Promises, TakesInput, TellsDamage, before_of}
use Rattle.bkd_top.specs.Commands.{EndsTask, reads_input, reads_whole}
use Rattle.bkd_top.proofs.Opened.{none_opened}
use Rattle.bkd_top.proofs.Commanding.{asked_is, called, completes, is_none_and, no_memory_ends, none_left, none_taken, taken_whole, whole_reads}

-- what holds of the call of one command
pub record PromisesTask (told : Type 0) (a : Task) (c : Call) (left : List ℕ) (faults faults_now : Counts) (s : Status) : Type 0 where
  pub used : s ≡ status.Usage → ⊥
  pub large : s ≡ status.TooLarge → reads_whole a ≡ true
  pub ends : told → (state : State) → IsStored c.old state → (reads_input a ≡ true → IsTrue c.source)
      → EndsTask (IsTrue c.sink) a (before_of c state) c.new c.written_now s
  pub input : IsTrue c.source → TakesInput a c.input left s
  pub canon : told → (state : State) → IsStored c.old state → IsAnswer s → HasNewCanonical c.old c.new
  pub leaves : told → LeavesTask a c s
  pub opened : told → OpensTask a c.old c.new s
  pub lasting : told → KeepsCommit c.old c.new
  pub damage : TellsDamage told c.old c.new s
  pub causes : HasCauses faults faults_now s

-- a command whose input is short is done where no call failed, or memory was wanting
task_complete : (told : Type 0) (a : Task) (c : Call) (left : List ℕ) (faults faults_now : Counts) (s : Status)
    → PromisesTask told a c left faults faults_now s → Promises told (Some a) c left faults faults_now s
task_complete told a c left faults faults_now s h = record {
  usage = record { only = λ e. absurd (h.used e); told = λ e. is_none_and a (Some a) e refl };
  ends = λ t state stored b is source.
      subst (λ (x : Task). EndsTask (IsTrue c.sink) x (before_of c state) c.new c.written_now s) (asked_is a b (Some a) refl is)
      (h.ends t state stored (λ reads. source (subst (λ (x : Task). reads_input x ≡ true) (asked_is a b (Some a) refl is) reads)));
  complete = λ t state stored b is source short none.
      let same = asked_is a b (Some a) refl is in
      completes s faults faults_now h.used
      (λ e. let whole = h.large e in
      let fits = short (subst (λ (x : Task). reads_whole x ≡ true) same whole) in
      let tells = source (whole_reads b (subst (λ (x : Task). reads_whole x ≡ true) same whole)) in
      let much = (taken_whole a c.input left s whole (h.input tells)).too_large e in omega (arith, much, fits))
      none (h.damage.never t state stored) h.causes;
  input = h.input;
  large = h.large;
  canon = h.canon;
  leaves = h.leaves;
  opened = h.opened;
  lasting = h.lasting;
  damage = h.damage;
  causes = h.causes;
}

-- the words ask for it
pub task_promises : (told : Type 0) (o : Option Task) (a : Task) (c : Call) (left : List ℕ) (faults faults_now : Counts) (s : Status) → o ≡ Some a
    → PromisesTask told a c left faults faults_now s → Promises told o c left faults faults_now s
task_promises told o a c left faults faults_now s is h =
    subst (λ (x : Option Task). Promises told x c left faults faults_now s) (sym is) (task_complete told a c left faults faults_now s h)

-- words of no command are told as that, and nothing is done
pub usage_promises : (told : Type 0) (o : Option Task) (source sink : Bool) (input written : List ℕ) (files : Files) (reads : ℕ) (faults : Counts) → o ≡ None
    → Promises told o (called source sink input files files written written reads reads) input faults faults status.Usage
usage_promises told o source sink input written files reads faults none = subst (λ (x : Option Task). Promises told x
    (called source sink input files files written written reads reads) input faults faults status.Usage) (sym none) (record {
      usage = record { only = λ e. refl; told = λ e. inl refl };
      ends = λ t state stored a is source'. is_none_and a None refl is;
      complete = λ t state stored a is source' short none'. is_none_and a None refl is;
      input = λ t. tt;
      large = λ e. absurd cc;
      canon = λ t state stored answer. absurd answer;
      leaves = λ t. tt;
      opened = λ t. tt;
      lasting = λ t. commit_itself files;
      damage = record { never = λ t state stored damaged. damaged; evident = tt };
      causes = record { source = λ e. absurd cc; folder = λ e. absurd cc; sink = λ e. absurd cc };
    })

-- memory was wanting before anything was done
pub memory_promises : (told : Type 0) (o : Option Task) (source sink : Bool) (input written : List ℕ) (files : Files) (reads : ℕ) (faults : Counts)
    → Promises told o (called source sink input files files written written reads reads) input faults faults status.Memory
memory_promises told o source sink input written files reads faults = record {
  usage = record { only = λ e. absurd cc; told = λ e. inr refl };
  ends = λ t state stored a is source'. no_memory_ends (IsTrue sink) a _ files written stored refl (λ k. refl);
  complete = λ t state stored a is source' short none. inr refl;
  input = λ t. none_taken o input input;
  large = λ e. absurd cc;
  canon = λ t state stored answer. absurd answer;
  leaves = λ t. none_left o source sink input written files reads;
  opened = λ t. none_opened o files;
  lasting = λ t. commit_itself files;
  damage = record { never = λ t state stored damaged. damaged; evident = tt };
  causes = record { source = λ e. absurd cc; folder = λ e. absurd cc; sink = λ e. absurd cc };
}
