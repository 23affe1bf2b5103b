-- The headline follows from what is promised of every call.
use Rattle.std.proofs.Common.{◌≡◌, ℕ, IsTrue, List, ◌++◌, Option}
use Rattle.outer_io.specs.Files.{Files}
use Rattle.script_lang.specs.Lines.{lines_of}
use Rattle.index_model.specs.State.{State}
use Rattle.stored_index.specs.Stored.{IsStored}
use Rattle.command_words.specs.Commands.{Task, Run}
use Rattle.run_status.specs.Causes.{Counts}
use Rattle.run_status.specs.Ends.{IsAnswer}
use Rattle.run_status.specs.declared.status.Status.{Status}
use Rattle.run_status.specs.declared.status.Status.TheVariants as status
use Rattle.script_run.specs.Languages.{meaning}
use Rattle.script_run.specs.Progress.{start}
use Rattle.script_run.specs.Runs.{Ends}
use Rattle.script_run.specs.declared.language.Language.TheVariants.{Points}
use Rattle.bkd_top.specs.Calls.{Call, Promises}
use Rattle.bkd_top.specs.Headline.{IsRun, script_end, script_text}

-- a run that is done wrote what the script answers, and the folder stores what it leaves
finished : (sink : Type 0) (state : State) (input written : List ℕ) (files : Files) (new : List ℕ) (s : Status)
    → Ends (meaning Points) sink (start state (lines_of input) written) files new s → sink → IsAnswer s
    → (new ≡ written ++ script_text state input) × IsStored files (script_end state input)
finished sink state input written files new status.Done e t answer = (e.0.text t, e.0.stored)
finished sink state input written files new (status.SomeRefused count) e t answer = (e.0.text t, e.0.stored)
finished sink state input written files new status.FolderFault e t answer = absurd answer
finished sink state input written files new status.Memory e t answer = absurd answer
finished sink state input written files new status.SinkFault e t answer = absurd answer
finished sink state input written files new (status.Damaged damage) e t answer = absurd answer
finished sink state input written files new status.Usage e t answer = absurd answer
finished sink state input written files new status.SourceFault e t answer = absurd answer
finished sink state input written files new status.TooLarge e t answer = absurd answer

pub headline : (told : Type 0) (o : Option Task) (c : Call) (left : List ℕ) (faults faults_now : Counts) (s : Status)
    → Promises told o c left faults faults_now s → told → IsTrue c.source → IsTrue c.sink → IsRun o
    → (state : State) → IsStored c.old state → IsAnswer s
    → (c.written_now ≡ c.written ++ script_text state c.input) × IsStored c.new (script_end state c.input)
headline told o c left faults faults_now s p t source sink run state stored answer =
    finished (IsTrue c.sink) state c.input c.written c.new c.written_now s
    (p.ends t state stored (Run run.0 run.1) run.2 (λ e. source)) sink answer
