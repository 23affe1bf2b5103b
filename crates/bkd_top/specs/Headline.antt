-- The headline, said flat: what the command `run` writes and leaves over a folder that stores a state.
use Rattle.std.specs.Prelude.{ℕ, ◌≡◌, List, Option, Some}
use Rattle.script_lang.specs.Lines.{lines_of}
use Rattle.index_model.specs.State.{State}
use Rattle.command_words.specs.Commands.{Task, Run}
use Rattle.script_run.specs.Languages.{meaning}
use Rattle.script_run.specs.Script.{final, state_after, text_of}
use Rattle.script_run.specs.declared.language.Language.TheVariants.{Points}

-- the words ask for `run`
abbrev pub IsRun : Option Task → Type 0
IsRun task = (cache : ℕ) × (forks : ℕ) × (task ≡ Some (Run cache forks))

-- what a scan of the live documents answers to a script, line for line, over this state
abbrev pub script_text : State → (input : List ℕ) → List ℕ
script_text state input = text_of (meaning Points) 1 state (lines_of input)

-- the state that the script leaves: the documents then live, no snapshot, no begun merge
abbrev pub script_end : State → (input : List ℕ) → State
script_end state input = final (state_after (meaning Points) 1 state (lines_of input))
