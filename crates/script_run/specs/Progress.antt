-- How far a script is done, and what the rest of it will answer.
use Rattle.std.specs.Prelude.{ℕ, ◌+◌, ◌≡◌, List, ◌++◌, length}
use Rattle.index_model.specs.State.{State}
use Rattle.script_run.specs.Script.{Meaning, text_of, state_after, stored_after, refused_in}

-- a place in a script: the number of the next line, how many lines before it were refused, the state there and the
-- one that is stored, the lines that are left, and all that has gone out
pub record ScriptPlace : Type 0 where
  pub line : ℕ
  pub refused : ℕ
  pub state : State
  pub stored : State
  pub rest : List (List ℕ)
  pub written : List ℕ

-- the beginning of a script, over a folder that stores this state
abbrev pub start : State → List (List ℕ) → List ℕ → ScriptPlace
start state lines written =
    record { line = 1; refused = 0; state = state; stored = state; rest = lines; written = written }

-- from one place to a later one the lines between were done, each as the script says. What went out is known where
-- the sink tells it
pub record Progress (m : Meaning) (told : Type 0) (from to : ScriptPlace) : Type 0 where
  pub done : List (List ℕ)
  pub whole : from.rest ≡ done ++ to.rest
  pub line : to.line ≡ from.line + length done
  pub state : to.state ≡ state_after m from.line from.state done
  pub stored : to.stored ≡ stored_after m from.line from.stored from.state done
  pub refused : to.refused ≡ from.refused + refused_in m from.line from.state done
  pub text : told → to.written ≡ from.written ++ text_of m from.line from.state done
