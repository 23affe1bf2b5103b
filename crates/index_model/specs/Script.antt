-- What a line of a script answers and leaves.
use Rattle.std.specs.Prelude.{ℕ, List}
use Rattle.script_lang.specs.Replies.{refused_text}
use Rattle.index_model.specs.State.{State}
use Rattle.index_model.specs.Step.{Outcome, Done, Refused}

-- what a line answers and leaves, and 1 where it is refused
pub record Answer : Type 0 where
  pub state : State
  pub text : List ℕ
  pub refused : ℕ

abbrev pub answer_to : ℕ → State → Outcome → Answer
answer_to line state (Done after text) = record { state = after; text = text; refused = 0 }
answer_to line state (Refused cause) = record { state = state; text = refused_text line cause; refused = 1 }
