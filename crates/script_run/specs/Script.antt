-- What a script answers and leaves, given what its lines answer: they are done one after the other.
use Rattle.std.specs.Prelude.{ℕ, ◌+◌, Bool, if◌then◌else◌, List, [], ◌∷◌, ◌++◌}
use Rattle.std.specs.Option.{option_map}
use Rattle.index_model.specs.State.{State, at_rest}
use Rattle.index_model.specs.Script.{Answer}

-- what lines answer and leave, given a line's number, the state and its bytes, and which of them commit
pub record Meaning : Type 0 where
  pub answer : ℕ → State → List ℕ → Answer
  pub commits : State → List ℕ → Bool

-- the state after lines, of which the first has this number
abbrev pub state_after : Meaning → ℕ → State → List (List ℕ) → State
state_after m line state [] = state
state_after m line state (l ∷ ls) = state_after m (line + 1) (m.answer line state l).state ls

-- the answers to lines, one after the other
abbrev pub text_of : Meaning → ℕ → State → List (List ℕ) → List ℕ
text_of m line state [] = []
text_of m line state (l ∷ ls) = (m.answer line state l).text ++ text_of m (line + 1) (m.answer line state l).state ls

-- how many of the lines are refused
abbrev pub refused_in : Meaning → ℕ → State → List (List ℕ) → ℕ
refused_in m line state [] = 0
refused_in m line state (l ∷ ls) =
    (m.answer line state l).refused + refused_in m (line + 1) (m.answer line state l).state ls

-- the state that is left at the end of a session: no snapshot, and no begun merge
abbrev pub final : State → State
final state = option_map at_rest state

-- what is stored after a line: where it commits, what it leaves at rest, and else what was stored before
abbrev pub stored_by : Meaning → (line : ℕ) (stored state : State) → List ℕ → State
stored_by m line stored state l = if m.commits state l then final (m.answer line state l).state else stored

-- what is stored after lines
abbrev pub stored_after : Meaning → (line : ℕ) (stored state : State) → List (List ℕ) → State
stored_after m line stored state [] = stored
stored_after m line stored state (l ∷ ls) =
    stored_after m (line + 1) (stored_by m line stored state l) (m.answer line state l).state ls
