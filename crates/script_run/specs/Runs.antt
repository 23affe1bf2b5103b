-- How a run over a folder ends.
use Rattle.std.specs.Prelude.{ℕ, ◌+◌, ◌<◌, ◌≡◌, ◌⊎◌, true, List, [], ◌∷◌, ◌++◌, length, Result, Ok, Err}
use Rattle.outer_io.specs.Files.{Files}
use Rattle.outer_io.specs.Parts.{WritesPart}
use Rattle.index_model.specs.State.{State}
use Rattle.script_run.specs.Script.{Meaning, text_of, state_after, refused_in, final, stored_after}
use Rattle.stored_index.specs.Stored.{IsStored}
use Rattle.script_run.specs.Halted.{OnLines}
use Rattle.script_run.specs.Progress.{ScriptPlace}
use Rattle.script_run.specs.declared.halt.Halt.{Halt}
use Rattle.run_status.specs.declared.stop.Stop.{Stop}
use Rattle.run_status.specs.declared.stop.Stop.TheVariants as stop
use Rattle.run_status.specs.declared.status.Status.{Status}
use Rattle.run_status.specs.declared.status.Status.TheVariants as status

-- the lines were done to their end: what was written is, line for line, the answers, and the folder stores what the
-- lines leave
pub record Finishes (m : Meaning) (told : Type 0) (p : ScriptPlace) (files : Files) (new : List ℕ) : Type 0 where
  pub text : told → new ≡ p.written ++ text_of m p.line p.state p.rest
  pub stored : IsStored files (final (state_after m p.line p.state p.rest))

-- a commit in flight was done: that of the next line, where it asks for one, or after all lines that of the end
abbrev pub InFlight : Meaning → Files → (line : ℕ) → State → (rest : List (List ℕ)) → Type 0
InFlight m files line state [] = IsStored files (final state)
InFlight m files line state (l ∷ ls) = (m.commits state l ≡ true) × IsStored files (final (m.answer line state l).state)

-- The folder failed, or memory was wanting: the answers of some lines went out whole, and nothing else. The folder
-- stores what these lines have stored, or the commit in flight.
pub record Stops (m : Meaning) (told : Type 0) (p : ScriptPlace) (files : Files) (new : List ℕ) : Type 0 where
  pub done : List (List ℕ)
  pub rest : List (List ℕ)
  pub whole : p.rest ≡ done ++ rest
  pub text : told → new ≡ p.written ++ text_of m p.line p.state done
  pub stored : IsStored files (stored_after m p.line p.stored p.state done)
      ⊎ InFlight m files (p.line + length done) (state_after m p.line p.state done) rest

-- The sink failed at a line: the answers before it went out whole, and a prefix of its own. The folder stores what the
-- lines up to it have stored.
pub record Breaks (m : Meaning) (told : Type 0) (p : ScriptPlace) (files : Files) (new : List ℕ) : Type 0 where
  pub done : List (List ℕ)
  pub at : List ℕ
  pub rest : List (List ℕ)
  pub whole : p.rest ≡ done ++ at ∷ rest
  pub text : told
      → WritesPart (p.written ++ text_of m p.line p.state done) new
      (m.answer (p.line + length done) (state_after m p.line p.state done) at).text
  pub stored : IsStored files (stored_after m p.line p.stored p.state (done ++ at ∷ []))

-- The source failed: some first lines were done, each answered whole, and nothing else. No commit was done that none of
-- them asked for.
pub record Halts (m : Meaning) (told : Type 0) (p : ScriptPlace) (files : Files) (new : List ℕ) : Type 0 where
  pub done : List (List ℕ)
  pub rest : List (List ℕ)
  pub whole : p.rest ≡ done ++ rest
  pub text : told → new ≡ p.written ++ text_of m p.line p.state done
  pub stored : IsStored files (stored_after m p.line p.stored p.state done)

-- no line was done: nothing more is written, and the same state is stored
pub record Waits (told : Type 0) (p : ScriptPlace) (files : Files) (new : List ℕ) : Type 0 where
  pub text : told → new ≡ p.written
  pub stored : IsStored files p.stored

-- how a run ends whose folder stored a state: it never ends as damaged
abbrev pub Ends : Meaning → (told : Type 0) → ScriptPlace → Files → List ℕ → Status → Type 0
Ends m told p files new status.Done = Finishes m told p files new × (p.refused + refused_in m p.line p.state p.rest ≡ 0)
Ends m told p files new (status.SomeRefused count) = Finishes m told p files new × (0 < count)
    × (count ≡ p.refused + refused_in m p.line p.state p.rest)
Ends m told p files new status.FolderFault = Stops m told p files new
Ends m told p files new status.Memory = Stops m told p files new
Ends m told p files new status.SinkFault = Breaks m told p files new
Ends m told p files new (status.Damaged damage) = ⊥
Ends m told p files new status.Usage = Waits told p files new
Ends m told p files new status.SourceFault = Waits told p files new
Ends m told p files new status.TooLarge = Waits told p files new

-- how a session ends whose folder stored a state: as a run does, but for a source that fails, and its input is never
-- too large
abbrev pub EndsSession : Meaning → (told : Type 0) → ScriptPlace → Files → List ℕ → Status → Type 0
EndsSession m told p files new status.Done = Ends m told p files new status.Done
EndsSession m told p files new (status.SomeRefused count) = Ends m told p files new (status.SomeRefused count)
EndsSession m told p files new status.FolderFault = Stops m told p files new
EndsSession m told p files new status.Memory = Stops m told p files new
EndsSession m told p files new status.SinkFault = Breaks m told p files new
EndsSession m told p files new status.SourceFault = Halts m told p files new
EndsSession m told p files new (status.Damaged damage) = ⊥
EndsSession m told p files new status.Usage = ⊥
EndsSession m told p files new status.TooLarge = ⊥

-- the same of lines alone: they are all answered, and so many were refused, or the run stops
abbrev pub EndsLines : Meaning → (told : Type 0) → ScriptPlace → Files → List ℕ → Result ℕ Stop → Type 0
EndsLines m told p files new (Ok count) = Finishes m told p files new
    × (count ≡ p.refused + refused_in m p.line p.state p.rest)
EndsLines m told p files new (Err stop.FolderFault) = Stops m told p files new
EndsLines m told p files new (Err stop.Memory) = Stops m told p files new
EndsLines m told p files new (Err stop.SinkFault) = Breaks m told p files new
EndsLines m told p files new (Err (stop.Damaged damage)) = ⊥

-- and of lines that come from a source
abbrev pub EndsRead : Meaning → (told : Type 0) → ScriptPlace → Files → List ℕ → Result ℕ Halt → Type 0
EndsRead m told p files new result = OnLines (EndsLines m told p files new) (Halts m told p files new) result
