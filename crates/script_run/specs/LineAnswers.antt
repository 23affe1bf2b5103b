-- What is said of the answer to one line.
use Rattle.std.specs.Prelude.{ℕ, ◌≡◌, ◌≤◌, ◌⊎◌, Bool, cond, List, [], ◌∷◌, ◌++◌, Some, None, Result, Ok, Err}
use Rattle.outer_io.specs.Files.{Files}
use Rattle.outer_io.specs.Parts.{WritesPart}
use Rattle.page_cache.specs.declared.faults.PageFault.{PageFault}
use Rattle.page_cache.specs.declared.faults.PageFault.TheVariants as page
use Rattle.script_lang.specs.Reading.{greatest_leaf}
use Rattle.index_model.specs.State.{Index, State, at_rest, new_index}
use Rattle.index_model.specs.Script.{Answer}
use Rattle.stored_index.specs.Stored.{IsStored}
use Rattle.segment_set.specs.Seen.{Sees}
use Rattle.index_core.specs.Sessions.{SessionData, Guards}
use Rattle.script_run.specs.Languages.{answer, meaning}
use Rattle.script_run.specs.Runs.{InFlight}
use Rattle.script_run.specs.Script.{stored_by}
use Rattle.script_run.specs.declared.language.Language.{Language}
use Rattle.run_status.specs.declared.stop.Stop.{Stop}
use Rattle.run_status.specs.declared.stop.Stop.TheVariants as stop
use Rattle.script_run.specs.declared.answers.Opening.{Opening}
use Rattle.script_run.specs.declared.answers.Opening.TheVariants as opening

-- ---- where an index is there

-- the session with these files is seen as the index, and the files store a state, which the session guards
pub record IsSessionOf (D : ℕ) (files : Files) (s : SessionData) (i : Index) (stored : State) : Type 0 where
  pub seen : Sees D files s.set i
  pub guards : Guards D files s
  pub keeps : IsStored files stored

-- a line to be answered: its number, the index and what is stored before it, and its bytes
pub record Line : Type 0 where
  pub number : ℕ
  pub index : Index
  pub stored : State
  pub bytes : List ℕ

abbrev pub answer_to_line : Language → Line → Answer
answer_to_line lang l = answer lang l.number (Some l.index) l.bytes

-- what is stored after the line
abbrev pub stored_by_line : Language → Line → State
stored_by_line lang l = stored_by (meaning lang) l.number l.stored (Some l.index) l.bytes

-- the session came to the state of the answer, with this stored, and it is said whether the line is refused
pub record IsAnswered (D : ℕ) (a : Answer) (stored : State) (files : Files) (s : SessionData) (is_refused : Bool)
    : Type 0 where
  pub index : Index
  pub state : a.state ≡ Some index
  pub stands : IsSessionOf D files s index stored
  pub refused : a.refused ≡ cond is_refused 1 0

-- the line was not done, but a commit that it asks for may have been
abbrev pub IsUndone : Language → Line → Files → Type 0
IsUndone lang l files = IsStored files l.stored ⊎ InFlight (meaning lang) files l.number (Some l.index) (l.bytes ∷ [])

-- the line is answered by an appended text, or left for a fault of the folder or want of memory
abbrev pub Replies : Language → (D : ℕ) → Line → Files → SessionData → (before after : List ℕ) → Result Bool PageFault
    → Type 0
Replies lang D l files s before after (Ok is_refused) =
    IsAnswered D (answer_to_line lang l) (stored_by_line lang l) files s is_refused
    × (after ≡ before ++ (answer_to_line lang l).text)
Replies lang D l files s before after (Err page.Failed) = IsUndone lang l files
Replies lang D l files s before after (Err page.Memory) = IsUndone lang l files
Replies lang D l files s before after (Err (page.Damaged damage)) = ⊥

-- the same with the answer sent: where the sink failed a prefix of it went out
abbrev pub SendsReply : Language → (told : Type 0) (D : ℕ) → Line → Files → SessionData → (before after : List ℕ)
    → Result Bool Stop → Type 0
SendsReply lang told D l files s before after (Ok is_refused) =
    IsAnswered D (answer_to_line lang l) (stored_by_line lang l) files s is_refused
    × (told → after ≡ before ++ (answer_to_line lang l).text)
SendsReply lang told D l files s before after (Err stop.SinkFault) = IsStored files (stored_by_line lang l)
    × (told → WritesPart before after (answer_to_line lang l).text)
SendsReply lang told D l files s before after (Err stop.FolderFault) = IsUndone lang l files × (told → after ≡ before)
SendsReply lang told D l files s before after (Err stop.Memory) = IsUndone lang l files × (told → after ≡ before)
SendsReply lang told D l files s before after (Err (stop.Damaged damage)) = ⊥

-- the end of a session: all is committed, or for a fault of the folder or want of memory it may be
abbrev pub IsEnd : Files → Index → (stored : State) → (refused : ℕ) → Result ℕ Stop → Type 0
IsEnd files i stored refused (Ok count) = (count ≡ refused) × IsStored files (Some (at_rest i))
IsEnd files i stored refused (Err stop.FolderFault) = IsStored files stored ⊎ IsStored files (Some (at_rest i))
IsEnd files i stored refused (Err stop.Memory) = IsStored files stored ⊎ IsStored files (Some (at_rest i))
IsEnd files i stored refused (Err stop.SinkFault) = ⊥
IsEnd files i stored refused (Err (stop.Damaged damage)) = ⊥

-- ---- where no index is there

-- the answer leaves this state, and says whether the line is refused
pub record IsAnswerOf (answer : Answer) (after : State) (is_refused : Bool) : Type 0 where
  pub state : answer.state ≡ after
  pub refused : answer.refused ≡ cond is_refused 1 0

abbrev pub IsFirstAnswer : Answer → Opening → Type 0
IsFirstAnswer answer (opening.Nothing refused) = IsAnswerOf answer None refused
IsFirstAnswer answer (opening.Made dims leaf_size) = (answer.state ≡ Some (new_index dims leaf_size))
    × (answer.refused ≡ 0)

-- a new index has 1 to 8 dimensions, and leaves within the limits
abbrev pub IsNew : (dims leaf_size : ℕ) → Type 0
IsNew dims leaf_size = (1 ≤ dims) × (dims ≤ 8) × (2 ≤ leaf_size) × (leaf_size ≤ greatest_leaf dims)

abbrev pub IsNewWithin : Opening → Type 0
IsNewWithin (opening.Nothing refused) = Unit {0}
IsNewWithin (opening.Made dims leaf_size) = IsNew dims leaf_size
