-- What is told of lines one after the other, and how that ends.
use Rattle.std.specs.Prelude.{ℕ, ◌+◌, ◌≡◌, ◌≤◌, Bool, cond, List, [], ◌∷◌, ◌++◌, length, Result, Ok, Err}
use Rattle.outer_io.specs.Parts.{WritesPart}
use Rattle.run_status.specs.declared.status.Status.{Status}
use Rattle.run_status.specs.declared.status.Status.TheVariants as status
use Rattle.run_status.specs.declared.stop.Stop.{Stop}
use Rattle.run_status.specs.declared.stop.Stop.TheVariants as stop

-- of some lines: the text, how many of them are refused, and how many leaves they touch
pub record Told : Type 0 where
  pub text : List ℕ
  pub refused : ℕ
  pub touched : ℕ

abbrev pub silence : Told
silence = record { text = []; refused = 0; touched = 0 }

abbrev pub refusal : List ℕ → Told
refusal text = record { text = text; refused = 1; touched = 0 }

-- what there is to tell of a line of this number
abbrev pub Teller : Type 1
Teller = (line : ℕ) → List ℕ → Told → Type 0

-- what is told of lines and then of others: the texts one behind the other, and the sums of the counts
abbrev pub followed_by : Told → Told → Told
followed_by a b = record { text = a.text ++ b.text; refused = a.refused + b.refused; touched = a.touched + b.touched }

-- of lines, of which the first has this number
abbrev pub TellsLines : (tells : Teller) → (line : ℕ) → List (List ℕ) → Told → Type 0
TellsLines tells line [] t = t ≡ silence
TellsLines tells line (l ∷ ls) t =
    (first : Told) × (rest : Told) × tells line l first × TellsLines tells (line + 1) ls rest
    × (t ≡ followed_by first rest)

-- what is told of a line is appended, and it is said whether the line is refused
pub record IsTold (says : Told → Type 0) (before after : List ℕ) (is_refused : Bool) : Type 0 where
  pub told : Told
  pub tells : says told
  pub text : after ≡ before ++ told.text
  pub refused : told.refused ≡ cond is_refused 1 0

-- ---- what went out, where the sink tells it

-- of all lines it was told what there is to tell, and so many are refused
pub record TellsAll (told : Type 0) (tells : Teller) (line : ℕ) (lines : List (List ℕ)) (old new : List ℕ)
    (refused : ℕ) : Type 0 where
  pub of_lines : Told
  pub all : TellsLines tells line lines of_lines
  pub text : told → new ≡ old ++ of_lines.text
  pub count : of_lines.refused ≡ refused

-- of the first lines it was told whole, and nothing else
pub record TellsSome (told : Type 0) (tells : Teller) (line : ℕ) (lines : List (List ℕ)) (old new : List ℕ) : Type 0
  where
    pub done : List (List ℕ)
    pub rest : List (List ℕ)
    pub whole : lines ≡ done ++ rest
    pub of_done : Told
    pub all : TellsLines tells line done of_done
    pub text : told → new ≡ old ++ of_done.text

-- the sink failed at a line: what is told of those before it went out whole, and a prefix of what is told of it
pub record TellsPart (told : Type 0) (tells : Teller) (line : ℕ) (lines : List (List ℕ)) (old new : List ℕ) : Type 0
  where
    pub done : List (List ℕ)
    pub at : List ℕ
    pub rest : List (List ℕ)
    pub whole : lines ≡ done ++ at ∷ rest
    pub of_done : Told
    pub of_at : Told
    pub all : TellsLines tells line done of_done
    pub tells_at : tells (line + length done) at of_at
    pub text : told → WritesPart (old ++ of_done.text) new of_at.text

-- ---- how it ends

-- a line was told, and it is said whether it is refused, or it stops
abbrev pub SendsLine : (told : Type 0) → Teller → (line : ℕ) → List ℕ → (old new : List ℕ) → Result Bool Stop → Type 0
SendsLine told tells line bytes old new (Ok is_refused) =
    TellsAll told tells line (bytes ∷ []) old new (cond is_refused 1 0)
SendsLine told tells line bytes old new (Err stop.FolderFault) = told → new ≡ old
SendsLine told tells line bytes old new (Err stop.Memory) = told → new ≡ old
SendsLine told tells line bytes old new (Err stop.SinkFault) =
    (t : Told) × tells line bytes t × (told → WritesPart old new t.text)
SendsLine told tells line bytes old new (Err (stop.Damaged damage)) = ⊥

-- lines are told to their end, of which with those before so many are refused, or it stops
abbrev pub EndsLines : (told : Type 0) → Teller → (line refused : ℕ) → List (List ℕ) → (old new : List ℕ)
    → Result ℕ Stop → Type 0
EndsLines told tells line refused lines old new (Ok count) =
    (n : ℕ) × (count ≡ refused + n) × TellsAll told tells line lines old new n
EndsLines told tells line refused lines old new (Err stop.FolderFault) = TellsSome told tells line lines old new
EndsLines told tells line refused lines old new (Err stop.Memory) = TellsSome told tells line lines old new
EndsLines told tells line refused lines old new (Err stop.SinkFault) = TellsPart told tells line lines old new
EndsLines told tells line refused lines old new (Err (stop.Damaged damage)) = ⊥

-- with its status: where the input wasn't read nothing was told
abbrev pub EndsTold : (told : Type 0) → Teller → List (List ℕ) → (old new : List ℕ) → Status → Type 0
EndsTold told tells lines old new status.Done = TellsAll told tells 1 lines old new 0
EndsTold told tells lines old new (status.SomeRefused count) = (1 ≤ count) × TellsAll told tells 1 lines old new count
EndsTold told tells lines old new status.FolderFault = TellsSome told tells 1 lines old new
EndsTold told tells lines old new status.Memory = TellsSome told tells 1 lines old new
EndsTold told tells lines old new status.SinkFault = TellsPart told tells 1 lines old new
EndsTold told tells lines old new (status.Damaged damage) = ⊥
EndsTold told tells lines old new status.Usage = told → new ≡ old
EndsTold told tells lines old new status.SourceFault = told → new ≡ old
EndsTold told tells lines old new status.TooLarge = told → new ≡ old

-- ---- between two lines

-- a stage: the number of the next line, how many before it were refused, the lines left, and all that has gone out
pub record Stage : Type 0 where
  pub line : ℕ
  pub refused : ℕ
  pub rest : List (List ℕ)
  pub written : List ℕ

-- from one stage to a later one it was told of the lines between what there is to tell
pub record Tellings (told : Type 0) (tells : Teller) (from to : Stage) : Type 0 where
  pub done : List (List ℕ)
  pub whole : from.rest ≡ done ++ to.rest
  pub line : to.line ≡ from.line + length done
  pub of_done : Told
  pub all : TellsLines tells from.line done of_done
  pub refused : to.refused ≡ from.refused + of_done.refused
  pub text : told → to.written ≡ from.written ++ of_done.text
