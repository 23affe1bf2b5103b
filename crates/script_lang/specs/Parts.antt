-- What is said of the words of a line while they are read.
use Rattle.std.specs.Prelude.{ℕ, ℤ, ◌+◌, ◌*◌, ◌==◌, ◌≡◌, ◌≤◌, Bool, false, List, [], ◌∷◌, ◌++◌, length, slice_index}
use Rattle.std.specs.Prelude.{Option, Result, Ok, Err}
use Rattle.std.specs.List.{flat_map}
use Rattle.number_text.specs.Number.{coordinate}
use Rattle.point_codec.specs.Seen.{coordinates_of}
use Rattle.point_codec.specs.declared.coordinates.Point.{Point}
use Rattle.script_lang.specs.Lines.{words_of, after_word}
use Rattle.script_lang.specs.Reading.{Reading, Says, Fails, values_of, pieces}
use Rattle.script_lang.specs.Seen.{first_request_of}
use Rattle.script_lang.specs.declared.commands.First.{First}
use Rattle.script_lang.specs.declared.faults.LineFault.{LineFault}
use Rattle.script_lang.specs.declared.faults.LineFault.TheVariants as fault
use Rattle.script_lang.specs.declared.words.Words.{Words}

-- the words that are not read yet
abbrev pub words_left : Words → List (List ℕ)
words_left some = words_of some.text.now

-- the first of the words begins with '@'
abbrev pub names_view : List (List ℕ) → Bool
names_view [] = false
names_view (w ∷ ws) = slice_index w 0 == 64

-- a word is taken off: later is what is left of first behind it
pub record Takes (word : List ℕ) (first later : Words) : Type 0 where
  pub words : words_left first ≡ word ∷ words_left later
  pub place : later.place ≡ first.place + 1
  pub text : later.text.now ≡ after_word first.text.now

-- later are the words of first that are left when those in front of them are read
pub record IsRestOf (later first : Words) : Type 0 where
  pub place : first.place ≤ later.place
  pub count : later.place + length (words_left later) ≡ first.place + length (words_left first)

-- these values in front of those that were read; a fault stays
abbrev pub before : {X : Type 0} → List X → Result (List X) LineFault → Result (List X) LineFault
before xs (Ok ys) = Ok (xs ++ ys)
before xs (Err f) = Err f

-- these values are written by the words that are left at first and no more later
pub record Writes {X : Type 0} (value : List ℕ → Option X) (xs : List X) (first later : Words) : Type 0 where
  pub values : values_of value first.place (words_left first) ≡ before xs
      (values_of value later.place (words_left later))
  pub count : length (words_left first) ≡ length xs + length (words_left later)

-- a result is what is read, as it is seen, but for want of memory, which says nothing
abbrev pub ReadsAs : {C X : Type 0} → (C → X) → Result C LineFault → Result X LineFault → Type 0
ReadsAs seen (Ok c) read = read ≡ Ok (seen c)
ReadsAs seen (Err fault.Memory) read = Unit {0}
ReadsAs seen (Err f) read = read ≡ Err f

-- the coordinates of points, one after the other
abbrev pub joined_coordinates : {D : ℕ} → List (Point D) → List ℤ
joined_coordinates points = flat_map (λ p. p.c) points

-- points that were read from words, of which later are left
pub record ReadsPoints (D : ℕ) (points : List (Point D)) (first later : Words) : Type 0 where
  pub writes : Writes coordinate (joined_coordinates points) first later
  pub cut : pieces (length points) D (joined_coordinates points) ≡ coordinates_of points
  pub long : length (joined_coordinates points) ≡ length points * D

-- what was read of a line where no index is there
abbrev pub first_reading_of : Result First LineFault → Reading
first_reading_of (Ok first) = Says (first_request_of first)
first_reading_of (Err f) = Fails f
