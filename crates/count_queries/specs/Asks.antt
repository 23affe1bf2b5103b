-- How a line of counts is read. Its faults come in the order of a script's lines: too long, not UTF-8, no index, an
-- unknown command, the wrong number of words, a word that is no number; and then those of a grid.
use Rattle.std.specs.Prelude.{ℕ, ◌==◌, ◌*◌, if◌then◌else◌, List, [], ◌∷◌, length, slice_index, Option, Some, None}
use Rattle.std.specs.Prelude.{Result, Ok, Err, ℤ, codes}
use Rattle.std.specs.Str.{bytes_eq}
use Rattle.number_text.specs.Number.{number}
use Rattle.point_codec.specs.Points.{Region}
use Rattle.script_lang.specs.Lines.{words_of}
use Rattle.script_lang.specs.Reading.{box_of, text_of, value_of}
use Rattle.script_lang.specs.declared.faults.LineFault.{LineFault}
use Rattle.script_lang.specs.declared.faults.LineFault.TheVariants as fault
use Rattle.point_counts.specs.Grids.{Plan, plan_of}

-- what a line of the command `count` asks
pub data Ask : Type 0 where
  -- nothing: a line without words, or a note
  Blank : Ask
  -- how many points lie in the box
  Points : (bounds : Region) → Ask
  -- how many lie in each bucket of the plan
  Grid : (plan : Plan) → Ask

-- what a line says: this may be asked of an index, which may not have such a grid, or it has a fault
pub data CountReading : Type 0 where
  Says : (ask : Ask) → CountReading
  Fails : (fault : LineFault) → CountReading

-- what is read from a part of a line, or that part's fault
abbrev pub on_success : {X : Type 0} → Result X LineFault → (X → CountReading) → CountReading
on_success (Ok x) next = next x
on_success (Err f) next = Fails f

abbrev pub box_from : List ℤ × List ℤ → Region
box_from ends = record { lo = ends.0; hi = ends.1 }

-- `LO HI`, all coordinates of the lower corner and then those of the upper one
unfoldable pub read_points : ℕ → List (List ℕ) → CountReading
read_points dims words = on_success (box_of dims 2 words) (λ ends. Says (Points (box_from ends)))

-- `X STEPX Y STEPY LO HI`
unfoldable pub read_grid : ℕ → List (List ℕ) → CountReading
read_grid dims (x ∷ step_x ∷ y ∷ step_y ∷ ends) =
    if length ends == 2 * dims then
    on_success (value_of number 2 x) (λ x. on_success (value_of number 3 step_x) (λ step_x.
    on_success (value_of number 4 y) (λ y. on_success (value_of number 5 step_y) (λ step_y.
    on_success (box_of dims 6 ends) (λ ends. Says (Grid (plan_of ends.0 ends.1 x step_x y step_y)))))))
    else Fails fault.Words
read_grid dims _ = Fails fault.Words

-- by its first word and the others; where no index is there (None), nothing can be counted
unfoldable pub read_verb : Option ℕ → List ℕ → List (List ℕ) → CountReading
read_verb None verb words = Fails fault.NoIndex
read_verb (Some dims) verb words =
    if bytes_eq verb (codes "points") then read_points dims words
    else if bytes_eq verb (codes "grid") then read_grid dims words
    else Fails fault.Unknown

-- a line without words asks nothing, nor does one whose first word begins with '#'
abbrev pub read_words : Option ℕ → List (List ℕ) → CountReading
read_words dims [] = Says Blank
read_words dims (verb ∷ words) = if slice_index verb 0 == 35 then Says Blank else read_verb dims verb words

-- a line of counts, read where an index of so many dimensions is there, or none
unfoldable pub read_counts : Option ℕ → List ℕ → CountReading
read_counts dims line = on_success (text_of line) (λ text. read_words dims (words_of text))
