-- Names that differ in one number, and that number.
use Rattle.std.specs.Prelude.{ℕ, ◌==◌, cond, List, Option, None, Some}
use Rattle.std.specs.List.{filter_map}
use Rattle.outer_io.specs.declared.file_name.FileName.{FileName}
use Rattle.outer_io.specs.declared.file_name.FileName.TheVariants.{Segment, Live}
use Rattle.file_names.specs.declared.free.Series.{Series}
use Rattle.file_names.specs.declared.free.Series.TheVariants.{Segments, Generations}

-- the name with this number
abbrev pub name_in : Series → ℕ → FileName
name_in Segments number = Segment number
name_in (Generations segment) number = Live segment number

-- the number of a name of the series
abbrev pub number_in : Series → FileName → Option ℕ
number_in Segments (Segment id) = Some id
number_in (Generations segment) (Live of generation) = cond (of == segment) (Some generation) None
number_in _ _ = None

-- the numbers that a list has in the series
abbrev pub numbers_in : Series → List FileName → List ℕ
numbers_in series names = filter_map (number_in series) names
