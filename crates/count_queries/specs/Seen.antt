-- What the definitions see of the types of this crate.
use Rattle.std.specs.Prelude.{ℕ, ◌≡◌, ◌≢◌, Result, Ok, Err}
use Rattle.point_counts.specs.Grids.{Judges, Plan, plan_of}
use Rattle.script_lang.specs.declared.faults.LineFault.{LineFault}
use Rattle.script_lang.specs.declared.faults.LineFault.TheVariants as fault
use Rattle.count_queries.specs.Asks.{Ask, Blank, Points, Grid, CountReading, Says, Fails, box_from}
use Rattle.count_queries.specs.declared.wanted.Wanted.{Wanted}
use Rattle.count_queries.specs.declared.wanted.Wanted.TheVariants as wanted
use Rattle.count_queries.specs.declared.lines.CountLine.{CountLine}
use Rattle.count_queries.specs.declared.lines.CountLine.TheVariants as line
use Rattle.count_queries.specs.declared.lines.CountFault.{CountFault}
use Rattle.count_queries.specs.declared.lines.CountFault.TheVariants as count

-- what is wanted by the words of a line
abbrev pub ask_of : {D : ℕ} → Wanted D → Ask
ask_of wanted.Blank = Blank
ask_of (wanted.Points lo hi) = Points (box_from (lo.c, hi.c))
ask_of (wanted.Grid lo hi x step_x y step_y) = Grid (plan_of lo.c hi.c x step_x y step_y)

abbrev pub reading_of : {D : ℕ} → Result (Wanted D) LineFault → CountReading
reading_of (Ok w) = Says (ask_of w)
reading_of (Err f) = Fails f

-- where no index is there only a line that asks nothing has no fault
abbrev pub bare_reading : Result (Unit {0}) LineFault → CountReading
bare_reading (Ok none) = Says Blank
bare_reading (Err f) = Fails f

-- What was read of a line is what it says, or its fault, or the fault of the grid that it asks for. It takes no memory.
abbrev pub IsReadLine : (D : ℕ) → Result (CountLine D) CountFault → CountReading → Type 0
IsReadLine D (Ok line.Blank) reading = reading ≡ Says Blank
IsReadLine D (Ok (line.Points lo hi)) reading = reading ≡ Says (Points (box_from (lo.c, hi.c)))
IsReadLine D (Ok (line.Grid plan)) reading = (reading ≡ Says (Grid plan)) × Judges D plan (Ok plan)
IsReadLine D (Err (count.Line f)) reading = (reading ≡ Fails f) × (f ≢ fault.Memory)
IsReadLine D (Err (count.Grid f)) reading = (plan : Plan) × (reading ≡ Says (Grid plan)) × Judges D plan (Err f)
IsReadLine D (Err count.Memory) reading = ⊥
