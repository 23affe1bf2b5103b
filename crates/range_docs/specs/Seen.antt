-- What the definitions see of the calls that read lines of ranges.
use Rattle.std.specs.Prelude.{ℕ, ◌≡◌, All, Result, Ok, Err}
use Rattle.script_lang.specs.Requests.{Request}
use Rattle.script_lang.specs.Requests as asks
use Rattle.script_lang.specs.declared.faults.LineFault.TheVariants as line
use Rattle.range_docs.specs.Ranges.{AreEnds, IsQuery, box_for}
use Rattle.range_docs.specs.Reading.{RangeRequest, Asks, Finds, RangeReading}
use Rattle.range_docs.specs.declared.faults.RangeFault.{RangeFault}
use Rattle.range_docs.specs.declared.faults.RangeFault.TheVariants as fault

-- what is asked of the points: the ranges that are answers are the points in a box
abbrev pub of_points : RangeRequest → Request
of_points (Asks request) = request
of_points (Finds question view query) = asks.InBox view (box_for question query).lo (box_for question query).hi

-- what was read, as it is asked of the points
abbrev pub request_in : RangeReading → Result Request RangeFault
request_in (Ok request) = Ok (of_points request)
request_in (Err f) = Err f

-- a command asks the points what was read, and a fault is the one that was read, but for want of memory, which says
-- nothing; the fault of a line is never want of memory
abbrev pub AgreesOnRanges : {C : Type 0} → (C → Request) → Result C RangeFault → RangeReading → Type 0
AgreesOnRanges request (Ok c) reading = request_in reading ≡ Ok (request c)
AgreesOnRanges request (Err fault.Memory) reading = Unit {0}
AgreesOnRanges request (Err (fault.Line line.Memory)) reading = ⊥
AgreesOnRanges request (Err f) reading = request_in reading ≡ Err f

-- each point that a request adds is a range of r dimensions
abbrev pub AddsRanges : ℕ → Request → Type 0
AddsRanges r (asks.Add points) = All (AreEnds r) points
AddsRanges r request = Unit {0}

-- what a line adds are ranges, and what it looks for is on a range, of r dimensions
abbrev pub NamesRanges : ℕ → RangeRequest → Type 0
NamesRanges r (Asks request) = AddsRanges r request
NamesRanges r (Finds question view query) = IsQuery r query
