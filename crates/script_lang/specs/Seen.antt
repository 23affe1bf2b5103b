-- What the definitions see of the types of this crate.
use Rattle.std.specs.Prelude.{ℕ, None, Some, Result, Ok, Err, ◌≡◌, ◌≤◌}
use Rattle.point_codec.specs.declared.names.View.{View}
use Rattle.point_codec.specs.declared.names.View.TheVariants.{Now, Named}
use Rattle.script_lang.specs.Requests.{Viewed, Request}
use Rattle.script_lang.specs.Requests as asks
use Rattle.script_lang.specs.Reading.{Reading, Says, Fails, greatest_leaf}
use Rattle.script_lang.specs.declared.faults.LineFault.{LineFault}
use Rattle.script_lang.specs.declared.faults.LineFault.TheVariants as fault
use Rattle.script_lang.specs.declared.commands.Command.{Command}
use Rattle.script_lang.specs.declared.commands.Command.TheVariants as command
use Rattle.script_lang.specs.declared.commands.First.{First}
use Rattle.script_lang.specs.declared.commands.First.TheVariants as first

abbrev pub view_name : View → Viewed
view_name Now = None
view_name (Named name) = Some name

-- the request that a command stands for
abbrev pub request_of : {D : ℕ} → Command D → Request
request_of command.Blank = asks.Blank
request_of (command.Create dims leaf_size) = asks.Create dims leaf_size
request_of (command.Add points) = asks.Add points
request_of (command.Delete doc) = asks.Delete doc
request_of (command.DeleteBox lo hi) = asks.DeleteBox lo.c hi.c
request_of (command.InBox view lo hi) = asks.InBox (view_name view) lo.c hi.c
request_of (command.Polygon view rings) = asks.InPolygon (view_name view) rings
request_of (command.Nearest view k target) = asks.Nearest (view_name view) k target.c
request_of command.Flush = asks.Flush
request_of command.Merge = asks.Merge
request_of (command.MergeBegin positions) = asks.MergeBegin positions
request_of command.MergeEnd = asks.MergeEnd
request_of (command.Snapshot name) = asks.Snapshot name
request_of (command.Release name) = asks.Release name
request_of command.Commit = asks.Commit
request_of command.Reopen = asks.Reopen

-- what a line asks where no index is there
abbrev pub first_request_of : First → Request
first_request_of first.Blank = asks.Blank
first_request_of (first.Create dims leaf_size) = asks.Create dims leaf_size

-- a command is what was read, and a fault is the one that was read, but for want of memory, which says nothing
abbrev pub IsReadAs : {C : Type 0} → (C → Request) → Result C LineFault → Reading → Type 0
IsReadAs request (Ok c) reading = reading ≡ Says (request c)
IsReadAs request (Err fault.Memory) reading = Unit {0}
IsReadAs request (Err f) reading = reading ≡ Fails f

-- the limits of what a line may ask: an index of 1 to 8 dimensions and leaves of 2 points up to the greatest leaf,
-- and the 1 to 10,000 nearest
abbrev pub IsWithinLimits : Request → Type 0
IsWithinLimits (asks.Create dims leaf_size) = (1 ≤ dims) × (dims ≤ 8) × (2 ≤ leaf_size)
    × (leaf_size ≤ greatest_leaf dims)
IsWithinLimits (asks.Nearest view k target) = (1 ≤ k) × (k ≤ 10000)
IsWithinLimits request = Unit {0}
