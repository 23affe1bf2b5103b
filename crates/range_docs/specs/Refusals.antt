-- Why a line of points was not read, as the fault of a line of ranges.
use Rattle.script_lang.specs.declared.faults.LineFault.{LineFault}
use Rattle.script_lang.specs.declared.faults.LineFault.TheVariants as line
use Rattle.range_docs.specs.declared.faults.RangeFault.{RangeFault}
use Rattle.range_docs.specs.declared.faults.RangeFault.TheVariants as fault

-- want of memory is no fault of the line
abbrev pub fault_of : LineFault → RangeFault
fault_of line.Memory = fault.Memory
fault_of f = fault.Line f
