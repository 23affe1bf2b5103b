-- The text that answers a line that cannot be read.
use Rattle.std.specs.Prelude.{ℕ, List, [], codes}
use Rattle.script_lang.specs.Replies.{refusal_text, fault_text}
use Rattle.range_docs.specs.declared.faults.RangeFault.{RangeFault}
use Rattle.range_docs.specs.declared.faults.RangeFault.TheVariants as fault

abbrev pub range_cause_text : RangeFault → List ℕ
range_cause_text (fault.Line f) = fault_text f
range_cause_text fault.NotRange = codes "not a range"
range_cause_text fault.NotRanges = codes "not ranges"
-- no line answers this: want of memory ends a script
range_cause_text fault.Memory = []

unfoldable pub range_fault_text : ℕ → RangeFault → List ℕ
range_fault_text line f = refusal_text line (range_cause_text f)
