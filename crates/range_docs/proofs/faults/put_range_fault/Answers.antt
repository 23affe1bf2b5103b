use Rattle.script_lang.specs.Replies.{line_fault_text}
use Rattle.range_docs.specs.Replies.{range_fault_text}
use Rattle.range_docs.proofs.faults.put_range_fault.Goals as goal

pub returns-in-Line-clause-ok : goal.returns-in-Line-clause-ok
unfolding range_fault_text line_fault_text
returns-in-Line-clause-ok c = rw c.in-Line.is c.put_line_fault.ensures.ok

pub returns-in-NotRange-clause-ok : goal.returns-in-NotRange-clause-ok
unfolding range_fault_text
returns-in-NotRange-clause-ok c = rw c.in-NotRange.is c.refuse.ensures.ok
