use Rattle.commit_list.proofs.Lists.{Reaches}
use Rattle.commit_list.proofs.listed.are_listed.Given as goal

abbrev pub invariant-loop-s : goal.invariant-loop-s
invariant-loop-s l = Reaches l.next_segment l.listed l.s-index l.least
