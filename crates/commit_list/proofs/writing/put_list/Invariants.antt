use Rattle.commit_list.proofs.Lists.{Writes}
use Rattle.commit_list.proofs.writing.put_list.Given as goal

abbrev pub invariant-loop-s : goal.invariant-loop-s
invariant-loop-s l = Writes l.fn.out.items l.out.items l.listed l.s-index
