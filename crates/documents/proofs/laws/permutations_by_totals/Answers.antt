use Rattle.documents.proofs.Totals.{totals, permuted}
use Rattle.documents.proofs.laws.permutations_by_totals.Goals as goal

pub returns : goal.returns
returns c xs ys = (totals xs ys, permuted xs ys)
