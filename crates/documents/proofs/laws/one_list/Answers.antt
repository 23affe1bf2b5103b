use Rattle.documents.proofs.OneList.{one_list}
use Rattle.documents.proofs.laws.one_list.Goals as goal

pub returns : goal.returns
returns c m n xs ys docs others are those moved = one_list m n xs ys docs others are those moved
