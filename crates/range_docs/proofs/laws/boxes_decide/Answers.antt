use Rattle.range_docs.proofs.Boxes.{boxes_decide}
use Rattle.range_docs.proofs.laws.boxes_decide.Goals as goal

pub returns : goal.returns
returns c = boxes_decide
