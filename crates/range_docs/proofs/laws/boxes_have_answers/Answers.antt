use Rattle.range_docs.proofs.Boxes.{box_answers}
use Rattle.range_docs.proofs.laws.boxes_have_answers.Goals as goal

pub returns : goal.returns
returns c = box_answers
