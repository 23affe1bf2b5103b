use Rattle.drawn_points.proofs.Bounds.{answers_small, boxes_small, near_small}
use Rattle.drawn_points.proofs.laws.sums_are_small.Goals as goal

pub returns-clause-boxes : goal.returns-clause-boxes
returns-clause-boxes c = boxes_small

pub returns-clause-answers : goal.returns-clause-answers
returns-clause-answers c = answers_small

pub returns-clause-near : goal.returns-clause-near
returns-clause-near c = near_small
