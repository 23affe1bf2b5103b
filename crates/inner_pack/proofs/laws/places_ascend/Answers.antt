use Rattle.inner_pack.specs.Trees.{lengths_of}
use Rattle.inner_pack.proofs.PlaceLemmas.{end_of_from}
use Rattle.inner_pack.proofs.Nested.{right_ends, left_ends}
use Rattle.inner_pack.proofs.laws.places_ascend.Goals as goal

pub returns-clause-right : goal.returns-clause-right
returns-clause-right c s d x l r h = right_ends s d x l r h

pub returns-clause-left : goal.returns-clause-left
returns-clause-left c s d x l r = left_ends s d x l r

pub returns-clause-first : goal.returns-clause-first
returns-clause-first c s t = end_of_from s (lengths_of t)
