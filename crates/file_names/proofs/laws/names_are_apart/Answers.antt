use Rattle.outer_io.proofs.Names.{same_name-refl, same_name-true, same_name-other, same_name-false}
use Rattle.std.proofs.Common.{refl}
use Rattle.outer_io.specs.Names.{same_name}
use Rattle.file_names.proofs.Listed.{same_name-swapped}
use Rattle.file_names.proofs.laws.names_are_apart.Goals as goal

pub returns-clause-itself : goal.returns-clause-itself
returns-clause-itself c = same_name-refl

pub returns-clause-equal : goal.returns-clause-equal
returns-clause-equal c = same_name-true

pub returns-clause-other : goal.returns-clause-other
returns-clause-other c = same_name-other

pub returns-clause-apart : goal.returns-clause-apart
returns-clause-apart c = same_name-false

pub returns-clause-either_way : goal.returns-clause-either_way
returns-clause-either_way c = same_name-swapped

pub returns-clause-segments : goal.returns-clause-segments
unfolding same_name
returns-clause-segments c a b = refl

pub returns-clause-generations : goal.returns-clause-generations
unfolding same_name
returns-clause-generations c a m b n = refl
