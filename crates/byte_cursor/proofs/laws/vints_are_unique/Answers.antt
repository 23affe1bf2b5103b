use Rattle.byte_cursor.proofs.Vints.{vint_unique, vint_one}
use Rattle.byte_cursor.proofs.laws.vints_are_unique.Goals as goal

pub returns-clause-one : goal.returns-clause-one
returns-clause-one c = vint_unique

pub returns-clause-spelling : goal.returns-clause-spelling
returns-clause-spelling c = vint_one
