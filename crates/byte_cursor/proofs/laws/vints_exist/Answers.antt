use Rattle.byte_cursor.proofs.Vints.{vint_exists, vint_lengths}
use Rattle.byte_cursor.proofs.laws.vints_exist.Goals as goal

pub returns-clause-exists : goal.returns-clause-exists
returns-clause-exists c = vint_exists

pub returns-clause-length : goal.returns-clause-length
returns-clause-length c = vint_lengths
