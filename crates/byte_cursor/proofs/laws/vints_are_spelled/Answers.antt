use Rattle.byte_cursor.proofs.SpelledVints.{spelled}
use Rattle.byte_cursor.proofs.laws.vints_are_spelled.Goals as goal

pub returns : goal.returns
returns c a n lt = spelled a n lt
