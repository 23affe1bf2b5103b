use Rattle.std.proofs.Common.{refl}
use Rattle.csv_load.specs.Loading.{without_blanks}
use Rattle.csv_load.proofs.fields.without_blanks.Goals as goal

pub returns : goal.returns
unfolding without_blanks
returns c = rw (c.from_first.ensures, c.up_to_last.ensures) refl
