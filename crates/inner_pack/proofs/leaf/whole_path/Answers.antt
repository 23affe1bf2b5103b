use Rattle.std.proofs.Common.{◌≡◌, refl, arith, length}
use Rattle.std.proofs.lemmas.Grind.{common_steps}
use Rattle.point_codec.specs.Seen.{region_of}
use Rattle.inner_pack.proofs.CellLemmas.{none_long}
use Rattle.inner_pack.proofs.SpelledLemmas.{within_self}
use Rattle.inner_pack.proofs.leaf.whole_path.Goals as goal

pub returns-clause-found : goal.returns-clause-found
returns-clause-found g c =
    let none : length c.args.b.now ≡ 0 = grind (arith, common_steps) in
    record { cell = c.is_cell.ensures; inside = within_self (region_of c.args.path.now); path_cell = λ _. refl; spelled = none_long c.args.b.now none }
