use Rattle.point_codec.specs.Seen.{region_of}
use Rattle.inner_pack.proofs.PackBytes.{cell_written}
use Rattle.inner_pack.proofs.cells.put_cell.Goals as goal

pub returns-clause-spelled : goal.returns-clause-spelled
returns-clause-spelled g c =
    cell_written c.args.out.now.items c.put_keys.new.out.items c.put_keys-2.new.out.items (region_of c.args.cell.now) c.in_ok-put_keys.ensures.spelled
    c.in_ok-put_keys-2.ensures.spelled
