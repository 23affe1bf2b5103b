use Rattle.std.proofs.Common.{refl}
use Rattle.outer_io.proofs.FileLists.{files_in-put, files_in-put_other}
use Rattle.outer_io.proofs.file_map.FileMap.put.Goals as goal

pub returns-clause-put : goal.returns-clause-put
returns-clause-put c =
    rw (c.push.ensures.items, c.unwrap.ensures, c.remove_all.ensures.items)
    (files_in-put c.args.n c.reserve.new.self.items record { name = c.args.n; bytes = c.args.bytes } refl)

pub returns-clause-others : goal.returns-clause-others
returns-clause-others c other h =
    rw (c.push.ensures.items, c.unwrap.ensures, c.remove_all.ensures.items, ← c.reserve.ensures.items)
    (files_in-put_other c.args.n other c.reserve.new.self.items record { name = c.args.n; bytes = c.args.bytes } refl h)
