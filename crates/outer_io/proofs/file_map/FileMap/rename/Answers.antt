use Rattle.std.proofs.Common.{ap, sym}
use Rattle.outer_io.specs.FileMap.{files_of}
use Rattle.outer_io.proofs.FileLists.{files_in-renamed_to, files_in-renamed_from, files_in-renamed_other}
use Rattle.outer_io.proofs.Names.{same_name-true, same_name-false}
use Rattle.outer_io.proofs.file_map.FileMap.rename.Goals as goal

pub returns-then-not-is-clause-renamed : goal.returns-then-not-is-clause-renamed
returns-then-not-is-clause-renamed c =
    let apart = same_name-false c.args.from.now c.args.to.now (sym c.if-not-is.ensures) in
    rw (c.rename_all.ensures, c.remove_all.ensures.items)
    record {
      moved = files_in-renamed_to c.args.from.now c.args.to.now c.args.self.now.entries.items apart;
      gone = files_in-renamed_from c.args.from.now c.args.to.now c.args.self.now.entries.items;
    }

pub returns-then-not-is-clause-others : goal.returns-then-not-is-clause-others
returns-then-not-is-clause-others c other h k =
    rw (c.rename_all.ensures, c.remove_all.ensures.items)
    (files_in-renamed_other c.args.from.now c.args.to.now other c.args.self.now.entries.items h k)

pub returns-else-not-is-clause-renamed : goal.returns-else-not-is-clause-renamed
returns-else-not-is-clause-renamed c =
    let same = same_name-true c.args.from.now c.args.to.now (sym c.if-not-is.ensures) in
    record {
      moved = ap (files_of c.args.self.now) (sym same);
      gone = λ apart. absurd (apart same);
    }
