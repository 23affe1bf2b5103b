use Rattle.std.proofs.lemmas.List.Edits.{map_over_more}
use Rattle.outer_io.specs.FileMap.{with_new_name}
use Rattle.outer_io.proofs.file_map.rename_all.Goals as goal

pub loop-entry-preserved : goal.loop-entry-preserved
loop-entry-preserved c =
    rw (c.rename_one-entry.ensures, ← c.entry-item.is)
    (map_over_more (with_new_name c.args.from.now c.args.to.now) c.deref_mut-entry-items.result.now c.loop-entry.entry-items c.loop-entry.entry-index
    c.entry-item.result c.loop-entry-test.true c.loop-entry.invariant c.entry-item.is)
