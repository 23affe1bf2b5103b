use Rattle.std.proofs.Common.{◌≡◌, ◌++◌, map, take, drop}
use Rattle.outer_io.specs.FileMap.{with_new_name}
use Rattle.outer_io.proofs.file_map.rename_all.Given as goal

-- the entries so far have their new names
abbrev pub invariant-loop-entry : goal.invariant-loop-entry
invariant-loop-entry l =
    l.entry-items ≡ map (with_new_name l.from l.to) (take l.entry-index l.initial.entry-items) ++ drop l.entry-index l.initial.entry-items
