use Rattle.outer_io.specs.DirFolder.{StaysCounted}
use Rattle.outer_io.proofs.dir_folder.DirFolder.move_unlisted.Given as goal

-- nothing was counted by the moves so far
abbrev pub invariant-loop-name : goal.invariant-loop-name
invariant-loop-name g l = StaysCounted l.initial.self l.self
