use Rattle.std.proofs.Common.{◌≤◌, ◌<◌, ◌+◌, ◌^◌, length, None}
use Rattle.script_lang.specs.Lines.{lines_of}
use Rattle.run_status.specs.Told.{Tellings}
use Rattle.batch_queries.specs.Batched.{TellsBatch}
use Rattle.batch_queries.proofs.telling.tell_bare.Given as goal

-- the lines so far were told; what is written is the text
abbrev pub invariant-lines : goal.invariant-lines
invariant-lines l = record {
  going : Tellings (Unit {0}) (TellsBatch None)
      (record { line = l.initial.number; refused = l.initial.refused; rest = lines_of l.initial.rest; written = l.initial.bytes.items })
      (record { line = l.number; refused = l.refused; rest = lines_of l.rest; written = l.bytes.items });
  room : l.number + length l.rest < 2 ^ 64;
  counted : l.refused ≤ l.number;
}

abbrev pub decreases-lines : goal.decreases-lines
decreases-lines l = length l.rest
