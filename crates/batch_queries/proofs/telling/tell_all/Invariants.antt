use Rattle.std.proofs.Common.{◌≡◌, ◌≤◌, ◌<◌, ◌+◌, ◌^◌, length, map, Some}
use Rattle.std.specs.List.{flat_map}
use Rattle.script_lang.specs.Lines.{lines_of}
use Rattle.index_model.specs.State.{Index}
use Rattle.run_status.specs.Told.{Tellings}
use Rattle.batch_queries.specs.Queries.{query_in, text_of_reply}
use Rattle.batch_queries.specs.Batched.{TellsBatch, reply_text}
use Rattle.batch_queries.proofs.telling.tell_all.Given as goal

-- the lines so far were told, and the replies that are left are those of the lines that are left
abbrev pub invariant-lines : goal.invariant-lines
invariant-lines g l = record {
  going : (i : Index) → i.dims ≡ g.row.D
      → map text_of_reply l.initial.left ≡ map (reply_text i) (flat_map (query_in g.row.D) (lines_of l.initial.rest))
      → Tellings (Unit {0}) (TellsBatch (Some i))
      (record { line = l.initial.number; refused = l.initial.refused; rest = lines_of l.initial.rest; written = l.initial.bytes.items })
      (record { line = l.number; refused = l.refused; rest = lines_of l.rest; written = l.bytes.items });
  left : (i : Index) → i.dims ≡ g.row.D
      → map text_of_reply l.initial.left ≡ map (reply_text i) (flat_map (query_in g.row.D) (lines_of l.initial.rest))
      → map text_of_reply l.left ≡ map (reply_text i) (flat_map (query_in g.row.D) (lines_of l.rest));
  each : length l.left ≡ length (flat_map (query_in g.row.D) (lines_of l.rest));
  room : l.number + length l.rest < 2 ^ 64;
  counted : l.refused ≤ l.number;
}

abbrev pub decreases-lines : goal.decreases-lines
decreases-lines g l = length l.rest
