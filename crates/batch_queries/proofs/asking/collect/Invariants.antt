use Rattle.std.proofs.Common.{◌≡◌, ◌++◌, All, length, map}
use Rattle.std.specs.List.{flat_map}
use Rattle.script_lang.specs.Lines.{lines_of}
use Rattle.batch_run.specs.Queries.{IsInRange}
use Rattle.batch_queries.specs.Queries.{query_in, request_of}
use Rattle.batch_queries.proofs.asking.collect.Given as goal

-- the queries so far and those of the lines that are left are those of all lines
abbrev pub invariant-lines : goal.invariant-lines
invariant-lines g l = record {
  asked : map request_of l.queries.items ++ flat_map (query_in g.row.D) (lines_of l.rest)
      ≡ flat_map (query_in g.row.D) (lines_of l.initial.rest);
  range : All (IsInRange g.row.D) l.queries.items;
}

abbrev pub decreases-lines : goal.decreases-lines
decreases-lines g l = length l.rest
