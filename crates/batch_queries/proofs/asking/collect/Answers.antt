-- After the last line all queries are collected.
use Rattle.std.proofs.Common.{◌≡◌, ◌++◌, ℕ, List, ap, append-nil, arith, length, map, sym, ◌∙◌}
use Rattle.std.proofs.lemmas.Bool.Decides.{nat_tests}
use Rattle.std.specs.List.{flat_map}
use Rattle.batch_queries.specs.Queries.{query_in, request_of}
use Rattle.batch_queries.proofs.Lines.{no_lines}
use Rattle.batch_queries.proofs.asking.collect.Goals as goal

pub returns-clause-asked : goal.returns-clause-asked
returns-clause-asked g c =
    let none : length c.lines.rest.now ≡ 0 = grind (arith, nat_tests) in
    sym (append-nil (map (request_of {D = g.row.D}) c.lines.queries.items))
    ∙ ap (λ (ls : List (List ℕ)). map (request_of {D = g.row.D}) c.lines.queries.items ++ flat_map (query_in g.row.D) ls) (sym (no_lines c.lines.rest.now none))
    ∙ c.lines.invariant.asked
