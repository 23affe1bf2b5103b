-- Where enough are found the last one tells how far.
use Rattle.std.proofs.Common.{sym, arith}
use Rattle.std.proofs.lemmas.Option.{slice_get_within}
use Rattle.nearest_query.proofs.Touched.{reaches}
use Rattle.nearest_query.proofs.query.reach.Goals as goal

pub returns-in-Some : goal.returns-in-Some
returns-in-Some c =
    let within = slice_get_within c.args.found.now _ c.in-Some.last.now (sym c.in-Some.ensures.value) in
    reaches c.args.k c.args.found.now c.in-Some.last.now (omega arith) (omega arith) (sym c.in-Some.ensures.value)
