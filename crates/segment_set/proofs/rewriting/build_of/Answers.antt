use Rattle.std.proofs.lemmas.Result.{err_from_is_err_and}
use Rattle.segment_set.proofs.rewriting.build_of.Goals as goal

pub returns-in_err-check_entries-clause-whole : goal.returns-in_err-check_entries-clause-whole
returns-in_err-check_entries-clause-whole g c =
    let p = err_from_is_err_and c.from_residual.result c.from_residual.ensures.1 in
    λ next make few. rw (p.1, p.2) (c.in_err-check_entries.ensures.whole next make few)
