use Rattle.std.proofs.lemmas.Result.{err_from_is_err_and}
use Rattle.script_lang.proofs.Limits.{create_within, create_remembers, text_remembers}
use Rattle.script_lang.proofs.reading.read_first.Goals as goal

pub returns-in_err-words-clause-no_memory : goal.returns-in_err-words-clause-no_memory
returns-in_err-words-clause-no_memory c =
    let p = err_from_is_err_and c.from_residual.result c.from_residual.ensures.1 in
    rw (p.1, p.2) (λ m. text_remembers _ _ c.in_err-words.ensures cc)

pub returns-clause-limits : goal.returns-clause-limits
returns-clause-limits c = create_within c.create.result _ c.create.ensures

pub returns-clause-no_memory : goal.returns-clause-no_memory
returns-clause-no_memory c = create_remembers c.create.result _ c.create.ensures
