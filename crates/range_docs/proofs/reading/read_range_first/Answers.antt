use Rattle.std.proofs.lemmas.Result.{err_from_is_err_and}
use Rattle.script_lang.proofs.Limits.{text_remembers}
use Rattle.range_docs.proofs.Sound.{create_within, create_remembers, not_memory}
use Rattle.range_docs.proofs.reading.read_range_first.Goals as goal

pub returns-in_err-words-clause-no_memory : goal.returns-in_err-words-clause-no_memory
returns-in_err-words-clause-no_memory c =
    let p = err_from_is_err_and c.from_residual.result c.from_residual.ensures.1 in
    rw (p.1, p.2) (λ m. not_memory _ (text_remembers _ _ c.in_err-words.ensures) cc)

pub returns-in_err-create-clause-no_memory : goal.returns-in_err-create-clause-no_memory
returns-in_err-create-clause-no_memory c =
    let p = err_from_is_err_and c.from_residual-in_err-create.result c.from_residual-in_err-create.ensures.1 in
    rw (p.1, p.2) (λ m. not_memory _ (create_remembers _ _ c.in_err-create.ensures) cc)

pub returns-clause-limits : goal.returns-clause-limits
returns-clause-limits c = create_within c.in_ok-create.field-0 _ c.in_ok-create.ensures
