use Rattle.leftovers.proofs.Taken.{gone_bare, gone_of, kept, taken}
use Rattle.leftovers.proofs.left.take_away.Goals as goal

pub returns-in_err-remove_left-clause-kept : goal.returns-in_err-remove_left-clause-kept
returns-in_err-remove_left-clause-kept g c = λ told.
    kept (g.F.Pages.files c.args.folder.now) _ _ c.in_ok-commit.commit (c.in_ok-commit.ensures.found told) (c.in_ok-commit.ensures.files told)
    (c.in_err-remove_left.ensures.takes told)

pub returns-in_err-remove_left-clause-others : goal.returns-in_err-remove_left-clause-others
returns-in_err-remove_left-clause-others g c = λ told k says.
    taken (g.F.Pages.files c.args.folder.now) _ _ c.in_ok-commit.commit (c.in_ok-commit.ensures.found told) (c.in_ok-commit.ensures.files told)
    (c.in_err-remove_left.ensures.takes told) k says

pub returns-clause-kept : goal.returns-clause-kept
returns-clause-kept g c = λ told.
    kept (g.F.Pages.files c.args.folder.now) _ _ c.in_ok-commit.commit (c.in_ok-commit.ensures.found told) (c.in_ok-commit.ensures.files told)
    (c.in_ok-remove_left.ensures.takes told)

pub returns-clause-others : goal.returns-clause-others
returns-clause-others g c = λ told k says.
    taken (g.F.Pages.files c.args.folder.now) _ _ c.in_ok-commit.commit (c.in_ok-commit.ensures.found told) (c.in_ok-commit.ensures.files told)
    (c.in_ok-remove_left.ensures.takes told) k says

pub returns-clause-gone : goal.returns-clause-gone
returns-clause-gone g c = λ told k says.
    gone_of (g.F.Pages.files c.args.folder.now) _ _ c.in_ok-commit.commit (c.in_ok-commit.ensures.found told) (c.in_ok-commit.ensures.files told)
    (c.in_ok-remove_left.ensures.takes told) c.args.names.now (c.in_ok-remove_left.ensures.gone told) k says

pub returns-clause-bare : goal.returns-clause-bare
returns-clause-bare g c = λ told none.
    gone_bare (g.F.Pages.files c.args.folder.now) _ _ c.in_ok-commit.commit (c.in_ok-commit.ensures.found told) (c.in_ok-commit.ensures.files told)
    (c.in_ok-remove_left.ensures.takes told) c.args.names.now (c.in_ok-remove_left.ensures.gone told) none
