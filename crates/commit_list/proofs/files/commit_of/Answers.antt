use Rattle.std.proofs.Common.{◌≡◌, ◌*◌, length, refl, sym, subst, ◌∙◌}
use Rattle.page_cache.specs.Bodies.{pages_for}
use Rattle.commit_list.specs.CommitFiles.{HasNoFilled}
use Rattle.commit_list.proofs.CommitPages.{filled_none}
use Rattle.commit_list.proofs.files.commit_of.Goals as goal

pub returns-in-None-clause-shown : goal.returns-in-None-clause-shown
returns-in-None-clause-shown c =
    let none = rw c.in-None.is at c.in_ok-commit.ensures in
    let long : length c.args.payloads.items ≡ 4064 * pages_for c.args.len = sym c.args.payloads.ok.0 ∙ c.requires.long in
    rw c.no_commit.ensures (refl, filled_none c.args.payloads.items c.args.len c.requires.begins long (subst HasNoFilled c.as_slice.ensures.value none))

pub returns-in-None-clause-whole : goal.returns-in-None-clause-whole
returns-in-None-clause-whole c = λ d h.
    let none = rw c.in-None.is at c.in_ok-commit.ensures in
    absurd (subst HasNoFilled c.as_slice.ensures.value none d h)
