-- The commit takes its place, or it isn't known which of the two is there.
use Rattle.std.proofs.Common.{refl, ap, ◌∙◌, inr, rules}
use Rattle.index_core.specs.Sessions.{SessionData}
use Rattle.index_core.proofs.Guarding.{guards_done, guards_undone}
use Rattle.index_core.proofs.TracedCommits.{traced_done}
use Rattle.index_core.proofs.Committing.{kept_undone, which_says}
use Rattle.index_core.proofs.WrittenCommit.{faithful_done, seen_done, stores_done, stores_undone}
use Rattle.segment_set.proofs.Sizes.{set_fits}
use Rattle.index_core.proofs.session.Session.write.Goals as goal

pub returns-in-Ok-clause-seen : goal.returns-in-Ok-clause-seen
returns-in-Ok-clause-seen g c told i seen = seen_done _ _ _ _ _ i c.self.view_is c.leaf_size-leaf_size.ensures.well (c.write_commit.ensures.others told) seen

pub returns-in-Ok-clause-guards : goal.returns-in-Ok-clause-guards
returns-in-Ok-clause-guards g c told guards lives =
    guards_done _ _ _ _ _ c.args.commit c.self.view_is c.requires.listed lives (c.write_commit.ensures.others told) (c.in-Ok.ensures.commit told)

pub returns-in-Ok-clause-kept : goal.returns-in-Ok-clause-kept
returns-in-Ok-clause-kept g c told = (c.args.commit, refl, c.in-Ok.ensures.commit told)

pub returns-in-Ok-clause-stored : goal.returns-in-Ok-clause-stored
returns-in-Ok-clause-stored g c told i promise =
    stores_done _ _ _ _ c.args.commit i c.self.view_is c.requires.emptied promise (c.write_commit.ensures.others told) (c.in-Ok.ensures.commit told)

pub returns-in-Err-clause-seen : goal.returns-in-Err-clause-seen
returns-in-Err-clause-seen g c told i seen = seen_done _ _ _ _ _ i c.self.view_is c.leaf_size-leaf_size.ensures.well (c.write_commit.ensures.others told) seen

pub returns-in-Err-clause-guards : goal.returns-in-Err-clause-guards
returns-in-Err-clause-guards g c told guards lives =
    guards_undone _ (g.F.Pages.files c.args.folder.now) (g.F.Pages.files c.write_commit.new.folder) _ _ c.args.commit c.self.view_is c.requires.listed guards
    (which_says (g.F.Pages.files c.args.folder.now) (g.F.Pages.files c.write_commit.new.folder) c.args.commit (c.in-Err.ensures.kept told))

pub returns-in-Err-clause-kept : goal.returns-in-Err-clause-kept
returns-in-Err-clause-kept g c told =
    kept_undone (g.F.Pages.files c.args.folder.now) (g.F.Pages.files c.write_commit.new.folder) c.args.commit
    _ (ap (λ (u : SessionData). u.set.saved) c.self.view_is ∙ c.requires.saved) (c.write_commit.ensures.others told)
    (which_says (g.F.Pages.files c.args.folder.now) (g.F.Pages.files c.write_commit.new.folder) c.args.commit (c.in-Err.ensures.kept told))

pub returns-in-Err-clause-stored : goal.returns-in-Err-clause-stored
returns-in-Err-clause-stored g c told i promise =
    stores_undone (g.F.Pages.files c.args.folder.now) (g.F.Pages.files c.write_commit.new.folder) c.args.commit i promise (c.write_commit.ensures.others told)
    (which_says (g.F.Pages.files c.args.folder.now) (g.F.Pages.files c.write_commit.new.folder) c.args.commit (c.in-Err.ensures.kept told))

pub returns-in-Ok-clause-others : goal.returns-in-Ok-clause-others
returns-in-Ok-clause-others g c = c.write_commit.ensures.others

pub returns-in-Err-clause-others : goal.returns-in-Err-clause-others
returns-in-Err-clause-others g c = c.write_commit.ensures.others

pub leaf_size-leaf_size-requires : goal.leaf_size-leaf_size-requires
leaf_size-leaf_size-requires g c = set_fits g.row.D c.self.invariant.few

pub returns-in-Ok-clause-unread : goal.returns-in-Ok-clause-unread
returns-in-Ok-clause-unread g c = c.write_commit.ensures.reads

pub returns-in-Err-clause-unread : goal.returns-in-Err-clause-unread
returns-in-Err-clause-unread g c = c.write_commit.ensures.reads

pub returns-in-Ok-clause-faithful : goal.returns-in-Ok-clause-faithful
returns-in-Ok-clause-faithful g c told faithful = faithful_done _ _ _ _ _ c.self.view_is (c.write_commit.ensures.others told) faithful

pub returns-in-Err-clause-faithful : goal.returns-in-Err-clause-faithful
returns-in-Err-clause-faithful g c told faithful = faithful_done _ _ _ _ _ c.self.view_is (c.write_commit.ensures.others told) faithful

pub returns-in-Ok-clause-traced : goal.returns-in-Ok-clause-traced
returns-in-Ok-clause-traced g c told lives traced =
    traced_done _ _ _ _ _ c.args.commit c.self.view_is c.requires.listed c.requires.emptied lives
    (c.write_commit.ensures.others told) (inr (c.in-Ok.ensures.commit told)) traced

pub returns-in-Err-clause-traced : goal.returns-in-Err-clause-traced
returns-in-Err-clause-traced g c told lives traced =
    traced_done _ (g.F.Pages.files c.args.folder.now) (g.F.Pages.files c.write_commit.new.folder) _ _ c.args.commit c.self.view_is c.requires.listed
    c.requires.emptied lives (c.write_commit.ensures.others told)
    (which_says (g.F.Pages.files c.args.folder.now) (g.F.Pages.files c.write_commit.new.folder) c.args.commit (c.in-Err.ensures.kept told)) traced

pub returns-in-Err-clause-faults : goal.returns-in-Err-clause-faults
returns-in-Err-clause-faults g c = record { cause = search rules; whole = search rules }
