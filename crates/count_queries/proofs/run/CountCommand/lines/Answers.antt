-- The lines are told over what the folder stores: no index, or the one whose commit was read.
use Rattle.std.proofs.Common.{IsTrue, Option, Err, refl}
use Rattle.commit_list.specs.Commits.{CommitData}
use Rattle.index_opening.proofs.Evident.{on_commit_evident}
use Rattle.stored_index.proofs.Whole.{not_damaged}
use Rattle.commands.proofs.Looking.{commit_few, looks_fault, looks_none, looks_some}
use Rattle.count_queries.specs.Counted.{IsScope, TellsCount, scope_heads}
use Rattle.count_queries.proofs.Scoped.{are_scopes, none_scope}
use Rattle.count_queries.proofs.run.CountCommand.lines.Goals as goal

pub returns-in-Ok-None-clause-does : goal.returns-in-Ok-None-clause-does
returns-in-Ok-None-clause-does g c =
    let read = c.in-Ok-None.ensures in
    let old = g.F.Pages.files c.args.world.now.folder.now in
    looks_none IsScope scope_heads are_scopes TellsCount _ _ _ _ _ _
    (record { files = read.files; written = refl; folder_later = read.cause.later; sink_same = refl }) _ _ _
    (λ told. read.unread told (rw c.in-Ok-None.field-0-is at (read.found told))) (λ told. rw c.in-Ok-None.field-0-is at (read.found told)) (λ told. tt)
    (λ told s scope. none_scope old s (rw c.in-Ok-None.field-0-is at (read.found told)) scope) c.run_lines.ensures.runs

pub returns-in-Ok-Some-clause-does : goal.returns-in-Ok-Some-clause-does
returns-in-Ok-Some-clause-does g c =
    let read = c.in-Ok-Some.ensures in
    looks_some IsScope scope_heads are_scopes TellsCount _ _ _ _ _ _
    (record { files = read.files; written = refl; folder_later = read.cause.later; sink_same = refl })
    c.in-Ok-Some.commit (λ told. rw c.in-Ok-Some.field-0-is at (read.found told)) read.most c.at_dims.ensures.does

pub returns-in-Err-clause-does : goal.returns-in-Err-clause-does
returns-in-Err-clause-does g c =
    let read = c.in-Err.ensures in
    let old = g.F.Pages.files c.args.world.now.folder.now in
    looks_fault TellsCount _ _ _ _ _ (IsScope old) _ c.in-Err.fault c.stopped.result c.stopped.ensures
    (record { files = read.files; written = refl; folder_later = read.cause.later; sink_same = refl }) read.cause
    (λ told s scope. not_damaged old s.state scope.stored (read.absent told) (read.whole told))
    (λ told s scope pages opening. commit_few IsScope scope_heads are_scopes old s pages _ _ scope opening (read.unread told) (read.most told))
    (on_commit_evident {X = Option CommitData} (IsTrue g.F.Pages.told) old (Err c.in-Err.fault) read.damage read.shown)
