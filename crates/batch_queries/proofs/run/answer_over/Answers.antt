-- The replies are those of the documents that the folder holds.
use Rattle.std.proofs.Common.{◌≡◌, ◌∙◌, List, [], Some, map, refl, subst, sym}
use Rattle.std.specs.List.{flat_map}
use Rattle.script_lang.specs.Lines.{lines_of}
use Rattle.index_model.specs.State.{State}
use Rattle.run_status.specs.Told.{TellsAll}
use Rattle.stored_index.specs.Stored.{index_of}
use Rattle.stored_index.proofs.Whole.{held_for}
use Rattle.batch_run.specs.Queries.{reply_of}
use Rattle.batch_run.specs.declared.queries.Query.{Query}
use Rattle.batch_queries.specs.Queries.{query_in}
use Rattle.batch_queries.specs.Batched.{TellsBatch}
use Rattle.batch_queries.proofs.Replying.{replies_told}
use Rattle.batch_queries.proofs.run.answer_over.Goals as goal

pub returns-clause-text : goal.returns-clause-text
returns-clause-text g c = λ told says state stored.
    let D = g.row.D in
    let held = held_for (g.F.Pages.files c.args.folder.now) c.args.commit.now state stored says in
    let i = index_of c.args.commit.now held.0 in
    let said = c.in_ok-replies.ensures.said held.0 ((c.in_ok-resident.ensures.copy told).held held.0 held.1) in
    subst (λ (s : State). TellsAll (Unit {0}) (TellsBatch s) 1 (lines_of c.args.lines.now) [] c.in_ok-tell_all.field-0.bytes.items
    c.in_ok-tell_all.field-0.refused)
    (sym held.2)
    (c.in_ok-tell_all.ensures i c.requires.dims
    (replies_told D i c.in_ok-queries.queries.items c.as_slice-2.result.now (flat_map (query_in D) (lines_of c.args.lines.now)) c.requires.dims
    (c.as_slice-2.ensures.value ∙ subst (λ (qs : List (Query D)). c.in_ok-replies.replies.items ≡ map (reply_of D held.0) qs) c.as_slice.ensures.value said)
    c.in_ok-queries.ensures.asked))

pub returns-clause-stored : goal.returns-clause-stored
returns-clause-stored g c = λ told says.
    let there = (c.in_ok-resident.ensures.copy told).stored says in
    (Some (index_of c.args.commit.now there.0), record { commit = c.args.commit.now; holds = there.1; is = refl })
