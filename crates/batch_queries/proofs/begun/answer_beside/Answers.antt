-- The lines are answered while the merge begins.
use Rattle.std.proofs.Common.{◌≡◌, ◌∙◌, All, Err, List, length, lit<, map, ap, subst, sym}
use Rattle.std.specs.List.{flat_map}
use Rattle.std.proofs.lemmas.Result.{err_from_is_err_and}
use Rattle.page_cache.specs.declared.faults.PageFault.{PageFault}
use Rattle.script_lang.specs.Lines.{lines_of}
use Rattle.index_core.proofs.Sizes.{session_fits}
use Rattle.batch_run.specs.Queries.{IsInRange, reply_of}
use Rattle.batch_run.specs.Residents.{AreReplies}
use Rattle.batch_run.specs.declared.queries.Query.{Query}
use Rattle.batch_queries.specs.Queries.{query_in, request_of}
use Rattle.batch_queries.proofs.Beginning.{begins_done, begins_fault, begins_memory, begins_none}
use Rattle.batch_queries.proofs.Replying.{counted_through, replies_told}
use Rattle.batch_queries.proofs.begun.answer_beside.Goals as goal
use Rattle.batch_run.proofs.Sizes.{query_fits}

pub beside-replies-requires-after_bounds : goal.beside-replies-requires-after_bounds
beside-replies-requires-after_bounds g c κs = λ _. (
  lit< tt,
  (
    query_fits g.row.D c.requires.few,
    (
      session_fits g.row.D c.requires.few,
      (c.requires.few, subst (λ (qs : List (Query g.row.D)). All (IsInRange g.row.D) qs) (sym c.as_slice.ensures.value) c.in_ok-queries.ensures.range),
    ),
  ),
)

pub drop-queries-requires-room-T-Destruct : goal.drop-queries-requires-room-T-Destruct
drop-queries-requires-room-T-Destruct g c κs = query_fits g.row.D c.requires.few

pub drop-queries-requires-in_err-begun-room-T-Destruct : goal.drop-queries-requires-in_err-begun-room-T-Destruct
drop-queries-requires-in_err-begun-room-T-Destruct g c κs = query_fits g.row.D c.requires.few

pub drop-queries-requires-in_err-replies-room-T-Destruct : goal.drop-queries-requires-in_err-replies-room-T-Destruct
drop-queries-requires-in_err-replies-room-T-Destruct g c κs = query_fits g.row.D c.requires.few

pub drop-queries-requires-in_err-tell_all-room-T-Destruct : goal.drop-queries-requires-in_err-tell_all-room-T-Destruct
drop-queries-requires-in_err-tell_all-room-T-Destruct g c κs = query_fits g.row.D c.requires.few

pub drop-queries-requires-2-room-T-Destruct : goal.drop-queries-requires-2-room-T-Destruct
drop-queries-requires-2-room-T-Destruct g c κs = query_fits g.row.D c.requires.few

pub returns-in_err-queries-clause-begins : goal.returns-in_err-queries-clause-begins
returns-in_err-queries-clause-begins g c =
    let p = err_from_is_err_and c.from_residual.result c.from_residual.ensures.1 in
    begins_none g.row.D _ c.args.resident.now _ _ (p.1 ∙ ap (λ (e : PageFault). Err e) p.2)

pub returns-in_err-which-clause-begins : goal.returns-in_err-which-clause-begins
returns-in_err-which-clause-begins g c =
    let p = err_from_is_err_and c.from_residual-in_err-which.result c.from_residual-in_err-which.ensures.1 in
    begins_none g.row.D _ c.args.resident.now _ _ (p.1 ∙ ap (λ (e : PageFault). Err e) p.2)

pub returns-in_err-begun-clause-begins : goal.returns-in_err-begun-clause-begins
returns-in_err-begun-clause-begins g c =
    let p = err_from_is_err_and c.from_residual-in_err-begun.result c.from_residual-in_err-begun.ensures.1 in
    begins_fault g.row.D _ c.args.resident.now _ _ _ c.in_err-begun.field-0.0 _ (p.1 ∙ ap (λ (e : PageFault). Err e) p.2)
    (rw c.in_err-begun.was at c.beside-replies.ensures.begins)

pub returns-in_err-replies-clause-begins : goal.returns-in_err-replies-clause-begins
returns-in_err-replies-clause-begins g c =
    let p = err_from_is_err_and c.from_residual-in_err-replies.result c.from_residual-in_err-replies.ensures.1 in
    begins_memory g.row.D _ c.args.resident.now _ _ _ _ _ (p.1 ∙ ap (λ (e : PageFault). Err e) p.2) c.beside-replies.ensures.begins

pub returns-in_err-tell_all-clause-begins : goal.returns-in_err-tell_all-clause-begins
returns-in_err-tell_all-clause-begins g c =
    let p = err_from_is_err_and c.from_residual-in_err-tell_all.result c.from_residual-in_err-tell_all.ensures.1 in
    begins_memory g.row.D _ c.args.resident.now _ _ _ _ _ (p.1 ∙ ap (λ (e : PageFault). Err e) p.2) c.beside-replies.ensures.begins

pub tell_all-requires : goal.tell_all-requires
tell_all-requires g c =
    let said : AreReplies c.args.resident.now c.as_slice.result.now c.in_ok-replies.replies.items =
    rw c.in_ok-replies.was at c.beside-replies.ensures.replies in
    record {
      some = c.requires.some;
      few = c.requires.few;
      lines = c.requires.lines;
      each = counted_through request_of c.in_ok-queries.queries.items _ _
          (ap length c.as_slice-2.ensures.value ∙ said.each ∙ ap length c.as_slice.ensures.value) c.in_ok-queries.ensures.asked;
    }

pub returns-clause-text : goal.returns-clause-text
returns-clause-text g c = λ o i h.
    let D = g.row.D in
    let said : AreReplies c.args.resident.now c.as_slice.result.now c.in_ok-replies.replies.items =
    rw c.in_ok-replies.was at c.beside-replies.ensures.replies in
    c.in_ok-tell_all.ensures i (o.seen i h).dims
    (replies_told D i c.in_ok-queries.queries.items c.as_slice-2.result.now (flat_map (query_in D) (lines_of c.args.lines.now)) (o.seen i h).dims
    (c.as_slice-2.ensures.value
    ∙ subst (λ (qs : List (Query D)). c.in_ok-replies.replies.items ≡ map (reply_of D i.docs) qs) c.as_slice.ensures.value (said.said i.docs (o.copy i h)))
    c.in_ok-queries.ensures.asked)

pub returns-clause-begins : goal.returns-clause-begins
returns-clause-begins g c =
    begins_done g.row.D _ c.args.resident.now _ _ _ c.in_ok-begun.field-0 _ c.in_ok-which.ensures (rw c.in_ok-begun.was at c.beside-replies.ensures.begins)
    (rw c.in_ok-begun.was at c.beside-replies.ensures.leaves)
