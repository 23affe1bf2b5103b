-- One query after the other is replied.
use Rattle.std.proofs.Common.{◌+◌, List, ap, arith, length, map, subst, sym, ◌∙◌}
use Rattle.std.proofs.lemmas.List.{length_push, take_all}
use Rattle.outer_io.specs.Files.{Files}
use Rattle.outer_io.specs.MemFolder.{folder_files}
use Rattle.documents.specs.Documents.{Document}
use Rattle.page_cache.specs.Cache.{Agrees}
use Rattle.segment_view.specs.LiveSegments.{LiveSegment}
use Rattle.batch_run.specs.Held.{HoldsDocs}
use Rattle.batch_run.specs.Queries.{IsInRange, reply_of}
use Rattle.batch_run.specs.declared.queries.Query.{Query}
use Rattle.batch_run.proofs.Replied.{replied_next}
use Rattle.batch_run.proofs.Sizes.{query_fits}
use Rattle.batch_run.proofs.answers.answer_all.Goals as goal

pub answer-requires : goal.answer-requires
answer-requires g c = (
  omega arith,
  (
    query_fits g.row.D c.len-parts.ensures.dims,
    (
      subst (IsInRange g.row.D) (sym c.query-item.is) (c.requires.range c.loop-query.query-index c.query-item.result c.loop-query-test.true),
      (
        subst (λ (f : Files). Agrees f c.loop-query.cache) (sym c.loop-query.invariant.files) c.loop-query.invariant.agrees,
        subst (λ (f : Files). ∥ ((docs : List Document) × HoldsDocs g.row.D f c.segments-segments.result.now docs) ∥₁) (sym c.loop-query.invariant.files)
            (subst (λ (ps : List LiveSegment). ∥ ((docs : List Document) × HoldsDocs g.row.D (folder_files c.args.resident.now.files) ps docs) ∥₁)
            (sym c.segments-segments.ensures) c.args.resident.now.held),
      ),
    ),
  ),
)

pub loop-query-preserved : goal.loop-query-preserved
loop-query-preserved g c = record {
  replied = λ docs h.
      replied_next (reply_of g.row.D docs) c.args.queries.now c.loop-query.query-index c.query-item.result c.loop-query.replies.items c.push.new.self.items
      c.in_ok-reply.reply
      c.loop-query-test.true c.query-item.is (c.loop-query.invariant.replied docs h) c.in_ok-push.ensures.items
      (c.in_ok-reply.ensures.reply docs
      (subst (λ (f : Files). HoldsDocs g.row.D f c.segments-segments.result.now docs) (sym c.loop-query.invariant.files)
      (subst (λ (ps : List LiveSegment). HoldsDocs g.row.D (folder_files c.args.resident.now.files) ps docs) (sym c.segments-segments.ensures) h)));
  each = ap length c.in_ok-push.ensures.items ∙ length_push c.loop-query.replies.items c.in_ok-reply.reply ∙ ap (λ n. n + 1) c.loop-query.invariant.each;
  files = c.in_ok-reply.ensures.files ∙ c.loop-query.invariant.files;
  agrees = subst (λ (f : Files). Agrees f c.answer.new.cache) c.loop-query.invariant.files c.in_ok-reply.ensures.agrees;
}

pub returns : goal.returns
returns g c = record {
  each = omega (arith, c.loop-query.invariant.each);
  said = λ docs h.
      c.loop-query.invariant.replied docs h
      ∙ ap (λ (qs : List (Query g.row.D)). map (reply_of g.row.D docs) qs) (take_all c.loop-query.query-index c.args.queries.now c.loop-query-test.false);
}
