-- A line is explained over the set.
use Rattle.std.proofs.Common.{IsTrue, sym}
use Rattle.index_opening.proofs.Evident.{on_evident_files}
use Rattle.segment_set.proofs.Sizes.{set_fits}
use Rattle.explain_queries.proofs.Fitting.{fits_stay}
use Rattle.explain_queries.proofs.answering.ExplainingAnswers.answer.Goals as goal

pub explain_line-requires : goal.explain_line-requires
explain_line-requires g c = (set_fits g.row.D c.args.self.now.few, (c.args.self.now.some, c.args.self.now.few))

pub returns : goal.returns
returns g c = record {
  does = c.explain_line.ensures.does;
  stays = fits_stay g.row.D (IsTrue g.F.Pages.told) _ _ _ c.explain_line.result c.explain_line.ensures;
  files = c.explain_line.ensures.files;
  reads = c.explain_line.ensures.reads;
  cause = c.explain_line.ensures.cause;
  whole = c.explain_line.ensures.whole;
  evident = on_evident_files _ _ _ _ c.explain_line.result (λ k. k) (λ k. sym (c.explain_line.ensures.files k.0)) c.explain_line.ensures.evident;
}
