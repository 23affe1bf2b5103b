-- A line is answered over the segments.
use Rattle.count_queries.proofs.Stopping.{fits_stay}
use Rattle.count_queries.proofs.counting.CountingAnswers.answer.Goals as goal

pub returns : goal.returns
returns g c = record {
  does = λ told s e. c.answer_line.ensures.does told e.0 s e.1;
  stays = λ told s. fits_stay g.row.D _ _ _ _ _ (c.answer_line.ensures.files told) (c.answer_line.ensures.agrees told) s;
  files = c.answer_line.ensures.files;
  reads = λ told s e t tells. c.answer_line.ensures.reads s e.1 t tells;
  cause = c.answer_line.ensures.cause;
  whole = λ told s e. c.answer_line.ensures.whole told e.0 s e.1;
  evident = c.answer_line.ensures.evident;
}
