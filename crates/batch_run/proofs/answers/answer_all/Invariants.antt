use Rattle.std.proofs.Common.{◌≡◌, List, length, map, take}
use Rattle.documents.specs.Documents.{Document}
use Rattle.outer_io.specs.MemFolder.{folder_files}
use Rattle.page_cache.specs.Cache.{Agrees}
use Rattle.batch_run.specs.Residents.{IsCopyOf}
use Rattle.batch_run.specs.Queries.{reply_of}
use Rattle.batch_run.proofs.answers.answer_all.Given as goal

-- the queries so far are replied, and the kept pages are those of the copy
abbrev pub invariant-loop-query : goal.invariant-loop-query
invariant-loop-query g l = record {
  replied : (docs : List Document) → IsCopyOf docs l.resident → l.replies.items ≡ map (reply_of g.row.D docs) (take l.query-index l.queries);
  each : length l.replies.items ≡ l.query-index;
  files : folder_files l.pages.files.now ≡ folder_files l.resident.files;
  agrees : Agrees (folder_files l.resident.files) l.cache;
}
