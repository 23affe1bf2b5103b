-- The replies to both halves are those to the list.
use Rattle.batch_run.specs.Queries.{reply_of}
use Rattle.batch_run.specs.Residents.{AreReplies}
use Rattle.batch_run.proofs.Replied.{halves_counted, halves_replied}
use Rattle.batch_run.proofs.batches.+parts.Goals as goal

pub answer_part-returns : goal.answer_part-returns
answer_part-returns g t c =
    let left : AreReplies c.args.resident.now c.split_at.result.0.now c.in_ok-replies.replies.items = rw c.in_ok-replies.was at c.both-first.ensures.left in
    let right : AreReplies c.args.resident.now c.split_at.result.1.now c.in_ok-others.others.items = rw c.in_ok-others.was at c.both-first.ensures.right in
    record {
      each = halves_counted c.args.queries.now c.split_at.result.0.now c.split_at.result.1.now _
          c.in_ok-replies.replies.items c.in_ok-others.others.items c.append.new.self.items
          c.split_at.ensures.front c.split_at.ensures.back left.each right.each c.in_ok-append.ensures.items;
      said = λ docs h.
          halves_replied (reply_of g.row.D docs) c.args.queries.now c.split_at.result.0.now c.split_at.result.1.now _
          c.in_ok-replies.replies.items c.in_ok-others.others.items c.append.new.self.items
          c.split_at.ensures.front c.split_at.ensures.back (left.said docs h) (right.said docs h) c.in_ok-append.ensures.items;
    }
