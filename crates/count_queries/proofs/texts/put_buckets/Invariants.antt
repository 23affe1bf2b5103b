use Rattle.std.proofs.Common.{◌≡◌, ◌++◌, take, length}
use Rattle.std.specs.Prelude.{codes, decimal}
use Rattle.std.specs.List.{flat_map}
use Rattle.script_lang.specs.Replies.{text_line}
use Rattle.count_queries.specs.Texts.{bucket_text}
use Rattle.count_queries.proofs.texts.put_buckets.Given as goal

-- the buckets so far were told
abbrev pub invariant-loop-bucket : goal.invariant-loop-bucket
invariant-loop-bucket l =
    l.reply.items ≡ (l.fn.reply.items ++ text_line (codes "buckets " ++ decimal (length l.buckets)))
    ++ flat_map bucket_text (take l.bucket-index l.buckets)
