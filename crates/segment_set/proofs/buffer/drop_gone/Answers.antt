-- What is kept are the entries that wait.
use Rattle.std.proofs.Common.{rules, ap, ◌∙◌}
use Rattle.std.proofs.lemmas.Fn.{filter_same}
use Rattle.point_codec.specs.Seen.{items_of}
use Rattle.point_codec.specs.declared.entries.Entry.{Entry}
use Rattle.segment_set.specs.Waiting.{waits}
use Rattle.segment_set.proofs.Buffered.{waiting_items}
use Rattle.segment_set.proofs.buffer.drop_gone.Goals as goal

pub returns : goal.returns
returns g c =
    ap items_of (filter_same _ (λ (e : Entry g.row.D). waits e.doc) _ (λ x b f k. search rules) _ _ c.retain.ensures.filtered)
    ∙ waiting_items c.args.entries.now.items
