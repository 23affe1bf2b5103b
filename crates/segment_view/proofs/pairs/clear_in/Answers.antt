use Rattle.std.proofs.Common.{◌<◌, ◌||◌, ◌∙◌, ap, sym, length, arith, set}
use Rattle.std.proofs.lemmas.List.Edits.{map_over_more}
use Rattle.live_bits.specs.LiveSet.{is_live, live_set_without}
use Rattle.segment_view.proofs.Beside.{cleared_more}
use Rattle.segment_view.proofs.pairs.clear_in.Goals as goal

pub loop-live-preserved : goal.loop-live-preserved
loop-live-preserved c =
    let sets = c.deref_mut-live-items.result.now in
    let now = c.loop-live.live-items in
    let i = c.loop-live.live-index in
    let was = c.loop-live.invariant in
    let within : i < length sets = omega (arith, c.loop-live-test.true, c.loop-live.auto.live-items) in
    record {
      lives = ap (λ s. set now i s) (c.clear-was_live.ensures.after ∙ ap (live_set_without c.args.doc) (sym c.live-item.is))
          ∙ map_over_more (live_set_without c.args.doc) sets now i c.live-item.result within was.lives c.live-item.is;
      was = ap (λ b. c.loop-live.was_live || b) (c.clear-was_live.ensures.answer ∙ ap (λ s. is_live s c.args.doc) (sym c.live-item.is))
          ∙ cleared_more c.args.doc sets now i c.live-item.result c.loop-live.was_live within was.lives c.live-item.is was.was;
    }
