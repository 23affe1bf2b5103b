use Rattle.std.proofs.Common.{◌≡◌, ◌≤◌, List, length, true, eqb, ap, sym, subst, ◌∙◌, arith}
use Rattle.std.specs.List.{list_any, sum_by}
use Rattle.documents.specs.Entries.{is_among}
use Rattle.segment_view.specs.LiveSegments.{LiveSegment, live_segment}
use Rattle.segment_view.proofs.Reading.{among_one}
use Rattle.segment_view.proofs.room.room_of.Goals as goal

pub returns-clause-live : goal.returns-clause-live
returns-clause-live g c =
    let p = live_segment c.args.head.now c.args.live.now in
    let among : is_among c.args.ids.now p.head.id ≡ true =
    ap (λ n. list_any (λ m. eqb m n) c.args.ids.now) (sym c.id.ensures) ∙ sym c.contains.ensures.value ∙ c.if-not-contains.false in
    subst (λ (ps : List LiveSegment). c.min.result ≤ sum_by (λ (q : LiveSegment). length q.live.live) ps)
    (sym (among_one c.args.ids.now p among))
    (omega (arith, c.min.ensures, c.live_count.ensures.value))
