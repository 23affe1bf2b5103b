use Rattle.std.proofs.Common.{◌≡◌, ◌∙◌, List, eqb, take, refl, ap, subst, arith}
use Rattle.std.specs.List.{All, list_any}
use Rattle.std.proofs.lemmas.List.{take_all}
use Rattle.documents.specs.Entries.{is_among}
use Rattle.segment_view.specs.LiveSegments.{LiveSegment, live_segment, parts_among}
use Rattle.segment_view.proofs.Living.{part_in}
use Rattle.segment_set.specs.Merged.{IsWhole}
use Rattle.segment_set.proofs.Wholes.{kept_whole, not_whole, wholes_more}
use Rattle.segment_set.proofs.choosing.is_settled.Goals as goal

pub loop-i-preserved : goal.loop-i-preserved
loop-i-preserved g c =
    let ids = c.args.ids.now in
    let p = live_segment c.part.result.0.now c.part.result.1.now in
    let among : c.contains.result ≡ is_among ids p.head.id = c.contains.ensures.value ∙ ap (λ n. list_any (λ m. eqb m n) ids) c.id.ensures in (
      wholes_more ids c.args.segments.now c.loop-i.i p c.part.ensures c.loop-i.invariant.0
          (λ there. c.is_whole.ensures.0 (kept_whole c.contains.result c.is_whole.result c.if-contains-is_whole.false (among ∙ there))),
      c.loop-i.invariant.1,
    )

pub returns-then-contains-is_whole : goal.returns-then-contains-is_whole
returns-then-contains-is_whole g c =
    let ids = c.args.ids.now in
    let p = live_segment c.part.result.0.now c.part.result.1.now in
    let among : c.contains.result ≡ is_among ids p.head.id = c.contains.ensures.value ∙ ap (λ n. list_any (λ m. eqb m n) ids) c.id.ensures in (
      λ yes. absurd cc,
      λ whole. absurd
          (not_whole ids c.args.segments.now p c.contains.result c.is_whole.result (part_in c.args.segments.now c.loop-i.i p c.part.ensures) among
          c.is_whole.ensures.1 c.if-contains-is_whole.true whole.1),
    )

pub returns : goal.returns
returns g c =
    let parts = c.args.segments.now in
    let all : take c.loop-i.i parts ≡ parts = take_all c.loop-i.i parts (omega (arith, c.loop-i-test.false, c.len-i-end.ensures.value)) in
    (λ yes. (c.loop-i.invariant.1, subst (λ (ps : List LiveSegment). All IsWhole (parts_among c.args.ids.now ps)) all c.loop-i.invariant.0), λ whole. refl)
