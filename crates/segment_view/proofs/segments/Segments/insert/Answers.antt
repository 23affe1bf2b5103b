use Rattle.std.proofs.Common.{◌<◌, ℕ, List, length, map, ap, sym, subst, ◌∙◌, arith, rules}
use Rattle.std.specs.List.Sorted.{IsStrictlyIncreasing}
use Rattle.documents.specs.Entries.{is_among}
use Rattle.segment_file.specs.Heads.{Head}
use Rattle.segment_view.specs.LiveSegments.{LiveSegment, parts_of, ids_of}
use Rattle.segment_view.proofs.Beside.{ids_parts, ids_in_step, in_step_put, placed_put}
use Rattle.segment_view.proofs.segments.Segments.insert.Goals as goal

pub returns-then-len-ge-MOST_SEGMENTS-clause-ascend : goal.returns-then-len-ge-MOST_SEGMENTS-clause-ascend
returns-then-len-ge-MOST_SEGMENTS-clause-ascend g c =
    subst (λ (ps : List LiveSegment). IsStrictlyIncreasing (ids_of ps)) c.self.view_is
    (ids_in_step g.row.D c.self.inside.heads.items c.self.inside.lives.items c.self.invariant)

pub place_of-place-requires : goal.place_of-place-requires
place_of-place-requires g c = (
  search rules,
  (
    subst (λ (hs : List Head). IsStrictlyIncreasing (map (λ h. h.id) hs)) (sym c.as_slice.ensures.value) c.self.invariant.ascend,
    ap (λ (hs : List Head). is_among (map (λ h. h.id) hs) c.id.result) c.as_slice.ensures.value
        ∙ ap (is_among (map (λ (h : Head). h.id) c.self.inside.heads.items)) c.id.ensures
        ∙ ap (λ (ns : List ℕ). is_among ns c.args.head.id)
        (sym (ids_parts c.self.inside.heads.items c.self.inside.lives.items c.self.invariant.same) ∙ ap ids_of c.self.view_is)
        ∙ c.requires,
  ),
)

pub returns-in_err-insert_pair-clause-ascend : goal.returns-in_err-insert_pair-clause-ascend
returns-in_err-insert_pair-clause-ascend g c =
    let stays = c.in_err-insert_pair.ensures.refused in
    let same = ap (λ (hs : List Head). parts_of hs c.insert_pair.new.lives.items) stays.0 ∙ ap (parts_of c.self.inside.heads.items) stays.1 in
    subst (λ (ps : List LiveSegment). IsStrictlyIncreasing (ids_of ps)) (sym same)
    (ids_in_step g.row.D c.self.inside.heads.items c.self.inside.lives.items c.self.invariant)

pub invariant_of-self-2 : goal.invariant_of-self-2
invariant_of-self-2 g c =
    let room : length c.self.inside.heads.items < 16777216 = omega (arith, c.if-len-ge-MOST_SEGMENTS.false, c.len.ensures, c.self.inside.heads.ok.0) in
    in_step_put g.row.D c.self.inside.heads.items c.as_slice.result.now c.insert_pair.new.heads.items c.self.inside.lives.items c.insert_pair.new.lives.items
    c.place_of-place.result c.id.result c.args.head c.args.live
    c.self.invariant c.as_slice.ensures.value c.id.ensures room c.place_of-place.ensures.bound c.place_of-place.ensures.below c.place_of-place.ensures.above
    c.in_ok-insert_pair.ensures.heads c.in_ok-insert_pair.ensures.lives

pub returns-clause-placed : goal.returns-clause-placed
returns-clause-placed g c =
    placed_put c.self.inside.heads.items c.insert_pair.new.heads.items c.self.inside.lives.items c.insert_pair.new.lives.items c.args.self.now
    c.place_of-place.result
    c.args.head c.args.live
    c.self.invariant.same c.self.view_is c.in_ok-insert_pair.ensures.heads c.in_ok-insert_pair.ensures.lives

pub returns-clause-ascend : goal.returns-clause-ascend
returns-clause-ascend g c =
    let room : length c.self.inside.heads.items < 16777216 = omega (arith, c.if-len-ge-MOST_SEGMENTS.false, c.len.ensures, c.self.inside.heads.ok.0) in
    ids_in_step g.row.D c.insert_pair.new.heads.items c.insert_pair.new.lives.items
    (in_step_put g.row.D c.self.inside.heads.items c.as_slice.result.now c.insert_pair.new.heads.items c.self.inside.lives.items c.insert_pair.new.lives.items
    c.place_of-place.result c.id.result c.args.head c.args.live
    c.self.invariant c.as_slice.ensures.value c.id.ensures room c.place_of-place.ensures.bound c.place_of-place.ensures.below c.place_of-place.ensures.above
    c.in_ok-insert_pair.ensures.heads c.in_ok-insert_pair.ensures.lives)
