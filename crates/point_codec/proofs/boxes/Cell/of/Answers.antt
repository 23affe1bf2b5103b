-- Each entry's point makes the cell wider just so far that it is the least one.
use Rattle.std.proofs.Common.{rules, arith, ◌≡◌, ◌+◌, [], ◌∷◌, ◌++◌, ◌∙◌, sym, ap, length, map, take}
use Rattle.std.proofs.Math.Seq.{take-length}
use Rattle.point_codec.specs.Seen.{items_of}
use Rattle.point_codec.proofs.LeastCells.{IsLeastCell-one, IsLeastCell-more, least_cell_ordered, map-more, map-map}
use Rattle.point_codec.proofs.boxes.Cell.of.Goals as goal

pub loop-entry-init : goal.loop-entry-init
loop-entry-init g c = IsLeastCell-one c.in_ok-first.first.now.point.c

pub loop-entry-preserved : goal.loop-entry-preserved
loop-entry-preserved g c =
    let rest = c.in_ok-first.rest.now in
    let p = c.entry-item.result.point.c in
    let passed = map (λ e. e.point.c) (take c.loop-entry.entry-index rest) in
    let more : map (λ e. e.point.c) (take (c.loop-entry.entry-index + 1) rest) ≡ passed ++ p ∷ [] =
    map-more (λ e. e.point.c) rest c.loop-entry.entry-index c.entry-item.result c.loop-entry-test.true
    ∙ ap (λ e. passed ++ e.point.c ∷ []) (sym c.entry-item.is) in
    let low : length c.loop-entry.lo.0 ≡ length p = search rules in
    let high : length c.loop-entry.hi.0 ≡ length p = search rules in
    rw (more, c.lower.ensures, c.raise.ensures)
    (IsLeastCell-more (c.in_ok-first.first.now.point.c ∷ passed) (record { lo = c.loop-entry.lo.0; hi = c.loop-entry.hi.0 }) p low high c.loop-entry.invariant)

pub invariant_of-result : goal.invariant_of-result
invariant_of-result g c = record { ordered = least_cell_ordered _ _ _ c.loop-entry.invariant }

pub returns-clause-least : goal.returns-clause-least
returns-clause-least g c =
    let rest = c.in_ok-first.rest.now in
    let all : c.loop-entry.entry-index ≡ length rest = omega arith in
    let whole : take c.loop-entry.entry-index rest ≡ rest = ap (λ i. take i rest) all ∙ take-length rest in
    let split : c.args.entries.now ≡ c.in_ok-first.first.now ∷ rest = c.in_ok-first.ensures.cases.0 in
    let points : map (λ x. x.at) (items_of c.args.entries.now) ≡ c.in_ok-first.first.now.point.c ∷ map (λ e. e.point.c) (take c.loop-entry.entry-index rest) =
    map-map (λ x. x.at) _ c.args.entries.now ∙ ap (map (λ e. e.point.c)) split
    ∙ ap (λ es. c.in_ok-first.first.now.point.c ∷ map (λ e. e.point.c) es) (sym whole) in
    rw points c.loop-entry.invariant
