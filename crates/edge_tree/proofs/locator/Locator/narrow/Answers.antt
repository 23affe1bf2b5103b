use Rattle.std.proofs.Common.{◌≡◌, ℕ, ◌<◌, ◌≤◌, ◌-◌, true, List, [], ◌∷◌, ◌++◌, length, map, take, sym, ap, ◌∙◌, subst, arith, vec_len}
use Rattle.std.specs.Prelude.{slice_range, slice_index_or}
use Rattle.std.proofs.lemmas.Bool.{not-false}
use Rattle.std.proofs.lemmas.List.{length-take-le}
use Rattle.point_codec.specs.Points.{in_box}
use Rattle.point_codec.specs.Cells.{within}
use Rattle.point_codec.specs.Seen.{region_of}
use Rattle.ring_parity.specs.Edges.{EdgeEnds}
use Rattle.ring_parity.specs.Rings.{is_odd, any_meets}
use Rattle.ring_parity.specs.Seen.{ends_of}
use Rattle.ring_parity.specs.declared.edges.Edge.{Edge}
use Rattle.edge_tree.specs.declared.level.Level.{Level}
use Rattle.edge_tree.specs.Levels.{differ, turn_oddly, meeting, IsLevel, AreLevels}
use Rattle.edge_tree.proofs.Levels.{levels_truncated, lies_in_outer, outer_stands, outer_extended, stacked_on, met_by_outer}
use Rattle.edge_tree.proofs.locator.Locator.narrow.Goals as goal

pub returns-then-not-found-clause-told : goal.returns-then-not-found-clause-told
returns-then-not-found-clause-told c =
    let edges : List EdgeEnds = c.self.inside.tree in
    let listed : List Edge = c.self.inside.listed.items in
    let levels : List Level = c.self.inside.levels.items in
    let held : ℕ = c.innermost-held.result in
    let outer : Level = c.index.result.now in
    let stack : AreLevels edges listed levels = c.self.invariant.are_levels in
    let some : 0 < held = omega arith in
    let there : held ≤ length levels = omega (arith, c.innermost-held.ensures.there, ap length c.as_slice.ensures.value) in
    let lies : within (region_of c.args.c.now) (region_of outer.cell) ≡ true =
    lies_in_outer c.as_slice.result.now levels held outer c.args.c.now c.as_slice.ensures.value c.index.ensures (c.innermost-held.ensures.has outer some) in
    met_by_outer edges listed c.truncate-2.new.self.items levels held outer c.args.c.now c.gather-found.result.meets stack some there c.index.ensures lies
    c.truncate-2.ensures.items c.gather-found.ensures.meets ∙ ap (λ es. any_meets es (region_of c.args.c.now)) c.self.view_is

pub returns-clause-told : goal.returns-clause-told
returns-clause-told c =
    let edges : List EdgeEnds = c.self.inside.tree in
    let listed : List Edge = c.self.inside.listed.items in
    let levels : List Level = c.self.inside.levels.items in
    let held : ℕ = c.innermost-held.result in
    let outer : Level = c.index.result.now in
    let stack : AreLevels edges listed levels = c.self.invariant.are_levels in
    let some : 0 < held = omega arith in
    let there : held ≤ length levels = omega (arith, c.innermost-held.ensures.there, ap length c.as_slice.ensures.value) in
    let lies : within (region_of c.args.c.now) (region_of outer.cell) ≡ true =
    lies_in_outer c.as_slice.result.now levels held outer c.args.c.now c.as_slice.ensures.value c.index.ensures (c.innermost-held.ensures.has outer some) in
    met_by_outer edges listed c.truncate-2.new.self.items levels held outer c.args.c.now c.gather-found.result.meets stack some there c.index.ensures lies
    c.truncate-2.ensures.items c.gather-found.ensures.meets ∙ ap (λ es. any_meets es (region_of c.args.c.now)) c.self.view_is

pub invariant_of-self : goal.invariant_of-self
invariant_of-self c =
    let edges : List EdgeEnds = c.self.inside.tree in
    let listed : List Edge = c.self.inside.listed.items in
    let levels : List Level = c.self.inside.levels.items in
    let held : ℕ = c.innermost-held.result in
    let outer : Level = c.index.result.now in
    let stack : AreLevels edges listed levels = c.self.invariant.are_levels in
    let some : 0 < held = omega arith in
    let there : held ≤ length levels = omega (arith, c.innermost-held.ensures.there, ap length c.as_slice.ensures.value) in
    let long : outer.end ≡ vec_len c.truncate-2.new.self =
    omega (
      arith,
      c.truncate-2.new.self.ok.0,
      ap length c.truncate-2.ensures.items,
      length-take-le outer.end listed (subst (IsLevel edges listed) (sym c.index.ensures) (stack.each (held - 1) outer (omega (arith, some, there)))).there,
    ) in
    let list_is : c.truncate-then-not-found.new.self.items ≡ take outer.end listed =
    c.truncate-then-not-found.ensures.items ∙ ap (λ (n : ℕ). take n c.gather-found.new.listed.items) long ∙ c.gather-found.ensures.kept
    ∙ c.truncate-2.ensures.items in
    record {
      closed = c.self.invariant.closed;
      are_levels = subst (λ (es : List Edge). AreLevels edges es c.truncate.new.self.items) (sym list_is)
          (subst (λ (ls : List Level). AreLevels edges (take outer.end listed) ls) (sym c.truncate.ensures.items)
          (levels_truncated edges listed levels held outer stack some there c.index.ensures));
      room_taken = c.truncate-then-not-found.ensures.capacity ∙ c.gather-found.ensures.room ∙ c.truncate-2.ensures.capacity ∙ c.self.invariant.room_taken;
      places_taken = c.truncate.ensures.capacity ∙ c.self.invariant.places_taken;
    }

pub invariant_of-self-2 : goal.invariant_of-self-2
invariant_of-self-2 c =
    let edges : List EdgeEnds = c.self.inside.tree in
    let listed : List Edge = c.self.inside.listed.items in
    let levels : List Level = c.self.inside.levels.items in
    let held : ℕ = c.innermost-held.result in
    let outer : Level = c.index.result.now in
    let stack : AreLevels edges listed levels = c.self.invariant.are_levels in
    let some : 0 < held = omega arith in
    let there : held ≤ length levels = omega (arith, c.innermost-held.ensures.there, ap length c.as_slice.ensures.value) in
    let lies : within (region_of c.args.c.now) (region_of outer.cell) ≡ true =
    lies_in_outer c.as_slice.result.now levels held outer c.args.c.now c.as_slice.ensures.value c.index.ensures (c.innermost-held.ensures.has outer some) in
    let now : List Edge = c.gather-found.new.listed.items in
    let more : List Edge = meeting (region_of c.args.c.now) (slice_range (take outer.end listed) outer.first outer.end) in
    let gathered : now ≡ take outer.end listed ++ more =
    c.gather-found.ensures.whole (not-false c.gather-found.result.whole c.if-not-found.false)
    ∙ ap (λ (es : List Edge). es ++ meeting (region_of c.args.c.now) (slice_range es outer.first outer.end)) c.truncate-2.ensures.items in
    let level : IsLevel edges c.as_slice-2.result.now outer =
    subst (λ (es : List Edge). IsLevel edges es outer) (sym c.as_slice-2.ensures.value)
    (outer_extended edges (take outer.end listed) more now outer (outer_stands edges listed levels held outer stack some there c.index.ensures) gathered) in
    let corner : is_odd edges c.args.c.now.lo.c ≡ c.locate-corner.result.odd =
    (c.locate-corner.ensures edges c.self.invariant.closed level
    (ap (λ (l : Level). in_box (region_of l.cell) c.args.c.now.lo.c)
    (c.index.ensures ∙ ap (λ (ls : List Level). slice_index_or ls (held - 1) outer) (sym c.as_slice.ensures.value))
    ∙ (c.innermost-held.ensures.has outer some).0)).odd_is in
    let ended : c.len-end.result ≡ length now = omega (arith, c.len-end.ensures, c.gather-found.new.listed.ok.0) in
    let beside : turn_oddly c.args.c.now.lo.c c.args.c.now.lo.c (map ends_of (slice_range now outer.end (length now))) ≡ c.turned-beside.result.odd =
    ap (λ (n : ℕ). turn_oddly c.args.c.now.lo.c c.args.c.now.lo.c (map ends_of (slice_range now outer.end n))) (sym ended)
    ∙ ap (λ (es : List Edge). turn_oddly c.args.c.now.lo.c c.args.c.now.lo.c (map ends_of (slice_range es outer.end c.len-end.result)))
    (sym c.deref.ensures.value)
    ∙ c.turned-beside.ensures.odd_is in
    let top : Level = record {
      cell = c.args.c.now;
      first = outer.end;
      end = c.len-end.result;
      odd = differ c.locate-corner.result.odd c.turned-beside.result.odd;
    } in
    record {
      closed = c.self.invariant.closed;
      are_levels = subst (λ (ls : List Level). AreLevels edges now ls)
          (sym (c.push_reserved.ensures.items ∙ ap (λ (ls : List Level). ls ++ top ∷ []) c.truncate.ensures.items))
          (stacked_on edges listed levels held outer c.args.c.now now c.locate-corner.result.odd c.turned-beside.result.odd top stack some there c.index.ensures
          lies gathered corner beside
          (ap (λ (n : ℕ). record { cell = c.args.c.now; first = outer.end; end = n; odd = differ c.locate-corner.result.odd c.turned-beside.result.odd })
          ended));
      room_taken = c.gather-found.ensures.room ∙ c.truncate-2.ensures.capacity ∙ c.self.invariant.room_taken;
      places_taken = c.push_reserved.ensures.capacity ∙ c.truncate.ensures.capacity ∙ c.self.invariant.places_taken;
    }
