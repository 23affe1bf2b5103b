use Rattle.std.proofs.Common.{◌≡◌, ℕ, ◌<◌, ◌≤◌, ◌-◌, true, List, ◌++◌, length, map, sym, ap, ◌∙◌, subst, arith}
use Rattle.std.specs.Prelude.{slice_range}
use Rattle.point_codec.specs.Points.{in_box}
use Rattle.point_codec.specs.Cells.{within}
use Rattle.point_codec.specs.Seen.{region_of}
use Rattle.point_codec.specs.declared.boxes.Cell.{Cell}
use Rattle.ring_parity.specs.Edges.{EdgeEnds}
use Rattle.ring_parity.specs.Rings.{is_odd}
use Rattle.ring_parity.specs.Seen.{ends_of}
use Rattle.ring_parity.specs.declared.edges.Edge.{Edge}
use Rattle.edge_tree.specs.declared.level.Level.{Level}
use Rattle.edge_tree.specs.Levels.{differ, turn_oddly, meeting, IsLevel, AreLevels}
use Rattle.edge_tree.proofs.Levels.{lies_by_ends, outer_extended, parted}
use Rattle.edge_tree.proofs.locator.Locator.part.Goals as goal

pub invariant_of-self : goal.invariant_of-self
invariant_of-self c =
    let edges : List EdgeEnds = c.self.inside.tree in
    let listed : List Edge = c.self.inside.listed.items in
    let levels : List Level = c.self.inside.levels.items in
    let held : ℕ = c.innermost_part-part.result.held in
    let outer : Level = c.index.result.now in
    let cell : Cell 2 = c.in-Some.c in
    let stack : AreLevels edges listed levels = c.self.invariant.are_levels in
    let some : 0 < held = omega arith in
    let there : held ≤ length levels = omega (arith, c.innermost_part-part.ensures.there, ap length c.as_slice.ensures.value) in
    let lies : within (region_of cell) (region_of outer.cell) ≡ true =
    lies_by_ends (region_of outer.cell) cell.lo.c cell.hi.c c.in-Some.ensures.0 c.in-Some.ensures.1 in
    let now : List Edge = c.gather.new.listed.items in
    let begins : c.len-start.result ≡ length listed = omega (arith, c.len-start.ensures, c.self.inside.listed.ok.0) in
    let gathered : now ≡ listed ++ meeting (region_of cell) (slice_range listed outer.first outer.end) =
    c.gather.ensures.whole (c.gather.ensures.all (omega arith)) in
    let top : IsLevel edges listed outer = subst (IsLevel edges listed) (sym c.index.ensures) (stack.each (held - 1) outer (omega (arith, some, there))) in
    let level : IsLevel edges c.as_slice-2.result.now outer =
    subst (λ (es : List Edge). IsLevel edges es outer) (sym c.as_slice-2.ensures.value)
    (outer_extended edges listed (meeting (region_of cell) (slice_range listed outer.first outer.end)) now outer top gathered) in
    let inside : in_box (region_of outer.cell) cell.lo.c ≡ true = c.in-Some.ensures.0 in
    let least : is_odd edges cell.lo.c ≡ c.locate-least.result.odd = (c.locate-least.ensures edges c.self.invariant.closed level inside).odd_is in
    let ended : c.len-end.result ≡ length now = omega (arith, c.len-end.ensures, c.gather.new.listed.ok.0) in
    let beside : turn_oddly cell.lo.c cell.lo.c (map ends_of (slice_range now c.len-start.result (length now))) ≡ c.turned-beside.result.odd =
    ap (λ (n : ℕ). turn_oddly cell.lo.c cell.lo.c (map ends_of (slice_range now c.len-start.result n))) (sym ended)
    ∙ ap (λ (es : List Edge). turn_oddly cell.lo.c cell.lo.c (map ends_of (slice_range es c.len-start.result c.len-end.result))) (sym c.deref.ensures.value)
    ∙ c.turned-beside.ensures.odd_is in
    let added : Level = record {
      cell = cell;
      first = c.len-start.result;
      end = c.len-end.result;
      odd = differ c.locate-least.result.odd c.turned-beside.result.odd;
    } in
    record {
      closed = c.self.invariant.closed;
      are_levels = subst (λ (ls : List Level). AreLevels edges now ls) (sym c.push_reserved.ensures.items)
          (parted edges listed levels held outer cell now c.len-start.result c.locate-least.result.odd c.turned-beside.result.odd added stack some there
          c.index.ensures lies begins gathered least beside
          (ap (λ (n : ℕ). record {
            cell = cell;
            first = c.len-start.result;
            end = n;
            odd = differ c.locate-least.result.odd c.turned-beside.result.odd;
          }) ended));
      room_taken = c.gather.ensures.room ∙ c.self.invariant.room_taken;
      places_taken = c.push_reserved.ensures.capacity ∙ c.self.invariant.places_taken;
    }
