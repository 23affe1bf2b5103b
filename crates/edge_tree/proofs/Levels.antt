-- Levels: what one tells of its points, one more of them, and fewer.
use Rattle.std.proofs.Common.{◌≡◌, ℕ, zero, suc, ◌+◌, ◌-◌, ◌<◌, ◌≤◌, Bool, true, ⊎_elim, List, ℤ, [], ◌∷◌}
use Rattle.std.proofs.Common.{◌++◌, length, map, take, drop, get_or, refl, sym, ap, ◌∙◌, subst, arith}
use Rattle.std.specs.Prelude.{slice_range}
use Rattle.std.proofs.lemmas.Bool.{cases_lt, and_from, and_parts}
use Rattle.std.proofs.lemmas.List.{length-append, length-take-le, length_push, get_or-take, get_or_default, get_or_append_left, get_or_at}
use Rattle.std.proofs.lemmas.List.{take-take, take_all, take-append-le, drop-take, drop-append-le, drop_all}
use Rattle.point_codec.specs.Points.{Region, all_le, in_box}
use Rattle.point_codec.specs.Cells.{within}
use Rattle.point_codec.specs.Seen.{region_of}
use Rattle.point_codec.specs.declared.boxes.Cell.{Cell}
use Rattle.ring_parity.specs.Edges as EdgeSpecs
use Rattle.ring_parity.specs.Edges.{EdgeEnds}
use Rattle.ring_parity.specs.Rings.{AreClosed, is_odd, any_meets}
use Rattle.ring_parity.specs.Seen.{ends_of}
use Rattle.ring_parity.specs.declared.edges.Edge.{Edge}
use Rattle.edge_tree.specs.declared.level.Level.{Level}
use Rattle.edge_tree.specs.Outlines.{IsLocation}
use Rattle.edge_tree.specs.Levels.{differ, turn_oddly, IsTurned, AreNear, meeting, near_of, IsLevel, AreLevels}
use Rattle.edge_tree.proofs.Turns.{odd_near, near_any, on_missed, near_within, meets_within}

-- where a point of the cell lies, by what the level's edges tell
pub located : (edges : List EdgeEnds) (listed : List Edge) (l : Level) (q : List ℤ) (on odd : Bool) → AreClosed edges → IsLevel edges listed l
    → in_box (region_of l.cell) q ≡ true → IsTurned (near_of listed l) l.cell.lo.c q on odd → IsLocation edges q on (differ odd l.odd)
located edges listed l q on odd closed h i t = record {
  on_is = near_any (region_of l.cell) (near_of listed l) edges (λ e. EdgeSpecs.on e q) h.near (λ e m. on_missed e (region_of l.cell) q m i) ∙ t.on_is;
  odd_is = odd_near edges (near_of listed l) (region_of l.cell) q l.odd closed h.near l.cell.ordered h.others i ∙ ap (λ b. differ b l.odd) t.odd_is;
}

range_truncated : {X : Type 0} (xs : List X) (a b k : ℕ) → a ≤ b → b ≤ k → slice_range (take k xs) a b ≡ slice_range xs a b
range_truncated xs a b k ordered there =
    ap (λ n. take (b - a) (drop a (take n xs))) (omega (arith, ordered, there)) ∙ ap (take (b - a)) (drop-take a (k - a) xs)
    ∙ take-take (b - a) (k - a) (drop a xs) (omega (arith, there))

-- a level in a list of which only what follows it was cut off
level_truncated : (edges : List EdgeEnds) (listed : List Edge) (l : Level) (k : ℕ) → l.end ≤ k → k ≤ length listed → IsLevel edges listed l
    → IsLevel edges (take k listed) l
level_truncated edges listed l k there less h =
    let same : near_of (take k listed) l ≡ near_of listed l = ap (map ends_of) (range_truncated listed l.first l.end k h.ordered there) in
    record {
      ordered = h.ordered;
      there = omega (arith, there, length-take-le k listed less);
      near = subst (λ (es : List EdgeEnds). AreNear (region_of l.cell) es edges) (sym same) h.near;
      others = ap (λ es. differ (is_odd edges l.cell.lo.c) (turn_oddly l.cell.lo.c l.cell.lo.c es)) same ∙ h.others;
    }

-- or to which something was added
level_extended : (edges : List EdgeEnds) (listed more : List Edge) (l : Level) → IsLevel edges listed l → IsLevel edges (listed ++ more) l
level_extended edges listed more l h =
    let whole : take (length listed) (listed ++ more) ≡ listed =
    take-append-le (length listed) listed more (omega arith) ∙ take_all (length listed) listed (omega arith) in
    let same : near_of (listed ++ more) l ≡ near_of listed l =
    ap (map ends_of) (sym (range_truncated (listed ++ more) l.first l.end (length listed) h.ordered h.there)
    ∙ ap (λ (es : List Edge). slice_range es l.first l.end) whole) in
    record {
      ordered = h.ordered;
      there = omega (arith, h.there, length-append listed more);
      near = subst (λ (es : List EdgeEnds). AreNear (region_of l.cell) es edges) (sym same) h.near;
      others = ap (λ es. differ (is_odd edges l.cell.lo.c) (turn_oddly l.cell.lo.c l.cell.lo.c es)) same ∙ h.others;
    }

-- the first levels, with their edges alone
pub levels_truncated : (edges : List EdgeEnds) (listed : List Edge) (levels : List Level) (held : ℕ) (outer : Level) → AreLevels edges listed levels
    → 0 < held → held ≤ length levels → outer ≡ get_or levels (held - 1) outer → AreLevels edges (take outer.end listed) (take held levels)
levels_truncated edges listed levels held outer h some there is = record {
  each = λ place d l.
      let early : place < held = omega (arith, l, length-take-le held levels there) in
      let below : (get_or levels place d).end ≤ (get_or levels (held - 1) d).end =
      h.stacked place (held - 1) d (omega (arith, early)) (omega (arith, some, there)) in
      let last : get_or levels (held - 1) d ≡ outer = get_or_default levels (held - 1) d outer (omega (arith, some, there)) ∙ sym is in
      let top : IsLevel edges listed (get_or levels (held - 1) d) = h.each (held - 1) d (omega (arith, some, there)) in
      subst (IsLevel edges (take outer.end listed)) (sym (get_or-take held levels place d early))
      (level_truncated edges listed (get_or levels place d) outer.end (omega (arith, below, ap (λ (m : Level). m.end) last))
      (omega (arith, top.there, ap (λ (m : Level). m.end) last)) (h.each place d (omega (arith, early, there))));
  stacked = λ low high d order l.
      let early : high < held = omega (arith, l, length-take-le held levels there) in
      let below : (get_or levels low d).end ≤ (get_or levels high d).end = h.stacked low high d order (omega (arith, early, there)) in
      omega (
        arith,
        below,
        ap (λ (m : Level). m.end) (get_or-take held levels low d (omega (arith, order, early))),
        ap (λ (m : Level). m.end) (get_or-take held levels high d early),
      );
}

-- one more level, whose edges are the last
pub levels_pushed : (edges : List EdgeEnds) (listed more : List Edge) (levels : List Level) (l : Level) → AreLevels edges listed levels
    → IsLevel edges (listed ++ more) l → l.end ≡ length (listed ++ more) → AreLevels edges (listed ++ more) (levels ++ l ∷ [])
levels_pushed edges listed more levels l h one last = record {
  each = λ place d within.
      ⊎_elim
      (λ (early : place < length levels).
      subst (IsLevel edges (listed ++ more)) (sym (get_or_append_left levels (l ∷ []) d place early))
      (level_extended edges listed more (get_or levels place d) (h.each place d early)))
      (λ (late : length levels ≤ place).
      subst (IsLevel edges (listed ++ more)) (sym (get_or_at levels l [] d place (omega (arith, late, within, length_push levels l)))) one)
      (cases_lt place (length levels));
  stacked = λ low high d order within.
      ⊎_elim
      (λ (early : high < length levels).
      omega (
        arith,
        h.stacked low high d order early,
        ap (λ (m : Level). m.end) (get_or_append_left levels (l ∷ []) d low (omega (arith, order, early))),
        ap (λ (m : Level). m.end) (get_or_append_left levels (l ∷ []) d high early),
      ))
      (λ (late : length levels ≤ high).
      let top : get_or (levels ++ l ∷ []) high d ≡ l = get_or_at levels l [] d high (omega (arith, late, within, length_push levels l)) in
      ⊎_elim
      (λ (before : low < length levels).
      omega (
        arith,
        (h.each low d before).there,
        last,
        length-append listed more,
        ap (λ (m : Level). m.end) top,
        ap (λ (m : Level). m.end) (get_or_append_left levels (l ∷ []) d low before),
      ))
      (λ (same : length levels ≤ low).
      omega (
        arith,
        ap (λ (m : Level). m.end) top,
        ap (λ (m : Level). m.end) (get_or_at levels l [] d low (omega (arith, same, order, within, length_push levels l))),
      ))
      (cases_lt low (length levels)))
      (cases_lt high (length levels));
}

range_added : (listed more : List Edge) → slice_range (listed ++ more) (length listed) (length (listed ++ more)) ≡ more
range_added listed more =
    ap (take (length (listed ++ more) - length listed)) (drop-append-le (length listed) listed more (omega arith)
    ∙ ap (λ (es : List Edge). es ++ more) (drop_all (length listed) listed (omega arith)))
    ∙ take_all (length (listed ++ more) - length listed) more (omega (arith, length-append listed more))

-- the level of a cell within that of another, by those of its edges that meet the cell
pub level_on : (edges : List EdgeEnds) (listed more : List Edge) (outer : Level) (cell : Cell 2) (corner beside : Bool) (l : Level)
    → IsLevel edges listed outer → within (region_of cell) (region_of outer.cell) ≡ true
    → more ≡ meeting (region_of cell) (slice_range listed outer.first outer.end) → is_odd edges cell.lo.c ≡ corner
    → turn_oddly cell.lo.c cell.lo.c (map ends_of more) ≡ beside
    → l ≡ record { cell = cell; first = length listed; end = length (listed ++ more); odd = differ corner beside } → IsLevel edges (listed ++ more) l
level_on edges listed more outer cell corner beside l h lies gathered corner_is beside_is is =
    let range : slice_range (listed ++ more) (length listed) (length (listed ++ more)) ≡ more = range_added listed more in
    let near : AreNear (region_of cell) (map ends_of more) edges =
    subst (λ (es : List Edge). AreNear (region_of cell) (map ends_of es) edges) (sym gathered)
    (near_within (region_of outer.cell) (region_of cell) (slice_range listed outer.first outer.end) edges lies cell.ordered h.near) in
    rw is (record {
      ordered = omega (arith, length-append listed more);
      there = omega arith;
      near = subst (λ (es : List Edge). AreNear (region_of cell) (map ends_of es) edges) (sym range) near;
      others = ap (λ (es : List Edge). differ (is_odd edges cell.lo.c) (turn_oddly cell.lo.c cell.lo.c (map ends_of es))) range
          ∙ ap (λ b. differ b (turn_oddly cell.lo.c cell.lo.c (map ends_of more))) corner_is ∙ ap (λ b. differ corner b) beside_is;
    })

single : (P : Level → Type 0) (l d : Level) (place : ℕ) → place < 1 → P l → P (get_or (l ∷ []) place d)
single P l d zero h p = p
single P l d (suc n) h p = absurd (omega arith)

-- the level of all edges
pub lowest_stands : (listed : List Edge) (cell : Cell 2) (corner beside : Bool) (l : Level) → is_odd (map ends_of listed) cell.lo.c ≡ corner
    → turn_oddly cell.lo.c cell.lo.c (map ends_of listed) ≡ beside
    → l ≡ record { cell = cell; first = 0; end = length listed; odd = differ corner beside } → AreLevels (map ends_of listed) listed (l ∷ [])
lowest_stands listed cell corner beside l corner_is beside_is is =
    let whole : slice_range listed 0 (length listed) ≡ listed = take_all (length listed - 0) listed (omega arith) in
    let one : IsLevel (map ends_of listed) listed l = rw is (record {
      ordered = omega arith;
      there = omega arith;
      near = subst (λ (es : List Edge). AreNear (region_of cell) (map ends_of es) (map ends_of listed)) (sym whole) (λ test local. refl);
      others = ap (λ (es : List Edge). differ (is_odd (map ends_of listed) cell.lo.c) (turn_oddly cell.lo.c cell.lo.c (map ends_of es))) whole
          ∙ ap (λ b. differ b (turn_oddly cell.lo.c cell.lo.c (map ends_of listed))) corner_is ∙ ap (λ b. differ corner b) beside_is;
    }) in
    record {
      each = λ place d within. single (IsLevel (map ends_of listed) listed) l d place within one;
      stacked = λ low high d order within.
          single (λ m. m.end ≤ (get_or (l ∷ []) high d).end) l d low (omega (arith, order, within))
          (single (λ m. l.end ≤ m.end) l d high within (omega arith));
    }

-- a cell lies in one that has both its ends
pub lies_by_ends : (outer : Region) (lo hi : List ℤ) → in_box outer lo ≡ true → in_box outer hi ≡ true → within (record { lo = lo; hi = hi }) outer ≡ true
lies_by_ends outer lo hi l h =
    and_from (all_le outer.lo lo) (all_le hi outer.hi) (and_parts (all_le outer.lo lo) (all_le lo outer.hi) l).0
    (and_parts (all_le outer.lo hi) (all_le hi outer.hi) h).1

pub lies_in_outer : (seen levels : List Level) (held : ℕ) (outer : Level) (cell : Cell 2) → seen ≡ levels → outer ≡ get_or levels (held - 1) outer
    → (in_box (region_of (get_or seen (held - 1) outer).cell) cell.lo.c ≡ true) × (in_box (region_of (get_or seen (held - 1) outer).cell) cell.hi.c ≡ true)
    → within (region_of cell) (region_of outer.cell) ≡ true
lies_in_outer seen levels held outer cell same is has =
    let top : outer ≡ get_or seen (held - 1) outer = is ∙ ap (λ (ls : List Level). get_or ls (held - 1) outer) (sym same) in
    lies_by_ends (region_of outer.cell) cell.lo.c cell.hi.c (ap (λ (l : Level). in_box (region_of l.cell) cell.lo.c) top ∙ has.0)
    (ap (λ (l : Level). in_box (region_of l.cell) cell.hi.c) top ∙ has.1)

-- the innermost level round a cell, once the list ends with its edges
pub outer_stands : (edges : List EdgeEnds) (listed : List Edge) (levels : List Level) (held : ℕ) (outer : Level) → AreLevels edges listed levels
    → 0 < held → held ≤ length levels → outer ≡ get_or levels (held - 1) outer → IsLevel edges (take outer.end listed) outer
outer_stands edges listed levels held outer h some there is =
    let top : IsLevel edges listed outer = subst (IsLevel edges listed) (sym is) (h.each (held - 1) outer (omega (arith, some, there))) in
    level_truncated edges listed outer outer.end (omega arith) top.there top

pub outer_extended : (edges : List EdgeEnds) (listed more now : List Edge) (outer : Level) → IsLevel edges listed outer → now ≡ listed ++ more
    → IsLevel edges now outer
outer_extended edges listed more now outer h is = subst (λ (es : List Edge). IsLevel edges es outer) (sym is) (level_extended edges listed more outer h)

-- a level for a cell within the innermost round it
pub stacked_on : (edges : List EdgeEnds) (listed : List Edge) (levels : List Level) (held : ℕ) (outer : Level) (cell : Cell 2) (now : List Edge)
    (corner beside : Bool) (l : Level)
    → AreLevels edges listed levels → 0 < held → held ≤ length levels → outer ≡ get_or levels (held - 1) outer
    → within (region_of cell) (region_of outer.cell) ≡ true
    → now ≡ take outer.end listed ++ meeting (region_of cell) (slice_range (take outer.end listed) outer.first outer.end)
    → is_odd edges cell.lo.c ≡ corner → turn_oddly cell.lo.c cell.lo.c (map ends_of (slice_range now outer.end (length now))) ≡ beside
    → l ≡ record { cell = cell; first = outer.end; end = length now; odd = differ corner beside }
    → AreLevels edges now (take held levels ++ l ∷ [])
stacked_on edges listed levels held outer cell now corner beside l h some there is lies gathered corner_is beside_is l_is =
    let first : List Edge = take outer.end listed in
    let more : List Edge = meeting (region_of cell) (slice_range first outer.first outer.end) in
    let top : IsLevel edges listed outer = subst (IsLevel edges listed) (sym is) (h.each (held - 1) outer (omega (arith, some, there))) in
    let long : length first ≡ outer.end = length-take-le outer.end listed top.there in
    let range : slice_range (first ++ more) outer.end (length (first ++ more)) ≡ more =
    ap (λ k. slice_range (first ++ more) k (length (first ++ more))) (sym long) ∙ range_added first more in
    let turned : turn_oddly cell.lo.c cell.lo.c (map ends_of more) ≡ beside =
    ap (λ (es : List Edge). turn_oddly cell.lo.c cell.lo.c (map ends_of es)) (sym range)
    ∙ ap (λ (es : List Edge). turn_oddly cell.lo.c cell.lo.c (map ends_of (slice_range es outer.end (length es)))) (sym gathered) ∙ beside_is in
    let same : l ≡ record { cell = cell; first = length first; end = length (first ++ more); odd = differ corner beside } =
    l_is ∙ ap (λ (k : ℕ). record { cell = cell; first = k; end = length now; odd = differ corner beside }) (sym long)
    ∙ ap (λ (es : List Edge). record { cell = cell; first = length first; end = length es; odd = differ corner beside }) gathered in
    subst (λ (es : List Edge). AreLevels edges es (take held levels ++ l ∷ [])) (sym gathered)
    (levels_pushed edges first more (take held levels) l (levels_truncated edges listed levels held outer h some there is)
    (level_on edges first more outer cell corner beside l (outer_stands edges listed levels held outer h some there is) lies refl corner_is turned same)
    (ap (λ (m : Level). m.end) same))

-- a part: a level for a cell within that of some level, on top of all
pub parted : (edges : List EdgeEnds) (listed : List Edge) (levels : List Level) (held : ℕ) (outer : Level) (cell : Cell 2) (now : List Edge) (start : ℕ)
    (corner beside : Bool) (l : Level)
    → AreLevels edges listed levels → 0 < held → held ≤ length levels → outer ≡ get_or levels (held - 1) outer
    → within (region_of cell) (region_of outer.cell) ≡ true → start ≡ length listed
    → now ≡ listed ++ meeting (region_of cell) (slice_range listed outer.first outer.end)
    → is_odd edges cell.lo.c ≡ corner → turn_oddly cell.lo.c cell.lo.c (map ends_of (slice_range now start (length now))) ≡ beside
    → l ≡ record { cell = cell; first = start; end = length now; odd = differ corner beside } → AreLevels edges now (levels ++ l ∷ [])
parted edges listed levels held outer cell now start corner beside l h some there is lies begins gathered corner_is beside_is l_is =
    let more : List Edge = meeting (region_of cell) (slice_range listed outer.first outer.end) in
    let top : IsLevel edges listed outer = subst (IsLevel edges listed) (sym is) (h.each (held - 1) outer (omega (arith, some, there))) in
    let range : slice_range (listed ++ more) start (length (listed ++ more)) ≡ more =
    ap (λ k. slice_range (listed ++ more) k (length (listed ++ more))) begins ∙ range_added listed more in
    let turned : turn_oddly cell.lo.c cell.lo.c (map ends_of more) ≡ beside =
    ap (λ (es : List Edge). turn_oddly cell.lo.c cell.lo.c (map ends_of es)) (sym range)
    ∙ ap (λ (es : List Edge). turn_oddly cell.lo.c cell.lo.c (map ends_of (slice_range es start (length es)))) (sym gathered) ∙ beside_is in
    let same : l ≡ record { cell = cell; first = length listed; end = length (listed ++ more); odd = differ corner beside } =
    l_is ∙ ap (λ (k : ℕ). record { cell = cell; first = k; end = length now; odd = differ corner beside }) begins
    ∙ ap (λ (es : List Edge). record { cell = cell; first = length listed; end = length es; odd = differ corner beside }) gathered in
    subst (λ (es : List Edge). AreLevels edges es (levels ++ l ∷ [])) (sym gathered)
    (levels_pushed edges listed more levels l h (level_on edges listed more outer cell corner beside l top lies refl corner_is turned same)
    (ap (λ (m : Level). m.end) same))

-- the edges of that level settle whether some edge meets the cell
pub met_by_outer : (edges : List EdgeEnds) (listed kept : List Edge) (levels : List Level) (held : ℕ) (outer : Level) (cell : Cell 2) (meets : Bool)
    → AreLevels edges listed levels → 0 < held → held ≤ length levels → outer ≡ get_or levels (held - 1) outer
    → within (region_of cell) (region_of outer.cell) ≡ true → kept ≡ take outer.end listed
    → meets ≡ any_meets (map ends_of (slice_range kept outer.first outer.end)) (region_of cell) → meets ≡ any_meets edges (region_of cell)
met_by_outer edges listed kept levels held outer cell meets h some there is lies kept_is told =
    told ∙ ap (λ (es : List Edge). any_meets (map ends_of (slice_range es outer.first outer.end)) (region_of cell)) kept_is
    ∙ sym (meets_within (region_of outer.cell) (region_of cell) (near_of (take outer.end listed) outer) edges lies cell.ordered
    (outer_stands edges listed levels held outer h some there is).near)
