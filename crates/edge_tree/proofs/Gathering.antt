-- Gathering the edges of a list that meet a cell, behind the list itself.
use Rattle.std.proofs.Common.{◌≡◌, ℕ, ◌+◌, ◌-◌, ◌<◌, ◌≤◌, Bool, true, false, not, cond, eqb, List}
use Rattle.std.proofs.Common.{[], ◌∷◌, ◌++◌, length, map, take, drop, get_or, sym, ap, ◌∙◌, arith}
use Rattle.std.specs.Prelude.{slice_range, nat_lt}
use Rattle.std.proofs.lemmas.Bool.Decides.{nat_tests}
use Rattle.std.proofs.lemmas.List.{length-append, length-drop, length-take-le, get_or-take, get_or-drop, get_or_append_left, append_assoc, append-nil}
use Rattle.std.proofs.lemmas.List.Elements.{filter_more}
use Rattle.point_codec.specs.Points.{Region}
use Rattle.ring_parity.specs.Edges.{misses}
use Rattle.ring_parity.specs.Rings.{any_meets}
use Rattle.ring_parity.specs.Seen.{ends_of}
use Rattle.ring_parity.specs.declared.edges.Edge.{Edge}
use Rattle.edge_tree.specs.Levels.{meeting}
use Rattle.edge_tree.proofs.Parts.{met}
use Rattle.edge_tree.proofs.Turns.{any_left}

-- edge i of the list, read where something was added to it
read_at : (old more now : List Edge) (first i : ℕ) (e : Edge) → first ≤ i → i < length old → now ≡ old ++ more → e ≡ get_or now i e
    → get_or (drop first old) (i - first) e ≡ e
read_at old more now first i e after there is read =
    get_or-drop first old (i - first) e ∙ ap (λ k. get_or old k e) (omega (arith, after)) ∙ sym (get_or_append_left old more e i there)
    ∙ ap (λ (es : List Edge). get_or es i e) (sym is) ∙ sym read

next_of : (cell : Region) (old more now : List Edge) (first i : ℕ) (e : Edge) → first ≤ i → i < length old → now ≡ old ++ more → e ≡ get_or now i e
    → meeting cell (take (i + 1 - first) (drop first old))
    ≡ meeting cell (take (i - first) (drop first old)) ++ cond (not (misses (ends_of e) cell)) (e ∷ []) []
next_of cell old more now first i e after there is read =
    ap (λ k. meeting cell (take k (drop first old))) (omega (arith, after))
    ∙ filter_more (λ (d : Edge). not (misses (ends_of d) cell)) (drop first old) (i - first) e (omega (arith, after, there, length-drop first old))
    ∙ ap (λ (d : Edge). meeting cell (take (i - first) (drop first old)) ++ cond (not (misses (ends_of d) cell)) (d ∷ []) [])
    (read_at old more now first i e after there is read)

pub gathered_one : (cell : Region) (old now next : List Edge) (first i : ℕ) (e : Edge) → first ≤ i → i < length old
    → now ≡ old ++ meeting cell (take (i - first) (drop first old)) → e ≡ get_or now i e → misses (ends_of e) cell ≡ false → next ≡ now ++ e ∷ []
    → next ≡ old ++ meeting cell (take (i + 1 - first) (drop first old))
gathered_one cell old now next first i e after there is read m pushed =
    pushed ∙ ap (λ (es : List Edge). es ++ e ∷ []) is ∙ append_assoc old (meeting cell (take (i - first) (drop first old))) (e ∷ [])
    ∙ ap (λ (es : List Edge). old ++ es)
    (sym (next_of cell old (meeting cell (take (i - first) (drop first old))) now first i e after there is read
    ∙ ap (λ (b : Bool). meeting cell (take (i - first) (drop first old)) ++ cond (not b) (e ∷ []) []) m))

pub left_one : (cell : Region) (old now : List Edge) (first i : ℕ) (e : Edge) → first ≤ i → i < length old
    → now ≡ old ++ meeting cell (take (i - first) (drop first old)) → e ≡ get_or now i e → misses (ends_of e) cell ≡ true
    → now ≡ old ++ meeting cell (take (i + 1 - first) (drop first old))
left_one cell old now first i e after there is read m =
    is ∙ ap (λ (es : List Edge). old ++ es)
    (sym (next_of cell old (meeting cell (take (i - first) (drop first old))) now first i e after there is read
    ∙ ap (λ (b : Bool). meeting cell (take (i - first) (drop first old)) ++ cond (not b) (e ∷ []) []) m
    ∙ append-nil (meeting cell (take (i - first) (drop first old)))))

-- one edge that meets the cell settles that some edge of the range does
pub met_in_range : (cell : Region) (old more now : List Edge) (first i end : ℕ) (e : Edge) → first ≤ i → i < end → end ≤ length old → now ≡ old ++ more
    → e ≡ get_or now i e → misses (ends_of e) cell ≡ false → any_meets (map ends_of (slice_range old first end)) cell ≡ true
met_in_range cell old more now first i end e after before there is read m =
    met (slice_range old first end) (i - first) e cell
    (omega (arith, after, before, there, length-drop first old, length-take-le (end - first) (drop first old) (omega (arith, there, length-drop first old))))
    (sym (get_or-take (end - first) (drop first old) (i - first) e (omega (arith, after, before))
    ∙ read_at old more now first i e after (omega (arith, before, there)) is read)) m

longer_by : (start long k : ℕ) → long ≡ start + k → nat_lt start long ≡ not (eqb k 0)
longer_by start long k h = grind (arith, nat_tests)

-- the list is longer where some edge of the range meets the cell
pub longer_met : (cell : Region) (old now : List Edge) (first end start long : ℕ) → now ≡ old ++ meeting cell (slice_range old first end)
    → start ≡ length old → long ≡ length now → nat_lt start long ≡ any_meets (map ends_of (slice_range old first end)) cell
longer_met cell old now first end start long is s l =
    longer_by start long (length (meeting cell (slice_range old first end)))
    (l ∙ ap length is ∙ length-append old (meeting cell (slice_range old first end)) ∙ ap (λ n. n + length (meeting cell (slice_range old first end))) (sym s))
    ∙ sym (any_left cell (slice_range old first end))
