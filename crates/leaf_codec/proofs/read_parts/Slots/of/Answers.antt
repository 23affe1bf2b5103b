use Rattle.std.proofs.Common.{◌≡◌, ◌<◌, ◌+◌, ◌-◌, ◌*◌, ◌^◌, ℕ, List, length, get_or, take, drop, sym}
use Rattle.std.proofs.Common.{ap, ◌∙◌, arith, rules, inl, inr, get_or-set_other, cond, eqb, Bool}
use Rattle.std.proofs.lemmas.List.{length-set}
use Rattle.std.proofs.lemmas.Bool.{cases_eq, eq-eqb, ne_eqb}
use Rattle.leaf_codec.specs.Words.{number_of}
use Rattle.leaf_codec.specs.Raw.{start_of, gap_of, place_of}
use Rattle.leaf_codec.proofs.Chunks.{place_more}
use Rattle.leaf_codec.proofs.Lists.{fills_more}
use Rattle.leaf_codec.proofs.ReadKeys.{front_within, base_read, gap_sorted, mask_more}
use Rattle.leaf_codec.proofs.read_parts.Slots.of.Goals as goal
use Rattle.leaf_codec.proofs.read_parts.Slots.of.Goals.{then-d-parts, else-d-parts}

pub overflow_add-from : goal.overflow_add-from
overflow_add-from g c =
    omega (
      arith,
      front_within g.row.D c.args.parts.now c.loop-d.d c.requires.parts c.requires.dims.1 (omega (arith, c.loop-d-test.true)),
      c.loop-d.invariant.from,
    )

pub slice_bounds-base-end : goal.slice_bounds-base-end
slice_bounds-base-end g c =
    omega (
      arith,
      front_within g.row.D c.args.parts.now c.loop-d.d c.requires.parts c.requires.dims.1 (omega (arith, c.loop-d-test.true)),
      c.loop-d.invariant.from,
    )

pub overflow_add-scales : goal.overflow_add-scales
overflow_add-scales g c =
    let p = c.args.parts.now in
    let gap = c.gap-gap.ensures in
    let m = mask_more c.mask-then-d-parts.result c.gap-gap.result c.mask-then-d-parts.ensures
    (omega (arith, gap, gap_sorted p.lengths.now p.sorted c.loop-d.d c.if-d-parts.true)) in
    omega (arith, m.1)

pub loop-d-preserved : goal.loop-d-preserved
loop-d-preserved g c =
    let p = c.args.parts.now in
    let l = c.loop-d in
    let inv = l.invariant in
    let lengths = p.lengths.now in
    let gap = c.gap-gap.ensures in
    let under : l.d < g.row.D = omega (arith, c.loop-d-test.true) in
    let within = front_within g.row.D p l.d c.requires.parts c.requires.dims.1 under in
    let place : l.place + c.gap-gap.result ≡ place_of lengths p.sorted (l.d + 1) = omega (arith, inv.place, gap, place_more (gap_of lengths p.sorted) l.d) in
    let scale : ℕ → ℕ = λ k. cond (eqb k p.sorted) (256 ^ gap_of lengths p.sorted k) 0 in
    record {
      from = omega (arith, inv.from, place_more (λ e. get_or lengths e 0) l.d);
      place = place;
      few = omega (arith, inv.few, gap);
      long = (
        search rules,
        elim c.if-d-parts.branch [
          | then-d-parts w ↦ ap length w.scales-is ∙ length-set l.scales l.d _ ∙ inv.long.1
          | else-d-parts w ↦ ap length w.scales-is ∙ inv.long.1
        ],
        search rules,
        search rules,
      );
      bases = fills_more (λ k. number_of (take (get_or lengths k 0) (drop (start_of lengths k) p.prefixes.now)) * 256 ^ (4 - get_or lengths k 0)) l.bases l.d
          c.base.result (omega (arith, inv.long.0, under)) inv.bases
          (base_read lengths p.prefixes.now l.d l.from c.base.result inv.from (omega (arith, within.0, inv.from)) c.base.ensures);
      scales = elim c.if-d-parts.branch [
        | then-d-parts w ↦ (λ k lt.
            let sorted = w.if-d-parts.true in
            let m = mask_more w.mask-then-d-parts.result c.gap-gap.result w.mask-then-d-parts.ensures
            (omega (arith, gap, gap_sorted lengths p.sorted l.d sorted)) in
            ap (λ (t : List ℕ). get_or t k 0) w.scales-is
            ∙ fills_more scale l.scales l.d (w.mask-then-d-parts.result + 1) (omega (arith, inv.long.1, under)) inv.scales
            (m.0 ∙ ap (λ n. 256 ^ n) gap ∙ sym (ap (λ (b : Bool). cond {A = ℕ} b (256 ^ gap_of lengths p.sorted l.d) 0) (eq-eqb l.d p.sorted sorted))) k lt)
        | else-d-parts w ↦ (λ k lt. ap (λ (t : List ℕ). get_or t k 0) w.scales-is ∙ elim (cases_eq k l.d) [
          | inl same ↦ inv.fresh k (omega (arith, same))
              ∙ sym (ap (λ (b : Bool). cond {A = ℕ} b (256 ^ gap_of lengths p.sorted k) 0) (ne_eqb k p.sorted (λ e. w.if-d-parts.false (sym same ∙ e))))
          | inr apart ↦ inv.scales k (omega arith)
        ])
      ];
      fresh = elim c.if-d-parts.branch [
        | then-d-parts
            w ↦ (λ k le. ap (λ (t : List ℕ). get_or t k 0) w.scales-is ∙ get_or-set_other l.scales l.d k _ 0 (λ e. absurd (omega (arith, e, le)))
            ∙ inv.fresh k (omega arith))
        | else-d-parts w ↦ (λ k le. ap (λ (t : List ℕ). get_or t k 0) w.scales-is ∙ inv.fresh k (omega arith))
      ];
      masks = fills_more (λ k. 256 ^ gap_of lengths p.sorted k - 1) l.masks l.d c.mask.result (omega (arith, inv.long.2, under)) inv.masks
          (c.mask.ensures ∙ ap (λ n. 256 ^ n - 1) gap);
      places =
          fills_more (λ k. place_of lengths p.sorted (k + 1)) l.places l.d (l.place + c.gap-gap.result) (omega (arith, inv.long.3, under)) inv.places place;
    }
