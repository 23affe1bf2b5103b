use Rattle.std.proofs.Common.{◌≢◌, ◌<◌, ℕ, refl, sym, subst, ◌∙◌, arith, inl, inr, true≢false}
use Rattle.std.proofs.lemmas.Bool.{cases_eq}
use Rattle.leaf_codec.specs.declared.read_parts.Parts.{Parts}
use Rattle.leaf_codec.specs.Raw.{raw_items, gap_of}
use Rattle.leaf_codec.specs.Views.{IsParts, IsWide, raw_keys_of}
use Rattle.leaf_codec.proofs.Chunks.{place_more}
use Rattle.leaf_codec.proofs.WideDimensions.{is_spread, two_of, wide_of, dimensions_from, dimensions_still}
use Rattle.leaf_codec.proofs.view.has_these_dimensions.Goals as goal

sorted_lt : (D : ℕ) (p : Parts) → IsParts D p → p.sorted ≢ D → p.sorted < D
sorted_lt D p h apart = omega (arith, h.raw.sorts.within, h.raw.dims, apart)

pub count_rising-least-requires : goal.count_rising-least-requires
count_rising-least-requires g c =
    let h = c.requires.parts in
    record {
      some = omega (arith, h.raw.counted, c.requires.some);
      few = omega (arith, h.raw.counted, h.few);
      rises = c.requires.rises (sorted_lt g.row.D c.args.parts.now h c.if-parts.false);
    }

pub overflow_add-place : goal.overflow_add-place
overflow_add-place g c = omega (arith, c.loop-d.invariant.low, c.gap-place.ensures, c.loop-d-test.true, c.requires.dims.1)

pub is_wide-requires : goal.is_wide-requires
is_wide-requires g c = record {
  parts = c.requires.parts;
  within = c.loop-d-test.true;
  some = (
    omega (arith, c.if-least-lt2.false),
    omega (arith, c.count_rising-least.ensures.few, c.requires.parts.raw.counted, c.requires.parts.few),
  );
  place = c.loop-d.invariant.place;
}

pub returns-then-parts : goal.returns-then-parts
returns-then-parts g c n = (λ _. dimensions_still g.row.D n c.args.parts.now c.requires.parts c.if-parts.true, λ _. refl)

pub returns-then-least-lt2 : goal.returns-then-least-lt2
returns-then-least-lt2 g c n =
    let p = c.args.parts.now in
    let h = c.requires.parts in
    let lt = sorted_lt g.row.D p h c.if-parts.false in (
      λ no. absurd (true≢false (sym no)),
      λ a. absurd (omega (
        arith,
        c.if-least-lt2.true,
        two_of g.row.D n p c.count_rising-least.result h lt (is_spread g.row.D n p c.count_rising-least.result h lt c.count_rising-least.ensures.value) a,
      )),
    )

pub returns-then-not-is_wide : goal.returns-then-not-is_wide
returns-then-not-is_wide g c n =
    let p = c.args.parts.now in
    let h = c.requires.parts in
    let lt = sorted_lt g.row.D p h c.if-parts.false in
    let least = c.count_rising-least.result in (
      λ no. absurd (true≢false (sym no)),
      λ a.
          let wide = wide_of g.row.D n p least c.loop-d.d lt (is_spread g.row.D n p least h lt c.count_rising-least.ensures.value) a c.loop-d-test.true in
          absurd (true≢false (sym ((c.is_wide.ensures n).1 wide) ∙ c.if-not-is_wide.true)),
    )

pub loop-d-preserved : goal.loop-d-preserved
loop-d-preserved g c =
    let p = c.args.parts.now in
    let l = c.loop-d in
    record {
      place = omega (arith, l.invariant.place, c.gap-place.ensures, place_more (gap_of p.lengths.now p.sorted) l.d);
      low = omega (arith, l.invariant.low, c.gap-place.ensures);
      wide = λ n k lt. elim (cases_eq k l.d) [
        | inl same ↦
            subst (λ (d : ℕ). IsWide (raw_items g.row.D p.count n (raw_keys_of p)) p.lengths.now p.sorted c.count_rising-least.result d) (sym same)
            ((c.is_wide.ensures n).0 c.if-not-is_wide.false)
        | inr apart ↦ l.invariant.wide n k (omega arith)
      ];
    }

pub returns : goal.returns
returns g c n =
    let p = c.args.parts.now in
    let h = c.requires.parts in
    let lt = sorted_lt g.row.D p h c.if-parts.false in
    let least = c.count_rising-least.result in (
      λ _. dimensions_from g.row.D n p least h lt (is_spread g.row.D n p least h lt c.count_rising-least.ensures.value)
          (omega (arith, c.if-least-lt2.false))
          (λ d under. c.loop-d.invariant.wide n d (omega (arith, under, c.loop-d-test.false))),
      λ _. refl,
    )
