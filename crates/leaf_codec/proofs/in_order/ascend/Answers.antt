use Rattle.std.proofs.Common.{◌≡◌, ◌+◌, ◌-◌, refl, sym, ap, ◌∙◌, arith, true≢false, inl, inr}
use Rattle.std.proofs.lemmas.Bool.{cases_eq, cases_lt}
use Rattle.std.specs.declared.cmp.Ordering.TheVariants.{Less}
use Rattle.std.specs.Ordering.{is_lt}
use Rattle.leaf_codec.specs.LeafOrder.{leaf_cmp}
use Rattle.leaf_codec.specs.Raw.{raw_item}
use Rattle.leaf_codec.specs.Views.{raw_numbers_of, raw_keys_of}
use Rattle.leaf_codec.proofs.ViewLemmas.{less_of}
use Rattle.leaf_codec.proofs.in_order.ascend.Goals as goal

pub loop-at-init : goal.loop-at-init
loop-at-init g c = record { some = c.climb-at.ensures.within.0; within = c.climb-at.ensures.within.1; up = λ k lt. c.climb-at.ensures.up k (omega arith) lt }

pub returns-then-not-is_lt : goal.returns-then-not-is_lt
returns-then-not-is_lt g c =
    let n = raw_numbers_of c.args.numbers.now in
    let r = raw_keys_of c.args.parts.now in
    let l = c.loop-at in
    let next : l.at - 1 + 1 ≡ l.at = omega (arith, l.invariant.some) in (
      λ no. absurd (true≢false (sym no)),
      λ up.
          let less : c.by_leaf_order.result ≡ Less =
          c.by_leaf_order.ensures ∙ (λ j. leaf_cmp c.args.d (c.entry-last.ensures j) (c.entry-next.ensures j))
          ∙ (λ j. leaf_cmp c.args.d (raw_item g.row.D n r (l.at - 1)) (raw_item g.row.D n r (sym next j)))
          ∙ up (l.at - 1) (omega (arith, next, c.loop-at-test.true)) in
          absurd (true≢false (ap is_lt (sym less) ∙ sym c.is_lt.ensures ∙ c.if-not-is_lt.true)),
    )

pub loop-at-preserved : goal.loop-at-preserved
loop-at-preserved g c =
    let n = raw_numbers_of c.args.numbers.now in
    let r = raw_keys_of c.args.parts.now in
    let l = c.loop-at in
    record {
      some = omega (arith, c.climb-at-in-loop-at.ensures.within, l.invariant.some);
      within = omega (arith, c.climb-at-in-loop-at.ensures.within);
      up = λ k lt. elim (cases_lt (k + 1) l.at) [
        | inl before ↦ l.invariant.up k before
        | inr after ↦ elim (cases_eq (k + 1) l.at) [
          | inl same ↦
              let last : k ≡ l.at - 1 = omega arith in
              (λ j. leaf_cmp c.args.d (raw_item g.row.D n r (last j)) (raw_item g.row.D n r (same j)))
              ∙ (λ j. leaf_cmp c.args.d (sym c.entry-last.ensures j) (sym c.entry-next.ensures j))
              ∙ sym c.by_leaf_order.ensures ∙ less_of c.by_leaf_order.result (sym c.is_lt.ensures ∙ c.if-not-is_lt.false)
          | inr apart ↦ c.climb-at-in-loop-at.ensures.up k (omega arith) lt
        ]
      ];
    }

pub returns : goal.returns
returns g c = (λ _ k lt. c.loop-at.invariant.up k (omega (arith, lt, c.loop-at-test.false, c.loop-at.invariant.within)), λ _. refl)
