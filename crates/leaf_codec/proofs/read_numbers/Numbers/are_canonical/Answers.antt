use Rattle.std.proofs.Common.{◌≡◌, true, sym, ◌∙◌, arith, ltb-true, lt-ltb, eqb-true, eq-eqb}
use Rattle.std.proofs.lemmas.Bool.{false≢true, not-true, not-false}
use Rattle.leaf_codec.specs.Views.{raw_numbers_of}
use Rattle.leaf_codec.proofs.CanonicalNumbers.{row_canonical, canonical_last, refuses_row, refuses_least, refuses_high, takes_width, width_of, span-lt}
use Rattle.leaf_codec.proofs.read_numbers.Numbers.are_canonical.Goals as goal
use Rattle.leaf_codec.proofs.read_numbers.Numbers.are_canonical.Goals.{then-span-via-then-span, then-span-via-else-span+then-not-span}

pub returns-then-self-eq0 : goal.returns-then-self-eq0
returns-then-self-eq0 c =
    let n = c.args.self.now in
    let r = raw_numbers_of n in (
      λ t. row_canonical n.count r c.if-self-eq0.true c.requires.some (omega (arith, ltb-true _ _ t, c.number.ensures.value)),
      λ h. lt-ltb _ _ (omega (arith, canonical_last n.count r c.requires.some h, c.number.ensures.value)),
    )

pub returns-then-span : goal.returns-then-span
returns-then-span c =
    let n = c.args.self.now in
    let r = raw_numbers_of n in
    let s = c.span-span.result in (
      λ t. absurd (false≢true t),
      λ h. absurd (elim c.then-span.branch [
        | then-span-via-then-span w ↦
            refuses_row n.count r s.greatest s.from_least s.row c.requires.some c.span-span.ensures c.if-self-eq0.false w.if-span.true h
        | then-span-via-else-span+then-not-span w ↦
            refuses_least n.count r s.greatest s.from_least s.row c.requires.some c.span-span.ensures (not-true s.from_least w.if-not-span.true) h
      ]),
    )

pub overflow_add-self : goal.overflow_add-self
overflow_add-self c =
    let n = c.args.self.now in
    let r = raw_numbers_of n in
    let s = c.span-span.result in
    let h = c.requires.numbers in
    omega (arith, h.raw.low, span-lt n.count r s.greatest s.from_least s.row h.raw h.few c.span-span.ensures)

pub returns-then-self-span-lt-MOST_POINTS : goal.returns-then-self-span-lt-MOST_POINTS
returns-then-self-span-lt-MOST_POINTS c =
    let n = c.args.self.now in
    let r = raw_numbers_of n in
    let s = c.span-span.result in
    let found : s.from_least ≡ true = not-false s.from_least c.if-not-span.false in (
      λ t. takes_width n.count r s.greatest s.from_least s.row c.requires.some c.span-span.ensures found c.if-span.false c.if-self-span-lt-MOST_POINTS.true
          (eqb-true _ _ t ∙ c.width.ensures.value),
      λ h.
          eq-eqb _ _ (width_of n.count r s.greatest s.from_least s.row c.requires.some c.span-span.ensures found c.if-span.false h ∙ sym c.width.ensures.value),
    )

pub returns-else-self-span-lt-MOST_POINTS : goal.returns-else-self-span-lt-MOST_POINTS
returns-else-self-span-lt-MOST_POINTS c =
    let n = c.args.self.now in
    let r = raw_numbers_of n in
    let s = c.span-span.result in (
      λ t. absurd (omega (arith, ltb-true _ _ t, c.if-self-span-lt-MOST_POINTS.false)),
      λ h. absurd (refuses_high n.count r s.greatest s.from_least s.row c.requires.some c.span-span.ensures c.if-self-span-lt-MOST_POINTS.false h),
    )
