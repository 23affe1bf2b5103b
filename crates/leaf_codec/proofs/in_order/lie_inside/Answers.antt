use Rattle.std.proofs.Common.{◌≡◌, ℕ, ℤ, List, get_or, pos, refl, sym, ap, subst, ◌∙◌, arith, true≢false, inl, inr}
use Rattle.std.specs.Prelude.{FitsSigned}
use Rattle.std.specs.Int.{w32}
use Rattle.std.proofs.lemmas.Bool.{cases_eq}
use Rattle.point_codec.specs.Keys.{key}
use Rattle.point_codec.specs.Seen.{region_of}
use Rattle.leaf_codec.specs.Views.{raw_keys_of}
use Rattle.leaf_codec.specs.Words.{number_of}
use Rattle.leaf_codec.proofs.OrderedKeys.{AreWithin, between_within, within_between, inside_all, inside_each}
use Rattle.leaf_codec.proofs.in_order.lie_inside.Goals as goal

-- what is known of a coordinate of the corner, from the slice of its coordinates
fits_at : (read corner : List ℤ) (e : ℕ) → read ≡ corner → FitsSigned w32 (get_or read e (pos 0)) → FitsSigned w32 (get_or corner e (pos 0))
fits_at read corner e is fits = subst (λ (c : List ℤ). FitsSigned w32 (get_or c e (pos 0))) is fits

number_at : (read corner : List ℤ) (e n : ℕ) → read ≡ corner → n ≡ number_of (key (get_or read e (pos 0))) → n ≡ number_of (key (get_or corner e (pos 0)))
number_at read corner e n is value = value ∙ ap (λ (c : List ℤ). number_of (key (get_or c e (pos 0)))) is

pub returns-then-not-lie_between : goal.returns-then-not-lie_between
returns-then-not-lie_between g c =
    let r = raw_keys_of c.args.parts.now in
    let cell = region_of c.args.cell.now in
    let n = c.args.parts.now.count in
    let e = c.loop-e.e in
    let lo = c.coordinates-lo.ensures in
    let hi = c.coordinates-hi.ensures in
    let low = c.key_number-low in
    let high = c.key_number-high in (
      λ no. absurd (true≢false (sym no)),
      λ all. absurd (true≢false (
          sym (c.lie_between.ensures.1 (within_between g.row.D n r cell e low.result high.result c.loop-e-test.true
          (fits_at c.coordinates-lo.result.now cell.lo e lo.value low.ensures.fits) (fits_at c.coordinates-hi.result.now cell.hi e hi.value high.ensures.fits)
          (number_at c.coordinates-lo.result.now cell.lo e low.result lo.value low.ensures.value)
          (number_at c.coordinates-hi.result.now cell.hi e high.result hi.value high.ensures.value)
          (inside_each g.row.D n r cell lo.long all e c.loop-e-test.true)))
          ∙ c.if-not-lie_between.true)),
    )

pub loop-e-preserved : goal.loop-e-preserved
loop-e-preserved g c =
    let r = raw_keys_of c.args.parts.now in
    let cell = region_of c.args.cell.now in
    let n = c.args.parts.now.count in
    let e = c.loop-e.e in
    let lo = c.coordinates-lo.ensures in
    let hi = c.coordinates-hi.ensures in
    let low = c.key_number-low in
    let high = c.key_number-high in
    let here : AreWithin g.row.D n r cell e = between_within g.row.D n r cell e low.result high.result c.loop-e-test.true
    (fits_at c.coordinates-lo.result.now cell.lo e lo.value low.ensures.fits) (fits_at c.coordinates-hi.result.now cell.hi e hi.value high.ensures.fits)
    (number_at c.coordinates-lo.result.now cell.lo e low.result lo.value low.ensures.value)
    (number_at c.coordinates-hi.result.now cell.hi e high.result hi.value high.ensures.value)
    (c.lie_between.ensures.0 c.if-not-lie_between.false) in
    λ k lt. elim (cases_eq k e) [
      | inl same ↦ subst (AreWithin g.row.D n r cell) (sym same) here
      | inr apart ↦ c.loop-e.invariant k (omega arith)
    ]

pub returns : goal.returns
returns g c = (
  λ _. inside_all g.row.D c.args.parts.now.count (raw_keys_of c.args.parts.now) (region_of c.args.cell.now) c.coordinates-lo.ensures.long
      c.coordinates-hi.ensures.long (λ e lt. c.loop-e.invariant e (omega (arith, lt, c.loop-e-test.false))),
  λ _. refl,
)
