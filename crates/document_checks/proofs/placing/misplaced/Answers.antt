use Rattle.std.proofs.Common.{◌≡◌, arith, inl, inr}
use Rattle.std.proofs.lemmas.Bool.{cases_lt}
use Rattle.stored_index.specs.Segments.{places}
use Rattle.document_checks.proofs.placing.misplaced.Goals as goal

pub returns-then-beyond-lt-MOST_POINTS-clause-some : goal.returns-then-beyond-lt-MOST_POINTS-clause-some
returns-then-beyond-lt-MOST_POINTS-clause-some c =
    let found = c.least_beyond-beyond.ensures.found c.if-beyond-lt-MOST_POINTS.true in
    let lives = c.args.lives.now in (
      found.0,
      found.1,
      λ m lt. elim (cases_lt m c.args.next) [
        | inl low ↦ (c.least_doubled-doubled.ensures.before m (omega arith), λ high. absurd (omega arith))
        | inr high ↦ (
            let none : places m lives ≡ 0 = c.least_beyond-beyond.ensures.before m high lt in
            (omega (arith, none), λ _. none))
      ],
    )

pub returns-clause-none : goal.returns-clause-none
returns-clause-none c m = elim (cases_lt m c.args.next) [
  | inl low ↦ (c.least_doubled-doubled.ensures.before m (omega arith), λ high. absurd (omega arith))
  | inr high ↦ elim (cases_lt m c.least_beyond-beyond.result) [
    | inl under ↦ (
        let none : places m c.args.lives.now ≡ 0 = c.least_beyond-beyond.ensures.before m high under in
        (omega (arith, none), λ _. none))
    | inr over ↦ (
        let none : places m c.args.lives.now ≡ 0 = c.least_beyond-beyond.ensures.above m (omega arith) in
        (omega (arith, none), λ _. none))
  ]
]
