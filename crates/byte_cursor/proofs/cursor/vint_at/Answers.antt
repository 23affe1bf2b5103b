-- The invariant says what the groups so far mean for the bytes as a whole; each exit takes the one lemma on
-- what the byte in front of the rest means there.
use Rattle.std.proofs.Common.{◌≡◌, ◌∷◌, refl, arith, sym, ◌∙◌, ◌-◌}
use Rattle.byte_cursor.specs.Cursor.{cursor_rest}
use Rattle.byte_cursor.proofs.Partway.{partway_next, partway_fits, last_taken, last_only, last_not_cut, ended, too_great, padded, too_long}
use Rattle.byte_cursor.proofs.cursor.vint_at.Goals as goal

pub overflow_mul-number : goal.overflow_mul-number
overflow_mul-number c =
    let fits = partway_fits c.args.bytes.now (cursor_rest c.loop-at.ahead) c.loop-at.at c.loop-at.value c.loop-at.weight c.from-group.result c.loop-at.invariant
    (omega arith) c.if-group-lt128.true in
    omega arith

pub overflow_add-number : goal.overflow_add-number
overflow_add-number c =
    let fits = partway_fits c.args.bytes.now (cursor_rest c.loop-at.ahead) c.loop-at.at c.loop-at.value c.loop-at.weight c.from-group.result c.loop-at.invariant
    (omega arith) c.if-group-lt128.true in
    omega arith

pub overflow_mul-value : goal.overflow_mul-value
overflow_mul-value c =
    let fits = partway_fits c.args.bytes.now (cursor_rest c.loop-at.ahead) c.loop-at.at c.loop-at.value c.loop-at.weight (c.from-group.result - 128)
    c.loop-at.invariant (omega arith) (omega arith) in
    omega arith

pub overflow_add-value : goal.overflow_add-value
overflow_add-value c =
    let fits = partway_fits c.args.bytes.now (cursor_rest c.loop-at.ahead) c.loop-at.at c.loop-at.value c.loop-at.weight (c.from-group.result - 128)
    c.loop-at.invariant (omega arith) (omega arith) in
    omega arith

pub overflow_mul-weight : goal.overflow_mul-weight
overflow_mul-weight c =
    let fits = partway_fits c.args.bytes.now (cursor_rest c.loop-at.ahead) c.loop-at.at c.loop-at.value c.loop-at.weight 0 c.loop-at.invariant (omega arith)
    (omega arith) in
    omega arith

pub loop-at-preserved : goal.loop-at-preserved
loop-at-preserved c =
    let whole : cursor_rest c.loop-at.ahead ≡ c.from-group.result ∷ cursor_rest c.take_u8.new.self = rw c.from-group.ensures c.in-Ok.ensures.ok in
    partway_next c.args.bytes.now (cursor_rest c.loop-at.ahead) (cursor_rest c.take_u8.new.self) c.from-group.result c.loop-at.at c.loop-at.value
    c.loop-at.weight c.loop-at.invariant whole (omega arith) (omega arith)

pub returns-then-number-gt4294967295-clause-none : goal.returns-then-number-gt4294967295-clause-none
returns-then-number-gt4294967295-clause-none c =
    let whole : cursor_rest c.loop-at.ahead ≡ c.from-group.result ∷ cursor_rest c.take_u8.new.self = rw c.from-group.ensures c.in-Ok.ensures.ok in
    λ has. too_great c.args.bytes.now (cursor_rest c.loop-at.ahead) (cursor_rest c.take_u8.new.self) c.from-group.result c.loop-at.at c.loop-at.value
    c.loop-at.weight c.loop-at.invariant whole c.if-group-lt128.true (omega arith) has

pub returns-then-at-gt0-clause-short : goal.returns-then-at-gt0-clause-short
returns-then-at-gt0-clause-short c =
    let whole : cursor_rest c.loop-at.ahead ≡ c.from-group.result ∷ cursor_rest c.take_u8.new.self = rw c.from-group.ensures c.in-Ok.ensures.ok in (
      λ e. absurd cc,
      λ cut. absurd
          (last_not_cut c.args.bytes.now (cursor_rest c.loop-at.ahead) (cursor_rest c.take_u8.new.self) c.from-group.result c.loop-at.at c.loop-at.value
          c.loop-at.weight c.loop-at.invariant whole c.if-group-lt128.true cut),
    )

pub returns-then-at-gt0-clause-none : goal.returns-then-at-gt0-clause-none
returns-then-at-gt0-clause-none c =
    let whole : cursor_rest c.loop-at.ahead ≡ c.from-group.result ∷ cursor_rest c.take_u8.new.self = rw c.from-group.ensures c.in-Ok.ensures.ok in
    λ has. padded c.args.bytes.now (cursor_rest c.loop-at.ahead) (cursor_rest c.take_u8.new.self) c.from-group.result c.loop-at.at c.loop-at.value
    c.loop-at.weight c.loop-at.invariant whole (omega arith) (omega arith) has

pub returns-then-group-lt128-clause-ok : goal.returns-then-group-lt128-clause-ok
returns-then-group-lt128-clause-ok c =
    let whole : cursor_rest c.loop-at.ahead ≡ c.from-group.result ∷ cursor_rest c.take_u8.new.self = rw c.from-group.ensures c.in-Ok.ensures.ok in
    rw c.rest.ensures
    (last_taken c.args.bytes.now (cursor_rest c.loop-at.ahead) (cursor_rest c.take_u8.new.self) c.from-group.result c.loop-at.at c.loop-at.value
    c.loop-at.weight c.loop-at.invariant whole c.if-group-lt128.true (λ p. omega arith))

pub returns-then-group-lt128-clause-taken : goal.returns-then-group-lt128-clause-taken
returns-then-group-lt128-clause-taken c =
    let whole : cursor_rest c.loop-at.ahead ≡ c.from-group.result ∷ cursor_rest c.take_u8.new.self = rw c.from-group.ensures c.in-Ok.ensures.ok in
    λ n rest lt begins.
    let last = last_only c.args.bytes.now (cursor_rest c.loop-at.ahead) (cursor_rest c.take_u8.new.self) c.from-group.result c.loop-at.at c.loop-at.value
    c.loop-at.weight n rest c.loop-at.invariant whole c.if-group-lt128.true begins in
    (sym last.number, c.rest.ensures ∙ sym last.rest)

pub returns-then-group-lt128-clause-short : goal.returns-then-group-lt128-clause-short
returns-then-group-lt128-clause-short c =
    let whole : cursor_rest c.loop-at.ahead ≡ c.from-group.result ∷ cursor_rest c.take_u8.new.self = rw c.from-group.ensures c.in-Ok.ensures.ok in (
      λ e. absurd cc,
      λ cut. absurd
          (last_not_cut c.args.bytes.now (cursor_rest c.loop-at.ahead) (cursor_rest c.take_u8.new.self) c.from-group.result c.loop-at.at c.loop-at.value
          c.loop-at.weight c.loop-at.invariant whole c.if-group-lt128.true cut),
    )

pub returns-in_default-clause-none : goal.returns-in_default-clause-none
returns-in_default-clause-none c =
    ended c.args.bytes.now (cursor_rest c.loop-at.ahead) c.loop-at.at c.loop-at.value c.loop-at.weight c.loop-at.invariant (c.in_default.ensures.short.0 refl)

pub returns-clause-none : goal.returns-clause-none
returns-clause-none c = λ has.
    too_long c.args.bytes.now (cursor_rest c.loop-at.ahead) c.loop-at.at c.loop-at.value c.loop-at.weight c.loop-at.invariant (omega arith) has
