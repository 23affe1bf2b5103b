use Rattle.std.proofs.Common.{◌≡◌, ℕ, List, ◌∷◌, ◌++◌, Ok, sym, ap, ◌∙◌, arith}
use Rattle.std.specs.Prelude.{Result}
use Rattle.byte_cursor.specs.Vint.{vint}
use Rattle.byte_cursor.proofs.SpelledVints.{taken, begins}
use Rattle.leaf_codec.proofs.read_numbers.form_and_least.Goals as goal

tail-is : (a b : ℕ) (x y : List ℕ) → a ∷ x ≡ b ∷ y → x ≡ y
tail-is a b x y e = cc

ok-is : {E : Type 0} (a b : ℕ) (r : Result ℕ E) → r ≡ Ok a → r ≡ Ok b → a ≡ b
ok-is a b r p q = cc

pub returns-in_default-take_vint-clause-only : goal.returns-in_default-take_vint-clause-only
returns-in_default-take_vint-clause-only c form least rest hf hl is =
    let left = tail-is c.in-Ok.form form c.take_u8.new.self.bytes.now (vint least ++ rest) (sym c.in-Ok.ensures.ok ∙ c.new-cursor.ensures ∙ is) in
    absurd (c.in_default-take_vint.not-Ok least
    (c.take_vint.ensures.taken least rest (omega arith) (begins c.take_u8.new.self.bytes.now rest least (omega arith) left)).0)

pub returns-then-least-ge-MOST_POINTS-clause-only : goal.returns-then-least-ge-MOST_POINTS-clause-only
returns-then-least-ge-MOST_POINTS-clause-only c form least rest hf hl is =
    let left = tail-is c.in-Ok.form form c.take_u8.new.self.bytes.now (vint least ++ rest) (sym c.in-Ok.ensures.ok ∙ c.new-cursor.ensures ∙ is) in
    let took = (c.take_vint.ensures.taken least rest (omega arith) (begins c.take_u8.new.self.bytes.now rest least (omega arith) left)).0 in
    absurd (omega (arith, ok-is c.in-Ok-take_vint.least least c.take_vint.result c.in-Ok-take_vint.is took, c.if-least-ge-MOST_POINTS.true))

pub returns-clause-found : goal.returns-clause-found
returns-clause-found c =
    sym c.new-cursor.ensures ∙ c.in-Ok.ensures.ok
    ∙ ap (λ (t : List ℕ). c.in-Ok.form ∷ t)
    (taken c.take_u8.new.self.bytes.now c.take_vint.new.self.bytes.now c.in-Ok-take_vint.least (omega arith) c.in-Ok-take_vint.ensures.ok
    ∙ ap (λ (t : List ℕ). vint c.in-Ok-take_vint.least ++ t) (sym c.rest.ensures))
