use Rattle.std.proofs.Common.{◌∙◌, ◌-◌, ap, length-drop, drop}
use Rattle.inner_pack.specs.Bodies.{shared_front}
use Rattle.inner_pack.proofs.KeyLemmas.{key_again}
use Rattle.inner_pack.proofs.fields.take_key.Goals as goal

pub returns-then-shared_length-prefix-clause-only : goal.returns-then-shared_length-prefix-clause-only
returns-then-shared_length-prefix-clause-only c k rest long sh e =
    let p = c.args.prefix in
    let back = c.in_ok-back.ensures.only (drop p k) rest (length-drop p k ∙ ap (λ n. n - p) long) e in
    c.if-shared_length-prefix.true
    (c.shared_length.ensures.value
    ∙ ap (λ t. shared_front t c.args.reference) (key_again k c.args.reference c.in_ok-back.back.now c.joined-key.result p sh back.0 c.joined-key.ensures.value)
    ∙ sh)

pub returns-clause-only : goal.returns-clause-only
returns-clause-only c k rest long sh e =
    let p = c.args.prefix in
    let back = c.in_ok-back.ensures.only (drop p k) rest (length-drop p k ∙ ap (λ n. n - p) long) e in
    (key_again k c.args.reference c.in_ok-back.back.now c.joined-key.result p sh back.0 c.joined-key.ensures.value, back.1)
