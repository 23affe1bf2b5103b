use Rattle.std.proofs.Common.{◌≤◌, ◌++◌, ◌∙◌, sym, arith}
use Rattle.inner_pack.specs.Places.{front}
use Rattle.inner_pack.specs.Bodies.{cuts_table, places_table}
use Rattle.inner_pack.proofs.SpelledLemmas.{spelled_one, told_one, spelled_packed, told_packed, tree_one, tree_packed, cuts_long}
use Rattle.inner_pack.proofs.index.root_part.Goals as goal

pub returns-in_err-bytes-clause-only : goal.returns-in_err-bytes-clause-only
returns-in_err-bytes-clause-only c references t h e =
    absurd (c.in_err-bytes.ensures.only (cuts_table t) (places_table front t) (cuts_long c.args.leaves t c.requires.leaves.0 h)
    (e ∙ tree_one c.args.form references t c.if-form-eq1.true))

pub returns-then-form-eq1-clause-found : goal.returns-then-form-eq1-clause-found
returns-then-form-eq1-clause-found c references t eb ep =
    let form = c.args.form in
    let one = c.if-form-eq1.true in
    c.in_ok-bytes.ensures.found.1 ∙ (λ i. (eb ∙ spelled_one form references front t one) i ++ (ep ∙ told_one form front t one) i)
    ∙ sym (tree_one form references t one)

pub returns-then-form-eq1-clause-only : goal.returns-then-form-eq1-clause-only
returns-then-form-eq1-clause-only c references t h e =
    let form = c.args.form in
    let one = c.if-form-eq1.true in
    let both = c.in_ok-bytes.ensures.only (cuts_table t) (places_table front t) (cuts_long c.args.leaves t c.requires.leaves.0 h)
    (e ∙ tree_one form references t one) in
    (both.0 ∙ sym (spelled_one form references front t one), both.1 ∙ sym (told_one form front t one))

pub returns-clause-found : goal.returns-clause-found
returns-clause-found c references t eb ep =
    let form = c.args.form in
    let packed : 2 ≤ form = omega (arith, c.requires.form, c.if-form-eq1.false) in
    sym c.split_at.ensures.back ∙ eb ∙ spelled_packed form references front t packed ∙ sym (tree_packed form references t packed)

pub returns-clause-only : goal.returns-clause-only
returns-clause-only c references t h e =
    let form = c.args.form in
    let packed : 2 ≤ form = omega (arith, c.requires.form, c.if-form-eq1.false) in (
      c.split_at.ensures.back ∙ e ∙ tree_packed form references t packed ∙ sym (spelled_packed form references front t packed),
      c.split_at.ensures.front ∙ sym (told_packed form front t packed),
    )
