use Rattle.std.proofs.Common.{rules, ◌≡◌, ◌++◌, ℕ, List, length, take, drop, vec_len, ap, ◌∙◌, arith, length-append}
use Rattle.std.proofs.lemmas.List.{take_at}
use Rattle.page_cache.proofs.Sealed.{sealed_from}
use Rattle.page_cache.proofs.bodies.seal_from.Goals as goal

pub returns-clause-page : goal.returns-clause-page
returns-clause-page c =
    let old = c.args.out.now.items in
    let from = c.args.from in
    let front = c.split_at_mut-page.result.0.now in
    let sealed = c.seal_in_place.new.page in
    let len : vec_len c.args.out.now ≡ length old = search rules in
    let within = c.requires.from in
    let fits = c.requires.payload in
    let grown = rw (c.unwrap.ensures, len) at c.resize.ensures.items in
    let long = rw c.unwrap.ensures at c.resize.ensures.len in
    let whole : length (front ++ sealed) ≡ vec_len c.resize.new.self =
    omega (arith, length-append front sealed, c.split_at_mut-page.ensures.front_len, c.seal_in_place.ensures.page.len, long) in
    rw (take_at (front ++ sealed) _ _ whole)
    (sealed_from c.args.name.now c.args.number from old c.resize.new.self.items front c.split_at_mut-page.result.1.now sealed (omega (arith, len, within))
    (omega (arith, len, fits)) grown (c.split_at_mut-page.ensures.front ∙ ap (λ (x : List ℕ). take from x) c.as_mut_slice.ensures.value)
    (c.split_at_mut-page.ensures.back ∙ ap (λ (x : List ℕ). drop from x) c.as_mut_slice.ensures.value)
    (rw (c.place_of-kind.ensures.0, c.place_of-kind.ensures.1) at c.seal_in_place.ensures.page) c.seal_in_place.ensures.payload)
