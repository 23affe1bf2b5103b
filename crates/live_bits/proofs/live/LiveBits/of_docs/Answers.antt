-- The bits are written through a slice of the vector, whose items are then those of the slice (`whole`).
use Rattle.std.proofs.Common.{◌≡◌, ◌<◌, ap, subst, sym, ◌∙◌, List, ℕ, length, All, sum_by, count_ones, refl}
use Rattle.std.proofs.lemmas.List.{with_items_is}
use Rattle.live_bits.specs.LiveSet.{is_live}
use Rattle.live_bits.specs.LiveBody.{live_set, AreCountedBits}
use Rattle.live_bits.proofs.LiveNumbers.{live_set_is}
use Rattle.live_bits.proofs.Tally.{sum_ones}
use Rattle.live_bits.proofs.Made.{made_of, span_limit, made_bits, made_live}
use Rattle.live_bits.proofs.live.LiveBits.of_docs.Goals as goal

pub invariant_of-result : goal.invariant_of-result
invariant_of-result c =
    let base = c.reach-base.result.0 in
    let span = c.reach-base.result.1 in
    let bits = c.in_ok-bits.bits in
    let new = c.set_docs.new.bits in
    let long : length new ≡ bits.len = c.set_docs.auto.bits ∙ c.as_mut_slice.ensures.len in
    let zeros = c.as_mut_slice.ensures.value ∙ c.in_ok-bits.ensures.items_if_clones_equal (λ y e. e) in
    let made = made_of base span _ c.args.docs.now c.as_mut_slice.result.now new refl (long ∙ c.in_ok-bits.ensures.len) zeros c.set_docs.ensures in
    let are = made_bits base span c.args.docs.now new c.reach-base.ensures c.requires made in
    let whole = with_items_is bits new long in
    let seen = c.as_slice.ensures.value ∙ whole in
    let bytes = subst (All (λ (b : ℕ). b < 256)) seen c.count_set-count.ensures.bytes in
    let counted = c.count_set-count.ensures.value ∙ ap (λ (xs : List ℕ). sum_by count_ones xs) seen ∙ sum_ones base span new are bytes in
    subst (λ (xs : List ℕ). AreCountedBits base span c.count_set-count.result xs) (sym whole) (record { are_bits = are; counted = counted })

pub returns-clause-live : goal.returns-clause-live
returns-clause-live c =
    let base = c.reach-base.result.0 in
    let span = c.reach-base.result.1 in
    let new = c.set_docs.new.bits in
    let long : length new ≡ c.in_ok-bits.bits.len = c.set_docs.auto.bits ∙ c.as_mut_slice.ensures.len in
    let zeros = c.as_mut_slice.ensures.value ∙ c.in_ok-bits.ensures.items_if_clones_equal (λ y e. e) in
    let made = made_of base span _ c.args.docs.now c.as_mut_slice.result.now new refl (long ∙ c.in_ok-bits.ensures.len) zeros c.set_docs.ensures in
    ap (λ (xs : List ℕ). is_live (live_set base span xs)) (with_items_is c.in_ok-bits.bits new long)
    ∙ made_live base span c.args.docs.now new c.reach-base.ensures made

pub returns-clause-set : goal.returns-clause-set
returns-clause-set c = live_set_is _ _ _ (span_limit c.reach-base.result.0 c.reach-base.result.1 c.args.docs.now c.reach-base.ensures c.requires)
