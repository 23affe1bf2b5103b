use Rattle.std.proofs.Common.{◌-◌, ℕ, List, not, ◌&&◌, nat_eq, sym, ap, subst, ◌∙◌, arith, length}
use Rattle.std.proofs.lemmas.List.{with_items_is}
use Rattle.live_bits.specs.LiveSet.{LiveSet, is_live, live_set_without}
use Rattle.live_bits.specs.LiveBody.{is_set, live_set, AreCountedBits}
use Rattle.live_bits.proofs.LiveNumbers.{without-dead, live_bounds, stored_some, IsCleared, cleared_stored, cleared_view}
use Rattle.live_bits.proofs.live.LiveBits.clear.Goals as goal

pub returns-then-not-is_live-clause-after : goal.returns-then-not-is_live-clause-after
returns-then-not-is_live-clause-after c = sym (without-dead c.args.self.now c.args.doc (sym c.if-not-is_live.ensures))

pub overflow_sub-doc : goal.overflow_sub-doc
overflow_sub-doc c =
    let b = c.self.inside in
    (live_bounds b.base b.span b.bits.items c.args.doc (ap (λ (s : LiveSet). is_live s c.args.doc) c.self.view_is ∙ sym c.if-not-is_live.ensures)).0

pub clear_bit-requires : goal.clear_bit-requires
clear_bit-requires c =
    let b = c.self.inside in
    let bounds = live_bounds b.base b.span b.bits.items c.args.doc (ap (λ (s : LiveSet). is_live s c.args.doc) c.self.view_is ∙ sym c.if-not-is_live.ensures) in
    let len = c.self.invariant.are_bits.len in
    omega (arith, ap length c.as_mut_slice.ensures.value)

pub overflow_sub-self : goal.overflow_sub-self
overflow_sub-self c =
    let b = c.self.inside in
    stored_some b.base b.span b.count c.args.doc b.bits.items c.self.invariant
    (ap (λ (s : LiveSet). is_live s c.args.doc) c.self.view_is ∙ sym c.if-not-is_live.ensures)

pub invariant_of-self : goal.invariant_of-self
invariant_of-self c =
    let b = c.self.inside in
    let new = c.clear_bit.new.bits in
    let cleared : IsCleared b.base c.args.doc b.bits.items new = record {
      len = c.clear_bit.auto.bits ∙ ap length c.as_mut_slice.ensures.value;
      bits = λ j. c.clear_bit.ensures j ∙ ap (λ (bits : List ℕ). is_set bits j && not (nat_eq j (c.args.doc - b.base))) c.as_mut_slice.ensures.value;
    } in
    subst (λ (bits : List ℕ). AreCountedBits b.base b.span (b.count - 1) bits)
    (sym (with_items_is b.bits new (c.clear_bit.auto.bits ∙ c.as_mut_slice.ensures.len)))
    (cleared_stored b.base b.span b.count c.args.doc b.bits.items new c.self.invariant
    (ap (λ (s : LiveSet). is_live s c.args.doc) c.self.view_is ∙ sym c.if-not-is_live.ensures) cleared)

pub returns-clause-after : goal.returns-clause-after
returns-clause-after c =
    let b = c.self.inside in
    let new = c.clear_bit.new.bits in
    let cleared : IsCleared b.base c.args.doc b.bits.items new = record {
      len = c.clear_bit.auto.bits ∙ ap length c.as_mut_slice.ensures.value;
      bits = λ j. c.clear_bit.ensures j ∙ ap (λ (bits : List ℕ). is_set bits j && not (nat_eq j (c.args.doc - b.base))) c.as_mut_slice.ensures.value;
    } in
    let bounds = live_bounds b.base b.span b.bits.items c.args.doc (ap (λ (s : LiveSet). is_live s c.args.doc) c.self.view_is ∙ sym c.if-not-is_live.ensures) in
    ap (λ (bits : List ℕ). live_set b.base b.span bits) (with_items_is b.bits new (c.clear_bit.auto.bits ∙ c.as_mut_slice.ensures.len))
    ∙ cleared_view b.base b.span c.args.doc b.bits.items new bounds.0 cleared
    ∙ ap (λ (s : LiveSet). live_set_without c.args.doc s) c.self.view_is
