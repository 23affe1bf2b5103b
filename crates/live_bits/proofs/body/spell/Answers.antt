use Rattle.std.proofs.Common.{refl, arith, ◌≡◌, ◌++◌, ℕ, ◌<◌, All}
use Rattle.std.proofs.lemmas.List.Elements.{All-from_get_or}
use Rattle.live_bits.specs.LiveBody.{head}
use Rattle.live_bits.proofs.Heads.{body_of}
use Rattle.live_bits.proofs.body.spell.Goals as goal

pub returns : goal.returns
unfolding head
returns c =
    let s = c.args.sizes in
    let all : All (λ (b : ℕ). b < 256) c.args.bits.now = All-from_get_or (λ (b : ℕ). b < 256) c.args.bits.now 0 (λ i lt. omega (arith, c.type_inv.bits i)) in
    let spelling : c.new.result ≡ head c.args.segment c.args.generation s.base s.span s.count ++ c.args.bits.now =
    rw (
      c.new.ensures,
      c.in_ok-put_slice-2.ensures.ok,
      c.in_ok-put_u32-3.ensures.ok,
      c.in_ok-put_u32-2.ensures.ok,
      c.in_ok-put_u32.ensures.ok,
      c.in_ok-put_u64-2.ensures.ok,
      c.in_ok-put_u64.ensures.ok,
      c.in_ok-put_slice.ensures.ok,
      c.in_ok-out.ensures.items,
    ) refl in
    body_of c.args.segment c.args.generation s.base s.span s.count c.new.result c.args.bits.now c.requires.are_bits all c.requires.counted spelling
