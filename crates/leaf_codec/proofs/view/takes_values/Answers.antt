use Rattle.std.proofs.Common.{◌≡◌, ◌<◌, ◌+◌, ◌*◌, ℕ, Bool, not, cond, get_or, refl, sym, ap, ◌∙◌, arith, rules, true≢false}
use Rattle.std.specs.List.{range_with_len}
use Rattle.leaf_codec.proofs.CanonicalNumbers.{AreBytes-from as small}
use Rattle.leaf_codec.proofs.NewValues.{flag_le, firsts, firsts_more, firsts_values, values_of, values_none, values_grow}
use Rattle.leaf_codec.proofs.SeenBytes.{seen_none, seen_more, has_value, values-map}
use Rattle.leaf_codec.proofs.view.takes_values.Goals as goal

pub loop-i-init : goal.loop-i-init
loop-i-init c = record {
  seen = seen_none _ (search rules) c.new-seen.ensures;
  found = sym values_none;
  less = omega (arith, c.requires.some);
}

-- what was found is what the bytes so far take
pub loop-i-preserved : goal.loop-i-preserved
loop-i-preserved c =
    let byte : ℕ → ℕ = λ k. get_or c.args.bytes.now (c.args.start + k * c.args.stride) 0 in
    let l = c.loop-i in
    let is_byte = small c.args.bytes.now (λ k. omega (arith, c.type_inv.bytes k)) (c.args.start + l.i * c.args.stride) 0
    (c.requires.within l.i c.loop-i-test.true) in
    let more : c.add-more.result ≡ cond {A = ℕ} (not (has_value (firsts byte l.i) (byte l.i))) 1 0 =
    c.add-more.ensures.more ∙ ap (λ (t : Bool). cond {A = ℕ} (not t) 1 0) (l.invariant.seen.at (byte l.i) is_byte) in
    record {
      seen = rw (c.add-more.ensures.seen, firsts_more byte l.i) (seen_more _ _ (byte l.i) is_byte l.invariant.seen);
      found = omega (arith, l.invariant.found, more, firsts_values byte l.i is_byte);
      less = omega (arith, c.if-found-need.false, more, l.invariant.less, flag_le (not (has_value (firsts byte l.i) (byte l.i))));
    }

pub returns-then-found-need : goal.returns-then-found-need
returns-then-found-need c =
    let byte : ℕ → ℕ = λ k. get_or c.args.bytes.now (c.args.start + k * c.args.stride) 0 in
    let l = c.loop-i in
    let are_bytes : (k : ℕ) → k < c.args.count → byte k < 256 = λ k under.
    small c.args.bytes.now (λ m. omega (arith, c.type_inv.bytes m)) (c.args.start + k * c.args.stride) 0 (c.requires.within k under) in
    let is_byte = are_bytes l.i c.loop-i-test.true in
    let more : c.add-more.result ≡ cond {A = ℕ} (not (has_value (firsts byte l.i) (byte l.i))) 1 0 =
    c.add-more.ensures.more ∙ ap (λ (t : Bool). cond {A = ℕ} (not t) 1 0) (l.invariant.seen.at (byte l.i) is_byte) in (
      λ _. omega (
        arith,
        c.if-found-need.true,
        l.invariant.found,
        more,
        firsts_values byte l.i is_byte,
        values_grow byte (l.i + 1) c.args.count (omega (arith, c.loop-i-test.true)) are_bytes,
        values-map byte (range_with_len 0 c.args.count),
      ),
      λ _. refl,
    )

pub returns : goal.returns
returns c =
    let byte : ℕ → ℕ = λ k. get_or c.args.bytes.now (c.args.start + k * c.args.stride) 0 in
    let end : c.loop-i.i ≡ c.args.count = omega (arith, c.loop-i-test.false, c.loop-i.auto.i-end) in (
      λ no. absurd (true≢false (sym no)),
      λ enough. absurd (omega (
        arith,
        enough,
        c.loop-i.invariant.found,
        c.loop-i.invariant.less,
        ap (values_of byte) end,
        values-map byte (range_with_len 0 c.args.count),
      )),
    )
