use Rattle.std.proofs.Common.{ℕ, ◌≡◌, subst, arith}
use Rattle.leaf_codec.specs.Views.{AreBounds, raw_numbers_of}
use Rattle.leaf_codec.proofs.ReadNumbers.{ends_one, ends_more}
use Rattle.leaf_codec.proofs.read_numbers.Numbers.ends.Goals as goal

pub loop-i-init : goal.loop-i-init
loop-i-init c = record {
  some = omega arith;
  ends = ends_one (raw_numbers_of c.args.self.now) c.wide_offset-first.result c.wide_offset-first.ensures;
}

pub loop-i-preserved : goal.loop-i-preserved
loop-i-preserved c =
    let l = c.loop-i in
    record {
      some = omega arith;
      ends = ends_more l.i (raw_numbers_of c.args.self.now) l.least l.greatest c.wide_offset-offset.result c.min-least.result c.max-greatest.result
          l.invariant.ends c.wide_offset-offset.ensures c.min-least.ensures c.max-greatest.ensures;
    }

pub returns : goal.returns
returns c =
    let l = c.loop-i in
    let end : l.i ≡ c.args.self.now.count = omega (arith, c.loop-i-test.false, l.auto.i-end, c.requires.some) in
    subst (λ (n : ℕ). AreBounds n (raw_numbers_of c.args.self.now) l.least l.greatest) end l.invariant.ends
