use Rattle.std.proofs.Common.{sym, arith}
use Rattle.leaf_codec.specs.Views.{raw_numbers_of}
use Rattle.leaf_codec.proofs.ReadNumbers.{offset_row, offset_at-lt}
use Rattle.leaf_codec.proofs.read_numbers.Numbers.offset.Goals as goal

pub returns-then-self-eq0-clause-value : goal.returns-then-self-eq0-clause-value
returns-then-self-eq0-clause-value c = sym (offset_row (raw_numbers_of c.args.self.now) c.args.i c.if-self-eq0.true)

pub returns-then-self-eq0-clause-fits : goal.returns-then-self-eq0-clause-fits
returns-then-self-eq0-clause-fits c = omega (arith, c.requires.within, c.requires.numbers.few)

pub returns-clause-value : goal.returns-clause-value
returns-clause-value c = c.wide_offset.ensures

pub returns-clause-fits : goal.returns-clause-fits
returns-clause-fits c =
    let h = c.requires.numbers in
    omega (arith, c.wide_offset.ensures, offset_at-lt c.args.self.now.count (raw_numbers_of c.args.self.now) c.args.i h.raw h.few c.requires.within)
