use Rattle.std.proofs.Common.{◌∙◌, ap, refl, cond, eqb}
use Rattle.std.specs.Prelude.{bit_and}
use Rattle.leaf_codec.specs.Views.{raw_numbers_of}
use Rattle.leaf_codec.proofs.ReadNumbers.{wide_read}
use Rattle.leaf_codec.proofs.read_numbers.Numbers.wide_offset.Goals as goal

pub returns : goal.returns
returns c =
    let n = c.args.self.now in
    let h = c.requires.numbers in
    ap (λ w. bit_and w n.mask) c.word.ensures
    ∙ wide_read n.count (raw_numbers_of n) n.words.now (cond (eqb n.width 0) 1 0) n.mask c.args.i
    (record { raw = h.raw; long = h.long; bytes = h.bytes; is = refl; steps = refl; masks = h.mask }) c.requires.wide c.requires.within
