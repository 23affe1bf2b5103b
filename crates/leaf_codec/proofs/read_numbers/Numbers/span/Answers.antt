use Rattle.leaf_codec.specs.Views.{raw_numbers_of}
use Rattle.leaf_codec.proofs.ReadNumbers.{span_of}
use Rattle.leaf_codec.proofs.read_numbers.Numbers.span.Goals as goal

pub returns : goal.returns
returns c =
    span_of c.args.self.now.count (raw_numbers_of c.args.self.now) c.ends-least.result.0 c.ends-least.result.1 c.is_row.result c.ends-least.ensures
    c.is_row.ensures.yes c.is_row.ensures.no
