use Rattle.std.proofs.Common.{arith}
use Rattle.std.specs.Str.Parse.{ExplainsUnsignedError, HasUnsignedDigitsIfOk, ParsesUnsigned}
use Rattle.clap.specs.Words.{found_of}
use Rattle.command_words.proofs.Numbers.{number_found}
use Rattle.command_words.proofs.options.NumberOption.read.Goals as goal

pub returns-clause-number : goal.returns-clause-number
returns-clause-number c =
    (number_found _ (λ bs r. ParsesUnsigned 32 10 bs r × ExplainsUnsignedError 10 bs r × HasUnsignedDigitsIfOk bs r) (λ u x h. h.0)
    (found_of c.args.matches.now) c.args.self.name.now c.args.self.least c.args.self.greatest (omega arith) c.requires c.get_one.result
    c.get_one.ensures.none c.get_one.ensures.value).0

pub returns-clause-range : goal.returns-clause-range
returns-clause-range c =
    (number_found _ (λ bs r. ParsesUnsigned 32 10 bs r × ExplainsUnsignedError 10 bs r × HasUnsignedDigitsIfOk bs r) (λ u x h. h.0)
    (found_of c.args.matches.now) c.args.self.name.now c.args.self.least c.args.self.greatest (omega arith) c.requires c.get_one.result
    c.get_one.ensures.none c.get_one.ensures.value).1
