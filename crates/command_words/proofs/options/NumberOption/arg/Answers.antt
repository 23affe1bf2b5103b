use Rattle.std.proofs.Common.{rules, ◌≡◌, ◌∙◌, ap, arith, Some}
use Rattle.std.specs.Prelude.{pos}
use Rattle.clap.specs.Words.{Rule, rule_of}
use Rattle.command_words.specs.Commands.{text_option}
use Rattle.command_words.proofs.Ranges.{narrowed}
use Rattle.clap.specs.declared.builder.value_parser.ValueParser.TheVariants.{Signed}
use Rattle.command_words.proofs.options.NumberOption.arg.Goals as goal

pub returns-clause-rule : goal.returns-clause-rule
returns-clause-rule c =
    let start : c.new-range.result.start ≡ pos c.args.self.least = search rules in
    let end : c.new-range.result.end ≡ pos c.args.self.greatest = search rules in
    let given = c.value_parser-2.ensures.given in
    let parser : c.range.result ≡ Signed (pos c.args.self.least) (pos c.args.self.greatest) =
    narrowed c.args.self.least c.args.self.greatest (omega arith) (omega arith) c.value_parser.result c.range.result
    c.new-range.result.start c.new-range.result.end c.value_parser.ensures start end c.range.ensures in
    let value : c.value_parser-2.result.value_parser ≡ Some (Signed (pos c.args.self.least) (pos c.args.self.greatest)) =
    given.1 ∙ ap Some (given.2 ∙ parser) in
    ap rule_of c.value_parser-2.ensures.others
    ∙ ap (λ (r : Rule). record r { parser = c.value_parser-2.result.value_parser }) c.text_option.ensures.rule
    ∙ ap (λ p. record (text_option c.args.self.name.now) { parser = p }) value
