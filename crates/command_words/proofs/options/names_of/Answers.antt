use Rattle.std.proofs.Common.{ap, ◌≡◌, ◌∙◌, sym, true}
use Rattle.std.proofs.lemmas.Result.{IfOk-weaker}
use Rattle.command_words.specs.Commands.{are_names}
use Rattle.command_words.proofs.Names.{names_taken, names_refused, names_within, texts}
use Rattle.command_words.proofs.options.names_of.Goals as goal

pub returns-then-are_names-clause-names : goal.returns-then-are_names-clause-names
returns-then-are_names-clause-names c =
    let good : are_names (texts c.in_ok-parts.parts.items) ≡ true =
    ap (λ parts. are_names (texts parts)) (sym c.as_slice.ensures.value) ∙ (sym c.are_names.ensures ∙ c.if-are_names.true) in
    let lent = ap texts c.as_slice-then-are_names.ensures.value in
    IfOk-weaker c.bytes_of.result _ _
    (λ names is. names_taken c.args.text.now names.items (is ∙ (lent ∙ c.in_ok-parts.ensures)) (ap are_names (is ∙ lent) ∙ good))
    c.bytes_of.ensures.texts

pub returns-then-are_names-clause-range : goal.returns-then-are_names-clause-range
returns-then-are_names-clause-range c =
    let good : are_names (texts c.in_ok-parts.parts.items) ≡ true =
    ap (λ parts. are_names (texts parts)) (sym c.as_slice.ensures.value) ∙ (sym c.are_names.ensures ∙ c.if-are_names.true) in
    let lent = ap texts c.as_slice-then-are_names.ensures.value in
    IfOk-weaker c.bytes_of.result _ _
    (λ names is. names_within c.args.text.now names.items (is ∙ (lent ∙ c.in_ok-parts.ensures)) (ap are_names (is ∙ lent) ∙ good))
    c.bytes_of.ensures.texts

pub returns-clause-usage : goal.returns-clause-usage
returns-clause-usage c e =
    names_refused c.args.text.now (texts c.in_ok-parts.parts.items) c.in_ok-parts.ensures
    (ap (λ parts. are_names (texts parts)) (sym c.as_slice.ensures.value) ∙ (sym c.are_names.ensures ∙ c.if-are_names.false))
