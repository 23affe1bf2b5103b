use Rattle.std.proofs.Common.{◌≡◌, ◌≤◌, ◌∙◌, ap, sym, arith, get_or, length, map, string_bytes}
use Rattle.std.proofs.lemmas.List.{get_or-map, length-map}
use Rattle.command_words.proofs.Refusals.{unknown}
use Rattle.command_words.proofs.read_words.Goals as goal

pub returns-in_default-as_str-clause-usage : goal.returns-in_default-as_str-clause-usage
returns-in_default-as_str-clause-usage c e =
    let texts = map string_bytes c.args.words.now in
    let two : 2 ≤ length texts = omega (arith, length-map c.args.words.now string_bytes) in
    let second : get_or texts 1 c.as_str.result.now ≡ c.as_str.result.now =
    get_or-map string_bytes c.args.words.now 1 c.name-item.result c.as_str.result.now (omega arith)
    ∙ (ap string_bytes (sym c.name-item.is) ∙ sym c.as_str.ensures.value) in
    unknown texts c.as_str.result.now two second c.in_default-as_str.not-run c.in_default-as_str.not-load c.in_default-as_str.not-explain
    c.in_default-as_str.not-check c.in_default-as_str.not-generate c.in_default-as_str.not-session c.in_default-as_str.not-count
    c.in_default-as_str.not-ranges c.in_default-as_str.not-batch c.in_default-as_str.not-export c.in_default-as_str.not-info
