use Rattle.std.proofs.Common.{◌≡◌, ◌+◌, ◌-◌, ◌<◌, ℕ, List, length, get_or, take, drop, ap, ◌∙◌, arith, length-drop, length-take-le}
use Rattle.std.proofs.lemmas.List.{get_or-take, get_or-drop}
use Rattle.live_bits.proofs.words.eight_bytes.Goals as goal

pub returns-in-Some : goal.returns-in-Some
returns-in-Some c j lt =
    let found = c.in-Some.ensures.cases in
    let bytes = c.args.bytes.now in
    let from = c.min.result in
    let behind : length (take (length bytes - from) (drop from bytes)) ≡ length bytes - from =
    length-take-le (length bytes - from) (drop from bytes) (omega (arith, length-drop from bytes)) in
    let inside : j < length bytes - from = omega (arith, behind, found.enough) in
    let place : from + j ≡ c.args.at + j = omega (arith, behind, found.enough) in
    ap (λ (l : List ℕ). get_or l j 0) found.same
    ∙ get_or-take 8 (take (length bytes - from) (drop from bytes)) j 0 lt
    ∙ get_or-take (length bytes - from) (drop from bytes) j 0 inside
    ∙ get_or-drop from bytes j 0
    ∙ ap (λ (m : ℕ). get_or bytes m 0) place
