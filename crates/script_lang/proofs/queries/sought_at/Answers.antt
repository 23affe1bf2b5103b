-- The words are counted where they were read.
use Rattle.std.proofs.Common.{◌≡◌, ◌∙◌, length, refl, sym}
use Rattle.script_lang.specs.Parts.{words_left}
use Rattle.script_lang.proofs.Sought.{sought_words}
use Rattle.script_lang.proofs.Values.{counted}
use Rattle.script_lang.proofs.queries.sought_at.Goals as goal

pub returns-then-count : goal.returns-then-count
returns-then-count g c =
    let all : c.count_from-count.result ≡ length (words_left c.args.words) =
    counted _ _ _ _ refl c.count_from-count.ensures c.next_sought-sought.ensures.rest in
    sought_words _ _ _ (λ one. c.if-count.true (all ∙ one))

pub returns : goal.returns
returns g c =
    let all : c.count_from-count.result ≡ length (words_left c.args.words) =
    counted _ _ _ _ refl c.count_from-count.ensures c.next_sought-sought.ensures.rest in
    c.next_sought-sought.ensures.sought (sym all ∙ c.if-count.false)
