-- The words are counted where they were read, and the box says the rest.
use Rattle.std.proofs.Common.{◌≡◌, ◌∙◌, length, refl, sym}
use Rattle.script_lang.specs.Parts.{words_left}
use Rattle.script_lang.proofs.Values.{box_words, counted}
use Rattle.script_lang.proofs.numbers.box_at.Goals as goal

pub returns-then-count : goal.returns-then-count
returns-then-count g c =
    let all : c.count_from-count.result ≡ length (words_left c.args.words) =
    counted _ _ _ _ refl c.count_from-count.ensures c.corners_at-ends.ensures.rest in
    box_words _ _ _ (λ two. c.if-count.true (all ∙ two))

pub returns : goal.returns
returns g c =
    let all : c.count_from-count.result ≡ length (words_left c.args.words) =
    counted _ _ _ _ refl c.count_from-count.ensures c.corners_at-ends.ensures.rest in
    c.corners_at-ends.ensures.ends (sym all ∙ c.if-count.false)
