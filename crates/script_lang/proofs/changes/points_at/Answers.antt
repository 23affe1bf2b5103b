-- The words are counted where they were read, and so many points are what was read of them.
use Rattle.std.proofs.Common.{◌≡◌, ◌∙◌, ◌/◌, length, refl, sym}
use Rattle.script_lang.specs.Parts.{words_left}
use Rattle.script_lang.proofs.ReadPoints.{document_is, no_document, reads_from}
use Rattle.script_lang.proofs.Values.{counted}
use Rattle.script_lang.proofs.changes.points_at.Goals as goal

pub returns-then-not-are_points-clause-points : goal.returns-then-not-are_points-clause-points
returns-then-not-are_points-clause-points g c =
    let all : c.count_from-count.result ≡ length (words_left c.args.words) =
    counted _ _ _ _ refl c.count_from-count.ensures c.next_points-points.ensures.rest in
    no_document _ _ _ _ all (sym c.are_points.ensures ∙ c.if-not-are_points.true)

pub returns-clause-points : goal.returns-clause-points
returns-clause-points g c =
    let all : c.count_from-count.result ≡ length (words_left c.args.words) =
    counted _ _ _ _ refl c.count_from-count.ensures c.next_points-points.ensures.rest in
    let document = document_is g.row.D c.args.words.place c.count_from-count.result (words_left c.args.words) c.requires.some all
    (sym c.are_points.ensures ∙ c.if-not-are_points.false) in
    reads_from _ _ _ _ document.is (c.next_points-points.ensures.points (c.count_from-count.result / g.row.D) document.whole document.few)

pub returns-clause-some : goal.returns-clause-some
returns-clause-some g c =
    let all : c.count_from-count.result ≡ length (words_left c.args.words) =
    counted _ _ _ _ refl c.count_from-count.ensures c.next_points-points.ensures.rest in
    let document = document_is g.row.D c.args.words.place c.count_from-count.result (words_left c.args.words) c.requires.some all
    (sym c.are_points.ensures ∙ c.if-not-are_points.false) in
    c.next_points-points.ensures.some document.more

pub returns-clause-few : goal.returns-clause-few
returns-clause-few g c = c.next_points-points.ensures.few
