-- The hits of a shape are those of the query that it was made of.
use Rattle.std.proofs.Common.{◌≡◌, sym, ap, subst, ◌∙◌}
use Rattle.cell_relate.specs.Boxes as boxes
use Rattle.point_codec.specs.Points.{in_box}
use Rattle.polygon_query.specs.Shape as polygons
use Rattle.documents.specs.Documents.{hits}
use Rattle.batch_run.specs.Queries.{reply_of}
use Rattle.batch_run.specs.declared.queries.Query.{Query}
use Rattle.batch_run.specs.declared.queries.Reply.{Reply}
use Rattle.batch_run.specs.declared.queries.Reply.TheVariants.{Hits}
use Rattle.std.specs.Prelude.{IfOk}
use Rattle.batch_run.proofs.answers.answer.Goals as goal

pub returns-in-InBox-clause-reply : goal.returns-in-InBox-clause-reply
returns-in-InBox-clause-reply g c = λ docs h.
    subst (λ (a : Reply). IfOk c.find.result (λ r. r ≡ a))
    (ap (λ (s : boxes.CountedBox). Hits (hits (λ p. in_box s.bounds p) docs)) c.new-shape.ensures
    ∙ ap (λ (q : Query g.row.D). reply_of g.row.D docs q) (sym c.in-InBox.is))
    (c.find.ensures.reply docs h)

pub returns-in_ok-shape-in-Polygon-clause-reply : goal.returns-in_ok-shape-in-Polygon-clause-reply
returns-in_ok-shape-in-Polygon-clause-reply g c = λ docs h.
    subst (λ (a : Reply). IfOk c.find-in-Polygon.result (λ r. r ≡ a))
    (ap (λ (s : polygons.CountedPolygon). Hits (hits (λ p. polygons.has g.row.D s.edges p) docs)) c.in_ok-shape-in-Polygon.ensures
    ∙ ap (λ (q : Query g.row.D). reply_of g.row.D docs q) (sym c.in-Polygon.is))
    (c.find-in-Polygon.ensures.reply docs h)
