-- Each query of now is handed to the call that tells of it, and the others are refused.
use Rattle.std.proofs.Common.{Some, refl, sym}
use Rattle.std.proofs.lemmas.List.{append-nil}
use Rattle.script_lang.specs.Requests as asks
use Rattle.run_status.specs.Told.{silence}
use Rattle.explain_queries.proofs.Explaining.{explains_as, explains_refused, explains_text, tells_to}
use Rattle.explain_queries.proofs.Asking.{box_from, box_to, in_polygon_from, in_polygon_to, near_from, near_to, other_told}
use Rattle.explain_queries.proofs.explain.explain.Goals as goal

pub returns-in-Blank : goal.returns-in-Blank
returns-in-Blank g c = rw c.in-Blank.is
    (explains_text g.row.D _ _ _ _ silence _ refl refl refl refl (sym (append-nil c.args.reply.now.items)) refl
    (λ s e. tells_to s e.index c.args.number asks.Blank silence e.state refl))

pub returns-in-Now : goal.returns-in-Now
returns-in-Now g c = rw (c.in-InBox.is, c.in-Now.is) (explains_as g.row.D _ _ _ _ _ c.tell_shape.result
    (λ s t e. box_to g.row.D _ _ s e c.args.number t c.new-shape.result c.in-InBox.lo.c c.in-InBox.hi.c c.new-shape.ensures)
    (λ s t e. box_from g.row.D _ _ s e c.args.number t c.new-shape.result c.in-InBox.lo.c c.in-InBox.hi.c c.new-shape.ensures) c.tell_shape.ensures)

pub returns-in-Named : goal.returns-in-Named
returns-in-Named g c =
    rw (c.in-InBox.is, c.in-Named.is)
    (explains_refused g.row.D _ _ _ _ _ c.refuse_snapshot.result refl refl refl refl c.refuse_snapshot.ensures.refused c.refuse_snapshot.ensures.memory
    (λ s e. tells_to s e.index c.args.number (asks.InBox (Some c.in-Named.field-0) c.in-InBox.lo.c c.in-InBox.hi.c) _ e.state refl))

pub returns-in_default : goal.returns-in_default
returns-in_default g c = explains_refused g.row.D _ _ _ _ _ c.refuse.result refl refl refl refl c.refuse.ensures.refused c.refuse.ensures.memory
    (λ s e. tells_to s e.index c.args.number _ _ e.state
    (other_told e.index s.heads c.args.number c.args.command.now c.in_default.not-Blank c.in_default.not-InBox c.in_default.not-Polygon
    c.in_default.not-Nearest))

pub returns-in-Now-view : goal.returns-in-Now-view
returns-in-Now-view g c = rw (c.in-Polygon.is, c.in-Now-view.is) (explains_as g.row.D _ _ _ _ _ c.tell_polygon.result
    (λ s t e. in_polygon_to g.row.D _ _ s e c.args.number t c.in-Polygon.rings)
    (λ s t e. in_polygon_from g.row.D _ _ s e c.args.number t c.in-Polygon.rings) c.tell_polygon.ensures)

pub returns-in-Named-view : goal.returns-in-Named-view
returns-in-Named-view g c = rw (c.in-Polygon.is, c.in-Named-view.is)
    (explains_refused g.row.D _ _ _ _ _ c.refuse_snapshot-in-Named-view.result refl refl refl refl c.refuse_snapshot-in-Named-view.ensures.refused
    c.refuse_snapshot-in-Named-view.ensures.memory
    (λ s e. tells_to s e.index c.args.number (asks.InPolygon (Some c.in-Named-view.field-0) c.in-Polygon.rings) _ e.state refl))

pub returns-in-Now-view-2 : goal.returns-in-Now-view-2
returns-in-Now-view-2 g c = rw (c.in-Nearest.is, c.in-Now-view-2.is) (explains_as g.row.D _ _ _ _ _ c.tell_near.result
    (λ s t e. near_to g.row.D _ _ s e c.args.number t c.in-Nearest.k c.in-Nearest.at.c)
    (λ s t e. near_from g.row.D _ _ s e c.args.number t c.in-Nearest.k c.in-Nearest.at.c) c.tell_near.ensures)

pub returns-in-Named-view-2 : goal.returns-in-Named-view-2
returns-in-Named-view-2 g c = rw (c.in-Nearest.is, c.in-Named-view-2.is)
    (explains_refused g.row.D _ _ _ _ _ c.refuse_snapshot-in-Named-view-2.result refl refl refl refl c.refuse_snapshot-in-Named-view-2.ensures.refused
    c.refuse_snapshot-in-Named-view-2.ensures.memory
    (λ s e. tells_to s e.index c.args.number (asks.Nearest (Some c.in-Named-view-2.field-0) c.in-Nearest.k c.in-Nearest.at.c) _ e.state refl))
