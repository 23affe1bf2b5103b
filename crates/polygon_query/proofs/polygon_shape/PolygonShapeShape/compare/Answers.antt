use Rattle.std.proofs.Common.{◌≡◌, ℕ, List, ap}
use Rattle.point_codec.specs.Points.{Region}
use Rattle.point_codec.specs.Seen.{region_of}
use Rattle.ring_parity.specs.Edges.{EdgeEnds}
use Rattle.cell_relate.specs.declared.shape.Relation.{Relation}
use Rattle.cell_relate.specs.Relations.{RelatesTo}
use Rattle.polygon_query.specs.Shape.{has, crosses}
use Rattle.polygon_query.proofs.polygon_shape.PolygonShapeShape.compare.Goals as goal

-- what is told in the plane is told in two dimensions
two_dimensions : (dims : ℕ) (edges seen : List EdgeEnds) (cell flat : Region) (answer : Relation) → dims ≡ 2 → seen ≡ edges → flat ≡ cell
    → RelatesTo (has 2 seen) (crosses 2 seen) flat answer → RelatesTo (has dims edges) (crosses dims edges) cell answer
two_dimensions dims edges seen cell flat answer d e f h = rw (d, ← e, ← f) h

pub returns-clause-answer : goal.returns-clause-answer
returns-clause-answer g c =
    two_dimensions g.row.D c.args.self.now.edges c.self.inside.edges (region_of c.args.c.now) (region_of c.cell_in_plane.result) c.relation_of.result
    c.if-this-ne2.false (ap (λ s. s.edges) c.self.view_is) c.cell_in_plane.ensures c.relation_of.ensures.told
