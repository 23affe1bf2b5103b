-- What a query of a batch is replied, over one list of documents.
use Rattle.std.specs.Prelude.{ℕ, ◌≤◌, List, map}
use Rattle.point_codec.specs.Points.{in_box}
use Rattle.point_codec.specs.declared.entries.Near.{Near}
use Rattle.documents.specs.Documents.{Document, hits}
use Rattle.documents.specs.Nearest.{nearest}
use Rattle.index_model.specs.Step.{in_plane_polygon}
use Rattle.batch_run.specs.declared.queries.Query.{Query}
use Rattle.batch_run.specs.declared.queries.Query.TheVariants as query
use Rattle.batch_run.specs.declared.queries.Reply.{Reply}
use Rattle.batch_run.specs.declared.queries.Reply.TheVariants as reply

-- a distance and a number, as a document that was found
abbrev pub near_of : ℕ × ℕ → Near
near_of found = record { dist2 = found.0; doc = found.1 }

-- the documents that are hit, or those that are nearest
abbrev pub reply_of : (D : ℕ) → List Document → Query D → Reply
reply_of D docs (query.InBox lo hi) = reply.Hits (hits (in_box (record { lo = lo.c; hi = hi.c })) docs)
reply_of D docs (query.Polygon rings) = reply.Hits (hits (in_plane_polygon D rings) docs)
reply_of D docs (query.Nearest k at) = reply.Near (map near_of (nearest k at.c docs))

-- 1 to 10,000 nearest are asked for, where any are
abbrev pub IsInRange : (D : ℕ) → Query D → Type 0
IsInRange D (query.InBox lo hi) = Unit {0}
IsInRange D (query.Polygon rings) = Unit {0}
IsInRange D (query.Nearest k at) = (1 ≤ k) × (k ≤ 10000)
