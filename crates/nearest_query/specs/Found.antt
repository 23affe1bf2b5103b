-- What a search for the nearest answers.
use Rattle.std.specs.Prelude.{ℕ, List, ℤ}
use Rattle.point_codec.specs.Points.{Item}
use Rattle.segment_file.specs.Heads.{Head}
use Rattle.documents.specs.NearestEntries.{IsNearest, nears_of}
use Rattle.nearest_query.specs.Segments.{AreNearLeaves, bound_of}
use Rattle.nearest_query.specs.declared.answer.Nearest.{Nearest}

-- The k numbers nearest to a point among these entries, and how many leaves of the segments are as near as the last of
-- them, those without a live entry among them.
pub record IsFound (D k : ℕ) (at : List ℤ) (heads : List Head) (entries : List Item) (v : Nearest) : Type 0 where
  pub docs : IsNearest k (nears_of at entries) v.docs.items
  pub touched : AreNearLeaves D at (bound_of k v.docs.items) heads v.touched
