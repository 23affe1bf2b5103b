-- The texts that answer lines of counts. Each line of text ends with byte 10.
use Rattle.std.specs.Prelude.{ℕ, List, ◌++◌, length, codes, decimal}
use Rattle.std.specs.List.{flat_map}
use Rattle.script_lang.specs.Replies.{text_line}
use Rattle.point_counts.specs.declared.plan.Bucket.{Bucket}
use Rattle.point_counts.specs.declared.plan.GridFault.{GridFault}
use Rattle.point_counts.specs.declared.plan.GridFault.TheVariants.{BadGrid, TooMany}

unfoldable pub points_text : ℕ → List ℕ
points_text n = text_line (codes "points " ++ decimal n)

abbrev pub bucket_text : Bucket → List ℕ
bucket_text b = text_line (decimal b.x ++ codes " " ++ decimal b.y ++ codes " " ++ decimal b.n)

-- how many buckets have a point, and then each one with the number of its points
unfoldable pub buckets_text : List Bucket → List ℕ
buckets_text buckets = text_line (codes "buckets " ++ decimal (length buckets)) ++ flat_map bucket_text buckets

abbrev pub grid_fault_text : GridFault → List ℕ
grid_fault_text BadGrid = codes "bad grid"
grid_fault_text (TooMany buckets) = codes "too many buckets"
