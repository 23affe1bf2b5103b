-- A run at one of its moments, and what lies between two of them.
use Rattle.std.specs.Prelude.{ℕ, Bool, List}
use Rattle.outer_io.specs.Files.{Files}

-- whether the source, the folder and the sink tell what they hold
pub record Tells : Type 0 where
  pub source : Bool
  pub folder : Bool
  pub sink : Bool

-- what the source has left, the folder's files and reads, what went out, and the faults that each of the three counted
pub record Moment : Type 0 where
  pub left : List ℕ
  pub files : Files
  pub reads : ℕ
  pub written : List ℕ
  pub source_faults : ℕ
  pub folder_faults : ℕ
  pub sink_faults : ℕ

-- from a moment to a later one
pub record Step : Type 0 where
  pub tells : Tells
  pub old : Moment
  pub new : Moment
