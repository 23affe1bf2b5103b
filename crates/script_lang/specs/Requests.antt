-- What the lines of a script ask, as plain values. A point is the list of its coordinates, dimension 0 first.
use Rattle.std.specs.Prelude.{ℕ, ℤ, List, Option}

-- what a query looks at: the documents live now (None), or those of the snapshot of this name
abbrev pub Viewed : Type 0
Viewed = Option (List ℕ)

pub data Request : Type 0 where
  -- nothing: a line without words, or a note
  Blank : Request
  -- an index of so many dimensions, with at most so many points in a leaf
  Create : (dims leaf_size : ℕ) → Request
  -- a document with these points: 1 to 16 different ones, ascending
  Add : (points : List (List ℤ)) → Request
  -- the document of this number goes
  Delete : (doc : ℕ) → Request
  -- the documents with a point in the box from lo to hi go
  DeleteBox : (lo hi : List ℤ) → Request
  -- which documents have a point in the box from lo to hi
  InBox : (view : Viewed) (lo hi : List ℤ) → Request
  -- which documents have a point in the polygon of these rings, each the list of its positions
  InPolygon : (view : Viewed) (rings : List (List (List ℤ))) → Request
  -- which k documents are nearest to a point
  Nearest : (view : Viewed) (k : ℕ) (target : List ℤ) → Request
  Flush : Request
  Merge : Request
  -- a merge of the segments at these positions begins
  MergeBegin : (positions : List ℕ) → Request
  MergeEnd : Request
  Snapshot : (name : List ℕ) → Request
  Release : (name : List ℕ) → Request
  Commit : Request
  Reopen : Request
