-- The state of an index, over plain lists.
use Rattle.std.specs.Prelude.{ℕ, Bool, false, List, [], Option, None, Some, find}
use Rattle.std.specs.Str.{bytes_eq}
use Rattle.std.specs.Option.{option_map}
use Rattle.documents.specs.Documents.{Document}

-- a snapshot: its name, and the documents that were live when it was taken
pub record Snapshot : Type 0 where
  pub name : List ℕ
  pub docs : List Document

-- an index: how many dimensions its points have, how many entries a leaf has at most, the number of the next
-- document, how many points were ever given, the live documents by ascending number, the snapshots, and whether a
-- merge is begun
pub record Index : Type 0 where
  pub dims : ℕ
  pub leaf_size : ℕ
  pub next : ℕ
  pub points_given : ℕ
  pub docs : List Document
  pub snapshots : List Snapshot
  pub begun : Bool

-- no index, or an index
abbrev pub State : Type 0
State = Option Index

-- an index of so many dimensions and this leaf size, to which nothing was added yet
abbrev pub new_index : ℕ → ℕ → Index
new_index dims leaf_size =
    record { dims = dims; leaf_size = leaf_size; next = 0; points_given = 0; docs = []; snapshots = []; begun = false }

-- the snapshot of this name
abbrev pub snapshot_of : List ℕ → List Snapshot → Option Snapshot
snapshot_of name snapshots = find (λ s. bytes_eq s.name name) snapshots

-- the documents that a query looks at: the live ones, or those of a snapshot; None where no snapshot has the name
abbrev pub viewed_docs : Option (List ℕ) → Index → Option (List Document)
viewed_docs None i = Some i.docs
viewed_docs (Some name) i = option_map (λ s. s.docs) (snapshot_of name i.snapshots)

-- what stays when a session ends: no snapshot, and no begun merge
abbrev pub at_rest : Index → Index
at_rest i = record i { snapshots = []; begun = false }

-- how many points were ever given
abbrev pub given_of : State → ℕ
given_of None = 0
given_of (Some i) = i.points_given
