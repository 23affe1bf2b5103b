-- What a leaf's parts read of the entries.
use Rattle.std.specs.Prelude.{ℕ, List, map}
use Rattle.point_codec.specs.declared.entries.Entry.{Entry}
use Rattle.point_codec.specs.Seen.{items_of}

-- the documents' numbers of the entries, in the order of these
abbrev pub docs_of : {D : ℕ} → List (Entry D) → List ℕ
docs_of entries = map (λ x. x.doc) (items_of entries)
