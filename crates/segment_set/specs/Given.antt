-- Names that joined a list in turn.
use Rattle.std.specs.Prelude.{◌≡◌, List, [], ◌∷◌, ◌++◌}
use Rattle.outer_io.specs.declared.file_name.FileName.{FileName}
use Rattle.outer_io.specs.declared.file_name.FileName.TheVariants.{Commit, CommitNew, Segment, Live}
use Rattle.file_names.specs.Names.{NameList, IsNextGeneration, IsNextId, is_named}

-- the name is the next one of its kind, and joined the list: a segment has the next id, and live bits have the next
-- generation of their segment
abbrev pub IsNextName : NameList → FileName → NameList → Type 0
IsNextName old (Segment id) new = IsNextId old id new.next_segment × (new.names ≡ old.names ++ Segment id ∷ [])
IsNextName old (Live segment generation) new =
    IsNextGeneration (λ n. is_named old.names (Live segment n)) generation
    × (new.names ≡ old.names ++ Live segment generation ∷ [])
    × (new.next_segment ≡ old.next_segment)
IsNextName old Commit new = ⊥
IsNextName old CommitNew new = ⊥

-- the names are given one after another
abbrev pub AreNext : NameList → List FileName → NameList → Type 0
AreNext old [] new = new ≡ old
AreNext old (name ∷ names) new = (mid : NameList) × IsNextName old name mid × AreNext mid names new
