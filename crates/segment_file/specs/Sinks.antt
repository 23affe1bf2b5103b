-- What reading leaves adds to.
use Rattle.std.specs.Prelude.{◌≡◌, ℕ, List, ◌++◌, filter, not, nat_eq}
use Rattle.std.specs.List.{list_any}
use Rattle.point_codec.specs.Points.{Item}
use Rattle.point_codec.specs.Seen.{items_of}
use Rattle.live_bits.specs.LiveSet.{LiveSet, is_live}
use Rattle.segment_file.specs.declared.sink.LeafSink.{LeafSink}
use Rattle.segment_file.specs.declared.sink.LeafSink.TheVariants.{Entries, Numbers}

-- the set without the numbers of these entries; base and span stay
abbrev pub set_without_entries : List Item → LiveSet → LiveSet
set_without_entries items s =
    record { base = s.base; span = s.span; live = filter (λ n. not (list_any (λ x. nat_eq x.doc n) items)) s.live }

-- entries were added beside these live numbers: the live ones were put behind the others, or the number of each was
-- taken out
abbrev pub Adds : {D : ℕ} → LeafSink D → LiveSet → List Item → LeafSink D → Type 0
Adds (Entries old) live items (Entries new) =
    items_of new.items ≡ items_of old.items ++ filter (λ x. is_live live x.doc) items
Adds (Numbers old) live items (Numbers new) = new ≡ set_without_entries items old
Adds (Entries old) live items (Numbers new) = ⊥
Adds (Numbers old) live items (Entries new) = ⊥
