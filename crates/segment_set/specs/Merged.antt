-- What merges do to the segments of now.
use Rattle.std.specs.Prelude.{◌≡◌, ◌≢◌, ◌≤◌, ◌⊎◌, ℕ, true, false, not, nat_eq, nat_lt, List, [], ◌∷◌, length, map}
use Rattle.std.specs.Prelude.{filter, take, slice_index, All, Option, None, Some}
use Rattle.outer_io.specs.Files.{Files}
use Rattle.segment_file.specs.Written.{head_of}
use Rattle.live_bits.specs.LiveSet.{IsLiveSet}
use Rattle.documents.specs.Entries.{SameTotals, is_among}
use Rattle.page_cache.specs.Cache.{Agrees}
use Rattle.index_model.specs.State.{Index}
use Rattle.segment_view.specs.LiveSegments.{LiveSegment, Contents, AreRead, IsPlaced, ids_of, live_in_parts, parts_but}
use Rattle.segment_view.specs.LiveSegments.{parts_among}
use Rattle.segment_build.specs.NewSegments.{NewSegmentData}
use Rattle.segment_set.specs.Sets.{BegunMerge, IsWell, SetData, inputs_of}
use Rattle.segment_set.specs.Seen.{Sees}
use Rattle.segment_set.specs.Kept.{AreCanonical, Follows, KeepsNamed, StaysAlone}
use Rattle.segment_set.specs.Losing.{IsLossless, KeepsCounts}
use Rattle.segment_set.specs.Faithful.{HasFileHead}

-- each of the numbers, where it first stands
abbrev pub each_once : List ℕ → List ℕ
each_once [] = []
each_once (n ∷ ns) = n ∷ filter (λ m. not (nat_eq m n)) (each_once ns)

-- the inputs of a merge that is begun with these positions: the ids at the first 64 different ones that name an id
abbrev pub chosen_ids : (positions ids : List ℕ) → List ℕ
chosen_ids positions ids = map (slice_index ids) (take 64 (filter (λ i. nat_lt i (length ids)) (each_once positions)))

-- the segment is the one that was built, under whatever id
abbrev pub IsWritten : NewSegmentData → LiveSegment → Type 0
IsWritten n p = (p.head ≡ head_of p.head.id n.entries n.leaf_size n.index) × (p.live ≡ n.live)

-- the segment that was built came to the others where something of it is live, and else nothing came
abbrev pub HasCome : Option NewSegmentData → (others new : List LiveSegment) → Type 0
HasCome None others new = new ≡ others
HasCome (Some n) others new = ((n.live.live ≡ []) × (new ≡ others))
    ⊎ ((n.live.live ≢ []) × ((p : LiveSegment) × IsWritten n p × IsPlaced p others new))

-- the begun merge is ended: its inputs went, and what it has built came
abbrev pub IsEnded : BegunMerge → (old new : List LiveSegment) → Type 0
IsEnded b old new = HasCome b.built (parts_but b.inputs old) new

-- the segment has an index of form 3 and as many live numbers as entries, so that merging it alone changes nothing
pub record IsWhole (p : LiveSegment) : Type 0 where
  pub set : IsLiveSet p.live
  pub form : p.head.index.form ≡ 3
  pub live : length p.live.live ≡ p.head.entries

-- the segments that are no inputs of the begun merge
abbrev pub free_parts : SetData → List LiveSegment
free_parts s = parts_but (inputs_of s.begun) s.parts

abbrev pub free_ids : SetData → List ℕ
free_ids s = filter (λ id. not (is_among (inputs_of s.begun) id)) (ids_of s.parts)

-- of these there is one at most, and that is whole, so that merging all changes nothing
abbrev pub IsTidy : SetData → Type 0
IsTidy s = (length (free_parts s) ≤ 1) × All IsWhole (free_parts s)

-- the ids are those of some of these segments, of which none is one of the inputs
pub record IsApart (ids inputs : List ℕ) (parts : List LiveSegment) : Type 0 where
  pub among : (id : ℕ) → is_among ids id ≡ true → is_among (ids_of parts) id ≡ true
  pub apart : (id : ℕ) → is_among ids id ≡ true → is_among inputs id ≡ false

-- The documents of a set are arranged anew in segments: with the files now it is seen as it was. Names were only
-- added; each segment was there or has a new name, and those of new names are canonical. The inputs of a begun merge
-- stay, no live number is lost, and no entry comes from nowhere.
pub record Rearranges (D : ℕ) (told : Type 0) (files new_files : Files) (s t : SetData) : Type 0 where
  pub seen : told → (i : Index) → Sees D files s i → Sees D new_files t i
  pub stays : StaysAlone s t
  pub kept : KeepsNamed told s.names t.names files new_files
  pub follows : Follows s.names s.parts t.parts
  pub canon : told → AreCanonical D new_files s.names t.parts
  pub begun : t.begun ≡ s.begun
  pub pinned : parts_among (inputs_of s.begun) t.parts ≡ parts_among (inputs_of s.begun) s.parts
  pub saved : t.saved ≡ s.saved
  pub loses : told → IsWell D s → All (HasFileHead D files) s.parts → IsLossless D files s t
  pub counts : told → IsWell D s → All (HasFileHead D files) s.parts → KeepsCounts D files new_files s t

-- where the kept pages were those of the files they are so still, and the segments have the live entries that they had
pub record KeepsEntries (D : ℕ) (told : Type 0) (files new_files : Files) (s t : SetData) : Type 0 where
  pub agrees : told → Agrees files s.cache → Agrees new_files t.cache
  pub entries : told → Agrees files s.cache → (c : Contents) → AreRead D files c s.parts
      → (d : Contents) × AreRead D new_files d t.parts × SameTotals (live_in_parts c s.parts) (live_in_parts d t.parts)
