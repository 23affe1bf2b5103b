-- What a damage that attaching an index answers shows: by what it carries alone, and of the files where those are told.
use Rattle.std.specs.Prelude.{◌≡◌, ◌≢◌, ◌≤◌, ◌⊎◌, ℕ, List, length, Contains}
use Rattle.outer_io.specs.declared.file_name.FileName.{FileName}
use Rattle.outer_io.specs.declared.file_name.FileName.TheVariants.{Segment, Live}
use Rattle.outer_io.specs.Files.{Files}
use Rattle.live_bits.specs.LiveSet.{LiveSet}
use Rattle.page_cache.specs.declared.faults.Damage.{Damage}
use Rattle.page_cache.specs.declared.faults.Damage.TheVariants.{Unequal, NotGiven, Doubled}
use Rattle.commit_list.specs.declared.listed.Listed.{Listed}
use Rattle.commit_list.specs.Commits.{CommitData}
use Rattle.segment_file.specs.Heads.{Head}
use Rattle.segment_file.specs.Damages.{IsHeadDamage, IsHeadDamageOf, IsLiveDamage, IsLiveDamageOf}
use Rattle.stored_index.specs.Segments.{places}
use Rattle.stored_index.specs.Stored.{HasHead, HasLive, HaveLive}

-- two numbers differ that the commit says and the file of a listed segment, or that of its live bits, has
abbrev pub IsUnequal : Listed → Damage → Type 0
IsUnequal s (Unequal file said found) = ((file ≡ Segment s.segment) ⊎ (file ≡ Live s.segment s.generation))
    × (said ≢ found)
IsUnequal s _ = ⊥

-- a number is live that isn't below the next one, or is live in two segments
abbrev pub IsMisplaced : (beyond doubled : ℕ → Type 0) → (next : ℕ) → Damage → Type 0
IsMisplaced beyond doubled n (NotGiven doc next) = (next ≡ n) × (n ≤ doc) × beyond doc
IsMisplaced beyond doubled n (Doubled doc) = doubled doc
IsMisplaced beyond doubled n _ = ⊥

-- reading a listed segment's head or its live bits shows one of their files to be damaged, or two numbers that must
-- agree to differ
abbrev pub IsListedDamage : Listed → Damage → Type 0
IsListedDamage s d = IsHeadDamage s.segment d ⊎ IsLiveDamage s.segment s.generation d ⊎ IsUnequal s d

-- attaching the segments that a commit lists shows one of their files to be damaged, or live numbers that are misplaced
abbrev pub IsAttachDamage : CommitData → Damage → Type 0
IsAttachDamage c d =
    ((s : Listed) × Contains c.listed s × IsListedDamage s d)
    ⊎ IsMisplaced (λ _. Unit {0}) (λ _. Unit {0}) c.next d

-- the two numbers are a pair of the files that must agree: the leaf size, or a segment's entries or live numbers
pub data IsPair (files : Files) (c : CommitData) (s : Listed) : FileName → (said found : ℕ) → Type 0 where
  LeafSize : (head : Head) → HasHead c.dims files s head
      → IsPair files c s (Segment s.segment) c.leaf_size head.leaf_size
  Entries : (head : Head) → HasHead c.dims files s head → IsPair files c s (Segment s.segment) s.entries head.entries
  LiveCount : (live : LiveSet) → HasLive files s live
      → IsPair files c s (Live s.segment s.generation) s.live (length live.live)

abbrev pub IsUnequalOf : Files → CommitData → Listed → Damage → Type 0
IsUnequalOf files c s (Unequal file said found) = IsPair files c s file said found
IsUnequalOf files c s _ = ⊥

-- the damage of the segment's head or of its live bits is true of the files, or the two numbers are a pair of theirs
abbrev pub IsListedDamageOf : Files → CommitData → Listed → Damage → Type 0
IsListedDamageOf files c s d =
    (IsHeadDamage s.segment d × IsHeadDamageOf c.dims files d)
    ⊎ (IsLiveDamage s.segment s.generation d × IsLiveDamageOf files d) ⊎ IsUnequalOf files c s d

-- so is what attaching shows
abbrev pub IsAttachDamageOf : Files → CommitData → Damage → Type 0
IsAttachDamageOf files c d =
    ((s : Listed) × Contains c.listed s × IsListedDamageOf files c s d)
    ⊎ ((sets : List LiveSet) × HaveLive files c sets
    × IsMisplaced (λ doc. 1 ≤ places doc sets) (λ doc. 2 ≤ places doc sets) c.next d)
