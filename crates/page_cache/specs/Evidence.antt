-- What a damage shows: by what it carries alone, and of the files where those are told.
use Rattle.std.specs.Prelude.{◌≡◌, ◌≢◌, ℕ, ◌+◌, ◌*◌, ◌≤◌, ◌<◌, ◌⊎◌, max, List, length, take, drop, None, Result, Ok}
use Rattle.std.specs.Prelude.{Err}
use Rattle.outer_io.specs.declared.file_name.FileName.{FileName}
use Rattle.outer_io.specs.Files.{Files, bytes_of}
use Rattle.page_file.specs.Page.{IsPage, payload_of}
use Rattle.page_cache.specs.FilePages.{kind_of, number_of, page_at, IsFilePage, ArePages, payloads_of}
use Rattle.page_cache.specs.declared.faults.Damage.{Damage}
use Rattle.page_cache.specs.declared.faults.Damage.TheVariants.{Page, Leaf, Body, Missing, Size, Unequal, NotGiven}
use Rattle.page_cache.specs.declared.faults.Damage.TheVariants.{Doubled}
use Rattle.page_cache.specs.declared.faults.PageFault.{PageFault}
use Rattle.page_cache.specs.declared.faults.PageFault.TheVariants.{Failed, Damaged, Memory}

-- P holds of the damage, where the fault is one
abbrev pub FaultShows : (Damage → Type 0) → PageFault → Type 0
FaultShows P Failed = Unit {0}
FaultShows P (Damaged d) = P d
FaultShows P Memory = Unit {0}

-- P holds of the damage, where the call answers one
abbrev pub OnDamage : {T : Type 0} → Result T PageFault → (Damage → Type 0) → Type 0
OnDamage (Ok _) P = Unit {0}
OnDamage (Err fault) P = FaultShows P fault

-- the call answers no damage
abbrev pub NotDamaged : {T : Type 0} → Result T PageFault → Type 0
NotDamaged result = OnDamage result (λ _. ⊥)

-- ---- any damage: what only the crates above can say stands as parameters

-- what a damage carries shows it, over every folder. `leaf file page offset length part` says that the part of a
-- page is no leaf of the entries and cell used; `body file payloads` that the payloads are out of the grammar
abbrev pub IsShown : (leaf : FileName → ℕ → ℕ → ℕ → List ℕ → Type 0) (body : FileName → List ℕ → Type 0) → Damage
    → Type 0
IsShown leaf body (Page file number bytes) = IsPage (kind_of file) (number_of file) number bytes.value.b → ⊥
IsShown leaf body (Leaf file number offset len bytes) =
    IsPage (kind_of file) (number_of file) number bytes.value.b
    × leaf file number offset len (take len (drop offset (payload_of bytes.value.b)))
IsShown leaf body (Body file bytes) = body file bytes
IsShown leaf body (Missing file) = Unit {0}
IsShown leaf body (Size file size needed) = size ≢ needed
IsShown leaf body (Unequal file said found) = said ≢ found
IsShown leaf body (NotGiven doc next) = next ≤ doc
IsShown leaf body (Doubled doc) = Unit {0}

-- these are the bytes of that page of the file
abbrev pub IsPageOf : Files → FileName → ℕ → List ℕ → Type 0
IsPageOf files file number bytes = bytes ≡ page_at (bytes_of (files file)) number

-- these are the joined payloads of the first pages of the file, all of them for their places
pub record ArePayloadsOf (files : Files) (file : FileName) (payloads : List ℕ) : Type 0 where
  pub count : ℕ
  pub some : 1 ≤ count
  pub pages : ArePages file (bytes_of (files file)) 0 count
  pub same : payloads ≡ payloads_of (bytes_of (files file)) 0 count

-- the end of the file as reading page `number` shows it: not before the page's begin; no file ends at 0
abbrev pub seen_end : Files → FileName → ℕ → ℕ
seen_end files file number = max (4096 * number) (length (bytes_of (files file)))

-- The file ends before the end of page `number`. Size is the file's end as reading that page shows it. Of a file
-- that isn't there no first page is read.
pub record IsCut (files : Files) (file : FileName) (size needed : ℕ) : Type 0 where
  pub number : ℕ
  pub page_end : needed ≡ 4096 * (number + 1)
  pub seen : size ≡ seen_end files file number
  pub short : size < needed
  pub there : number ≡ 0 → files file ≢ None

-- the file is there, and has fewer bytes than its first page needs
pub record IsShort (files : Files) (file : FileName) (size needed : ℕ) : Type 0 where
  pub page : needed ≡ 4096
  pub has : size ≡ length (bytes_of (files file))
  pub short : size < needed
  pub there : files file ≢ None

-- The file has size bytes, and needed are the pages that its first page asks for. `asks payload pages` says that a
-- first page of this payload asks for so many.
pub record HasOtherSize (asks : List ℕ → ℕ → Type 0) (files : Files) (file : FileName) (size needed : ℕ) : Type 0 where
  pub has : size ≡ length (bytes_of (files file))
  pub first : IsFilePage file (bytes_of (files file)) 0
  pub pages : ℕ
  pub first_asks : asks (payload_of (page_at (bytes_of (files file)) 0)) pages
  pub needs : needed ≡ 4096 * pages

-- the file is too short for a page, or has another size than its first page asks for
abbrev pub IsSizeOf : (asks : List ℕ → ℕ → Type 0) → Files → FileName → (size needed : ℕ) → Type 0
IsSizeOf asks files file size needed = IsShort files file size needed ⊎ HasOtherSize asks files file size needed

-- where the damage is one of size, so many bytes were needed
abbrev pub SizeNeeds : ℕ → Damage → Type 0
SizeNeeds most (Size file size needed) = needed ≡ most
SizeNeeds most _ = Unit {0}

-- where the damage is one of size, no more than so many bytes were needed
abbrev pub SizeWithin : ℕ → Damage → Type 0
SizeWithin most (Size file size needed) = needed ≤ most
SizeWithin most _ = Unit {0}

-- the damage is that the file has this size and needs another
abbrev pub IsSizeDamage : FileName → ℕ → ℕ → Damage → Type 0
IsSizeDamage name had most (Size file size needed) = (file ≡ name) × (size ≡ had) × (needed ≡ most)
IsSizeDamage name had most _ = ⊥

-- ---- the damages of one page, and of pages of one file

-- reading this page of this file shows it to be no page for its place, or the file to end before its end
abbrev pub IsPageDamage : FileName → ℕ → Damage → Type 0
IsPageDamage name n (Page file number bytes) = (file ≡ name) × (number ≡ n)
    × (IsPage (kind_of file) (number_of file) number bytes.value.b → ⊥)
IsPageDamage name n (Size file size needed) = (file ≡ name) × (needed ≡ 4096 * (n + 1)) × (size < needed)
IsPageDamage name n _ = ⊥

-- and it is true of the files
abbrev pub IsPageDamageOf : Files → ℕ → Damage → Type 0
IsPageDamageOf files n (Page file number bytes) = IsPageOf files file number bytes.value.b
IsPageDamageOf files n (Size file size needed) = size ≡ seen_end files file n
IsPageDamageOf files n _ = ⊥

-- the file isn't there, or has another size than is needed, or one of its pages is none for its place
abbrev pub IsFileDamage : FileName → Damage → Type 0
IsFileDamage name (Page file number bytes) = (file ≡ name)
    × (IsPage (kind_of file) (number_of file) number bytes.value.b → ⊥)
IsFileDamage name (Missing file) = file ≡ name
IsFileDamage name (Size file size needed) = (file ≡ name) × (size ≢ needed)
IsFileDamage name _ = ⊥

-- and it is true of the files
abbrev pub IsFileDamageOf : Files → Damage → Type 0
IsFileDamageOf files (Page file number bytes) = IsPageOf files file number bytes.value.b
IsFileDamageOf files (Missing file) = files file ≡ None
IsFileDamageOf files (Size file size needed) = IsCut files file size needed
IsFileDamageOf files _ = ⊥
