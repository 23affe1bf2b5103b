-- Reading a file of live bits: what each step says of the file.
use Rattle.std.proofs.Common.{◌≡◌, ◌≤◌, ◌+◌, ◌-◌, ◌*◌, ℕ, inl, List, [], ◌++◌, length, replicate, sym, ap, subst, ◌∙◌, arith, append-nil}
use Rattle.outer_io.specs.Files.{Files}
use Rattle.outer_io.specs.declared.file_name.FileName.{FileName}
use Rattle.outer_io.specs.declared.file_name.FileName.TheVariants.{Live}
use Rattle.live_bits.specs.LiveSet.{LiveSet, IsLiveSet}
use Rattle.live_bits.specs.LiveBody.{IsLiveBody, SaysLength, live_set}
use Rattle.live_bits.proofs.LiveNumbers.{live_set_is}
use Rattle.page_cache.specs.FilePages.{page_at, IsFilePage, ArePages, payloads_of}
use Rattle.page_cache.specs.Bodies.{pages_for, padded_body}
use Rattle.page_cache.specs.Evidence.{FaultShows, ArePayloadsOf, IsSizeOf, IsSizeDamage, IsFileDamage, IsFileDamageOf}
use Rattle.page_cache.specs.FirstPages.{first_name, first_payload, first_size, IsFirstPage}
use Rattle.page_cache.specs.declared.first_page.FirstPage.{FirstPage}
use Rattle.page_file.specs.Page.{payload_of}
use Rattle.page_cache.proofs.PageRuns.{payloads_join, payloads_of_one}
use Rattle.page_cache.proofs.Damages.{other_size}
use Rattle.page_cache.specs.declared.faults.Damage.{Damage}
use Rattle.page_cache.specs.declared.faults.Damage.TheVariants.{Page, Leaf, Body, Missing, Size, Unequal, NotGiven, Doubled}
use Rattle.page_cache.specs.declared.faults.PageFault.{PageFault}
use Rattle.page_cache.specs.declared.faults.PageFault.TheVariants.{Failed, Damaged, Memory}
use Rattle.segment_file.specs.LiveFiles.{IsLiveFile, IsSetOf}
use Rattle.segment_file.specs.Damages.{AsksFor, IsBodyDamage, IsLiveDamage, IsLiveDamageOf}
use Rattle.segment_file.proofs.FirstPayloads.{OnlyShort}
use Rattle.segment_file.proofs.Lists.{filled_length}
use Rattle.segment_file.proofs.LiveLemmas.{body_length}

pub body_short : (segment generation : ℕ) (s : LiveSet) (body : List ℕ) → IsLiveBody segment generation s body → (36 ≤ length body) × (length body ≤ 2097188)
body_short segment generation s body h =
    let limit = h.are_bits.limit in
    let long = body_length segment generation s body h in
    (omega arith, omega arith)

pub set_is : (segment generation : ℕ) (s : LiveSet) (body : List ℕ) → IsLiveBody segment generation s body → IsLiveSet s
set_is segment generation s body h =
    let same : live_set s.base s.span h.bits ≡ s = λ i. record { base = s.base; span = s.span; live = sym h.numbers i } in
    subst IsLiveSet same (live_set_is s.base s.span h.bits h.are_bits.limit)

-- a damage of the file's pages, where the file is short of its first page or not at all
live_file_of : (files : Files) (name : FileName) (known : Damage → Type 0) (d : Damage) → OnlyShort files name known → IsFileDamage name d → known d
    → IsFileDamageOf files d → IsLiveDamageOf files d
live_file_of files name known (Page file number bytes) short named within h = h
live_file_of files name known (Leaf file number offset len bytes) short named within h = absurd h
live_file_of files name known (Body file bytes) short named within h = absurd h
live_file_of files name known (Missing file) short named within h = h
live_file_of files name known (Size file size needed) short named within h = inl (short file size needed named.0 within h)
live_file_of files name known (Unequal file said found) short named within h = absurd h
live_file_of files name known (NotGiven doc next) short named within h = absurd h
live_file_of files name known (Doubled doc) short named within h = absurd h

pub live_fault_of : (files : Files) (name : FileName) (known : Damage → Type 0) (f : PageFault) → OnlyShort files name known
    → FaultShows (IsFileDamage name) f → FaultShows known f → FaultShows (IsFileDamageOf files) f → FaultShows (IsLiveDamageOf files) f
live_fault_of files name known Failed short named within h = tt
live_fault_of files name known (Damaged d) short named within h = live_file_of files name known d short named within h
live_fault_of files name known Memory short named within h = tt

-- the size that the first page doesn't ask for
pub live_size_of : (files : Files) (first : FirstPage) (segment generation len pages : ℕ) (d : Damage) → IsFirstPage files first
    → first_name first ≡ Live segment generation
    → SaysLength segment generation (first_payload first) len → pages ≡ pages_for len → IsSizeDamage (first_name first) (first_size first) (4096 * pages) d
    → IsLiveDamageOf files d
live_size_of files first segment generation len pages (Size file size needed) there name says count h =
    subst (λ (f : FileName). IsSizeOf (AsksFor f) files file size needed) (sym (h.0 ∙ name))
    (other_size (AsksFor (Live segment generation)) files first pages file size needed there (record { len = len; says = says; pages_are = count }) h)
live_size_of files first segment generation len pages (Page file number bytes) there name says count h = absurd h
live_size_of files first segment generation len pages (Leaf file number offset len' bytes) there name says count h = absurd h
live_size_of files first segment generation len pages (Body file bytes) there name says count h = absurd h
live_size_of files first segment generation len pages (Missing file) there name says count h = absurd h
live_size_of files first segment generation len pages (Unequal file said found) there name says count h = absurd h
live_size_of files first segment generation len pages (NotGiven doc next) there name says count h = absurd h
live_size_of files first segment generation len pages (Doubled doc) there name says count h = absurd h

-- payloads of the file that are carried
pub body_damage_of : (files : Files) (name : FileName) (payloads : List ℕ) (d : Damage) → ArePayloadsOf files name payloads → IsBodyDamage name payloads d
    → IsLiveDamageOf files d
body_damage_of files name payloads (Body file bytes) are h =
    subst (λ (f : FileName). ArePayloadsOf files f bytes) (sym h.0) (subst (λ (l : List ℕ). ArePayloadsOf files name l) (sym h.1) are)
body_damage_of files name payloads (Page file number bytes) are h = absurd h
body_damage_of files name payloads (Leaf file number offset len bytes) are h = absurd h
body_damage_of files name payloads (Missing file) are h = absurd h
body_damage_of files name payloads (Size file size needed) are h = absurd h
body_damage_of files name payloads (Unequal file said found) are h = absurd h
body_damage_of files name payloads (NotGiven doc next) are h = absurd h
body_damage_of files name payloads (Doubled doc) are h = absurd h

-- payloads that begin a body are no damage
pub no_live_damage : (segment generation : ℕ) (s : LiveSet) (body payloads rest : List ℕ) (d : Damage) → IsLiveBody segment generation s body
    → payloads ++ rest ≡ padded_body body
    → IsLiveDamage segment generation d → IsBodyDamage (Live segment generation) payloads d → ⊥
no_live_damage segment generation s body payloads rest (Body file bytes) set e shown carried =
    shown.1 s body rest set (ap (λ (l : List ℕ). l ++ rest) carried.1 ∙ e)
no_live_damage segment generation s body payloads rest (Page file number bytes) set e shown carried = carried
no_live_damage segment generation s body payloads rest (Leaf file number offset len bytes) set e shown carried = carried
no_live_damage segment generation s body payloads rest (Missing file) set e shown carried = carried
no_live_damage segment generation s body payloads rest (Size file size needed) set e shown carried = carried
no_live_damage segment generation s body payloads rest (Unequal file said found) set e shown carried = carried
no_live_damage segment generation s body payloads rest (NotGiven doc next) set e shown carried = carried
no_live_damage segment generation s body payloads rest (Doubled doc) set e shown carried = carried

-- a file that is all read is that of the set whose body fills its payloads
pub live_file : (segment generation : ℕ) (bytes payloads : List ℕ) (s : LiveSet) (len : ℕ) → IsSetOf segment generation payloads s
    → length payloads ≡ 4064 * pages_for len
    → length bytes ≡ 4096 * pages_for len → ArePages (Live segment generation) bytes 0 (pages_for len) → payloads ≡ payloads_of bytes 0 (pages_for len)
    → IsLiveFile segment generation bytes s
unfolding IsLiveFile
live_file segment generation bytes payloads s len h long size pages same =
    let full = filled_length h.body in
    let k : pages_for len ≡ pages_for (length h.body) =
    (let e : 4064 * pages_for len ≡ 4064 * pages_for (length h.body) = sym long ∙ ap (λ (l : List ℕ). length l) h.payloads_are ∙ full in omega arith) in
    record {
      body = h.body;
      set = h.set;
      file = record {
        len = size ∙ ap (λ (n : ℕ). 4096 * n) k;
        pages = subst (λ (n : ℕ). ArePages (Live segment generation) bytes 0 n) k pages;
        payload = ap (λ (n : ℕ). payloads_of bytes 0 n) (sym k) ∙ sym same ∙ h.payloads_are;
      };
    }

-- what the file of a set says of its first page
pub record FirstOf (segment generation : ℕ) (bytes : List ℕ) (live : LiveSet) : Type 0 where
  pub body : List ℕ
  pub set : IsLiveBody segment generation live body
  pub some : 1 ≤ pages_for (length body)
  pub size : length bytes ≡ 4096 * pages_for (length body)
  pub page : IsFilePage (Live segment generation) bytes 0
  pub pages : ArePages (Live segment generation) bytes 0 (pages_for (length body))
  pub payload : payloads_of bytes 0 (pages_for (length body)) ≡ padded_body body
  pub rest : List ℕ
  pub begins : payload_of (page_at bytes 0) ++ rest ≡ padded_body body

pub first_of : (segment generation : ℕ) (bytes : List ℕ) (live : LiveSet) → IsLiveFile segment generation bytes live → FirstOf segment generation bytes live
unfolding IsLiveFile
first_of segment generation bytes live p =
    let short = body_short segment generation live p.body p.set in
    let some : 1 ≤ pages_for (length p.body) = omega arith in
    let behind : 1 + (pages_for (length p.body) - 1) ≡ pages_for (length p.body) = omega arith in
    record {
      body = p.body;
      set = p.set;
      some = some;
      size = p.file.len;
      page = p.file.pages 0 (omega arith) (omega arith);
      pages = p.file.pages;
      payload = p.file.payload;
      rest = payloads_of bytes 1 (pages_for (length p.body) - 1);
      begins = ap (λ (l : List ℕ). l ++ payloads_of bytes 1 (pages_for (length p.body) - 1)) (sym (payloads_of_one bytes 0))
          ∙ sym (payloads_join bytes 0 1 (pages_for (length p.body) - 1)) ∙ ap (λ (n : ℕ). payloads_of bytes 0 n) behind ∙ p.file.payload;
    }

-- the length that the first page says is that of the body
pub said_right : (segment generation : ℕ) (bytes payload : List ℕ) (live : LiveSet) (len : ℕ) (f : FirstOf segment generation bytes live)
    → payload ≡ payload_of (page_at bytes 0)
    → ((s : LiveSet) (body x y : List ℕ) → IsLiveBody segment generation s body → payload ++ x ≡ body ++ y → length body ≡ len) → length f.body ≡ len
said_right segment generation bytes payload live len f same said =
    said live f.body f.rest (replicate (4064 * pages_for (length f.body) - length f.body) 0) f.set (ap (λ (l : List ℕ). l ++ f.rest) same ∙ f.begins)

-- payloads of all pages of the file of a set are no damage
pub set_not_damaged : (segment generation : ℕ) (bytes payloads : List ℕ) (live : LiveSet) (len : ℕ) (f : FirstOf segment generation bytes live)
    → length f.body ≡ len
    → payloads ≡ payloads_of bytes 0 (pages_for len) → payloads ++ [] ≡ padded_body f.body
set_not_damaged segment generation bytes payloads live len f same e =
    append-nil payloads ∙ e ∙ ap (λ (n : ℕ). payloads_of bytes 0 (pages_for n)) (sym same) ∙ f.payload
