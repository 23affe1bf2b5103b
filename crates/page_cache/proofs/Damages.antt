-- The damages of a page are damages of its file, and these are damages as the crates above know them.
use Rattle.std.proofs.Common.{◌≡◌, ◌≢◌, ℕ, ◌+◌, ◌*◌, ◌≤◌, ◌<◌, inr, length, max, List, None, Result, Ok, Err, sym, subst, ◌∙◌, arith}
use Rattle.outer_io.specs.declared.file_name.FileName.{FileName}
use Rattle.outer_io.specs.Files.{Files, bytes_of}
use Rattle.page_cache.specs.declared.faults.Damage.{Damage}
use Rattle.page_cache.specs.declared.faults.Damage.TheVariants.{Page, Leaf, Body, Missing, Size, Unequal, NotGiven, Doubled}
use Rattle.page_cache.specs.declared.faults.PageFault.{PageFault}
use Rattle.page_cache.specs.declared.faults.PageFault.TheVariants.{Failed, Damaged, Memory}
use Rattle.page_cache.specs.FirstPages.{first_name, first_payload, first_size, IsFirstPage}
use Rattle.page_cache.specs.declared.first_page.FirstPage.{FirstPage}
use Rattle.page_cache.specs.Evidence.{FaultShows, OnDamage, IsCut, IsShort, IsSizeOf, SizeWithin, IsPageDamage, IsPageDamageOf, IsFileDamage, IsFileDamageOf}

-- what follows of a damage follows of the fault that is one, and of the answer that has it
pub fault_weaker : (f : PageFault) (P Q : Damage → Type 0) → ((d : Damage) → P d → Q d) → FaultShows P f → FaultShows Q f
fault_weaker Failed P Q w h = tt
fault_weaker (Damaged d) P Q w h = w d h
fault_weaker Memory P Q w h = tt

pub fault_both : (f : PageFault) (P Q R : Damage → Type 0) → ((d : Damage) → P d → Q d → R d) → FaultShows P f → FaultShows Q f → FaultShows R f
fault_both Failed P Q R w h k = tt
fault_both (Damaged d) P Q R w h k = w d h k
fault_both Memory P Q R w h k = tt

pub on_damage_weaker : {T : Type 0} (r : Result T PageFault) (P Q : Damage → Type 0) → ((d : Damage) → P d → Q d) → OnDamage r P → OnDamage r Q
on_damage_weaker (Ok _) P Q w h = tt
on_damage_weaker (Err f) P Q w h = fault_weaker f P Q w h

pub on_damage_both : {T : Type 0} (r : Result T PageFault) (P Q R : Damage → Type 0) → ((d : Damage) → P d → Q d → R d) → OnDamage r P → OnDamage r Q
    → OnDamage r R
on_damage_both (Ok _) P Q R w h k = tt
on_damage_both (Err f) P Q R w h k = fault_both f P Q R w h k

pub file_from_page : (name : FileName) (n : ℕ) (d : Damage) → IsPageDamage name n d → IsFileDamage name d
file_from_page name n (Page file number bytes) h = (h.0, h.2)
file_from_page name n (Size file size needed) h = let short : size < needed = h.2 in let apart : size ≢ needed = omega arith in (h.0, apart)
file_from_page name n (Leaf file number offset len bytes) h = h
file_from_page name n (Body file bytes) h = h
file_from_page name n (Missing file) h = absurd h
file_from_page name n (Unequal file said found) h = h
file_from_page name n (NotGiven doc next) h = h
file_from_page name n (Doubled doc) h = h

pub file_from_page_of : (files : Files) (name : FileName) (n : ℕ) (d : Damage) → (n ≡ 0 → files name ≢ None) → IsPageDamage name n d → IsPageDamageOf files n d
    → IsFileDamageOf files d
file_from_page_of files name n (Page file number bytes) there h k = k
file_from_page_of files name n (Size file size needed) there h k = record {
  number = n;
  page_end = h.1;
  seen = k;
  short = h.2;
  there = subst (λ (f : FileName). n ≡ 0 → files f ≢ None) (sym h.0) there;
}
file_from_page_of files name n (Leaf file number offset len bytes) there h k = k
file_from_page_of files name n (Body file bytes) there h k = k
file_from_page_of files name n (Missing file) there h k = absurd k
file_from_page_of files name n (Unequal file said found) there h k = k
file_from_page_of files name n (NotGiven doc next) there h k = k
file_from_page_of files name n (Doubled doc) there h k = k

-- no page before the last of so many needs more
pub within_page : (name : FileName) (n most : ℕ) (d : Damage) → n < most → IsPageDamage name n d → SizeWithin (4096 * most) d
within_page name n most (Page file number bytes) few h = tt
within_page name n most (Size file size needed) few h = let page_end : needed ≡ 4096 * (n + 1) = h.1 in omega arith
within_page name n most (Leaf file number offset len bytes) few h = tt
within_page name n most (Body file bytes) few h = tt
within_page name n most (Missing file) few h = tt
within_page name n most (Unequal file said found) few h = tt
within_page name n most (NotGiven doc next) few h = tt
within_page name n most (Doubled doc) few h = tt

-- a file of whole pages is not cut within them
pub not_cut : (files : Files) (file : FileName) (pages size needed : ℕ) → length (bytes_of (files file)) ≡ 4096 * pages → needed ≤ 4096 * pages
    → IsCut files file size needed → ⊥
not_cut files file pages size needed long few h =
    let seen : size ≡ max (4096 * h.number) (length (bytes_of (files file))) = h.seen in
    let short = h.short in
    omega arith

-- a file that ends before its first page does
pub short_of_cut : (files : Files) (file : FileName) (size needed : ℕ) → needed ≡ 4096 → IsCut files file size needed → IsShort files file size needed
short_of_cut files file size needed page h =
    let page_end = h.page_end in
    let seen : size ≡ max (4096 * h.number) (length (bytes_of (files file))) = h.seen in
    record { page = page; has = omega arith; short = h.short; there = h.there (omega arith) }

-- the size that a first page doesn't have
pub other_size : (asks : List ℕ → ℕ → Type 0) (files : Files) (p : FirstPage) (pages : ℕ) (file : FileName) (size needed : ℕ) → IsFirstPage files p
    → asks (first_payload p) pages
    → (file ≡ first_name p) × (size ≡ first_size p) × (needed ≡ 4096 * pages) → IsSizeOf asks files file size needed
other_size asks files p pages file size needed first asked e =
    subst (λ (name : FileName). IsSizeOf asks files name size needed) (sym e.0)
    (inr (record {
      has = e.1 ∙ first.size;
      first = first.page;
      pages = pages;
      needs = e.2;
      first_asks = subst (λ (l : List ℕ). asks l pages) first.payload asked;
    }))
