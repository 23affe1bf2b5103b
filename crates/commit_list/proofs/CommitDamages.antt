-- What was read is a damage of the commit.
use Rattle.std.proofs.Common.{◌≡◌, ◌*◌, ℕ, length, None, inl, sym, ap, subst}
use Rattle.outer_io.specs.declared.file_name.FileName.{FileName}
use Rattle.outer_io.specs.declared.file_name.FileName.TheVariants.{Commit}
use Rattle.outer_io.specs.Files.{Files, bytes_of, size_of}
use Rattle.page_cache.specs.FilePages.{IsFilePage}
use Rattle.page_cache.specs.Bodies.{pages_for}
use Rattle.page_cache.specs.Evidence.{FaultShows, IsCut, IsShort, SizeNeeds, SizeWithin, IsSizeDamage, IsFileDamage, IsFileDamageOf}
use Rattle.page_cache.specs.FirstPages.{first_name, first_payload, first_size, IsFirstPage}
use Rattle.page_cache.specs.declared.first_page.FirstPage.{FirstPage}
use Rattle.page_cache.specs.declared.faults.Damage.{Damage}
use Rattle.page_cache.specs.declared.faults.Damage.TheVariants.{Page, Leaf, Body, Missing, Size, Unequal, NotGiven, Doubled}
use Rattle.page_cache.specs.declared.faults.PageFault.{PageFault}
use Rattle.page_cache.specs.declared.faults.PageFault.TheVariants.{Failed, Damaged, Memory}
use Rattle.page_cache.proofs.Damages.{other_size, short_of_cut, not_cut}
use Rattle.page_cache.proofs.FileSizes.{no_file_no_page}
use Rattle.commit_list.specs.Layout.{BeginsBody}
use Rattle.commit_list.specs.CommitFiles.{AsksCommit, IsCommitDamageOf}

-- A damage of the file's pages, where it is there. `needs` is what is known of a size; a file that is cut so is short of its first page
commit_damage_of : (files : Files) (needs : Damage → Type 0) (d : Damage) → (files Commit ≡ None → ⊥)
    → ((file : FileName) (size needed : ℕ) → file ≡ Commit → needs (Size file size needed) → IsCut files file size needed → IsShort files file size needed)
    → IsFileDamage Commit d → needs d → IsFileDamageOf files d → IsCommitDamageOf files d
commit_damage_of files needs (Page file number bytes) there cut named within h = h
commit_damage_of files needs (Leaf file number offset len bytes) there cut named within h = absurd h
commit_damage_of files needs (Body file bytes) there cut named within h = absurd h
commit_damage_of files needs (Missing file) there cut named within h = absurd (there (subst (λ (name : FileName). files name ≡ None) named h))
commit_damage_of files needs (Size file size needed) there cut named within h = inl (cut file size needed named.0 within h)
commit_damage_of files needs (Unequal file said found) there cut named within h = absurd h
commit_damage_of files needs (NotGiven doc next) there cut named within h = absurd h
commit_damage_of files needs (Doubled doc) there cut named within h = absurd h

commit_fault_of : (files : Files) (needs : Damage → Type 0) (f : PageFault) → (files Commit ≡ None → FaultShows (λ _. ⊥) f)
    → ((file : FileName) (size needed : ℕ) → file ≡ Commit → needs (Size file size needed) → IsCut files file size needed → IsShort files file size needed)
    → FaultShows (IsFileDamage Commit) f → FaultShows needs f → FaultShows (IsFileDamageOf files) f → FaultShows (IsCommitDamageOf files) f
commit_fault_of files needs Failed there cut named within h = tt
commit_fault_of files needs (Damaged d) there cut named within h = commit_damage_of files needs d there cut named within h
commit_fault_of files needs Memory there cut named within h = tt

-- what finding the first page shows
pub found_fault_of : (files : Files) (f : PageFault) → (files Commit ≡ None → FaultShows (λ _. ⊥) f)
    → FaultShows (IsFileDamage Commit) f → FaultShows (SizeNeeds 4096) f → FaultShows (IsFileDamageOf files) f → FaultShows (IsCommitDamageOf files) f
found_fault_of files f there = commit_fault_of files (SizeNeeds 4096) f there (λ file size needed named page h. short_of_cut files file size needed page h)

-- what reading the other pages shows, where the file has just so many
pub joined_fault_of : (files : Files) (pages : ℕ) (f : PageFault) → (files Commit ≡ None → FaultShows (λ _. ⊥) f)
    → length (bytes_of (files Commit)) ≡ 4096 * pages
    → FaultShows (IsFileDamage Commit) f → FaultShows (SizeWithin (4096 * pages)) f → FaultShows (IsFileDamageOf files) f
    → FaultShows (IsCommitDamageOf files) f
joined_fault_of files pages f there long =
    commit_fault_of files (SizeWithin (4096 * pages)) f there
    (λ file size needed named within h.
    absurd (not_cut files file pages size needed (subst (λ (name : FileName). length (bytes_of (files name)) ≡ 4096 * pages) (sym named) long) within h))

-- a first page is that of a file that is there
pub first_is_there : (files : Files) (p : FirstPage) (f : PageFault) → first_name p ≡ Commit → IsFirstPage files p → files Commit ≡ None → FaultShows (λ _. ⊥) f
first_is_there files p f is first gone =
    absurd (no_file_no_page Commit (files Commit) (sym (ap size_of gone))
    (subst (λ (name : FileName). IsFilePage name (bytes_of (files name)) 0) is first.page))

-- a size that isn't that of the pages for which the first page asks
pub commit_size_of : (files : Files) (p : FirstPage) (len pages : ℕ) (d : Damage) → IsFirstPage files p → BeginsBody (first_payload p) len
    → pages ≡ pages_for len
    → IsSizeDamage (first_name p) (first_size p) (4096 * pages) d → IsCommitDamageOf files d
commit_size_of files p len pages (Page file number bytes) first begins e h = absurd h
commit_size_of files p len pages (Leaf file number offset bytes_len bytes) first begins e h = absurd h
commit_size_of files p len pages (Body file bytes) first begins e h = absurd h
commit_size_of files p len pages (Missing file) first begins e h = absurd h
commit_size_of files p len pages (Size file size needed) first begins e h =
    other_size AsksCommit files p pages file size needed first (record { len = len; begins = begins; pages_are = e }) h
commit_size_of files p len pages (Unequal file said found) first begins e h = absurd h
commit_size_of files p len pages (NotGiven doc next) first begins e h = absurd h
commit_size_of files p len pages (Doubled doc) first begins e h = absurd h
