-- How cleaning ends: what there is to tell was sent, or cut, or a fault came before.
use Rattle.std.proofs.Common.{◌≡◌, ◌++◌, ◌==◌, inl, inr, ◌∙◌, ℕ, Bool, true, false, List, Result, Ok, Err, None}
use Rattle.std.proofs.Common.{OnErr, IfOk, IsErrOf, [], refl, sym, ap, subst}
use Rattle.std.proofs.lemmas.Bool.{eqb-true}
use Rattle.outer_io.specs.declared.file_name.FileName.{FileName}
use Rattle.outer_io.specs.declared.file_name.FileName.TheVariants.{Commit}
use Rattle.outer_io.specs.Files.{Files, bytes_of}
use Rattle.outer_io.specs.Parts.{WritesPart}
use Rattle.commit_list.specs.Commits.{CommitData}
use Rattle.commit_list.specs.CommitFiles.{IsCommitFile}
use Rattle.commit_list.proofs.CommitPages.{file_there, one_file}
use Rattle.folder_check.specs.Checked.{IsChecked}
use Rattle.page_cache.specs.declared.faults.PageFault.{PageFault}
use Rattle.page_cache.specs.declared.faults.PageFault.TheVariants as page
use Rattle.page_cache.specs.Evidence.{FaultShows}
use Rattle.documents.specs.Documents.{Document}
use Rattle.stored_index.specs.Stored.{HoldsIndex, IsUndefined}
use Rattle.run_status.specs.Sent.{IsSent}
use Rattle.run_status.specs.Stops.{status_of, stop_of}
use Rattle.run_status.specs.declared.stop.Stop.{Stop}
use Rattle.run_status.specs.declared.stop.Stop.TheVariants as stop
use Rattle.clean_folder.specs.Cleaned.{CleansNone, EndsClean, IsCleaned}

-- there is no Commit file, and that was told
pub cleans_none : (old new : Files) (before text : List ℕ) → before ≡ [] → old Commit ≡ None → new ≡ old
    → ((told : List ℕ) × IsChecked old told × (text ≡ before ++ told)) → CleansNone old new text 1
cleans_none old new before text empty absent same (told, inl none, is) =
    record { absent = absent; files = same; told = is ∙ ap (λ (xs : List ℕ). xs ++ told) empty ∙ none.1; one = refl }
cleans_none old new before text empty absent same (told, inr ok, is) =
    absurd (let there = (file_there (old Commit) ok.commit ok.holds.commit).0 in cc)

-- what was checked holds the index of the commit that was read
pub holds_read : (old : Files) (c : CommitData) (text before : List ℕ) → IsCommitFile (bytes_of (old Commit)) c
    → ((told : List ℕ) × IsChecked old told × (text ≡ before ++ told))
    → (docs : List Document) × HoldsIndex old c docs
holds_read old c text before says (told, inl none, is) = absurd (let there = (file_there (old Commit) c says).0 in let absent = none.0 in cc)
holds_read old c text before says (told, inr ok, is) =
    (ok.docs, subst (λ (d : CommitData). HoldsIndex old d ok.docs) (one_file (bytes_of (old Commit)) ok.commit c ok.holds.commit says) ok.holds)

module _ (told : Type 0) (names : List FileName) (files now : Files) (old new : List ℕ) where
  whole : (text : List ℕ) (refused n : ℕ) → IsCleaned names files now text refused → n ≡ refused → (told → new ≡ old ++ text)
      → EndsClean told names files now old new (status_of (Ok n))
  whole text refused n is same sent = by (n == 0) refl
    where
      by : (b : Bool) → (n == 0) ≡ b → EndsClean told names files now old new (status_of (Ok n))
      by true e = rw e (text, refused, is, (sent, sym same ∙ eqb-true n 0 e))
      by false e = rw e (text, refused, is, (sent, sym same))

  pub sent_clean : (text reply : List ℕ) (refused : ℕ) (r : Result ℕ Stop) → IsCleaned names files now text refused → reply ≡ text
      → IfOk r (λ n. n ≡ refused) → (told → IsSent reply old new r) → OnErr r (IsErrOf r stop.SinkFault)
      → EndsClean told names files now old new (status_of r)
  sent_clean text reply refused (Ok n) is same known sent only =
      whole text refused n is known (λ t. sent t ∙ ap (λ (xs : List ℕ). old ++ xs) same)
  sent_clean text reply refused (Err stop.SinkFault) is same known sent only =
      (text, refused, is, λ t. subst (WritesPart old new) same (sent t))
  sent_clean text reply refused (Err stop.FolderFault) is same known sent only = absurd cc
  sent_clean text reply refused (Err stop.Memory) is same known sent only = absurd cc
  sent_clean text reply refused (Err (stop.Damaged d)) is same known sent only = absurd cc

  pub fault_clean : (fault : PageFault) → FaultShows (λ _. IsUndefined files) fault → FaultShows (λ _. now ≡ files) fault → (told → new ≡ old)
      → EndsClean told names files now old new (status_of (Err (stop_of fault)))
  fault_clean page.Failed undefined still same = same
  fault_clean page.Memory undefined still same = same
  fault_clean (page.Damaged d) undefined still same = (undefined, still, same)
