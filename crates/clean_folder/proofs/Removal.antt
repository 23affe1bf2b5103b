-- Files that are taken away one after the other: what stays, and what is gone.
use Rattle.std.proofs.Common.{◌≡◌, ◌≢◌, inl, inr, ℕ, ◌+◌, ◌<◌, ◌≤◌, Bool, true, false, not, ◌↔◌}
use Rattle.std.proofs.Common.{List, ◌++◌, length, take, get_or, None, Some, refl, sym, subst, ◌∙◌}
use Rattle.std.specs.List.{All}
use Rattle.std.proofs.lemmas.Bool.{both_ways}
use Rattle.std.proofs.lemmas.List.{take_all}
use Rattle.std.proofs.lemmas.List.Elements.{All-more, All-weaker}
use Rattle.outer_io.specs.declared.file_name.FileName.{FileName}
use Rattle.outer_io.specs.declared.file_name.FileName.TheVariants.{Commit}
use Rattle.outer_io.specs.Files.{Files, bytes_of}
use Rattle.outer_io.specs.Names.{same_name}
use Rattle.outer_io.proofs.Names.{same_name-false, same_name-true}
use Rattle.commit_list.specs.Commits.{CommitData}
use Rattle.commit_list.specs.CommitFiles.{IsCommitFile}
use Rattle.commit_list.proofs.CommitPages.{file_there, one_file}
use Rattle.stored_index.specs.Kept.{ListsFile}
use Rattle.stored_index.specs.Stored.{IsUndefined, index_of}
use Rattle.folder_check.specs.Checked.{IsChecked}
use Rattle.clean_folder.specs.Cleaned.{Fewer, IsUnlisted, Spares, TakesUnlisted}

pub fewer_then : (name : FileName) (old middle new : Files) → Fewer name old middle → Fewer name middle new → Fewer name old new
fewer_then name old middle new before (inr none) = inr none
fewer_then name old middle new (inl is) (inl same) = inl (same ∙ is)
fewer_then name old middle new (inr none) (inl same) = inr (same ∙ none)

pub takes_then : (c : CommitData) (old middle new : Files) → TakesUnlisted c old middle → TakesUnlisted c middle new → TakesUnlisted c old new
takes_then c old middle new first second = record {
  others = λ name stays. second.others name stays ∙ first.others name stays;
  fewer = λ name. fewer_then name old middle new (first.fewer name) (second.fewer name);
}

-- what is gone stays gone
pub still_gone : (c : CommitData) (old new : Files) (name : FileName) → TakesUnlisted c old new → old name ≡ None → new name ≡ None
still_gone c old new name takes none = by (takes.fewer name)
  where
    by : Fewer name old new → new name ≡ None
    by (inl same) = same ∙ none
    by (inr gone) = gone

-- one more name was gone through
pub gone_more : (c : CommitData) (names : List FileName) (i : ℕ) (d : FileName) (old new : Files) → i < length names
    → TakesUnlisted c old new
    → All (λ (name : FileName). IsUnlisted c name → old name ≡ None) (take i names)
    → (IsUnlisted c (get_or names i d) → new (get_or names i d) ≡ None)
    → All (λ (name : FileName). IsUnlisted c name → new name ≡ None) (take (i + 1) names)
gone_more c names i d old new lt takes before here =
    All-more (λ (name : FileName). IsUnlisted c name → new name ≡ None) names i d lt
    (All-weaker (λ (name : FileName). IsUnlisted c name → old name ≡ None) (λ (name : FileName). IsUnlisted c name → new name ≡ None)
    (λ name gone un. still_gone c old new name takes (gone un)) (take i names) before) here

pub gone_all : (c : CommitData) (names : List FileName) (i : ℕ) (new : Files) → length names ≤ i
    → All (λ (name : FileName). IsUnlisted c name → new name ≡ None) (take i names)
    → All (λ (name : FileName). IsUnlisted c name → new name ≡ None) names
gone_all c names i new le gone = subst (All (λ (name : FileName). IsUnlisted c name → new name ≡ None)) (take_all i names le) gone

-- ---- the test of a name

-- another name, which is listed or not
pub is_neither : (c : CommitData) (name : FileName) (same lists : Bool) → same ≡ same_name name Commit → same ≡ false
    → (lists ≡ true) ↔ ListsFile c name → (not lists ≡ true) ↔ IsUnlisted c name
is_neither c name same lists is e tells = by lists tells
  where
    other : name ≢ Commit
    other = same_name-false name Commit (sym is ∙ e)

    by : (b : Bool) → (b ≡ true) ↔ ListsFile c name → (not b ≡ true) ↔ IsUnlisted c name
    by true t = ((λ h. absurd (both_ways false refl h)), (λ un. absurd (un.1 (t.0 refl))))
    by false t = ((λ h. (other, λ l. absurd (both_ways false refl (t.1 l)))), (λ un. refl))

-- the name of the Commit file
pub is_the_commit : (c : CommitData) (name : FileName) (same : Bool) → same ≡ same_name name Commit → same ≡ true
    → (not same ≡ true) ↔ IsUnlisted c name
is_the_commit c name true is e = (
  (λ h. absurd (both_ways false refl h)),
  (λ un. absurd (un.0 (same_name-true name Commit (sym is)))),
)
is_the_commit c name false is e = absurd (both_ways false refl e)

-- ---- what is kept

-- over the commit that the file says
pub spares_listed : (old new : Files) (c : CommitData) → (IsUndefined old → ⊥) → IsCommitFile (bytes_of (old Commit)) c
    → TakesUnlisted c old new → Spares old new
spares_listed old new c stores says takes = record {
  kept = record {
    commit = takes.others Commit (λ un. un.0 refl);
    listed = λ d there name lists.
        takes.others name (λ un. un.1 (subst (λ (e : CommitData). ListsFile e name) (one_file (bytes_of (old Commit)) d c there says) lists));
  };
  fewer = takes.fewer;
  without = λ none. absurd (let there = (file_there (old Commit) c says).0 in cc);
  damaged = λ undefined. absurd (stores undefined);
}

-- files of which a check says that they are whole store a state
pub checked_stores : (files : Files) (text before : List ℕ) → ((told : List ℕ) × IsChecked files told × (text ≡ before ++ told))
    → IsUndefined files → ⊥
checked_stores files text before (told, inl none, is) undefined = undefined None none.0
checked_stores files text before (told, inr ok, is) undefined =
    undefined (Some (index_of ok.commit ok.docs)) (record { commit = ok.commit; holds = ok.holds; is = refl })

-- over the commit that was read of files that hadn't changed
pub spares_read : (old checked read new : Files) (c : CommitData) (text before : List ℕ)
    → ((told : List ℕ) × IsChecked old told × (text ≡ before ++ told)) → checked ≡ old → read ≡ checked
    → IsCommitFile (bytes_of (checked Commit)) c → TakesUnlisted c read new → Spares old new
spares_read old checked read new c text before tells same again says takes =
    spares_listed old new c (checked_stores old text before tells) (subst (λ (f : Files). IsCommitFile (bytes_of (f Commit)) c) same says)
    (subst (λ (f : Files). TakesUnlisted c f new) (again ∙ same) takes)
