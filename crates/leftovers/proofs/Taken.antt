-- What is taken away, one file after another, and that what is kept stays.
use Rattle.std.proofs.Common.{◌≡◌, ◌≢◌, ◌⊎◌, inl, inr, ℕ, ◌+◌, ◌<◌, ◌≤◌, Bool, true, false, not}
use Rattle.std.proofs.Common.{List, length, take, get_or, Option, None, Some, refl, sym, ap, subst, ◌∙◌}
use Rattle.std.specs.Prelude.{MatchOption}
use Rattle.std.specs.List.{All}
use Rattle.std.proofs.lemmas.Bool.{both_ways}
use Rattle.std.proofs.lemmas.List.{take_all}
use Rattle.std.proofs.lemmas.List.Elements.{All-more, All-weaker}
use Rattle.outer_io.specs.declared.file_name.FileName.{FileName}
use Rattle.outer_io.specs.declared.file_name.FileName.TheVariants.{Commit}
use Rattle.outer_io.specs.Files.{Files, bytes_of}
use Rattle.outer_io.specs.Names.{same_name}
use Rattle.outer_io.proofs.Names.{same_name-false, same_name-other, same_name-refl, same_name-true}
use Rattle.commit_list.specs.Commits.{CommitData}
use Rattle.commit_list.specs.CommitFiles.{IsCommitFile}
use Rattle.commit_list.proofs.CommitPages.{file_there, one_file}
use Rattle.stored_index.specs.Kept.{ListsFile, SameKept}
use Rattle.stored_index.proofs.KeptFiles.{kept_none}
use Rattle.leftovers.specs.Left.{IsLeft, TakesAway}

pub takes_then : (commit : Option CommitData) (old middle new : Files) → TakesAway commit old middle → TakesAway commit middle new
    → TakesAway commit old new
takes_then commit old middle new first second = record {
  others = λ name stays. second.others name stays ∙ first.others name stays;
  fewer = λ name. by name (second.fewer name) (first.fewer name);
}
  where
    by : (name : FileName) → (new name ≡ middle name) ⊎ (new name ≡ None) → (middle name ≡ old name) ⊎ (middle name ≡ None)
        → (new name ≡ old name) ⊎ (new name ≡ None)
    by name (inr none) before = inr none
    by name (inl same) (inl is) = inl (same ∙ is)
    by name (inl same) (inr none) = inr (same ∙ none)

-- what is gone stays gone
pub still_gone : (commit : Option CommitData) (old new : Files) (name : FileName) → TakesAway commit old new → old name ≡ None → new name ≡ None
still_gone commit old new name takes none = by (takes.fewer name)
  where
    by : (new name ≡ old name) ⊎ (new name ≡ None) → new name ≡ None
    by (inl same) = same ∙ none
    by (inr gone) = gone

-- one more name was gone through
pub gone_more : (commit : Option CommitData) (names : List FileName) (i : ℕ) (d : FileName) (old new : Files) → i < length names
    → TakesAway commit old new
    → All (λ (name : FileName). IsLeft commit name → old name ≡ None) (take i names)
    → (IsLeft commit (get_or names i d) → new (get_or names i d) ≡ None)
    → All (λ (name : FileName). IsLeft commit name → new name ≡ None) (take (i + 1) names)
gone_more commit names i d old new lt takes before here =
    All-more (λ (name : FileName). IsLeft commit name → new name ≡ None) names i d lt
    (All-weaker (λ (name : FileName). IsLeft commit name → old name ≡ None) (λ (name : FileName). IsLeft commit name → new name ≡ None)
    (λ name gone left. still_gone commit old new name takes (gone left)) (take i names) before) here

pub gone_all : (commit : Option CommitData) (names : List FileName) (i : ℕ) (new : Files) → length names ≤ i
    → All (λ (name : FileName). IsLeft commit name → new name ≡ None) (take i names)
    → All (λ (name : FileName). IsLeft commit name → new name ≡ None) names
gone_all commit names i new le gone = subst (All (λ (name : FileName). IsLeft commit name → new name ≡ None)) (take_all i names le) gone

-- the test of a name where there is no commit
pub bare_left : (commit : Option CommitData) (name : FileName) (b : Bool) → commit ≡ None → b ≡ same_name name Commit
    → (not b ≡ true → IsLeft commit name) × (IsLeft commit name → not b ≡ true)
bare_left commit name b none is = rw none (left, right)
  where
    left : not b ≡ true → name ≢ Commit
    left other e = both_ways b (by b other) (is ∙ ap (λ (n : FileName). same_name n Commit) e ∙ same_name-refl Commit)
      where
        by : (x : Bool) → not x ≡ true → x ≡ false
        by true h = sym h
        by false h = refl

    right : name ≢ Commit → not b ≡ true
    right other = ap not (is ∙ same_name-other name Commit other)

-- ---- what is kept

pub kept_bare : (old middle new : Files) → old Commit ≡ None → middle ≡ old → TakesAway None middle new → SameKept old new
kept_bare old middle new none same takes =
    kept_none old new none (takes.others Commit (λ other. other refl) ∙ ap (λ (f : Files). f Commit) same ∙ none)

pub kept_listed : (old middle new : Files) (c : CommitData) → IsCommitFile (bytes_of (old Commit)) c → middle ≡ old
    → TakesAway (Some c) middle new → SameKept old new
kept_listed old middle new c says same takes = record {
  commit = takes.others Commit (λ left. left.1) ∙ ap (λ (f : Files). f Commit) same;
  listed = λ d there name lists.
      takes.others name (λ left. left.0 (subst (λ (e : CommitData). ListsFile e name) (one_file (bytes_of (old Commit)) d c there says) lists))
      ∙ ap (λ (f : Files). f name) same;
}

-- ---- with the commit that was read

-- the commit that was read is the one that the file says
as_said : (old : Files) (found : Option CommitData) → MatchOption found (old Commit ≡ None) (IsCommitFile (bytes_of (old Commit)))
    → (c : CommitData) → IsCommitFile (bytes_of (old Commit)) c → found ≡ Some c
as_said old None none c says = absurd (let there = (file_there (old Commit) c says).0 in cc)
as_said old (Some d) is c says = ap Some (one_file (bytes_of (old Commit)) d c is says)

-- where there is no file, none was read
as_bare : (old : Files) (found : Option CommitData) → MatchOption found (old Commit ≡ None) (IsCommitFile (bytes_of (old Commit)))
    → old Commit ≡ None → found ≡ None
as_bare old None is none = refl
as_bare old (Some d) is none = absurd (let there = (file_there (old Commit) d is).0 in cc)

module _ (old middle new : Files) (found : Option CommitData) (is : MatchOption found (old Commit ≡ None) (IsCommitFile (bytes_of (old Commit))))
    (same : middle ≡ old) (takes : TakesAway found middle new) where
  pub kept : SameKept old new
  kept = by found is takes
    where
      by : (f : Option CommitData) → MatchOption f (old Commit ≡ None) (IsCommitFile (bytes_of (old Commit))) → TakesAway f middle new → SameKept old new
      by None none away = kept_bare old middle new none same away
      by (Some c) says away = kept_listed old middle new c says same away

  pub taken : (c : CommitData) → IsCommitFile (bytes_of (old Commit)) c → TakesAway (Some c) old new
  taken c says =
      subst (λ (f : Option CommitData). TakesAway f old new) (as_said old found is c says) (subst (λ (f : Files). TakesAway found f new) same takes)

  module _ (names : List FileName) (gone : All (λ (name : FileName). IsLeft found name → new name ≡ None) names) where
    pub gone_of : (c : CommitData) → IsCommitFile (bytes_of (old Commit)) c
        → All (λ (name : FileName). IsLeft (Some c) name → new name ≡ None) names
    gone_of c says =
        subst (λ (f : Option CommitData). All (λ (name : FileName). IsLeft f name → new name ≡ None) names) (as_said old found is c says) gone

    pub gone_bare : old Commit ≡ None → All (λ (name : FileName). new name ≡ None) names
    gone_bare none =
        All-weaker (λ (name : FileName). IsLeft found name → new name ≡ None) (λ (name : FileName). new name ≡ None) each names gone
      where
        bare : found ≡ None
        bare = as_bare old found is none

        away : TakesAway None old new
        away = subst (λ (f : Option CommitData). TakesAway f old new) bare (subst (λ (f : Files). TakesAway found f new) same takes)

        each : (name : FileName) → (IsLeft found name → new name ≡ None) → new name ≡ None
        each name left = by (same_name name Commit) refl
          where
            by : (b : Bool) → same_name name Commit ≡ b → new name ≡ None
            by true e = subst (λ (n : FileName). new n ≡ None) (sym (same_name-true name Commit e)) (away.others Commit (λ other. other refl) ∙ none)
            by false e = left (subst (λ (f : Option CommitData). IsLeft f name) (sym bare) (same_name-false name Commit e))
