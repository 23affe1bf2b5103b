-- What is kept, and what depends on it alone.
use Rattle.std.proofs.Common.{◌≡◌, ◌≢◌, ℕ, Bool, true, List, Option, Some, None, refl, sym, subst, ◌∙◌}
use Rattle.outer_io.specs.declared.file_name.FileName.{FileName}
use Rattle.outer_io.specs.declared.file_name.FileName.TheVariants.{Commit, CommitNew, Segment, Live}
use Rattle.outer_io.specs.Files.{Files, bytes_of, SameBut, SameButTwo}
use Rattle.documents.specs.Documents.{Document}
use Rattle.index_model.specs.State.{State}
use Rattle.commit_list.specs.Commits.{CommitData}
use Rattle.commit_list.specs.CommitFiles.{IsCommitFile}
use Rattle.commit_list.proofs.CommitPages.{file_there}
use Rattle.stored_index.specs.Stored.{HoldsIndex, IsStored, IsUndefined}
use Rattle.stored_index.specs.Kept.{ListsFile, SameKept}
use Rattle.stored_index.proofs.Parts.{all_stay}

pub kept_itself : (files : Files) → SameKept files files
kept_itself files = record { commit = refl; listed = λ c says name lists. refl }

-- the new files say the commit of the old ones
pub still_says : (old new : Files) (c : CommitData) → SameKept old new → IsCommitFile (bytes_of (old Commit)) c → IsCommitFile (bytes_of (new Commit)) c
still_says old new c same says = subst (λ (b : Option (List ℕ)). IsCommitFile (bytes_of b) c) (sym same.commit) says

said_before : (old new : Files) (c : CommitData) → SameKept old new → IsCommitFile (bytes_of (new Commit)) c → IsCommitFile (bytes_of (old Commit)) c
said_before old new c same says = subst (λ (b : Option (List ℕ)). IsCommitFile (bytes_of b) c) same.commit says

pub kept_back : (old new : Files) → SameKept old new → SameKept new old
kept_back old new same = record {
  commit = sym same.commit;
  listed = λ c says name lists. sym (same.listed c (said_before old new c same says) name lists);
}

pub kept_after : (old middle new : Files) → SameKept old middle → SameKept middle new → SameKept old new
kept_after old middle new first second = record {
  commit = second.commit ∙ first.commit;
  listed = λ c says name lists. second.listed c (still_says old middle c first says) name lists ∙ first.listed c says name lists;
}

-- ---- after writes

pub kept_but : (old new : Files) (name : FileName) → SameBut name old new → name ≢ Commit
    → ((c : CommitData) → IsCommitFile (bytes_of (old Commit)) c → ListsFile c name → ⊥) → SameKept old new
kept_but old new name others not_commit unlisted = record {
  commit = others Commit (λ e. not_commit (sym e));
  listed = λ c says other lists. others other (λ e. unlisted c says (subst (ListsFile c) e lists));
}

-- where all that changes has another name than the files that the commit lists
pub kept_named : (old new : Files) (is_named : FileName → Bool) → new Commit ≡ old Commit
    → ((c : CommitData) → IsCommitFile (bytes_of (old Commit)) c → (name : FileName) → ListsFile c name → is_named name ≡ true)
    → ((name : FileName) → is_named name ≡ true → new name ≡ old name) → SameKept old new
kept_named old new is_named commit names same = record { commit = commit; listed = λ c says name lists. same name (names c says name lists) }

pub kept_none : (old new : Files) → old Commit ≡ None → new Commit ≡ None → SameKept old new
kept_none old new before after = record {
  commit = after ∙ sym before;
  listed = λ c says name lists. absurd (let there = (file_there (old Commit) c says).0 in cc);
}

-- a commit lists no file of a commit
pub never_commits : (c : CommitData) (name : FileName) → ListsFile c name → (name ≢ Commit) × (name ≢ CommitNew)
never_commits c Commit lists = absurd lists
never_commits c CommitNew lists = absurd lists
never_commits c (Segment id) lists = (λ e. cc, λ e. cc)
never_commits c (Live id generation) lists = (λ e. cc, λ e. cc)

pub kept_but_commits : (old new : Files) → SameButTwo CommitNew Commit old new → new Commit ≡ old Commit → SameKept old new
kept_but_commits old new others same = record {
  commit = same;
  listed = λ c says name lists. let apart = never_commits c name lists in others name apart.1 apart.0;
}

pub kept_but_new : (old new : Files) → SameBut CommitNew old new → SameKept old new
kept_but_new old new others = kept_but old new CommitNew others (λ e. cc) (λ c says lists. lists)

-- ---- what depends on it

pub held_still : (old new : Files) (c : CommitData) (docs : List Document) → SameKept old new → HoldsIndex old c docs → HoldsIndex new c docs
held_still old new c docs same h = record {
  commit = still_says old new c same h.commit;
  parts = h.parts;
  segments = all_stay old new c h.parts (same.listed c h.commit) h.segments;
  alone = h.alone;
  are_docs = h.are_docs;
  few = h.few;
}

pub stored_still : (old new : Files) (state : State) → SameKept old new → IsStored old state → IsStored new state
stored_still old new None same p = same.commit ∙ p
stored_still old new (Some i) same p = record {
  commit = p.commit;
  holds = held_still old new p.commit i.docs same p.holds;
  is = p.is;
}

pub undefined_still : (old new : Files) → SameKept old new → IsUndefined old → IsUndefined new
undefined_still old new same none = λ state p. none state (stored_still new old state (kept_back old new same) p)
