-- What the folder stores where a run starts.
use Rattle.std.proofs.Common.{◌≡◌, ◌≤◌, ◌+◌, ◌/◌, ℕ, List, length, None, Some, Result, Err, refl, sym, ap, subst, ◌∙◌, ◌⊎◌, inl, inr, arith}
use Rattle.outer_io.specs.declared.file_name.FileName.TheVariants.{Commit}
use Rattle.outer_io.specs.Files.{Files, bytes_of}
use Rattle.commit_list.specs.Commits.{CommitData}
use Rattle.commit_list.specs.CommitFiles.{IsCommitFile}
use Rattle.index_model.specs.State.{Index, State}
use Rattle.stored_index.specs.Stored.{IsStored}
use Rattle.explain_queries.specs.Explained.{Scope}
use Rattle.script_run.specs.Costs.{AllAsk, AreLight, RunReadsFew, TouchesLines, begins_no_merge, is_query}
use Rattle.script_run.specs.Leads.{LeadsAll, LeadsFrom}
use Rattle.script_run.specs.Origins.{IsFrom}
use Rattle.script_run.specs.declared.origin.Origin.TheVariants as origin
use Rattle.script_run.proofs.Leading.{levels_still}
use Rattle.script_run.proofs.Opened.{some_stored}
use Rattle.explain_queries.proofs.Scoped.{commit_few, opening_is}
use Rattle.script_run.specs.declared.language.Language.{Language}
use Rattle.script_run.proofs.Starting.{canonical_still}
use Rattle.stored_index.proofs.Whole.{no_index}
use Rattle.index_core.proofs.Committing.{on_ok_any}

-- ---- what the folder stores

module _ {T E : Type 0} (lang : Language) (state : State) (lines : List (List ℕ)) (old middle new : Files) (before between now : ℕ) (result : Result T E)
    (same : middle ≡ old) (stored : IsStored old state) where
  -- no commit was found, so the lines lead on without an index
  pub leads_first : old Commit ≡ None → between ≡ before → (middle Commit ≡ None → LeadsAll lang None lines middle new between now result)
      → LeadsAll lang state lines old new before now result
  leads_first none unread leads =
      subst (λ (s : State). LeadsAll lang s lines old new before now result) (sym (no_index old state none stored))
      (subst (λ (f : Files). LeadsAll lang None lines f new before now result) same
      (subst (λ (n : ℕ). LeadsAll lang None lines middle new n now result) unread (leads (ap (λ (f : Files). f Commit) same ∙ none))))

  module _ (commit : CommitData) (says : IsCommitFile (bytes_of (old Commit)) commit) (most : between ≤ before + length (bytes_of (old Commit)) / 4096)
      (leads : (i : Index) (s : State) → IsFrom middle (origin.Stored commit) i s
      → LeadsFrom lang (origin.Stored commit) i s 1 lines middle new between now result) where
    -- for whichever state is stored
    leads_at : (s : State) → IsStored old s → (i : Index) × (s ≡ Some i) × LeadsFrom lang (origin.Stored commit) i (Some i) 1 lines old new between now result
    leads_at s is =
        let some = some_stored old commit s says is in (
          some.0,
          some.1,
          subst (λ (f : Files). LeadsFrom lang (origin.Stored commit) some.0 (Some some.0) 1 lines f new between now result) same
              (leads some.0 (Some some.0) (subst (λ (f : Files). IsFrom f (origin.Stored commit) some.0 (Some some.0)) (sym same) (says, some.2, refl))),
        )

    by_which : (s : Scope) (i : Index) → AllAsk lang is_query 1 (Some i) lines ⊎ AreLight lang s.heads 1 (Some i) lines
        → ((Some i ≡ Some i) × AllAsk lang is_query 1 (Some i) lines) ⊎ AreLight lang s.heads 1 (Some i) lines
    by_which s i (inl asks) = inl (refl, asks)
    by_which s i (inr light) = inr light

    stored_reads : RunReadsFew lang old lines before now
    stored_reads s scope pages opening which n touches =
        let at = leads_at s.state scope.stored in
        let few = at.2.reads s scope (by_which s at.0 (subst (λ (o : State). AllAsk lang is_query 1 o lines ⊎ AreLight lang s.heads 1 o lines) at.1 which)) n
        (subst (λ (o : State). TouchesLines lang s.heads 1 o lines n) at.1 touches) in
        let pages_are = opening_is old commit s pages says scope opening in
        omega (arith, few, most, pages_are)

    -- a commit was found, and the lines lead on from what it stores
    pub leads_some : LeadsAll lang state lines old new before now result
    leads_some =
        let at = leads_at state stored in
        record {
          canon = at.2.canon;
          levels = λ asks. at.2.levels (subst (λ (o : State). AllAsk lang begins_no_merge 1 o lines) at.1 asks);
          still = λ asks. at.2.still refl (subst (λ (o : State). AllAsk lang is_query 1 o lines) at.1 asks);
          reads = stored_reads;
        }

-- reading the commit failed, and the files stay
pub leads_unread : {T E : Type 0} (lang : Language) → (state : State) (lines : List (List ℕ)) (old new : Files) (before now : ℕ) (result : Result T E) (e : E)
    → new ≡ old → (old Commit ≡ None → now ≡ before)
    → ((c : CommitData) → IsCommitFile (bytes_of (old Commit)) c → now ≤ before + length (bytes_of (old Commit)) / 4096) → result ≡ Err e
    → LeadsAll lang state lines old new before now result
leads_unread lang state lines old new before now result e same unread most is = record {
  canon = on_ok_any result (canonical_still old new same);
  levels = λ asks. on_ok_any result (levels_still old new same);
  still = λ asks. same;
  reads = λ s scope pages opening which n touches. let few = commit_few old s pages before now scope opening unread most in omega (arith, few);
}
