-- How lines are answered over a folder, from what was done before the first line.
use Rattle.std.proofs.Common.{◌≡◌, ◌≤◌, ◌+◌, ◌/◌, ℕ, List, length, None, Some, Result, Err, IsTrue, inl, refl, sym, ap, subst, ◌∙◌, ⊎_elim, arith, false}
use Rattle.std.proofs.lemmas.Bool.{false≢true}
use Rattle.std.specs.Prelude.{IsOk}
use Rattle.outer_io.specs.declared.file_name.FileName.TheVariants.{Commit}
use Rattle.outer_io.specs.Files.{Files, bytes_of}
use Rattle.page_cache.specs.declared.faults.PageFault.{PageFault}
use Rattle.page_cache.specs.Causes.{HasPageCause}
use Rattle.page_cache.specs.Evidence.{FaultShows}
use Rattle.commit_list.specs.Commits.{CommitData}
use Rattle.commit_list.specs.CommitFiles.{IsCommitFile}
use Rattle.commit_list.proofs.CommitPages.{file_there, one_file}
use Rattle.segment_file.specs.Heads.{Head}
use Rattle.index_model.specs.State.{State}
use Rattle.stored_index.specs.Stored.{HaveHeads, IsStored}
use Rattle.stored_index.specs.Opening.{IsOpening, OpensIndex, segments_pages}
use Rattle.stored_index.proofs.Parts.{heads_once}
use Rattle.index_opening.specs.Evidence.{IsEvident}
use Rattle.index_opening.proofs.Evident.{says_after}
use Rattle.run_status.specs.Ends.{HasStopCause}
use Rattle.run_status.specs.Stops.{stop_of}
use Rattle.run_status.specs.Told.{EndsLines, Teller}
use Rattle.run_status.specs.declared.stop.Stop.{Stop}
use Rattle.run_status.specs.declared.stop.Stop.TheVariants as stop
use Rattle.run_status.proofs.Ending.{cause_from, fault_cause, fault_shows}
use Rattle.run_status.proofs.Telling.{none_told, unread_ends}
use Rattle.world.specs.Runs.{Fit, RunsLines}
use Rattle.world.specs.Steps.{Moment, Step, Tells}
use Rattle.world.proofs.Listing.{stop_evident}
use Rattle.commands.specs.Looks.{Looks, LooksAll, LooksOver}
use Rattle.commands.specs.Opens.{Opens}

-- before the lines no file changed, nothing went out, and no fault was forgotten
pub record Before (known : Type 0) (a b : Moment) : Type 0 where
  pub files : known → b.files ≡ a.files
  pub written : b.written ≡ a.written
  pub folder_later : a.folder_faults ≤ b.folder_faults
  pub sink_same : b.sink_faults ≡ a.sink_faults

module _ {Scope : Type 0} (tells : Scope → Teller) (lines : List (List ℕ)) where
  -- something answered them that fits each scope
  pub looks_runs : {It : Type 0} (fits : Fit It Scope) (old new : It) (known : Type 0) (is : Scope → Type 0) (step : Step) (r : Result ℕ Stop)
      → (known → IsTrue step.tells.folder) → (known → Opens step.old.files)
      → (known → fits old step.old.files None) → (known → (s : Scope) → is s → fits old step.old.files (Some s))
      → RunsLines fits tells lines old new step r → Looks known is (λ s pages. pages ≡ 0) tells lines step r
  looks_runs fits old new known is step r told opens none some h = record {
    ends = λ k s i. h.does (told k) s (some k s i);
    files = λ k. h.files (told k);
    opened = λ k ok. opens k;
    reads = λ k s i pages e t all. let few = h.reads (told k) s (some k s i) t all in omega (arith, few, e);
    cause = h.cause;
    evident = stop_evident (IsTrue step.tells.folder × fits old step.old.files None) known step.old.files step.old.files r (λ k. (told k, none k)) (λ k. refl)
        h.evident;
  }

  -- they were answered after this
  pub looks_after : (t : Tells) (a b c : Moment) (known knew : Type 0) (is was : Scope → Type 0) (opens opened : Scope → ℕ → Type 0) (r : Result ℕ Stop)
      → Before known a b → (known → knew) → (known → (s : Scope) → is s → was s)
      → (known → (s : Scope) → is s → (pages : ℕ) → opens s pages → (more : ℕ) × opened s more × (b.reads + more ≤ a.reads + pages))
      → Looks knew was opened tells lines (record { tells = t; old = b; new = c }) r
      → Looks known is opens tells lines (record { tells = t; old = a; new = c }) r
  looks_after t a b c known knew is was opens opened r before knows scopes few h = record {
    ends = λ k s i. subst (λ (w : List ℕ). EndsLines (IsTrue t.sink) (tells s) 1 0 lines w c.written r) before.written (h.ends (knows k) s (scopes k s i));
    files = λ k. h.files (knows k) ∙ before.files k;
    opened = λ k ok. subst Opens (before.files k) (h.opened (knows k) ok);
    reads = λ k s i pages o u all.
        let first = few k s i pages o in
        let under = first.2 in let more = h.reads (knows k) s (scopes k s i) first.0 first.1 u all in omega (arith, under, more);
    cause = cause_from a.folder_faults b.folder_faults c.folder_faults a.sink_faults b.sink_faults c.sink_faults r before.folder_later
        (omega (arith, before.sink_same)) h.cause;
    evident = stop_evident knew known b.files a.files r knows (λ k. sym (before.files k)) h.evident;
  }

  -- a fault came before them
  pub looks_fault : {X : Type 0} (t : Tells) (a b : Moment) (known : Type 0) (is : Scope → Type 0) (opens : Scope → ℕ → Type 0) (fault : PageFault)
      (r : Result ℕ Stop) → r ≡ Err (stop_of fault) → Before known a b
      → HasPageCause {T = X} a.folder_faults b.folder_faults (Err fault) → (known → (s : Scope) → is s → FaultShows (λ _. ⊥) fault)
      → (known → (s : Scope) → is s → (pages : ℕ) → opens s pages → b.reads ≤ a.reads + pages) → FaultShows (IsEvident known a.files) fault
      → Looks known is opens tells lines (record { tells = t; old = a; new = b }) r
  looks_fault {X} t a b known is opens fault r e before cause whole reads shows = record {
    ends = λ k s i. unread_ends (IsTrue t.sink) (tells s) 1 0 lines a.written b.written fault (whole k s i) r e before.written;
    files = before.files;
    opened = λ k ok. absurd (false≢true (subst (λ (x : Result ℕ Stop). IsOk x) e ok));
    reads = λ k s i pages o u all. let few = reads k s i pages o in omega (arith, few);
    cause = subst (λ (n : ℕ). HasStopCause a.folder_faults b.folder_faults a.sink_faults n r) (sym before.sink_same)
        (fault_cause {S = X} a.folder_faults b.folder_faults a.sink_faults fault cause r e);
    evident = fault_shows (IsEvident known a.files) fault shows r e;
  }

  -- memory was wanting before them
  pub looks_no_memory : (t : Tells) (a b : Moment) (known : Type 0) (is : Scope → Type 0) (opens : Scope → ℕ → Type 0) → Before known a b
      → (known → (s : Scope) → is s → (pages : ℕ) → opens s pages → b.reads ≤ a.reads + pages)
      → Looks known is opens tells lines (record { tells = t; old = a; new = b }) (Err stop.Memory)
  looks_no_memory t a b known is opens before reads = record {
    ends = λ k s i. none_told (IsTrue t.sink) (tells s) 1 lines a.written b.written before.written;
    files = before.files;
    opened = λ k ok. absurd (false≢true ok);
    reads = λ k s i pages o u all. let few = reads k s i pages o in omega (arith, few);
    cause = record { folder_later = before.folder_later; sink_later = omega (arith, before.sink_same); folder = λ e. absurd cc; sink = λ e. absurd cc };
    evident = tt;
  }

-- ---- the pages of opening

-- what the definition of a scope says of files: each stored state has one, and its heads are those that the commit lists
pub record AreScopes {Scope : Type 0} (is : Files → Scope → Type 0) (heads : Scope → List Head) : Type 0 where
  pub of : (files : Files) (state : State) → IsStored files state → (s : Scope) × is files s
  pub stored : (files : Files) (s : Scope) → is files s → (state : State) × IsStored files state
  pub have : (files : Files) (c : CommitData) (s : Scope) → IsCommitFile (bytes_of (files Commit)) c → is files s → HaveHeads files c (heads s)

module _ {Scope : Type 0} (is : Files → Scope → Type 0) (heads : Scope → List Head) (are : AreScopes is heads) where
  -- they are those of the commit and of the segments
  pub opening_is : (files : Files) (c : CommitData) (s : Scope) (pages : ℕ) → IsCommitFile (bytes_of (files Commit)) c → is files s → IsOpening files pages
      → pages ≡ length (bytes_of (files Commit)) / 4096 + segments_pages files c.listed (heads s)
  opening_is files c s pages says scope opening = ⊎_elim
      (λ none. absurd (let there = (file_there (files Commit) c says).0 in let no = none.0 in cc))
      (λ (o : OpensIndex files pages).
      let one = one_file (bytes_of (files Commit)) o.commit c o.says says in
      let same = heads_once files c o.heads (heads s) (subst (λ (d : CommitData). HaveHeads files d o.heads) one o.have) (are.have files c s says scope) in
      o.is ∙ (λ i. length (bytes_of (files Commit)) / 4096 + segments_pages files (one i).listed (same i)))
      opening

  -- reading the commit reads no more than opening, where a state is stored
  pub commit_few : (files : Files) (s : Scope) (pages before now : ℕ) → is files s → IsOpening files pages → (files Commit ≡ None → now ≡ before)
      → ((c : CommitData) → IsCommitFile (bytes_of (files Commit)) c → now ≤ before + length (bytes_of (files Commit)) / 4096) → now ≤ before + pages
  commit_few files s pages before now scope opening unread most = let stored = are.stored files s scope in by stored.0 stored.1
    where
      by : (state : State) → IsStored files state → now ≤ before + pages
      by None none = let same = unread none in omega (arith, same)
      by (Some i) stored =
          let few = most stored.commit stored.holds.commit in
          let is_it = opening_is files stored.commit s pages stored.holds.commit scope opening in omega (arith, few, is_it)

  module _ (tells : Scope → Teller) (lines : List (List ℕ)) (t : Tells) (a b c : Moment) (r : Result ℕ Stop) (before : Before (IsTrue t.folder) a b) where
    -- the commit was read, and lines were answered over its index
    pub looks_some : (commit : CommitData) → (IsTrue t.folder → IsCommitFile (bytes_of (a.files Commit)) commit)
        → (IsTrue t.folder → (d : CommitData) → IsCommitFile (bytes_of (a.files Commit)) d → b.reads ≤ a.reads + length (bytes_of (a.files Commit)) / 4096)
        → LooksOver is heads tells commit lines (record { tells = t; old = b; new = c }) r
        → LooksAll is tells lines (record { tells = t; old = a; new = c }) r
    looks_some commit found most over =
        looks_after tells lines t a b c _ _ _ _ _ _ r before (λ k. (k, says_after a.files b.files commit (before.files k) (found k)))
        (λ k s i. subst (λ (f : Files). is f s) (sym (before.files k)) i)
        (λ k s i pages o. (
          segments_pages b.files commit.listed (heads s),
          refl,
          let first = most k commit (found k) in
              let all = opening_is a.files commit s pages (found k) i o in
              let same = ap (λ (f : Files). segments_pages f commit.listed (heads s)) (before.files k) in omega (arith, first, all, same),
        ))
        over

    -- there is no commit, and lines were answered without an index
    pub looks_none : {It : Type 0} (fits : Fit It Scope) (old new : It) → (IsTrue t.folder → b.reads ≡ a.reads)
        → (IsTrue t.folder → a.files Commit ≡ None) → (IsTrue t.folder → fits old b.files None)
        → (IsTrue t.folder → (s : Scope) → is a.files s → fits old b.files (Some s))
        → RunsLines fits tells lines old new (record { tells = t; old = b; new = c }) r → LooksAll is tells lines (record { tells = t; old = a; new = c }) r
    looks_none fits old new unread bare none some runs =
        looks_after tells lines t a b c _ _ _ _ _ _ r before (λ k. k) (λ k s i. i)
        (λ k s i pages o. (0, refl, let same = unread k in omega (arith, same)))
        (looks_runs tells lines fits old new (IsTrue t.folder) (is a.files) (record { tells = t; old = b; new = c }) r (λ k. k)
        (λ k. inl (ap (λ (f : Files). f Commit) (before.files k) ∙ bare k)) none some runs)
