-- A batch with a merge beside it goes from one place to another, by what each call of it answered.
use Rattle.std.proofs.Common.{◌≡◌, ◌≤◌, ◌==◌, ◌++◌, ℕ, Bool, true, false, List, Result, Ok, Err, IsErrOf, refl, sym, ap, subst, ◌∙◌, inl, inr, ⊎_elim, arith}
use Rattle.std.proofs.lemmas.Bool.Decides.{nat_tests}
use Rattle.outer_io.specs.Counts.{Rose}
use Rattle.outer_io.specs.Files.{Files}
use Rattle.outer_io.specs.Parts.{WritesPart}
use Rattle.page_cache.specs.declared.faults.PageFault.{PageFault}
use Rattle.page_cache.specs.declared.faults.PageFault.TheVariants as page
use Rattle.page_cache.specs.Causes.{HasPageCause}
use Rattle.page_cache.specs.Evidence.{NotDamaged, OnDamage}
use Rattle.index_model.specs.State.{State}
use Rattle.stored_index.specs.Kept.{SameKept}
use Rattle.stored_index.specs.Stored.{IsStored}
use Rattle.stored_index.proofs.KeptFiles.{stored_still}
use Rattle.index_opening.specs.Evidence.{IsEvident}
use Rattle.index_opening.proofs.Evident.{on_evident_less}
use Rattle.run_status.specs.Ends.{IsDamaged, OnStatusDamage}
use Rattle.run_status.specs.Sent.{IsSentPart}
use Rattle.run_status.specs.Stops.{status_of, stop_of}
use Rattle.run_status.specs.Told.{TellsAll}
use Rattle.run_status.specs.declared.status.Status.{Status}
use Rattle.run_status.specs.declared.status.Status.TheVariants as status
use Rattle.run_status.specs.declared.stop.Stop.{Stop}
use Rattle.run_status.specs.declared.stop.Stop.TheVariants as stop
use Rattle.run_status.proofs.Ending.{counted, no_folder, no_sink}
use Rattle.batch_queries.specs.Batched.{IsBatchText, TellsBatch}
use Rattle.batch_queries.specs.Ends.{CutsAll, StoresSome}
use Rattle.batch_queries.specs.Merging.{EndsMerging, MergeKeeps, MergeLeaves}
use Rattle.batch_queries.specs.MergeRuns.{MergesBatch, MergeMoment}

-- ---- faults

-- what stays where nothing went out: all that is kept
leaves_fault : (old new : Files) (fault : PageFault) → SameKept old new → MergeLeaves old new (status_of (Err (stop_of fault)))
leaves_fault old new page.Failed same =
    record {
      stored = λ state h. stored_still old new state same h;
      kept = inl same;
      lasting = inl same;
      merged = λ a. absurd a;
      levels = λ a. absurd a;
      canon = λ a. absurd a;
    }
leaves_fault old new page.Memory same =
    record {
      stored = λ state h. stored_still old new state same h;
      kept = inl same;
      lasting = inl same;
      merged = λ a. absurd a;
      levels = λ a. absurd a;
      canon = λ a. absurd a;
    }
leaves_fault old new (page.Damaged d) same =
    record {
      stored = λ state h. stored_still old new state same h;
      kept = same;
      lasting = inl same;
      merged = λ a. absurd a;
      levels = λ a. absurd a;
      canon = λ a. absurd a;
    }

-- a fault before the text goes out
pub stopped : {T : Type 0} (told out trusts : Type 0) (lines : List (List ℕ)) (a b : MergeMoment) (fault : PageFault) (r : Result ℕ Stop)
    → r ≡ Err (stop_of fault)
    → (told → trusts → SameKept a.files b.files) → (told → trusts → (state : State) → IsStored a.files state → NotDamaged {T = T} (Err fault))
    → HasPageCause {T = T} a.faults b.faults (Err fault) → OnDamage {T = T} (Err fault) (IsEvident (told × trusts) b.files) → b.written ≡ a.written
    → MergesBatch told out trusts lines a b (status_of r)
stopped {T} told out trusts lines a b fault r is kept whole cause evident same =
    subst (λ (q : Result ℕ Stop). MergesBatch told out trusts lines a b (status_of q)) (sym is) (by fault kept whole cause evident)
  where
    by : (f : PageFault) → (told → trusts → SameKept a.files b.files) → (told → trusts → (state : State) → IsStored a.files state → NotDamaged {T = T} (Err f))
        → HasPageCause {T = T} a.faults b.faults (Err f) → OnDamage {T = T} (Err f) (IsEvident (told × trusts) b.files)
        → MergesBatch told out trusts lines a b (status_of (Err (stop_of f)))
    by page.Failed kept whole cause evident = record {
      done = λ d. d;
      ends = λ t h state s. inl (λ o. same);
      leaves = λ t h. leaves_fault a.files b.files page.Failed (kept t h);
      stored = λ t h. record { unwritten = inr same; answered = λ more. absurd (more tt) };
      whole = λ t h state s d. d;
      evident = tt;
      folder = λ e. cause.failed refl;
      sink = λ e. absurd cc;
    }
    by page.Memory kept whole cause evident = record {
      done = λ d. d;
      ends = λ t h state s. inl (λ o. same);
      leaves = λ t h. leaves_fault a.files b.files page.Memory (kept t h);
      stored = λ t h. record { unwritten = inr same; answered = λ more. absurd (more tt) };
      whole = λ t h state s d. d;
      evident = tt;
      folder = λ e. absurd cc;
      sink = λ e. absurd cc;
    }
    by (page.Damaged d) kept whole cause evident = record {
      done = λ d. d;
      ends = λ t h state s. whole t h state s;
      leaves = λ t h. leaves_fault a.files b.files (page.Damaged d) (kept t h);
      stored = λ t h. record { unwritten = inr same; answered = λ more. absurd (more tt) };
      whole = λ t h state s d. whole t h state s;
      evident = evident;
      folder = λ e. absurd cc;
      sink = λ e. absurd cc;
    }

-- ---- from elsewhere

-- a damage of files that are trusted more
status_less : (T U : Type 0) (files : Files) (s : Status) → (U → T) → OnStatusDamage s (IsEvident T files) → OnStatusDamage s (IsEvident U files)
status_less T U files (status.Damaged d) back h = on_evident_less {X = ℕ} T U files (Err (page.Damaged d)) back h
status_less T U files status.Usage back h = tt
status_less T U files status.SourceFault back h = tt
status_less T U files status.TooLarge back h = tt
status_less T U files status.Done back h = tt
status_less T U files (status.SomeRefused count) back h = tt
status_less T U files status.SinkFault back h = tt
status_less T U files status.Memory back h = tt
status_less T U files status.FolderFault back h = tt

-- and of files that are trusted whatever they hold
pub all_evident : (told : Type 0) (files : Files) (s : Status) → OnStatusDamage s (IsEvident (told × Unit {0}) files) → OnStatusDamage s (IsEvident told files)
all_evident told files s = status_less (told × Unit {0}) told files s (λ t. (t, tt))

-- another status, which is the same
pub status_is : (told out trusts : Type 0) (lines : List (List ℕ)) (a b : MergeMoment) (r : Result ℕ Stop) (s : Status) → s ≡ status_of r
    → MergesBatch told out trusts lines a b (status_of r) → MergesBatch told out trusts lines a b s
status_is told out trusts lines a b r s is merges = subst (MergesBatch told out trusts lines a b) (sym is) merges

-- after a call that left the files and the text
pub merges_after : {U : Type 0} (told out trusted trusts : Type 0) (lines : List (List ℕ)) (a b c : MergeMoment) (x : U) (s : Status)
    → (told → b.files ≡ a.files)
    → b.written ≡ a.written → b.sink ≡ a.sink
    → HasPageCause a.faults b.faults (Ok x) → (told → trusted → trusts) → MergesBatch told out trusts lines b c s → MergesBatch told out trusted lines a c s
merges_after told out trusted trusts lines a b c x s files written sink cause more merges = record {
  done = merges.done;
  ends = λ t h state stored. subst (λ (w : List ℕ). EndsMerging out (TellsBatch state) lines w c.written s) written
      (merges.ends t (more t h) state (subst (λ (f : Files). IsStored f state) (sym (files t)) stored));
  leaves = λ t h. subst (λ (f : Files). MergeLeaves f c.files s) (files t) (merges.leaves t (more t h));
  stored = λ t h. record {
    unwritten = ⊎_elim (λ there. inl (subst StoresSome (files t) there)) (λ same. inr (same ∙ written)) (merges.stored t (more t h)).unwritten;
    answered = λ tells. subst StoresSome (files t) ((merges.stored t (more t h)).answered tells);
  };
  whole = λ t h state stored. merges.whole t (more t h) state (subst (λ (f : Files). IsStored f state) (sym (files t)) stored);
  evident = status_less (told × trusts) (told × trusted) c.files s (λ h. (h.0, more h.0 h.1)) merges.evident;
  folder = λ e. subst (λ n. Rose n c.faults) cause.on_ok (merges.folder e);
  sink = λ e. subst (λ n. Rose n c.sink) sink (merges.sink e);
}

-- ---- the text goes out

-- where the text of all lines is sent, all lines are told
pub text_whole : (out : Type 0) (state : State) (lines : List (List ℕ)) (text : List ℕ) (refused : ℕ) (old new : List ℕ) → IsBatchText state lines text refused
    → (out → new ≡ old ++ text)
    → TellsAll out (TellsBatch state) 1 lines old new refused
text_whole out state lines text refused old new is sent =
    record { of_lines = is.of_lines; all = is.all; text = λ o. sent o ∙ ap (λ (w : List ℕ). old ++ w) (is.text tt); count = is.count }

ends_counted : (out : Type 0) (state : State) (lines : List (List ℕ)) (old new : List ℕ) (count : ℕ) (b : Bool) → (count == 0) ≡ b
    → TellsAll out (TellsBatch state) 1 lines old new count → EndsMerging out (TellsBatch state) lines old new (counted b count)
ends_counted out state lines old new count true is all =
    let none : count ≡ 0 = grind (arith, nat_tests) in
    subst (λ n. TellsAll out (TellsBatch state) 1 lines old new n) none all
ends_counted out state lines old new count false is all =
    let some : 1 ≤ count = grind (arith, nat_tests) in
    (some, all)

pub ends_whole : (out : Type 0) (state : State) (lines : List (List ℕ)) (old new : List ℕ) (count : ℕ) → TellsAll out (TellsBatch state) 1 lines old new count
    → EndsMerging out (TellsBatch state) lines old new (status_of (Ok count))
ends_whole out state lines old new count all = ends_counted out state lines old new count (count == 0) refl all

-- or a part of it
pub ends_cut : (out : Type 0) (state : State) (lines : List (List ℕ)) (text : List ℕ) (refused : ℕ) (old new : List ℕ) → IsBatchText state lines text refused
    → (out → WritesPart old new text)
    → CutsAll out (TellsBatch state) lines old new
ends_cut out state lines text refused old new is part =
    record { of_lines = is.of_lines; all = is.all; text = λ o. subst (λ (w : List ℕ). WritesPart old new w) (is.text tt) (part o) }

whole_by : (b : Bool) (count : ℕ) → IsDamaged (counted b count) → ⊥
whole_by true count d = d
whole_by false count d = d

pub counted_whole : (count : ℕ) → IsDamaged (status_of (Ok count)) → ⊥
counted_whole count d = whole_by (count == 0) count d

shows_by : (told : Type 0) (files : Files) (b : Bool) (count : ℕ) → OnStatusDamage (counted b count) (IsEvident told files)
shows_by told files true count = tt
shows_by told files false count = tt

pub counted_shows : (told : Type 0) (files : Files) (count : ℕ) → OnStatusDamage (status_of (Ok count)) (IsEvident told files)
counted_shows told files count = shows_by told files (count == 0) count

kept_by : (old new : Files) (b : Bool) (count : ℕ) → MergeKeeps old new (counted b count)
kept_by old new true count = tt
kept_by old new false count = tt

pub counted_kept : (old new : Files) (count : ℕ) → MergeKeeps old new (status_of (Ok count))
counted_kept old new count = kept_by old new (count == 0) count

pub counted_folder : (count : ℕ) {P : Type 0} → status_of (Ok count) ≡ status.FolderFault → P
counted_folder count e = no_folder (count == 0) count e

pub counted_sink : (count : ℕ) {P : Type 0} → status_of (Ok count) ≡ status.SinkFault → P
counted_sink count e = no_sink (count == 0) count e

-- ---- what was sent

pub sent_part : (text reply old new : List ℕ) (e : Stop) → reply ≡ text → IsErrOf {T = ℕ} (Err e) stop.SinkFault → IsSentPart reply old new e
    → WritesPart old new text
sent_part text reply old new e same only cut =
    let is : e ≡ stop.SinkFault = cc in
    subst (λ (w : List ℕ). WritesPart old new w) same (subst (IsSentPart reply old new) is cut)

pub sent_whole : (text reply old new : List ℕ) → reply ≡ text → new ≡ old ++ reply → new ≡ old ++ text
sent_whole text reply old new same grew = grew ∙ ap (λ (w : List ℕ). old ++ w) same

-- another number of refused lines, which is the same
pub status_known : (told out trusts : Type 0) (lines : List (List ℕ)) (a b : MergeMoment) (n m : ℕ) → m ≡ n
    → MergesBatch told out trusts lines a b (status_of (Ok n))
    → MergesBatch told out trusts lines a b (status_of (Ok m))
status_known told out trusts lines a b n m same merges = subst (λ (k : ℕ). MergesBatch told out trusts lines a b (status_of (Ok k))) (sym same) merges
