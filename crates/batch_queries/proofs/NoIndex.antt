-- A batch with a merge where no index is there: nothing is stored, and nothing is asked of the folder.
use Rattle.std.proofs.Common.{◌≡◌, ◌++◌, ℕ, List, Some, None, Result, Ok, Err, IfOk, OnErr, IsErrOf, refl, sym, ap, subst, ◌⊎◌, inl, inr, ⊎_elim}
use Rattle.outer_io.specs.Counts.{Rose}
use Rattle.outer_io.specs.declared.file_name.FileName.TheVariants.{Commit}
use Rattle.outer_io.specs.Files.{Files}
use Rattle.outer_io.specs.Parts.{WritesPart}
use Rattle.index_model.specs.State.{State}
use Rattle.stored_index.specs.Kept.{SameKept}
use Rattle.stored_index.specs.Stored.{IsStored}
use Rattle.stored_index.proofs.KeptFiles.{kept_itself}
use Rattle.index_core.proofs.Guarding.{says_some}
use Rattle.index_core.proofs.Undone.{kept_equal}
use Rattle.run_status.specs.Sent.{IsSent}
use Rattle.run_status.specs.Stops.{status_of}
use Rattle.run_status.specs.declared.status.Status.{Status}
use Rattle.run_status.specs.declared.status.Status.TheVariants as status
use Rattle.run_status.specs.declared.stop.Stop.{Stop}
use Rattle.run_status.specs.declared.stop.Stop.TheVariants as stop
use Rattle.run_status.proofs.Ending.{does_lines}
use Rattle.batch_queries.specs.Batched.{IsBatchText, TellsBatch}
use Rattle.batch_queries.specs.Ends.{CutsAll}
use Rattle.batch_queries.specs.Merging.{EndsMerging, MergeKeeps, MergeLeaves}
use Rattle.batch_queries.specs.MergeRuns.{MergesBatch, MergeMoment}
use Rattle.batch_queries.proofs.MergeCalls.{text_whole, ends_whole, ends_cut, counted_whole, counted_shows, counted_kept, counted_folder, counted_sink}

-- ---- where no index is there

-- nothing is stored, and nothing is asked of the folder
none_stored : (files : Files) (state : State) → files Commit ≡ None → IsStored files state → None ≡ state
none_stored files None none h = refl
none_stored files (Some i) none h = absurd (says_some files h.commit none h.holds.commit)

none_leaves : (files : Files) (s : Status) → files Commit ≡ None → MergeKeeps files files s → MergeLeaves files files s
none_leaves files s none kept = record {
  stored = λ state h. h;
  kept = kept;
  lasting = inl (kept_itself files);
  merged = λ a c says. absurd (says_some files c none says);
  levels = λ a. inl refl;
  canon = λ a c says l inside apart head has. absurd (says_some files c none says);
}

-- what was sent went out whole, or the sink failed
pub sent_how : {T : Type 0} (known : T) (r : Result T Stop) → IfOk r (λ x. x ≡ known) → OnErr r (IsErrOf r stop.SinkFault) → (r ≡ Ok known)
    ⊎ (r ≡ Err stop.SinkFault)
sent_how known (Ok x) same only = inl (ap Ok same)
sent_how known (Err e) same only = inr only

pub none_told : (told out : Type 0) (lines : List (List ℕ)) (a b : MergeMoment) (text : List ℕ) (refused : ℕ) (r : Result ℕ Stop) → b.files ≡ a.files
    → IsBatchText None lines text refused
    → (out → IsSent text a.written b.written r) → (IsErrOf r stop.SinkFault → Rose a.sink b.sink) → (r ≡ Ok refused) ⊎ (r ≡ Err stop.SinkFault)
    → MergesBatch told out (a.files Commit ≡ None) lines a b (status_of r)
none_told told out lines a b text refused r same is sent rose how =
    ⊎_elim
    (λ ok. subst (λ (q : Result ℕ Stop). MergesBatch told out (a.files Commit ≡ None) lines a b (status_of q)) (sym ok)
    (done (subst (λ (q : Result ℕ Stop). out → IsSent text a.written b.written q) ok sent)))
    (λ cut. subst (λ (q : Result ℕ Stop). MergesBatch told out (a.files Commit ≡ None) lines a b (status_of q)) (sym cut)
    (failed (subst (λ (q : Result ℕ Stop). out → IsSent text a.written b.written q) cut sent) (rose cut)))
    how
  where
    same_kept : SameKept a.files b.files
    same_kept = kept_equal a.files b.files same

    done : (out → b.written ≡ a.written ++ text) → MergesBatch told out (a.files Commit ≡ None) lines a b (status_of (Ok refused))
    done sent = record {
      done = does_lines (Ok refused);
      ends = λ t none state h. subst (λ (s : State). EndsMerging out (TellsBatch s) lines a.written b.written (status_of (Ok refused)))
          (none_stored a.files state none h)
          (ends_whole out None lines a.written b.written refused (text_whole out None lines text refused a.written b.written is sent));
      leaves = λ t none. subst (λ (f : Files). MergeLeaves a.files f (status_of (Ok refused))) (sym same)
          (none_leaves a.files (status_of (Ok refused)) none (counted_kept a.files a.files refused));
      stored = λ t none. record { unwritten = inl (None, none); answered = λ tells. (None, none) };
      whole = λ t none state h. counted_whole refused;
      evident = counted_shows (told × (a.files Commit ≡ None)) b.files refused;
      folder = λ e. counted_folder refused e;
      sink = λ e. counted_sink refused e;
    }

    failed : (out → WritesPart a.written b.written text) → Rose a.sink b.sink
        → MergesBatch told out (a.files Commit ≡ None) lines a b (status_of (Err stop.SinkFault))
    failed part rises = record {
      done = λ d. d;
      ends = λ t none state h. subst (λ (s : State). CutsAll out (TellsBatch s) lines a.written b.written) (none_stored a.files state none h)
          (ends_cut out None lines text refused a.written b.written is part);
      leaves = λ t none. subst (λ (f : Files). MergeLeaves a.files f status.SinkFault) (sym same)
          (none_leaves a.files status.SinkFault none (kept_itself a.files));
      stored = λ t none. record { unwritten = inl (None, none); answered = λ tells. (None, none) };
      whole = λ t none state h d. d;
      evident = tt;
      folder = λ e. absurd cc;
      sink = λ e. rises;
    }
