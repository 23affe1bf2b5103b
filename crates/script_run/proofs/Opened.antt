-- A session on the index that a run begins with.
use Rattle.std.proofs.Common.{◌≡◌, ℕ, All, Some, None, Result, Ok, Err, IfOk, sym, ap, ◌∙◌, subst}
use Rattle.outer_io.specs.Files.{Files, bytes_of}
use Rattle.outer_io.specs.declared.file_name.FileName.TheVariants.{Commit}
use Rattle.page_cache.specs.declared.faults.PageFault.{PageFault}
use Rattle.commit_list.specs.Commits.{CommitData}
use Rattle.commit_list.specs.CommitFiles.{IsCommitFile}
use Rattle.commit_list.proofs.CommitPages.{one_file}
use Rattle.commands.specs.Opens.{Opens}
use Rattle.commands.proofs.Opening.{opens_parts}
use Rattle.index_model.specs.State.{Index, State, new_index}
use Rattle.stored_index.specs.Stored.{IsStored, index_of}
use Rattle.stored_index.proofs.Whole.{held_for}
use Rattle.segment_set.specs.Faithful.{HasFileHead, IsFaithful}
use Rattle.segment_set.specs.Seen.{Sees}
use Rattle.index_core.specs.Sessions.{SessionData, Guards, IsLast, IsLastCommit, IsUnchanged}
use Rattle.script_run.specs.LineAnswers.{IsSessionOf}

-- one whose Commit file says a commit stores one
pub some_stored : (files : Files) (c : CommitData) (state : State) → IsCommitFile (bytes_of (files Commit)) c → IsStored files state
    → (i : Index) × (state ≡ Some i) × IsStored files (Some i)
some_stored files c state says h =
    let held = held_for files c state h says in
    (index_of c held.0, held.2, subst (IsStored files) held.2 h)

-- a new session stands over files without a Commit file
pub made_stands : (D dims leaf_size : ℕ) (files : Files) (s : SessionData) (i : Index) (stored : State) → dims ≡ D → Sees D files s.set (new_index D leaf_size)
    → (files Commit ≡ None → Guards D files s)
    → (files Commit ≡ None) × (i ≡ new_index dims leaf_size) × (stored ≡ None) → IsSessionOf D files s i stored
made_stands D dims leaf_size files s i stored d seen guards h = record {
  seen = subst (Sees D files s.set) (sym (h.1 ∙ ap (λ n. new_index n leaf_size) d)) seen;
  guards = guards h.0;
  keeps = subst (IsStored files) (sym h.2) h.0;
}

-- one that is attached stands over the files, which stay
pub attached_stands : (D : ℕ) (old new : Files) (i : Index) (stored : State) (result : Result SessionData PageFault) → IfOk result (λ s. Sees D old s.set i)
    → IfOk result (Guards D old)
    → new ≡ old → IsStored old (Some i) → stored ≡ Some i → IfOk result (λ s. IsSessionOf D new s i stored)
attached_stands D old new i stored (Err e) seen guards same h is = tt
attached_stands D old new i stored (Ok s) seen guards same h is =
    subst (λ f. IsSessionOf D f s i stored) (sym same) (record { seen = seen; guards = guards; keeps = subst (IsStored old) (sym is) h })

-- all that the commit lists was opened by the session that was attached
session_opens : (D : ℕ) (files : Files) (c : CommitData) (s : SessionData) → c.dims ≡ D → IsCommitFile (bytes_of (files Commit)) c → Guards D files s
    → IsFaithful D files s.set → IsUnchanged s → Opens files
session_opens D files c s dims says guards faithful unchanged =
    let last : IsLastCommit files s.set unchanged.commit = subst (IsLast files s.set) unchanged.is (guards.last unchanged.done) in
    let same = ap (λ (d : CommitData). d.dims) (one_file (bytes_of (files Commit)) unchanged.commit c last.says says) ∙ dims in
    opens_parts files unchanged.commit s.set.parts last.says unchanged.same.ids
    (subst (λ (n : ℕ). All (HasFileHead n files) s.set.parts) (sym same) faithful.heads)
    (λ l p there inside is. let k = last.covers l p there inside is in (k.live, k.file))

pub attached_opens : (D : ℕ) (files : Files) (c : CommitData) (result : Result SessionData PageFault) → c.dims ≡ D
    → IsCommitFile (bytes_of (files Commit)) c → IfOk result (Guards D files)
    → IfOk result (λ s. IsFaithful D files s.set) → IfOk result IsUnchanged → IfOk result (λ s. Opens files)
attached_opens D files c (Ok s) dims says guards faithful unchanged = session_opens D files c s dims says guards faithful unchanged
attached_opens D files c (Err e) dims says guards faithful unchanged = tt
