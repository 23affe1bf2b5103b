-- A session is opened: where it starts, and what it knows of the files there.
use Rattle.std.proofs.Common.{◌≡◌, ℕ, All, List, [], None, Some, refl, sym, ap, subst, ◌∙◌}
use Rattle.std.specs.List.{Contains}
use Rattle.outer_io.specs.declared.file_name.FileName.TheVariants.{Commit}
use Rattle.outer_io.specs.Files.{Files, bytes_of}
use Rattle.commit_list.specs.Commits.{CommitData}
use Rattle.commit_list.specs.CommitFiles.{IsCommitFile}
use Rattle.commit_list.proofs.CommitPages.{file_there, one_file}
use Rattle.commands.specs.Opens.{Opens}
use Rattle.commands.proofs.Opening.{opens_parts}
use Rattle.index_model.specs.State.{Index, State, new_index}
use Rattle.script_lang.specs.Reading.{greatest_leaf}
use Rattle.stored_index.specs.Stored.{IsStored, index_of}
use Rattle.stored_index.proofs.Whole.{held_for}
use Rattle.documents.proofs.Lists.{nil_none}
use Rattle.segment_view.specs.LiveSegments.{LiveSegment}
use Rattle.segment_set.specs.Seen.{Sees}
use Rattle.segment_set.specs.Faithful.{HasFileHead, IsFaithful}
use Rattle.index_core.specs.KeptLive.{FindsKept, IsKeptWithout}
use Rattle.index_core.specs.Sessions.{Guards, IsLast, IsLastCommit, IsSetTraced, IsUnchanged, SessionData}
use Rattle.index_core.proofs.Guarding.{says_some}
use Rattle.index_core.proofs.Listed.{attached_listed}
use Rattle.load_points.specs.Loaded.{opened_state}
use Rattle.load_points.specs.Loads.{HasKept, IsLoading, StartsFrom, StartsNone}

-- a folder without a Commit file stores no index, and one whose Commit file says a commit stores one
pub none_stored : (files : Files) (state : State) → files Commit ≡ None → IsStored files state → StartsNone files state
none_stored files None none h = (refl, none)
none_stored files (Some i) none h = absurd (let there = (file_there (files Commit) h.commit h.holds.commit).0 in cc)

pub some_stored : (files : Files) (c : CommitData) (state : State) → IsCommitFile (bytes_of (files Commit)) c → IsStored files state → StartsFrom files c state
some_stored files c state says h =
    let held = held_for files c state h says in
    (says, (index_of c held.0, held.2, subst (IsStored files) held.2 h))

pub made_loading : (D leaf_size : ℕ) (files : Files) (s : SessionData) (stored : State) → leaf_size ≡ greatest_leaf D
    → Sees D files s.set (new_index D leaf_size) → (files Commit ≡ None → Guards D files s)
    → s.set.parts ≡ [] → StartsNone files stored → IsLoading D files s stored
made_loading D leaf_size files s stored is seen guards bare (none, absent) = record {
  index = new_index D leaf_size;
  seen = seen;
  guards = guards absent;
  keeps = subst (IsStored files) (sym none) absent;
  is = ap (opened_state D) none ∙ ap (λ n. Some (new_index D n)) (sym is);
  listed = λ p there apart. nil_none p ⊥ (subst (λ (ps : List LiveSegment). Contains ps p) bare there);
}

pub attached_loading : (D : ℕ) (files : Files) (c : CommitData) (s : SessionData) (stored : State)
    → ((i : Index) → IsStored files (Some i) → Sees D files s.set i) → Guards D files s → IsUnchanged s
    → StartsFrom files c stored → IsLoading D files s stored
attached_loading D files c s stored seen guards unchanged (says, (i, is, holds)) = record {
  index = i;
  seen = seen i holds;
  guards = guards;
  keeps = subst (IsStored files) (sym is) holds;
  is = ap (opened_state D) is;
  listed = attached_listed D files s guards unchanged;
}

-- all that the commit lists was opened by the session that was attached
pub attached_opens : (D : ℕ) (files : Files) (c : CommitData) (s : SessionData) → c.dims ≡ D → IsCommitFile (bytes_of (files Commit)) c → Guards D files s
    → IsFaithful D files s.set → IsUnchanged s → Opens files
attached_opens D files c s dims says guards faithful unchanged =
    let last : IsLastCommit files s.set unchanged.commit = subst (IsLast files s.set) unchanged.is (guards.last unchanged.done) in
    let same = ap (λ (d : CommitData). d.dims) (one_file (bytes_of (files Commit)) unchanged.commit c last.says says) ∙ dims in
    opens_parts files unchanged.commit s.set.parts last.says unchanged.same.ids
    (subst (λ (n : ℕ). All (HasFileHead n files) s.set.parts) (sym same) faithful.heads)
    (λ l p there inside is. let k = last.covers l p there inside is in (k.live, k.file))

-- ---- the files are trusted, and what they keep live is there

-- where there is no Commit file, nothing is kept, and a new session has no segment
pub made_trusts : (D : ℕ) (files : Files) (s : SessionData) → (files Commit ≡ None → Guards D files s) → IsFaithful D files s.set → s.set.parts ≡ []
    → IsSetTraced D files s.set → files Commit ≡ None → HasKept D files s
made_trusts D files s guards faithful bare traced none = record {
  trusts = record {
    guards = guards none;
    faithful = faithful;
    traced = traced;
  };
  finds = record {
    live = λ number kept. absurd (says_some files kept.commit none kept.says);
    lost = λ number h. nil_none h.part (IsKeptWithout files number) (subst (λ (ps : List LiveSegment). Contains ps h.part) bare h.there);
  };
}

-- where the files are the same, what is so there of a session that was attached is so still
pub trusts_still : (D : ℕ) (old new : Files) (s : SessionData) → new ≡ old → Guards D old s → IsFaithful D old s.set → IsSetTraced D old s.set
    → FindsKept D old s.set → HasKept D new s
trusts_still D old new s same guards faithful traced finds = subst (λ (f : Files). HasKept D f s) (sym same)
    (record { trusts = record { guards = guards; faithful = faithful; traced = traced }; finds = finds })
