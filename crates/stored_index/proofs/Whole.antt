-- Files hold one index and store one state.
use Rattle.std.proofs.Common.{◌≡◌, ◌≤◌, ℕ, List, [], length, Some, None, refl, sym, ap, subst, ◌∙◌, arith}
use Rattle.std.specs.List.{AllZip}
use Rattle.std.proofs.lemmas.List.Sorted.{IsPermutation-refl}
use Rattle.outer_io.specs.declared.file_name.FileName.TheVariants.{Commit}
use Rattle.outer_io.specs.Files.{Files, bytes_of}
use Rattle.documents.specs.Documents.{Document}
use Rattle.documents.specs.Entries.{AreDocs}
use Rattle.documents.proofs.Kept.{no_docs}
use Rattle.documents.proofs.OneList.{one_list}
use Rattle.index_model.specs.State.{Index, State}
use Rattle.commit_list.specs.declared.listed.Listed.{Listed}
use Rattle.commit_list.specs.Commits.{CommitData}
use Rattle.commit_list.specs.CommitFiles.{IsCommitFile}
use Rattle.commit_list.proofs.CommitPages.{one_file, file_there}
use Rattle.stored_index.specs.Segments.{SegmentData, all_live_entries, live_sets, places}
use Rattle.stored_index.specs.Stored.{HoldsFiles, HoldAll, HoldsIndex, HoldsState, IsStored, index_of}
use Rattle.stored_index.proofs.Parts.{EntriesOnce, all_once}

pub docs_once : EntriesOnce → (files : Files) (c : CommitData) (docs others : List Document) → HoldsIndex files c docs → HoldsIndex files c others
    → docs ≡ others
docs_once once files c docs others p q =
    let parts = all_once once files c p.parts q.parts p.segments q.segments in
    one_list c.next c.next (all_live_entries q.parts) (all_live_entries q.parts) docs others
    (subst (λ (ds : List SegmentData). AreDocs c.next (all_live_entries ds) docs) parts p.are_docs) q.are_docs (IsPermutation-refl (all_live_entries q.parts))

index_once : EntriesOnce → (files : Files) (i j : Index) → HoldsState files i → HoldsState files j → i ≡ j
index_once once files i j p q =
    let commit : p.commit ≡ q.commit = one_file (bytes_of (files Commit)) p.commit q.commit p.holds.commit q.holds.commit in
    let docs : i.docs ≡ j.docs = docs_once once files q.commit i.docs j.docs (subst (λ (c : CommitData). HoldsIndex files c i.docs) commit p.holds) q.holds in
    p.is ∙ ap (λ (c : CommitData). index_of c i.docs) commit ∙ ap (index_of q.commit) docs ∙ sym q.is

-- an index is held only where there is a Commit file
never_without : (files : Files) (i : Index) → HoldsState files i → files Commit ≡ None → ⊥
never_without files i p none = let there = (file_there (files Commit) p.commit p.holds.commit).0 in cc

pub state_once : EntriesOnce → (files : Files) (s t : State) → IsStored files s → IsStored files t → s ≡ t
state_once once files None None p q = refl
state_once once files None (Some j) p q = absurd (never_without files j q p)
state_once once files (Some i) None p q = absurd (never_without files i p q)
state_once once files (Some i) (Some j) p q = ap Some (index_once once files i j p q)

-- the index that is held for the commit that the Commit file says
pub held_for : (files : Files) (c : CommitData) (state : State) → IsStored files state → IsCommitFile (bytes_of (files Commit)) c
    → (docs : List Document) × HoldsIndex files c docs × (state ≡ Some (index_of c docs))
held_for files c None p says = let there = (file_there (files Commit) c says).0 in cc
held_for files c (Some i) p says =
    let commit : p.commit ≡ c = one_file (bytes_of (files Commit)) p.commit c p.holds.commit says in
    (i.docs, subst (λ (d : CommitData). HoldsIndex files d i.docs) commit p.holds, ap Some (p.is ∙ ap (λ (d : CommitData). index_of d i.docs) commit))

-- ---- from its pieces

pub stored_from : (files : Files) (c : CommitData) (parts : List SegmentData) (docs : List Document) → IsCommitFile (bytes_of (files Commit)) c
    → HoldAll files c parts
    → ((number : ℕ) → places number (live_sets parts) ≤ 1) → AreDocs c.next (all_live_entries parts) docs → length (all_live_entries parts) ≤ c.points_given
    → IsStored files (Some (index_of c docs))
stored_from files c parts docs says held alone are few = record {
  commit = c;
  holds = record { commit = says; parts = parts; segments = held; alone = alone; are_docs = are; few = few };
  is = refl;
}

pub none_stored : (files : Files) (c : CommitData) → IsCommitFile (bytes_of (files Commit)) c → c.listed ≡ [] → IsStored files (Some (index_of c []))
none_stored files c says none =
    stored_from files c [] [] says (subst (λ (listed : List Listed). AllZip (HoldsFiles files c) listed []) (sym none) tt) (λ number. omega arith)
    (no_docs c.next) (omega arith)

-- what is damage neither without a Commit file nor with a commit in it is none where a state is stored
pub not_damaged : {P : Type 0} (files : Files) (state : State) → IsStored files state → (files Commit ≡ None → P)
    → ((c : CommitData) → IsCommitFile (bytes_of (files Commit)) c → P) → P
not_damaged files None h absent whole = absent h
not_damaged files (Some i) h absent whole = whole h.commit h.holds.commit

-- a folder without a Commit file stores no index
pub no_index : (files : Files) (state : State) → files Commit ≡ None → IsStored files state → state ≡ None
no_index files None none h = refl
no_index files (Some i) none h = absurd (let there = (file_there (files Commit) h.commit h.holds.commit).0 in cc)
