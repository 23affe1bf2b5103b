-- The same with a session: the batch is answered while the merge begins, the text goes out, and the merge is ended.
use Rattle.std.proofs.Common.{◌≡◌, ◌+◌, ◌++◌, ℕ, true, List, map, take, Some, None, Result, Ok, Err}
use Rattle.std.proofs.Common.{OnOk}
use Rattle.std.proofs.Common.{refl, sym, ap, subst, ◌∙◌, ◌⊎◌, inl, inr, ⊎_elim}
use Rattle.std.specs.List.{Contains}
use Rattle.std.proofs.lemmas.Bool.{both_ways}
use Rattle.std.proofs.lemmas.List.{take-map}
use Rattle.outer_io.specs.Counts.{Rose}
use Rattle.outer_io.specs.declared.file_name.FileName.TheVariants.{Commit, Segment}
use Rattle.outer_io.specs.Files.{Files, bytes_of}
use Rattle.outer_io.specs.Parts.{WritesPart}
use Rattle.documents.specs.Entries.{is_among}
use Rattle.documents.proofs.Kept.{among_from}
use Rattle.documents.proofs.Lists.{in_map, of_map}
use Rattle.page_cache.specs.declared.faults.PageFault.{PageFault}
use Rattle.page_cache.specs.declared.faults.PageFault.TheVariants as page
use Rattle.page_cache.specs.Evidence.{NotDamaged, OnDamage}
use Rattle.commit_list.specs.declared.listed.Listed.{Listed}
use Rattle.commit_list.specs.Commits.{CommitData}
use Rattle.commit_list.proofs.CommitPages.{one_file}
use Rattle.index_model.specs.State.{Index, State, at_rest, new_index}
use Rattle.stored_index.specs.Kept.{ListsFile}
use Rattle.stored_index.specs.Stored.{IsStored}
use Rattle.stored_index.proofs.KeptFiles.{kept_after, stored_still}
use Rattle.index_opening.specs.Evidence.{IsEvident}
use Rattle.index_opening.proofs.Evident.{on_evident_less}
use Rattle.segment_view.specs.LiveSegments.{LiveSegment, ids_of}
use Rattle.index_core.specs.Brought.{KeepsCommit}
use Rattle.index_core.specs.Sessions.{IsLast, Trusts}
use Rattle.index_core.specs.Steps.{FaultKeeps, KeepsUndone}
use Rattle.index_core.specs.Whole.{HasNewCanonical, SessionMoment}
use Rattle.index_core.proofs.Bringing.{brings_then}
use Rattle.index_core.proofs.Brought.{commit_after}
use Rattle.index_core.proofs.Guarding.{says_some}
use Rattle.index_core.proofs.Listed.{attached_listed, new_canonical}
use Rattle.index_core.proofs.Undone.{levels_after, undone_after}
use Rattle.run_status.specs.Stops.{status_of, stop_of}
use Rattle.run_status.specs.Told.{TellsAll}
use Rattle.run_status.specs.declared.stop.Stop.{Stop}
use Rattle.run_status.specs.declared.stop.Stop.TheVariants as stop
use Rattle.run_status.proofs.Ending.{does_lines}
use Rattle.batch_run.specs.declared.resident.Resident.{Resident}
use Rattle.batch_run.specs.Copies.{IsCommitIn}
use Rattle.batch_queries.specs.Batched.{IsBatchText, TellsBatch}
use Rattle.batch_queries.specs.Ends.{CutsAll}
use Rattle.batch_queries.specs.Merging.{EndsMerging, MergesFirst, WholeOrNone, merged_count}
use Rattle.batch_queries.specs.MergeRuns.{BeginsMerge, EndsMerge, IsBegun, IsMergeDone, AreOpen, MergesBatch, MergeMoment, first_ids}
use Rattle.batch_queries.proofs.MergeCalls.{counted_folder, counted_kept, counted_shows, counted_sink, counted_whole, ends_cut, ends_whole, stopped, text_whole}

-- a state that is stored where an index is, is an index
an_index : (files : Files) (i : Index) (state : State) → IsStored files (Some i) → IsStored files state → (P : State → Type 0)
    → ((j : Index) → IsStored files (Some j) → P (Some j)) → P state
an_index files i None is h P by = absurd (says_some files is.commit h is.holds.commit)
an_index files i (Some j) is h P by = by j h

-- what is stored is at rest
rests : (files : Files) (i : Index) → IsStored files (Some i) → at_rest i ≡ i
rests files i h = ap at_rest h.is ∙ sym h.is

module _ (D : ℕ) (told out : Type 0) (r : Resident D) (lines : List (List ℕ)) (a b : SessionMoment) (old new : List ℕ) (before now : ℕ) where
  abbrev from : MergeMoment
  from = record { files = a.files; faults = a.faults; written = old; sink = before }

  abbrev trusts : Type 0
  trusts = AreOpen D a.files r a.session

  abbrev Texts : (text : List ℕ) (refused : ℕ) → Type 0
  Texts text refused = trusts → (i : Index) → IsStored a.files (Some i) → IsBatchText (Some i) lines text refused

  -- a fault while it is answered
  pub beside_stopped : {T : Type 0} (fault : PageFault) (q : Result ℕ Stop) → q ≡ Err (stop_of fault) → BeginsMerge {T = T} D told r a b (Err fault)
      → MergesBatch told out trusts lines from (record { files = b.files; faults = b.faults; written = old; sink = before }) (status_of q)
  beside_stopped {T} fault q is begins =
      stopped {T = T} told out trusts lines from _ fault q is begins.kept (λ t h state s. begins.whole t h) begins.cause begins.evident refl

  -- the sink failed, while the merge was begun beside it
  pub beside_cut : {T : Type 0} (y : T) (text : List ℕ) (refused : ℕ) (q : Result ℕ Stop) → q ≡ Err stop.SinkFault → BeginsMerge D told r a b (Ok y)
      → Texts text refused
      → (out → WritesPart old new text) → Rose before now
      → MergesBatch told out trusts lines from (record { files = b.files; faults = b.faults; written = new; sink = now }) (status_of q)
  beside_cut y text refused q is begins texts part rises =
      subst (λ (w : Result ℕ Stop). MergesBatch told out trusts lines from (record { files = b.files; faults = b.faults; written = new; sink = now })
      (status_of w)) (sym is) (record {
        done = λ d. d;
        ends = λ t o state h. an_index a.files o.index state o.stored h (λ s. CutsAll out (TellsBatch s) lines old new)
            (λ i stored. ends_cut out (Some i) lines text refused old new (texts o i stored) part);
        leaves = λ t o. record {
          stored = λ state h. stored_still a.files b.files state (begins.kept t o) h;
          kept = begins.kept t o;
          lasting = inl (begins.kept t o);
          merged = λ w. absurd w;
          levels = λ w. absurd w;
          canon = λ w. absurd w;
        };
        stored = λ t o. record { unwritten = inl (Some o.index, o.stored); answered = λ tells. (Some o.index, o.stored) };
        whole = λ t o state h d. d;
        evident = tt;
        folder = λ e. absurd cc;
        sink = λ e. rises;
      })

  module _ {T U : Type 0} (y : T) (text : List ℕ) (refused : ℕ) (begins : BeginsMerge D told r a b (Ok y)) (texts : Texts text refused)
      (sent : out → new ≡ old ++ text)
      (c : SessionMoment) (e : Result U PageFault) (ends : (ids : List ℕ) (i : Index) → EndsMerge D told ids i b c e) where
    abbrev to : MergeMoment
    to = record { files = c.files; faults = c.faults; written = new; sink = now }

    abbrev ids : List ℕ
    ids = first_ids a.session

    is_begun : told → trusts → (i : Index) → IsStored a.files (Some i) → IsBegun D b.files b.session ids i
    is_begun t o i h = begins.begun t o i h

    still : told → trusts → (state : State) → IsStored a.files state → IsStored c.files state
    still t o state h = an_index a.files o.index state o.stored h (λ s. IsStored c.files s)
        (λ i stored. ⊎_elim
        (λ same. stored_still a.files c.files (Some i) (kept_after a.files b.files c.files (begins.kept t o) same) stored)
        (λ there. subst (λ (j : Index). IsStored c.files (Some j)) (rests a.files i stored) there)
        ((ends ids i).keeps t (is_begun t o i stored)))

    undone : told → trusts → KeepsUndone a.files c.files e
    undone t o = undone_after a.files b.files c.files e (begins.kept t o) ((ends ids o.index).undone t (is_begun t o o.index o.stored))

    lasting : told → trusts → KeepsCommit a.files c.files
    lasting t o = commit_after a.files b.files c.files (begins.kept t o) ((ends ids o.index).lasting t (is_begun t o o.index o.stored))

    told_whole : trusts → (i : Index) → IsStored a.files (Some i) → TellsAll out (TellsBatch (Some i)) 1 lines old new refused
    told_whole o i stored = text_whole out (Some i) lines text refused old new (texts o i stored) sent

    all_or_none : (state : State) → told → trusts → IsStored a.files state → WholeOrNone out (TellsBatch state) lines old new
    all_or_none state t o h =
        an_index a.files o.index state o.stored h (λ s. WholeOrNone out (TellsBatch s) lines old new) (λ i stored. inr (refused, told_whole o i stored))

    -- the merge was not ended, or not committed
    pub end_stopped : (fault : PageFault) (q : Result ℕ Stop) → q ≡ Err (stop_of fault) → e ≡ Err fault
        → MergesBatch told out trusts lines from to (status_of q)
    end_stopped fault q is failed = subst (λ (w : Result ℕ Stop). MergesBatch told out trusts lines from to (status_of w)) (sym is) (by fault failed)
      where
        kept_by : (f : PageFault) → e ≡ Err f → told → trusts → FaultKeeps a.files c.files f
        kept_by f is t o = subst (λ (w : Result U PageFault). KeepsUndone a.files c.files w) is (undone t o)

        whole_by : (f : PageFault) → e ≡ Err f → told → trusts → NotDamaged {T = U} (Err f)
        whole_by f is t o = subst NotDamaged is ((ends ids o.index).whole t (is_begun t o o.index o.stored))

        by : (f : PageFault) → e ≡ Err f → MergesBatch told out trusts lines from to (status_of (Err (stop_of f)))
        by page.Failed is = record {
          done = λ d. d;
          ends = λ t o state h. all_or_none state t o h;
          leaves = λ t o. record {
            stored = still t o;
            kept = kept_by page.Failed is t o;
            lasting = lasting t o;
            merged = λ w. absurd w;
            levels = λ w. absurd w;
            canon = λ w. absurd w;
          };
          stored = λ t o. record { unwritten = inl (Some o.index, o.stored); answered = λ tells. (Some o.index, o.stored) };
          whole = λ t o state h d. d;
          evident = tt;
          folder = λ same. subst (λ n. Rose n c.faults) begins.cause.on_ok ((ends ids (new_index D 2)).cause.failed is);
          sink = λ w. absurd cc;
        }
        by page.Memory is = record {
          done = λ d. d;
          ends = λ t o state h. all_or_none state t o h;
          leaves = λ t o. record {
            stored = still t o;
            kept = kept_by page.Memory is t o;
            lasting = lasting t o;
            merged = λ w. absurd w;
            levels = λ w. absurd w;
            canon = λ w. absurd w;
          };
          stored = λ t o. record { unwritten = inl (Some o.index, o.stored); answered = λ tells. (Some o.index, o.stored) };
          whole = λ t o state h d. d;
          evident = tt;
          folder = λ w. absurd cc;
          sink = λ w. absurd cc;
        }
        by (page.Damaged d) is = record {
          done = λ d. d;
          ends = λ t o state h. whole_by (page.Damaged d) is t o;
          leaves = λ t o. record {
            stored = still t o;
            kept = kept_by (page.Damaged d) is t o;
            lasting = lasting t o;
            merged = λ w. absurd w;
            levels = λ w. absurd w;
            canon = λ w. absurd w;
          };
          stored = λ t o. record { unwritten = inl (Some o.index, o.stored); answered = λ tells. (Some o.index, o.stored) };
          whole = λ t o state h ends. whole_by (page.Damaged d) is t o;
          evident = on_evident_less {X = U} (told × Trusts D b.files b.session) (told × trusts) c.files (Err (page.Damaged d))
              (λ h. (h.0, (is_begun h.0 h.1 h.1.index h.1.stored).trusts))
              (subst (λ (w : Result U PageFault). OnDamage w (IsEvident (told × Trusts D b.files b.session) c.files)) is (ends ids (new_index D 2)).evident);
          folder = λ w. absurd cc;
          sink = λ w. absurd cc;
        }

    -- where the end answers Ok, the merge is done
    merged : (z : U) → e ≡ Ok z → told → (o : trusts) → IsMergeDone D ids o.index b c
    merged z ok t o = subst (λ (w : Result U PageFault). OnOk w (IsMergeDone D ids o.index b c)) ok ((ends ids o.index).done t (is_begun t o o.index o.stored))

    -- a segment that the first commit listed among the first is one of these
    among_ids : (o : trusts) (k : CommitData) → IsCommitIn a.files k → (l : Listed) → Contains (take merged_count k.listed) l → is_among ids l.segment ≡ true
    among_ids o k says l inside =
        let last = subst (IsLast a.files a.session.set) o.unchanged.is (o.trusts.guards.last o.unchanged.done) in
        let same : o.unchanged.commit ≡ k = one_file (bytes_of (a.files Commit)) o.unchanged.commit k last.says says in
        let first : ids ≡ map (λ (m : Listed). m.segment) (take merged_count k.listed) =
        ap (λ (ns : List ℕ). take merged_count ns) (o.unchanged.same.ids ∙ ap (λ (d : CommitData). map (λ (m : Listed). m.segment) d.listed) same)
        ∙ take-map (λ (m : Listed). m.segment) merged_count k.listed in
        among_from ids l.segment
        (subst (λ (ns : List ℕ). Contains ns l.segment) (sym first) (in_map (λ (m : Listed). m.segment) (take merged_count k.listed) l inside))

    -- and the commit of now lists none of these
    none_listed : (i : Index) → IsMergeDone D ids i b c → (d : CommitData) → c.session.commit ≡ Some d → (id : ℕ) → ListsFile d (Segment id)
        → is_among ids id ≡ true → ⊥
    none_listed i m d is id (s, there, at) among =
        let same : d ≡ m.unchanged.commit = some_inj d m.unchanged.commit (sym is ∙ m.unchanged.is) in
        let listed : Contains (ids_of c.session.set.parts) s.segment =
        subst (λ (ns : List ℕ). Contains ns s.segment) (sym m.unchanged.same.ids)
        (in_map (λ (l : Listed). l.segment) m.unchanged.commit.listed s (subst (λ (k : CommitData). Contains k.listed s) same there)) in
        let found = of_map (λ (p : LiveSegment). p.head.id) c.session.set.parts s.segment listed in
        both_ways (is_among ids found.0.head.id) (m.apart found.0 found.1) (subst (λ n. is_among ids n ≡ true) (sym (found.2 ∙ at)) among)
      where
        some_inj : (x y : CommitData) → Some x ≡ Some y → x ≡ y
        some_inj x y same = cc

    merges_first : (o : trusts) → IsMergeDone D ids o.index b c → MergesFirst a.files c.files
    merges_first o m k says = (m.says.0, m.says.2, λ l inside lists. none_listed o.index m m.says.0 m.says.1 l.segment lists (among_ids o k says l inside))

    all_canonical : told → (o : trusts) → IsMergeDone D ids o.index b c → HasNewCanonical a.files c.files
    all_canonical t o m =
        new_canonical D a.files c.files a.session.set c.session m.index (attached_listed D a.files a.session o.trusts.guards o.unchanged)
        (brings_then D a.files b.files c.files a.session.set.parts b.session.set.parts c.session.set.parts (begins.brings t o) m.brings)
        m.seen m.guards m.says m.unchanged

    pub all_merged : (z : U) → e ≡ Ok z → MergesBatch told out trusts lines from to (status_of (Ok refused))
    all_merged z ok = record {
      done = does_lines (Ok refused);
      ends = λ t o state h. an_index a.files o.index state o.stored h (λ s. EndsMerging out (TellsBatch s) lines old new (status_of (Ok refused)))
          (λ i stored. ends_whole out (Some i) lines old new refused (told_whole o i stored));
      leaves = λ t o. record {
        stored = still t o;
        kept = counted_kept a.files c.files refused;
        lasting = lasting t o;
        merged = λ w. merges_first o (merged z ok t o);
        levels = λ w. levels_after a.files b.files c.files (begins.kept t o) (merged z ok t o).levels;
        canon = λ w. all_canonical t o (merged z ok t o);
      };
      stored = λ t o. record { unwritten = inl (Some o.index, o.stored); answered = λ tells. (Some o.index, o.stored) };
      whole = λ t o state h. counted_whole refused;
      evident = counted_shows (told × trusts) c.files refused;
      folder = λ w. counted_folder refused w;
      sink = λ w. counted_sink refused w;
    }
