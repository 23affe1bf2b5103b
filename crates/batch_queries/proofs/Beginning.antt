-- A batch that is answered while a merge begins, by what the calls answered.
use Rattle.std.proofs.Common.{◌≡◌, ◌⊎◌, ⊎_elim, ℕ, zero, suc, Bool, true, false, if◌then◌else◌, List, [], ◌∷◌, map, take, Some, Result, Ok}
use Rattle.std.proofs.Common.{Err, inl, inr, refl, sym, ap, subst, ◌∙◌, arith}
use Rattle.std.specs.List.{Contains}
use Rattle.std.proofs.lemmas.Bool.{false≢true}
use Rattle.outer_io.specs.declared.file_name.FileName.TheVariants.{Segment}
use Rattle.outer_io.specs.Files.{Files}
use Rattle.documents.specs.Entries.{is_among}
use Rattle.documents.proofs.Kept.{among_to}
use Rattle.std.proofs.lemmas.Grind.{merely}
use Rattle.documents.proofs.Lists.{cons_cases, cons_head, cons_tail, nil_none, of_map}
use Rattle.page_cache.specs.declared.faults.PageFault.{PageFault}
use Rattle.page_cache.specs.declared.faults.PageFault.TheVariants as page
use Rattle.commit_list.specs.declared.listed.Listed.{Listed}
use Rattle.script_lang.specs.Requests as asks
use Rattle.script_lang.specs.declared.faults.Refusal.TheVariants as why
use Rattle.index_model.specs.State.{Index}
use Rattle.index_model.specs.Step.{Refused, done_ok, step_on}
use Rattle.index_model.specs.declared.session.Applied.{Applied}
use Rattle.index_model.specs.declared.session.Applied.TheVariants as applied
use Rattle.stored_index.proofs.KeptFiles.{kept_itself}
use Rattle.index_opening.specs.Evidence.{IsOfEntries}
use Rattle.index_opening.proofs.Evident.{on_evident_named}
use Rattle.segment_view.specs.LiveSegments.{ids_of}
use Rattle.file_names.specs.Names.{is_named}
use Rattle.segment_set.specs.Merged.{chosen_ids}
use Rattle.segment_set.specs.Seen.{Sees}
use Rattle.segment_set.specs.Sets.{SetData}
use Rattle.index_core.specs.Carried.{IsFileOf}
use Rattle.index_core.specs.Effects.{HasBegun, OnDone}
use Rattle.index_core.specs.Sessions.{IsLast, SessionData, Trusts}
use Rattle.index_core.specs.Steps.{Applies, DoesOver, StepMoment}
use Rattle.index_core.specs.Whole.{SessionMoment}
use Rattle.index_core.proofs.Carrying.{listed_file, listed_kept}
use Rattle.index_core.proofs.FaultCauses.{done_cause, fault_to, memory_cause}
use Rattle.index_core.proofs.Bringing.{brings_same}
use Rattle.index_core.proofs.Guarding.{names_listed}
use Rattle.batch_run.specs.declared.resident.Resident.{Resident}
use Rattle.batch_queries.specs.Merging.{below, merged_count}
use Rattle.batch_queries.specs.MergeRuns.{BeginsMerge, AreOpen, first_ids}
use Rattle.batch_queries.proofs.Ended.{merging, moment_of}
use Rattle.batch_queries.proofs.Places.{first_chosen}

-- where no merge is begun, beginning one is done
begun_by : (D : ℕ) (files : Files) (i : Index) (s : SetData) (before after : List ℕ) (b : Bool) (x : Applied) → b ≡ false
    → DoesOver D files (if b then Refused why.Begun else done_ok (merging i)) i s before after (Ok x) → (x ≡ applied.Done) × Sees D files s (merging i)
begun_by D files i s before after true x none does = absurd (false≢true (sym none))
begun_by D files i s before after false applied.Done none ((j, is, seen), grew) =
    let same : merging i ≡ j = some_inj _ j is in
    (refl, subst (λ (k : Index). Sees D files s k) (sym same) seen)
  where
    some_inj : (x y : Index) → Some x ≡ Some y → x ≡ y
    some_inj x y e = cc
begun_by D files i s before after false (applied.Refused cause) none does = absurd does

begun_is : (D : ℕ) (files : Files) (i : Index) (s : SetData) (before after positions : List ℕ) (x : Applied) → i.begun ≡ false
    → DoesOver D files (step_on i (asks.MergeBegin positions)) i s before after (Ok x) → (x ≡ applied.Done) × Sees D files s (merging i)
unfolding step_on
begun_is D files i s before after positions x none does = begun_by D files i s before after i.begun x none does

taken : (n : ℕ) (xs : List ℕ) (x : ℕ) → Contains (take n xs) x → Contains xs x
taken zero xs x h = nil_none x (Contains xs x) h
taken (suc n) [] x h = nil_none x (Contains [] x) h
taken (suc n) (y ∷ ys) x h =
    ⊎_elim (λ e. subst (λ z. Contains (y ∷ ys) z) e (cons_head y ys)) (λ t. cons_tail y ys x (taken n ys x t)) (cons_cases y (take n ys) x h)

-- the segments of an open session are named
first_named : (D : ℕ) (files : Files) (r : Resident D) (s : SessionData) → AreOpen D files r s → (id : ℕ) → is_among (first_ids s) id ≡ true
    → is_named s.set.names.names (Segment id) ≡ true
first_named D files r s o id there =
    let last = subst (IsLast files s.set) o.unchanged.is (o.trusts.guards.last o.unchanged.done) in
    let inside : Contains (map (λ (l : Listed). l.segment) o.unchanged.commit.listed) id =
    subst (λ (ids : List ℕ). Contains ids id) o.unchanged.same.ids (taken merged_count (ids_of s.set.parts) id (among_to (first_ids s) id there)) in
    let found = of_map (λ (l : Listed). l.segment) o.unchanged.commit.listed id inside in
    names_listed D files s.set o.unchanged.commit o.trusts.guards.set last.says (Segment id) (found.0, found.1, found.2)

module _ (D : ℕ) (told : Type 0) (r : Resident D) where
  -- memory was wanting before the merge begins
  pub begins_none : {T : Type 0} (m : SessionMoment) (result : Result T PageFault) → result ≡ Err page.Memory → BeginsMerge D told r m m result
  begins_none m result is = subst (BeginsMerge D told r m m) (sym is) (record {
    begun = λ t o i h. tt;
    brings = λ t o. brings_same D m.files m.files m.session.set.parts m.session.set.parts refl refl;
    kept = λ t o. kept_itself m.files;
    whole = λ t o. tt;
    cause = memory_cause m.faults m.faults (omega arith);
    evident = tt;
  })

  module _ (positions : List ℕ) (a b : StepMoment) where
    -- or after it, whatever came of that
    pub begins_memory : {T : Type 0} (q : Result Applied PageFault) (result : Result T PageFault) → result ≡ Err page.Memory
        → Applies D told (λ i. step_on i (asks.MergeBegin positions)) false a b q → BeginsMerge D told r (moment_of a) (moment_of b) result
    begins_memory q result is begins = subst (BeginsMerge D told r (moment_of a) (moment_of b)) (sym is) (record {
      begun = λ t o i h. tt;
      brings = λ t o. begins.canon t o.index (o.seen o.index o.stored) o.trusts.guards;
      kept = λ t o. begins.keeps.kept t o.trusts.guards;
      whole = λ t o. tt;
      cause = memory_cause a.faults b.faults begins.faults.cause.later;
      evident = tt;
    })

    -- a fault of the beginning
    pub begins_fault : {T : Type 0} (fault : PageFault) (result : Result T PageFault) → result ≡ Err fault
        → Applies D told (λ i. step_on i (asks.MergeBegin positions)) false a b (Err fault) → BeginsMerge D told r (moment_of a) (moment_of b) result
    begins_fault {T} fault result is begins = subst (BeginsMerge D told r (moment_of a) (moment_of b)) (sym is) (record {
      begun = λ t o i h. tt;
      brings = λ t o. begins.canon t o.index (o.seen o.index o.stored) o.trusts.guards;
      kept = λ t o. begins.keeps.kept t o.trusts.guards;
      whole = λ t o. begins.faults.whole t o.index (o.seen o.index o.stored) (λ e. o.trusts.guards);
      cause = fault_to a.faults b.faults fault begins.faults.cause;
      evident = on_evident_named {X = Applied} (IsFileOf a.files b.files a.session.set) (λ _. ⊥) (IsOfEntries b.files) (told × Trusts D a.files a.session)
          (told × AreOpen D a.files r a.session) b.files (Err fault) (λ h. (h.0, h.1.trusts))
          (λ h file o. merely (inl (inr (listed_kept a.files b.files file (begins.keeps.kept h.0 h.1.trusts.guards)
          (listed_file a.files b.files a.session.set h.1.own file o)))))
          begins.faults.evident;
    })

    -- the merge of the positions below the count is begun
    pub begins_done : {T : Type 0} (x : Applied) (y : T) → positions ≡ below merged_count
        → Applies D told (λ i. step_on i (asks.MergeBegin positions)) false a b (Ok x)
        → OnDone (Ok x) (HasBegun D told a.files positions a.session.set b.session.set) → BeginsMerge D told r (moment_of a) (moment_of b) (Ok y)
    begins_done x y first begins leaves = record {
      begun = λ t o i h.
          let does = begun_is D b.files i b.session.set a.text b.text positions x (ap (λ (j : Index). j.begun) h.is)
          (begins.does t i (o.seen i h) (λ e. o.trusts.guards)) in
          let has : HasBegun D told a.files positions a.session.set b.session.set =
          subst (λ (z : Applied). OnDone (Ok z) (HasBegun D told a.files positions a.session.set b.session.set)) does.0 leaves in
          record {
            seen = does.1;
            trusts = record {
              guards = begins.stays.guards t o.trusts.guards;
              faithful = begins.stays.faithful t o.trusts.faithful;
              traced = begins.stays.traced t o.trusts;
            };
            merge = (
              has.inputs.0,
              has.inputs.1,
              λ id there. subst (λ (ids : List ℕ). is_among ids id ≡ true)
                  (sym (has.inputs.2 ∙ ap (λ (ps : List ℕ). chosen_ids ps (ids_of a.session.set.parts)) first))
                  (first_chosen merged_count (ids_of a.session.set.parts) id (omega arith) there),
            );
            named = λ id there. subst (λ (s : SetData). is_named s.names.names (Segment id) ≡ true) (sym has.rest.is)
                (first_named D a.files r a.session o id there);
          };
      brings = λ t o. begins.canon t o.index (o.seen o.index o.stored) o.trusts.guards;
      kept = λ t o. begins.keeps.kept t o.trusts.guards;
      whole = λ t o. tt;
      cause = done_cause a.faults b.faults x y begins.faults.cause;
      evident = tt;
    }
