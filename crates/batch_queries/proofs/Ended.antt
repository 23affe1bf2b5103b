-- A merge that is begun in a session, ended and committed, by what the calls answered.
use Rattle.std.proofs.Common.{◌≡◌, ℕ, true, false, List, Some, Result, Ok, Err, OnOk, refl, sym, ap, subst, ◌⊎◌, inl, inr, ⊎_elim}
use Rattle.std.specs.List.{Contains}
use Rattle.std.proofs.lemmas.Bool.{both_ways, false_from_ne_true}
use Rattle.outer_io.specs.declared.file_name.FileName.TheVariants.{Segment}
use Rattle.outer_io.specs.Files.{Files}
use Rattle.documents.specs.Entries.{is_among}
use Rattle.page_cache.specs.declared.faults.PageFault.{PageFault}
use Rattle.script_lang.specs.Requests as asks
use Rattle.index_model.specs.State.{Index, at_rest}
use Rattle.index_model.specs.Step.{step_on}
use Rattle.index_model.specs.declared.session.Applied.{Applied}
use Rattle.index_model.specs.declared.session.Applied.TheVariants as applied
use Rattle.stored_index.specs.Kept.{SameKept}
use Rattle.stored_index.specs.Stored.{IsStored}
use Rattle.stored_index.proofs.KeptFiles.{kept_after}
use Rattle.page_cache.specs.Evidence.{NotDamaged}
use Rattle.index_opening.proofs.Evident.{none_evident, on_evident_less}
use Rattle.segment_view.specs.LiveSegments.{LiveSegment}
use Rattle.file_names.specs.Names.{is_named}
use Rattle.segment_set.specs.Kept.{Follows, IsSubset}
use Rattle.segment_set.specs.Seen.{Sees}
use Rattle.segment_set.specs.Sets.{SetData}
use Rattle.index_core.specs.Effects.{HasEnded, OnDone}
use Rattle.index_core.specs.Sessions.{Trusts}
use Rattle.index_core.specs.Steps.{Applies, DoesOver, StepMoment, Stores}
use Rattle.index_core.specs.Whole.{SessionMoment}
use Rattle.index_core.proofs.FaultCauses.{fault_to}
use Rattle.index_core.proofs.Bringing.{brings_then}
use Rattle.index_core.proofs.Brought.{commit_after}
use Rattle.index_core.proofs.Undone.{fault_kept, levels_after, undone_after}
use Rattle.index_core.proofs.Wholes.{CommitSays}
use Rattle.batch_queries.specs.MergeRuns.{EndsMerge, IsBegun, IsMergeDone}
use Rattle.segment_set.proofs.Saving.{cause_after}

abbrev pub moment_of : StepMoment → SessionMoment
moment_of p = record { files = p.files; session = p.session; faults = p.faults }

abbrev pub merging : Index → Index
merging i = record i { begun = true }

-- where a merge is begun, ending it is done
ended_is : (D : ℕ) (files : Files) (i : Index) (s : SetData) (before after : List ℕ) (x : Applied)
    → DoesOver D files (step_on (merging i) asks.MergeEnd) (merging i) s before after (Ok x) → (x ≡ applied.Done) × Sees D files s (record i { begun = false })
unfolding step_on
ended_is D files i s before after applied.Done ((j, is, seen), grew) =
    let same : record i { begun = false } ≡ j = some_inj _ j is in
    (refl, subst (λ (k : Index). Sees D files s k) (sym same) seen)
  where
    some_inj : (x y : Index) → Some x ≡ Some y → x ≡ y
    some_inj x y e = cc
ended_is D files i s before after (applied.Refused why) h = absurd h

module _ (D : ℕ) (told : Type 0) (ids : List ℕ) (i : Index) (a b : StepMoment) where
  -- a fault of the call that ends it
  pub end_stopped : {T : Type 0} (fault : PageFault) (r : Result T PageFault) → r ≡ Err fault
      → Applies D told (λ j. step_on j asks.MergeEnd) false a b (Err fault) → NotDamaged {T = T} (Err fault)
      → EndsMerge D told ids i (moment_of a) (moment_of b) r
  end_stopped {T} fault r is ends whole = subst (EndsMerge D told ids i (moment_of a) (moment_of b)) (sym is) (record {
    keeps = λ t g. inl (ends.keeps.kept t g.trusts.guards);
    done = λ t g. tt;
    undone = λ t g. fault_kept a.files b.files (ends.keeps.kept t g.trusts.guards) fault;
    lasting = λ t g. inl (ends.keeps.kept t g.trusts.guards);
    whole = λ t g. ends.faults.whole t (merging i) g.seen (λ e. g.trusts.guards);
    cause = fault_to a.faults b.faults fault ends.faults.cause;
    evident = none_evident {X = T} (told × Trusts D a.files a.session) b.files (Err fault) whole;
  })

  module _ (x : Applied) (ends : Applies D told (λ j. step_on j asks.MergeEnd) false a b (Ok x)) where
    trusts_on : told → Trusts D a.files a.session → Trusts D b.files b.session
    trusts_on t h = record { guards = ends.stays.guards t h.guards; faithful = ends.stays.faithful t h.faithful; traced = ends.stays.traced t h }

    -- the set is seen as before the merge
    seen_on : told → IsBegun D a.files a.session ids i → (x ≡ applied.Done) × Sees D b.files b.session.set (record i { begun = false })
    seen_on t g = ended_is D b.files i b.session.set a.text b.text x (ends.does t (merging i) g.seen (λ e. g.trusts.guards))

    module _ {T : Type 0} (c : SessionMoment) (r : Result T PageFault) (leaves : OnDone (Ok x) (HasEnded D told b.files a.session.set b.session.set))
        (commits : CommitSays D told (moment_of b) c r) (follows : Follows b.session.set.names b.session.set.parts c.session.set.parts) where
      has_ended : told → IsBegun D a.files a.session ids i → HasEnded D told b.files a.session.set b.session.set
      has_ended t g = subst (λ (y : Applied). OnDone (Ok y) (HasEnded D told b.files a.session.set b.session.set)) (seen_on t g).0 leaves

      -- a segment of now has a new name, or was there when the inputs had gone
      apart_on : told → IsBegun D a.files a.session ids i → (p : LiveSegment) → Contains c.session.set.parts p → is_among ids p.head.id ≡ false
      apart_on t g p there = ⊎_elim
          (λ fresh. false_from_ne_true (is_among ids p.head.id) (λ among. both_ways (is_named b.session.set.names.names (Segment p.head.id)) fresh
          (ended.named (Segment p.head.id) (g.named p.head.id among))))
          (λ old. was old)
          (follows.each p there)
        where
          ended : HasEnded D told b.files a.session.set b.session.set
          ended = has_ended t g

          was : (q : LiveSegment) × Contains b.session.set.parts q × (p.head ≡ q.head) × IsSubset p.live q.live → is_among ids p.head.id ≡ false
          was (q, here, head, within) = false_from_ne_true (is_among ids p.head.id) (λ among.
              both_ways (is_among g.merge.0.inputs q.head.id) (ended.gone g.merge.0 g.merge.1 q here)
              (subst (λ n. is_among g.merge.0.inputs n ≡ true) (ap (λ h. h.id) head) (g.merge.2 p.head.id among)))

      keeps_on : (q : Result T PageFault) → SameKept a.files b.files → Stores b.files c.files (record i { begun = false }) c.session.set q
          → SameKept a.files c.files ⊎ IsStored c.files (Some (at_rest i))
      keeps_on (Ok y) same stores = inr stores.0
      keeps_on (Err fault) same stores = ⊎_elim (λ more. inl (kept_after a.files b.files c.files same more)) inr stores

      merged_on : (q : Result T PageFault) → CommitSays D told (moment_of b) c q → told → IsBegun D a.files a.session ids i
          → OnOk q (IsMergeDone D ids i (moment_of a) c)
      merged_on (Err fault) commit t g = tt
      merged_on (Ok y) commit t g =
          let seen = (seen_on t g).1 in
          let trusts = trusts_on t g.trusts in
          record {
            stored = (commit.durable.stored t (record i { begun = false }) seen trusts.guards).0;
            index = record i { begun = false };
            seen = commit.seen t (record i { begun = false }) seen;
            guards = commit.stays.guards t trusts.guards;
            says = commit.durable.kept t trusts.guards;
            unchanged = commit.done.unchanged;
            apart = apart_on t g;
            brings = brings_then D a.files b.files c.files a.session.set.parts b.session.set.parts c.session.set.parts
                (ends.canon t (merging i) g.seen g.trusts.guards) (commit.canon t);
            levels = levels_after a.files b.files c.files (ends.keeps.kept t g.trusts.guards) (commit.done.few t trusts.guards (has_ended t g).ended);
          }

      pub ended_committed : EndsMerge D told ids i (moment_of a) c r
      ended_committed = record {
        keeps = λ t g.
            keeps_on r (ends.keeps.kept t g.trusts.guards)
            (commits.durable.stored t (record i { begun = false }) (seen_on t g).1 (trusts_on t g.trusts).guards);
        done = merged_on r commits;
        undone = λ t g. undone_after a.files b.files c.files r (ends.keeps.kept t g.trusts.guards) (commits.durable.undone t (trusts_on t g.trusts).guards);
        lasting = λ t g. commit_after a.files b.files c.files (ends.keeps.kept t g.trusts.guards) (commits.durable.lasting t (trusts_on t g.trusts));
        whole = λ t g. commits.faults.whole t (record i { begun = false }) (seen_on t g).1;
        cause = cause_after a.faults b.faults c.faults r ends.faults.cause.on_ok commits.faults.cause;
        evident = on_evident_less (told × Trusts D b.files b.session) (told × Trusts D a.files a.session) c.files r (λ h. (h.0, trusts_on h.0 h.1))
            commits.faults.evident;
      }
