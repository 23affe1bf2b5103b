-- What a session did with a request, and what stays then.
use Rattle.std.proofs.Common.{◌≡◌, ◌≤◌, ◌+◌, ◌<◌, ◌^◌, ℕ, Bool, true, false, List, length, None}
use Rattle.std.proofs.Common.{Result, Ok, Err, OnOk, refl, sym, ap, subst, inl, inr, ⊎_elim, arith}
use Rattle.std.specs.Prelude.{IsOk}
use Rattle.outer_io.specs.declared.file_name.FileName.TheVariants.{Commit}
use Rattle.outer_io.specs.Files.{Files}
use Rattle.page_cache.specs.declared.faults.PageFault.{PageFault}
use Rattle.segment_file.specs.Heads.{Head}
use Rattle.script_lang.specs.Requests.{Request}
use Rattle.script_lang.specs.Requests as asks
use Rattle.script_lang.specs.declared.faults.Refusal.{Refusal}
use Rattle.index_model.specs.State.{Index}
use Rattle.index_model.specs.Step.{Outcome, Done, Refused, step_on}
use Rattle.index_model.specs.declared.session.Applied.{Applied}
use Rattle.index_model.specs.declared.session.Applied.TheVariants as applied
use Rattle.segment_set.specs.Sets.{SetData}
use Rattle.segment_set.specs.Kept.{StaysButCache}
use Rattle.index_core.specs.Costs.{ReadsAtMost}
use Rattle.index_core.specs.Effects.{BringsCanonical, KeepsStill, OnDone, OnRefused}
use Rattle.index_core.specs.Light.{CommitsFewOfLevels, IsBarred, KeepsLevels, LooksAt, StaysLight, is_light, points_in}
use Rattle.index_core.specs.Closed.{IsIdle}
use Rattle.index_core.specs.Sessions.{IsStill, IsUnchanged, SessionData}
use Rattle.index_core.specs.Steps.{DoesOver, KeepsOver, is_committing}
use Rattle.script_run.specs.Costs.{is_query}
use Rattle.script_run.specs.Leads.{LineMoment}
use Rattle.script_run.proofs.Asking.{Asks, IsRefusal, begin_refused, full_of}
use Rattle.script_run.proofs.Deciding.{idle_still, unchanged_or_not}

pub no : {P : Type 0} → false ≡ true → P
no e = cc

-- ---- what a session did with a request

pub record IsApplied (D : ℕ) (told : Type 0) (i : Index) (r : Request) (old new : LineMoment) (before after : List ℕ)
    (result : Result Applied PageFault) : Type 0 where
  pub does : DoesOver D new.files (step_on i r) i new.session.set before after result
  pub canon : BringsCanonical D old.files new.files old.session.set.parts new.session.set.parts
  pub kept : KeepsOver (is_committing r) old.files new.files new.session result
  pub idle : is_committing r ≡ true → IsUnchanged old.session → new.files ≡ old.files
  pub levels : is_committing r ≡ true → (IsUnchanged old.session → ⊥) → old.session.set.begun ≡ None → OnDone result (CommitsFewOfLevels new.session.commit)
  pub reads : ReadsAtMost D told r old.files old.session old.reads new.reads
  pub still : KeepsStill told r old.files new.files old.session new.session result
  pub light : is_light r ≡ true → length old.session.set.buffer + points_in r ≤ 16384
      → StaysLight told (points_in r) old.files new.files old.session new.session
  pub unread : OnRefused result (new.reads ≡ old.reads)
  pub barred : IsBarred r old.session.set → IsOk result

-- ---- refusals

module _ (D : ℕ) (files : Files) (i : Index) (set : SetData) (before after : List ℕ) where
  pub not_done : (o : Outcome) → IsRefusal o → DoesOver D files o i set before after (Ok applied.Done) → ⊥
  not_done (Done state text) h does = h
  not_done (Refused cause) h does = does

  pub a_refusal : (o : Outcome) (why : Refusal) → DoesOver D files o i set before after (Ok (applied.Refused why)) → IsRefusal o
  a_refusal (Done state text) why does = absurd does
  a_refusal (Refused cause) why does = tt

  -- a request that commits is never refused
  commit_done : (r : Request) (why : Refusal) → is_committing r ≡ true → DoesOver D files (step_on i r) i set before after (Ok (applied.Refused why)) → ⊥
  unfolding step_on
  commit_done asks.Commit why e does = does
  commit_done asks.Reopen why e does = does
  commit_done r why e does = no e

-- what is refused leaves all but the kept pages
pub refused_still : (told : Type 0) (i : Index) (r : Request) (f g : Files) (s t : SessionData) (why : Refusal) → IsRefusal (step_on i r)
    → KeepsStill told r f g s t (Ok (applied.Refused why)) → IsStill told f g s t
unfolding step_on
refused_still told i (asks.Delete doc) f g s t why h still = absurd h
refused_still told i (asks.DeleteBox lo hi) f g s t why h still = absurd h
refused_still told i asks.Flush f g s t why h still = absurd h
refused_still told i asks.Merge f g s t why h still = absurd h
refused_still told i asks.Commit f g s t why h still = absurd h
refused_still told i asks.Reopen f g s t why h still = absurd h
refused_still told i r f g s t why h still = still

-- and so does a query, whatever is answered
query_still : (told : Type 0) (r : Request) (f g : Files) (s t : SessionData) (result : Result Applied PageFault) → is_query r ≡ true
    → KeepsStill told r f g s t result → IsStill told f g s t
query_still told asks.Blank f g s t result q still = still
query_still told (asks.InBox view lo hi) f g s t result q still = still
query_still told (asks.InPolygon view rings) f g s t result q still = still
query_still told (asks.Nearest view k at) f g s t result q still = still
query_still told r f g s t result q still = no q

-- ---- what stays where all but the kept pages does

pub looks_still : (heads : List Head) (s t : SetData) → StaysButCache s t → LooksAt heads s → LooksAt heads t
looks_still heads s t stays looks = subst (LooksAt heads) (sym stays.is) (record { now = looks.now; snapshots = looks.snapshots })

pub buffer_still : (s t : SetData) → StaysButCache s t → length t.buffer ≡ length s.buffer
buffer_still s t stays = ap (λ (u : SetData). length u.buffer) stays.is

-- ---- levels

module _ (D : ℕ) (told : Type 0) (i : Index) (r : Request) (old new : LineMoment) (before after : List ℕ) where
  few_by : (b : Bool) (x : Applied) → ((why : Refusal) → x ≡ applied.Refused why → b ≡ true → ⊥)
      → KeepsOver {T = Applied} b old.files new.files new.session (Ok x)
      → (b ≡ true → IsUnchanged old.session → new.files ≡ old.files)
      → (b ≡ true → (IsUnchanged old.session → ⊥) → OnDone (Ok x) (CommitsFewOfLevels new.session.commit)) → KeepsLevels old.files new.files
  few_by false x done keeps idle levels = inl keeps.commit
  few_by true applied.Done done keeps idle levels =
      ⊎_elim (λ u. inl (ap (λ (h : Files). h Commit) (idle refl u))) (λ n. inr (keeps.0, keeps.2, levels refl n keeps.0 keeps.1)) (unchanged_or_not old.session)
  few_by true (applied.Refused why) done keeps idle levels = absurd (done why refl refl)

  pub levels_after : (result : Result Applied PageFault) → IsApplied D told i r old new before after result → old.session.set.begun ≡ None
      → OnOk result (KeepsLevels old.files new.files)
  levels_after (Err fault) a none = tt
  levels_after (Ok x) a none =
      few_by (is_committing r) x
      (λ why is e. commit_done D new.files i new.session.set before after r why e
      (subst (λ (y : Applied). DoesOver D new.files (step_on i r) i new.session.set before after (Ok y)) is a.does))
      a.kept a.idle (λ e n. a.levels e n none)

-- ---- files

module _ (D : ℕ) (told : Type 0) (is_told : told) (i : Index) (old new : LineMoment) (before after : List ℕ) (rested : i.begun ≡ false)
    (none : old.session.set.begun ≡ None)
    (points_given : i.points_given ≡ old.session.set.points_given) where
  -- a request that the definition refuses ends with a fault, and no file changed
  fault_files : (r : Request) (fault : PageFault) → IsRefusal (step_on i r) → length old.session.set.buffer ≤ 16384
      → IsApplied D told i r old new before after (Err fault) → new.files ≡ old.files
  unfolding step_on
  fault_files asks.Blank fault h room a = absurd h
  fault_files (asks.Create dims leaf_size) fault h room a = (a.light refl (omega (arith, room))).files is_told
  fault_files (asks.Add points) fault h room a = no (a.barred (subst (λ n. 2 ^ 24 < n + length points) points_given (full_of i points h)))
  fault_files (asks.Delete doc) fault h room a = absurd h
  fault_files (asks.DeleteBox lo hi) fault h room a = absurd h
  fault_files (asks.InBox view lo hi) fault h room a = a.still.files is_told
  fault_files (asks.InPolygon view rings) fault h room a = a.still.files is_told
  fault_files (asks.Nearest view k at) fault h room a = a.still.files is_told
  fault_files asks.Flush fault h room a = absurd h
  fault_files asks.Merge fault h room a = absurd h
  fault_files (asks.MergeBegin positions) fault h room a = absurd (begin_refused i.begun _ rested h)
  fault_files asks.MergeEnd fault h room a = no (a.barred none)
  fault_files (asks.Snapshot name) fault h room a = (a.light refl (omega (arith, room))).files is_told
  fault_files (asks.Release name) fault h room a = (a.light refl (omega (arith, room))).files is_told
  fault_files asks.Commit fault h room a = absurd h
  fault_files asks.Reopen fault h room a = absurd h

  -- queries, and what is refused
  pub still_files : (r : Request) (result : Result Applied PageFault) → Asks is_query i r → length old.session.set.buffer ≤ 16384
      → IsApplied D told i r old new before after result → new.files ≡ old.files
  still_files r result (inr q) room a = (query_still told r old.files new.files old.session new.session result q a.still).files is_told
  still_files r (Ok applied.Done) (inl h) room a = absurd (not_done D new.files i new.session.set before after (step_on i r) h a.does)
  still_files r (Ok (applied.Refused why)) (inl h) room a = (refused_still told i r old.files new.files old.session new.session why h a.still).files is_told
  still_files r (Err fault) (inl h) room a = fault_files r fault h room a

  pub still_session : (r : Request) (result : Result Applied PageFault) → Asks is_query i r → IsIdle old.session
      → IsApplied D told i r old new before after result → OnOk result (IsIdle new.session)
  still_session r (Err fault) ask u a = tt
  still_session r (Ok x) (inr q) u a = idle_still told old.files new.files old.session new.session
      (query_still told r old.files new.files old.session new.session (Ok x) q a.still) u
  still_session r (Ok applied.Done) (inl h) u a = absurd (not_done D new.files i new.session.set before after (step_on i r) h a.does)
  still_session r (Ok (applied.Refused why)) (inl h) u a =
      idle_still told old.files new.files old.session new.session (refused_still told i r old.files new.files old.session new.session why h a.still) u
