-- What becomes of a command, by what the call on the set answered.
use Rattle.std.proofs.Common.{◌≡◌, ℕ, All, Bool, false, List, [], ◌++◌, Some, Result, Ok, Err, inl, refl, sym, subst, ◌∙◌, arith}
use Rattle.std.proofs.lemmas.List.{append-nil}
use Rattle.outer_io.specs.Files.{Files}
use Rattle.page_cache.specs.declared.faults.PageFault.{PageFault}
use Rattle.page_cache.specs.declared.faults.PageFault.TheVariants as page
use Rattle.page_cache.specs.Causes.{HasPageCause}
use Rattle.page_cache.specs.Evidence.{FaultShows, NotDamaged, OnDamage}
use Rattle.bkd_reader.specs.Hits.{Begins}
use Rattle.index_model.specs.State.{Index}
use Rattle.index_model.specs.Step.{Outcome, Done, Refused}
use Rattle.index_model.specs.declared.session.Applied.{Applied}
use Rattle.index_model.specs.declared.session.Applied.TheVariants as applied
use Rattle.script_lang.specs.declared.faults.Refusal.{Refusal}
use Rattle.stored_index.proofs.KeptFiles.{kept_itself}
use Rattle.segment_set.specs.Sets.{IsNamed, SetData}
use Rattle.segment_set.specs.Seen.{Sees}
use Rattle.segment_set.specs.Kept.{Follows, KeepsNamed}
use Rattle.index_opening.specs.Evidence.{IsEvident, IsOfEntries}
use Rattle.segment_set.specs.Faithful.{IsFaithful}
use Rattle.segment_set.specs.Losing.{KeepsCounts}
use Rattle.index_opening.proofs.Evident.{none_with, on_evident_wider, on_less_with}
use Rattle.index_core.specs.Carried.{IsEvidentOver, IsFileOf}
use Rattle.index_core.specs.Sessions.{SessionData, Trusts}
use Rattle.index_core.specs.Effects.{BringsCanonical}
use Rattle.index_core.specs.Steps.{Applies, DoesOver, StepMoment}
use Rattle.index_core.proofs.Bringing.{brings_same}
use Rattle.index_core.proofs.Carrying.{ViewsStay, carries_by, stays_itself}
use Rattle.index_core.proofs.Guarding.{Grows, guards_after, kept_after_calls}
use Rattle.index_core.proofs.Accounting.{accounted_after}
use Rattle.index_core.proofs.Tracing.{OnMerge, calm_shows, excess_kept, traced_after, traced_shows}
use Rattle.index_core.proofs.FaultCauses.{memory_cause, done_cause, fault_cause}

-- ---- texts

pub begins_itself : (text : List ℕ) → Begins text text
begins_itself text = ([], sym (append-nil text))

pub begins_with : (before after more : List ℕ) → after ≡ before ++ more → Begins before after
begins_with before after more grew = (more, grew)

pub begins_same : (before after : List ℕ) → after ≡ before → Begins before after
begins_same before after same = ([], same ∙ sym (append-nil before))

-- ---- causes

pub no_cause : {T : Type 0} (faults : ℕ) (x : T) → HasPageCause faults faults (Ok x)
no_cause faults x = record { later = omega arith; on_ok = refl; failed = λ e. absurd cc }

-- ---- what is done, or refused

-- after a fault the set is seen as before, whatever was asked
pub does_fault : (D : ℕ) (files : Files) (o : Outcome) (i : Index) (s : SetData) (before after : List ℕ) (fault : PageFault) → Sees D files s i
    → DoesOver D files o i s before after (Err fault)
does_fault D files (Done state text) i s before after fault seen = seen
does_fault D files (Refused cause) i s before after fault seen = seen

pub does_done : (D : ℕ) (files : Files) (i j : Index) (s : SetData) (text before after : List ℕ) → Sees D files s j → after ≡ before ++ text
    → DoesOver D files (Done (Some j) text) i s before after (Ok applied.Done)
does_done D files i j s text before after seen grew = ((j, refl, seen), grew)

-- another way to say the outcome
pub does_as : (D : ℕ) (files : Files) (o p : Outcome) (i : Index) (s : SetData) (before after : List ℕ) (r : Result Applied PageFault) → o ≡ p
    → DoesOver D files p i s before after r → DoesOver D files o i s before after r
does_as D files o p i s before after r same does = subst (λ (q : Outcome). DoesOver D files q i s before after r) (sym same) does

-- ---- a command that doesn't commit

-- what a call on the set leaves of the session and of what guards its files, which segments it brings, and that what the set keeps of the files stays theirs
pub record IsCalm (D : ℕ) (told : Type 0) (old new : StepMoment) : Type 0 where
  pub commit : new.session.commit ≡ old.session.commit
  pub refused : new.session.refused ≡ old.session.refused
  pub grows : Grows old.session.set new.session.set
  pub keeps : KeepsNamed told old.session.set.names new.session.set.names old.files new.files
  pub follows : Follows old.session.set.names old.session.set.parts new.session.set.parts
  pub brings : told → BringsCanonical D old.files new.files old.session.set.parts new.session.set.parts
  pub views : told → ViewsStay old.files new.files old.session.set new.session.set
  pub counts : told → IsFaithful D old.files old.session.set → KeepsCounts D old.files new.files old.session.set new.session.set
  pub faithful : told → IsFaithful D old.files old.session.set → IsFaithful D new.files new.session.set

-- where no other file is needed
strictly : (T : Type 0) (old new : StepMoment) (r : Result Applied PageFault) → OnDamage r (IsEvident T new.files)
    → OnDamage r (IsEvidentOver old.files old.session.set T new.files)
strictly T old new r = on_evident_wider (IsFileOf old.files new.files old.session.set) T T new.files r (λ t. t)

applies_with : (D : ℕ) (told : Type 0) (outcome : Index → Outcome) (old new : StepMoment) (r : Result Applied PageFault) → IsCalm D told old new
    → (told → (i : Index) → Sees D old.files old.session.set i → DoesOver D new.files (outcome i) i new.session.set old.text new.text r)
    → Begins old.text new.text → HasPageCause old.faults new.faults r → (told → (i : Index) → Sees D old.files old.session.set i → NotDamaged r)
    → OnDamage r (IsEvidentOver old.files old.session.set (told × Trusts D old.files old.session) new.files) → Applies D told outcome false old new r
applies_with D told outcome old new r calm does begins cause whole evident = record {
  does = λ is_told i seen guards. does is_told i seen;
  begins = begins;
  stays = record {
    guards = λ is_told. guards_after D told old.files new.files old.session new.session is_told calm.commit calm.refused calm.keeps calm.follows calm.grows;
    faithful = calm.faithful;
    traced = λ is_told trusts. record {
      parts = traced_after D told old.files new.files old.session.set new.session.set is_told calm.keeps calm.follows (calm.brings is_told)
          trusts.guards.set trusts.traced.parts;
      entries = accounted_after D old.files new.files old.session.set new.session.set
          (excess_kept D told old.files new.files old.session.set new.session.set.names is_told calm.keeps trusts.guards.set) calm.grows.points_given
          (calm.counts is_told trusts.faithful) trusts.traced.entries;
    };
    carries = λ is_told. carries_by D old.files new.files old.session.set new.session.set (calm.brings is_told) (calm.views is_told);
  };
  keeps = record {
    kept = λ is_told guards. kept_after_calls D told old.files new.files old.session.set new.session.set.names is_told calm.keeps guards.set;
    stored = λ is_told i seen guards e. absurd cc;
    own = λ is_told guards. inl (kept_after_calls D told old.files new.files old.session.set new.session.set.names is_told calm.keeps guards.set);
    lasting = λ is_told trusts.
        inl (kept_after_calls D told old.files new.files old.session.set new.session.set.names is_told calm.keeps trusts.guards.set);
  };
  commits = λ e. absurd cc;
  canon = λ is_told i seen guards. calm.brings is_told;
  faults = record { cause = cause; whole = λ is_told i seen guards. whole is_told i seen; evident = evident };
}

pub applies : (D : ℕ) (told : Type 0) (outcome : Index → Outcome) (old new : StepMoment) (r : Result Applied PageFault) → IsCalm D told old new
    → (told → (i : Index) → Sees D old.files old.session.set i → DoesOver D new.files (outcome i) i new.session.set old.text new.text r)
    → Begins old.text new.text → HasPageCause old.faults new.faults r → (told → (i : Index) → Sees D old.files old.session.set i → NotDamaged r)
    → OnDamage r (IsEvidentOver old.files old.session.set (told × IsFaithful D old.files old.session.set) new.files)
    → Applies D told outcome false old new r
applies D told outcome old new r calm does begins cause whole evident = applies_with D told outcome old new r calm does begins cause whole
    (on_less_with (IsFileOf old.files new.files old.session.set) (IsOfEntries new.files) (told × IsFaithful D old.files old.session.set)
    (told × Trusts D old.files old.session) new.files r (λ (is_told, trusts). (is_told, trusts.faithful)) evident)

-- a call that may merge, whose set has all its segments named
pub applies_merging : (D : ℕ) (told : Type 0) (outcome : Index → Outcome) (old new : StepMoment) (r : Result Applied PageFault) → IsCalm D told old new
    → All (IsNamed old.session.set.names) old.session.set.parts
    → (told → (i : Index) → Sees D old.files old.session.set i → DoesOver D new.files (outcome i) i new.session.set old.text new.text r)
    → Begins old.text new.text → HasPageCause old.faults new.faults r → (told → (i : Index) → Sees D old.files old.session.set i → NotDamaged r)
    → OnMerge D told old.files new.files old.session.set r → Applies D told outcome false old new r
applies_merging D told outcome old new r calm named does begins cause whole evident = applies_with D told outcome old new r calm does begins cause whole
    (strictly (told × Trusts D old.files old.session) old new r
    (traced_shows D told old.files new.files old.session new.session.set.names r calm.keeps named evident))

-- and that changes no file
pub applies_merging_calm : (D : ℕ) (told : Type 0) (outcome : Index → Outcome) (old new : StepMoment) (r : Result Applied PageFault) → IsCalm D told old new
    → (told → new.files ≡ old.files)
    → (told → (i : Index) → Sees D old.files old.session.set i → DoesOver D new.files (outcome i) i new.session.set old.text new.text r)
    → Begins old.text new.text → HasPageCause old.faults new.faults r → (told → (i : Index) → Sees D old.files old.session.set i → NotDamaged r)
    → OnMerge D told old.files new.files old.session.set r → Applies D told outcome false old new r
applies_merging_calm D told outcome old new r calm same does begins cause whole evident = applies_with D told outcome old new r calm does begins cause whole
    (strictly (told × Trusts D old.files old.session) old new r (calm_shows D told old.files new.files old.session r same evident))

-- a command is done that changed nothing
pub applies_still : (D : ℕ) (told : Type 0) (outcome : Index → Outcome) (files : Files) (session : SessionData) (before after : List ℕ) (faults : ℕ)
    (r : Result Applied PageFault)
    → ((i : Index) → Sees D files session.set i → DoesOver D files (outcome i) i session.set before after r) → Begins before after
    → HasPageCause faults faults r → NotDamaged r
    → Applies D told outcome false (record { files = files; session = session; text = before; faults = faults })
    (record { files = files; session = session; text = after; faults = faults }) r
applies_still D told outcome files session before after faults r does begins cause whole = record {
  does = λ is_told i seen guards. does i seen;
  begins = begins;
  stays = stays_itself D told files session;
  keeps = record {
    kept = λ is_told guards. kept_itself files;
    stored = λ is_told i seen guards e. absurd cc;
    own = λ is_told guards. inl (kept_itself files);
    lasting = λ is_told trusts. inl (kept_itself files);
  };
  commits = λ e. absurd cc;
  canon = λ is_told i seen guards. brings_same D files files session.set.parts session.set.parts refl refl;
  faults = record {
    cause = cause;
    whole = λ is_told i seen guards. whole;
    evident = none_with (IsFileOf files files session.set) (IsOfEntries files) (told × Trusts D files session) files r whole;
  };
}

-- there was no memory for the reply, before anything was done
pub applies_memory : (D : ℕ) (told : Type 0) (outcome : Index → Outcome) (files : Files) (session : SessionData) (before after : List ℕ) (faults : ℕ)
    (r : Result Applied PageFault) → r ≡ Err page.Memory → after ≡ before
    → Applies D told outcome false (record { files = files; session = session; text = before; faults = faults })
    (record { files = files; session = session; text = after; faults = faults }) r
applies_memory D told outcome files session before after faults r is same =
    subst (Applies D told outcome false (record { files = files; session = session; text = before; faults = faults })
    (record { files = files; session = session; text = after; faults = faults })) (sym is)
    (applies_still D told outcome files session before after faults (Err page.Memory)
    (λ i seen. does_fault D files (outcome i) i session.set before after page.Memory seen) ([], same ∙ sym (append-nil before))
    (memory_cause faults faults (omega arith)) tt)

-- the set handed a fault on, and is seen as before
pub applies_fault : {T : Type 0} (D : ℕ) (told : Type 0) (outcome : Index → Outcome) (old new : StepMoment) (r : Result Applied PageFault) (fault : PageFault)
    → IsCalm D told old new → r ≡ Err fault
    → (told → (i : Index) → Sees D old.files old.session.set i → Sees D new.files new.session.set i) → Begins old.text new.text
    → HasPageCause {T = T} old.faults new.faults (Err fault) → (told → (i : Index) → Sees D old.files old.session.set i → NotDamaged {T = T} (Err fault))
    → FaultShows (IsEvidentOver old.files old.session.set (told × IsFaithful D old.files old.session.set) new.files) fault
    → Applies D told outcome false old new r
applies_fault D told outcome old new r fault calm same seen begins cause whole evident = applies D told outcome old new r calm
    (λ is_told i sees. subst (DoesOver D new.files (outcome i) i new.session.set old.text new.text) (sym same)
    (does_fault D new.files (outcome i) i new.session.set old.text new.text fault (seen is_told i sees)))
    begins
    (fault_cause old.faults new.faults fault r same cause)
    (λ is_told i sees. subst NotDamaged (sym same) (whole is_told i sees))
    (subst (λ q. OnDamage q (IsEvidentOver old.files old.session.set (told × IsFaithful D old.files old.session.set) new.files)) (sym same) evident)

-- one that may merge did
pub applies_merging_fault : {T : Type 0} (D : ℕ) (told : Type 0) (outcome : Index → Outcome) (old new : StepMoment) (r : Result Applied PageFault)
    (fault : PageFault) → IsCalm D told old new
    → All (IsNamed old.session.set.names) old.session.set.parts → r ≡ Err fault
    → (told → (i : Index) → Sees D old.files old.session.set i → Sees D new.files new.session.set i) → Begins old.text new.text
    → HasPageCause {T = T} old.faults new.faults (Err fault) → (told → (i : Index) → Sees D old.files old.session.set i → NotDamaged {T = T} (Err fault))
    → OnMerge {X = T} D told old.files new.files old.session.set (Err fault) → Applies D told outcome false old new r
applies_merging_fault D told outcome old new r fault calm named same seen begins cause whole evident = applies_merging D told outcome old new r calm named
    (λ is_told i sees. subst (DoesOver D new.files (outcome i) i new.session.set old.text new.text) (sym same)
    (does_fault D new.files (outcome i) i new.session.set old.text new.text fault (seen is_told i sees)))
    begins
    (fault_cause old.faults new.faults fault r same cause)
    (λ is_told i sees. subst NotDamaged (sym same) (whole is_told i sees))
    (subst (OnMerge D told old.files new.files old.session.set) (sym same) evident)

-- it was done, but there is no memory for the reply: the set is seen as before
pub applies_unsaid : {T : Type 0} (D : ℕ) (told : Type 0) (outcome : Index → Outcome) (old new : StepMoment) (r : Result Applied PageFault) (x : T)
    → IsCalm D told old new → r ≡ Err page.Memory
    → (told → (i : Index) → Sees D old.files old.session.set i → Sees D new.files new.session.set i) → new.text ≡ old.text
    → HasPageCause old.faults new.faults (Ok x) → Applies D told outcome false old new r
applies_unsaid {T = T} D told outcome old new r x calm same seen text cause = applies_fault {T = T} D told outcome old new r page.Memory calm same seen
    ([], text ∙ sym (append-nil old.text)) (memory_cause old.faults new.faults cause.later) (λ is_told i sees. tt) tt

-- a command whose call on the set is done, and whose reply was written
pub applies_done : {T : Type 0} (D : ℕ) (told : Type 0) (outcome : Index → Outcome) (old new : StepMoment) (x : T) (text : List ℕ) → IsCalm D told old new
    → (told → (i : Index) → Sees D old.files old.session.set i → DoesOver D new.files (outcome i) i new.session.set old.text new.text (Ok applied.Done))
    → new.text ≡ old.text ++ text → HasPageCause old.faults new.faults (Ok x) → Applies D told outcome false old new (Ok applied.Done)
applies_done D told outcome old new x text calm does grew cause =
    applies D told outcome old new (Ok applied.Done) calm does (text, grew) (done_cause old.faults new.faults x applied.Done cause) (λ is_told i sees. tt) tt

-- a command that is refused before anything is done
pub applies_refused : (D : ℕ) (told : Type 0) (outcome : Index → Outcome) (files : Files) (session : SessionData) (text : List ℕ) (faults : ℕ) (cause : Refusal)
    → ((i : Index) → Sees D files session.set i → DoesOver D files (outcome i) i session.set text text (Ok (applied.Refused cause)))
    → Applies D told outcome false (record { files = files; session = session; text = text; faults = faults })
    (record { files = files; session = session; text = text; faults = faults }) (Ok (applied.Refused cause))
applies_refused D told outcome files session text faults cause does =
    applies_still D told outcome files session text text faults (Ok (applied.Refused cause)) does (begins_itself text) (no_cause faults (applied.Refused cause))
    tt

-- ---- other words for the same

-- the session that the code opened is the one that contracts see
pub applies_seen : (D : ℕ) (told : Type 0) (outcome : Index → Outcome) (committing : Bool) (files : Files) (s t : SessionData) (text : List ℕ) (faults : ℕ)
    (new : StepMoment) (r : Result Applied PageFault) → s ≡ t
    → Applies D told outcome committing (record { files = files; session = s; text = text; faults = faults }) new r
    → Applies D told outcome committing (record { files = files; session = t; text = text; faults = faults }) new r
applies_seen D told outcome committing files s t text faults new r same is =
    subst (λ (u : SessionData). Applies D told outcome committing (record { files = files; session = u; text = text; faults = faults }) new r) same is

-- what doesn't commit and holds over all files holds over told ones
pub applies_told : (D : ℕ) (told : Type 0) (outcome : Index → Outcome) (old new : StepMoment) (r : Result Applied PageFault)
    → Applies D (Unit {0}) outcome false old new r → Applies D told outcome false old new r
applies_told D told outcome old new r is = record {
  does = λ is_told. is.does tt;
  begins = is.begins;
  stays = record {
    guards = λ is_told. is.stays.guards tt;
    faithful = λ is_told. is.stays.faithful tt;
    traced = λ is_told. is.stays.traced tt;
    carries = λ is_told. is.stays.carries tt;
  };
  keeps = record {
    kept = λ is_told. is.keeps.kept tt;
    stored = λ is_told. is.keeps.stored tt;
    own = λ is_told guards. inl (is.keeps.kept tt guards);
    lasting = λ is_told. is.keeps.lasting tt;
  };
  commits = λ e. absurd cc;
  canon = λ is_told. is.canon tt;
  faults = record {
    cause = is.faults.cause;
    whole = λ is_told. is.faults.whole tt;
    evident =
        on_less_with (IsFileOf old.files new.files old.session.set) (IsOfEntries new.files) (Unit {0} × Trusts D old.files old.session)
        (told × Trusts D old.files old.session) new.files r (λ (is_told, trusts). (tt, trusts)) is.faults.evident;
  };
}

-- another result, which is the same
pub applies_is : (D : ℕ) (told : Type 0) (outcome : Index → Outcome) (committing : Bool) (old new : StepMoment) (r q : Result Applied PageFault) → r ≡ q
    → Applies D told outcome committing old new q → Applies D told outcome committing old new r
applies_is D told outcome committing old new r q same is = subst (Applies D told outcome committing old new) (sym same) is

-- another way to say the outcome, for those that the set is seen as
pub applies_as : (D : ℕ) (told : Type 0) (o p : Index → Outcome) (committing : Bool) (old new : StepMoment) (r : Result Applied PageFault)
    → ((i : Index) → Sees D old.files old.session.set i → o i ≡ p i)
    → Applies D told p committing old new r → Applies D told o committing old new r
applies_as D told o p committing old new r same is = record {
  does = λ is_told i seen guards. does_as D new.files (o i) (p i) i new.session.set old.text new.text r (same i seen) (is.does is_told i seen guards);
  begins = is.begins;
  stays = is.stays;
  keeps = is.keeps;
  commits = is.commits;
  canon = is.canon;
  faults = is.faults;
}
