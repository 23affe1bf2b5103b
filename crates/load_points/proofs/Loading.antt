-- A load from one place to another, by what each call of it answered.
use Rattle.std.proofs.Common.{◌≡◌, ◌≤◌, ◌+◌, ◌^◌, ◌++◌, ℕ, Bool, true, false, List, [], ◌∷◌, length, Some, None}
use Rattle.std.proofs.Common.{Result, Ok, Err, OnOk, IfOk, refl, sym, ap, subst, ◌∙◌, ◌⊎◌, inl, inr, ⊎_elim, arith, ℤ}
use Rattle.std.specs.List.{Contains}
use Rattle.outer_io.specs.declared.file_name.FileName.TheVariants.{Commit}
use Rattle.outer_io.specs.Files.{Files, bytes_of}
use Rattle.page_cache.specs.declared.faults.PageFault.{PageFault}
use Rattle.page_cache.specs.declared.faults.PageFault.TheVariants as page
use Rattle.page_cache.specs.Causes.{HasPageCause}
use Rattle.page_cache.specs.Evidence.{NotDamaged, OnDamage}
use Rattle.commit_list.specs.declared.listed.Listed.{Listed}
use Rattle.commit_list.specs.Commits.{CommitData}
use Rattle.commit_list.specs.CommitFiles.{IsCommitFile}
use Rattle.index_model.specs.State.{Index, State, at_rest}
use Rattle.index_model.specs.Script.{Answer}
use Rattle.script_lang.specs.Replies.{text_line}
use Rattle.stored_index.specs.Stored.{IsStored}
use Rattle.stored_index.proofs.KeptFiles.{kept_itself, stored_still}
use Rattle.index_opening.specs.Evidence.{IsEvident}
use Rattle.index_opening.proofs.Evident.{on_evident_less}
use Rattle.index_core.specs.Brought.{KeepsCommit}
use Rattle.index_core.specs.KeptLive.{KeepsLive}
use Rattle.index_core.specs.Sessions.{SessionData, Trusts}
use Rattle.index_core.specs.Light.{KeepsLevels}
use Rattle.index_core.specs.Steps.{FaultKeeps, KeepsUndone}
use Rattle.index_core.specs.Whole.{Adds, DoesWhole, HasNewCanonical, IsNewSegment, SessionMoment, with_point, with_points}
use Rattle.index_core.proofs.Answering.{no_cause}
use Rattle.index_core.proofs.FaultCauses.{fault_to, memory_cause}
use Rattle.load_points.specs.Loaded.{full_text, loaded_text, columns_answer, refusal}
use Rattle.load_points.specs.Loads.{HasKept, IsLoading, Loads, LoadMoment}
use Rattle.load_points.proofs.Counted.{added_is, done_answer, full_is, matched_is, rest_done}
use Rattle.index_core.proofs.Bringing.{brings_then}
use Rattle.index_core.proofs.Brought.{commit_after, commit_itself}
use Rattle.index_core.proofs.Lasting.{NoneGoes}
use Rattle.index_core.proofs.Listed.{new_canonical}
use Rattle.index_core.proofs.LosingNone.{found_keeps, keeps_same, kept_then, own_keeps}
use Rattle.index_core.proofs.Undone.{begins_none, fault_kept, levels_after, undone_after}
use Rattle.index_core.proofs.Wholes.{CommitSays, does_fault}
use Rattle.segment_set.proofs.Saving.{cause_after}

abbrev pub Starting : Type 1
Starting = State → Type 0

-- ---- faults

-- a fault of a call after which what was stored, or what the answer leaves, is
pub loads_fault : {T : Type 0} (told trusts : Type 0) (Starts : Starting) (answer : State → Answer) (old new : LoadMoment) (fault : PageFault)
    (r : Result Bool PageFault) → r ≡ Err fault
    → (told → (stored : State) → Starts stored → IsStored new.files stored ⊎ IsStored new.files (answer stored).state)
    → (told → (stored : State) → Starts stored → NotDamaged {T = T} (Err fault))
    → HasPageCause {T = T} old.faults new.faults (Err fault) → OnDamage {T = T} (Err fault) (IsEvident (told × trusts) new.files)
    → (told → trusts → FaultKeeps old.files new.files fault) → (told → trusts → KeepsCommit old.files new.files)
    → (told → trusts → KeepsLive NoneGoes old.files new.files) → Loads told trusts Starts answer old new r
loads_fault {T = T} told trusts Starts answer old new fault r is stored whole cause evident undone lasting lasts =
    subst (Loads told trusts Starts answer old new) (sym is) (record {
      does = λ t state h. does_fault new.files state (answer state) old.text new.text fault (other fault (whole t state h)) (stored t state h);
      unchanged = λ t. tt;
      canon = λ t state h. tt;
      levels = λ t state h. tt;
      undone = undone;
      lasting = lasting;
      lasts = lasts;
      cause = fault_to old.faults new.faults fault cause;
      evident = evident;
    })
  where
    other : (f : PageFault) → NotDamaged {T = T} (Err f) → NotDamaged {T = Bool} (Err f)
    other page.Failed whole = tt
    other page.Memory whole = tt
    other (page.Damaged d) whole = whole

-- for want of memory nothing is changed
pub loads_no_memory : (told trusts : Type 0) (Starts : Starting) (answer : State → Answer) (files : Files) (faults : ℕ) (before after : List ℕ)
    (r : Result Bool PageFault) → r ≡ Err page.Memory
    → ((stored : State) → Starts stored → IsStored files stored)
    → Loads told trusts Starts answer (record { files = files; faults = faults; text = before }) (record { files = files; faults = faults; text = after }) r
loads_no_memory told trusts Starts answer files faults before after r is keeps =
    loads_fault {T = Bool} told trusts Starts answer _ _ page.Memory r is (λ t state h. inl (keeps state h)) (λ t state h. tt)
    (memory_cause faults faults (omega arith)) tt (λ t h. inl (kept_itself files)) (λ t h. commit_itself files)
    (λ t h. keeps_same NoneGoes files files (kept_itself files))

-- ---- refusals

pub loads_refused : (told trusts : Type 0) (Starts : Starting) (answer : State → Answer) (files : Files) (faults : ℕ) (before after cause : List ℕ)
    → after ≡ before ++ text_line cause
    → ((stored : State) → Starts stored → IsStored files stored) → ((stored : State) → Starts stored → answer stored ≡ refusal stored cause)
    → Loads told trusts Starts answer (record { files = files; faults = faults; text = before }) (record { files = files; faults = faults; text = after })
    (Ok true)
loads_refused told trusts Starts answer files faults before after cause grew keeps is = record {
  does = λ t state h. subst (λ (a : Answer). DoesWhole files state a before after (Ok true)) (sym (is state h)) (grew, refl, keeps state h);
  unchanged = λ t e. refl;
  canon = λ t state h c says l inside apart head has. absurd (old_is_new files c says l inside apart);
  levels = λ t state h. inl refl;
  undone = λ t h. tt;
  lasting = λ t h. commit_itself files;
  lasts = λ t h. keeps_same NoneGoes files files (kept_itself files);
  cause = no_cause faults true;
  evident = tt;
}
  where
    old_is_new : (files : Files) (c : CommitData) (says : IsCommitFile (bytes_of (files Commit)) c) (l : Listed) → Contains c.listed l
        → IsNewSegment files l.segment → ⊥
    old_is_new files c says l inside apart = apart c says (l, inside, refl)

-- ---- the same from elsewhere

-- it starts so wherever it starts otherwise, the answers are the same, and the files are trusted so wherever they are otherwise
pub loads_as : (told trusted trusts : Type 0) (From Starts : Starting) (other answer : State → Answer) (old new : LoadMoment) (r : Result Bool PageFault)
    → (trusted → trusts)
    → ((stored : State) → From stored → Starts stored) → ((stored : State) → From stored → other stored ≡ answer stored)
    → Loads told trusts Starts answer old new r → Loads told trusted From other old new r
loads_as told trusted trusts From Starts other answer old new r more starts same loads = record {
  does = λ t state h. subst (λ (a : Answer). DoesWhole new.files state a old.text new.text r) (sym (same state h)) (loads.does t state (starts state h));
  unchanged = loads.unchanged;
  canon = λ t state h. loads.canon t state (starts state h);
  levels = λ t state h. loads.levels t state (starts state h);
  undone = λ t h. loads.undone t (more h);
  lasting = λ t h. loads.lasting t (more h);
  lasts = λ t h. loads.lasts t (more h);
  cause = loads.cause;
  evident = on_evident_less (told × trusts) (told × trusted) new.files r (λ h. (h.0, more h.1)) loads.evident;
}

-- what is said of files that tell themselves
pub loads_told : (told trusts : Type 0) (Starts : Starting) (answer : State → Answer) (old new : LoadMoment) (r : Result Bool PageFault)
    → Loads (Unit {0}) trusts Starts answer old new r → Loads told trusts Starts answer old new r
loads_told told trusts Starts answer old new r loads = record {
  does = λ t. loads.does tt;
  unchanged = λ t. loads.unchanged tt;
  canon = λ t. loads.canon tt;
  levels = λ t. loads.levels tt;
  undone = λ t h. loads.undone tt h;
  lasting = λ t h. loads.lasting tt h;
  lasts = λ t h. loads.lasts tt h;
  cause = loads.cause;
  evident = on_evident_less (Unit {0} × trusts) (told × trusts) new.files r (λ h. (tt, h.1)) loads.evident;
}

-- after a call that left the files
pub loads_after : {U : Type 0} (told trusted trusts : Type 0) (From Starts : Starting) (answer : State → Answer) (old middle new : LoadMoment) (x : U)
    (r : Result Bool PageFault) → (told → middle.files ≡ old.files)
    → middle.text ≡ old.text → HasPageCause old.faults middle.faults (Ok x) → (told → trusted → trusts)
    → (told → (stored : State) → From stored → Starts stored) → Loads told trusts Starts answer middle new r
    → Loads told trusted From answer old new r
loads_after told trusted trusts From Starts answer old middle new x r same text cause more starts loads = record {
  does = λ t state h. subst (λ (bytes : List ℕ). DoesWhole new.files state (answer state) bytes new.text r) text (loads.does t state (starts t state h));
  unchanged = λ t. subst (λ (f : Files). IfOk r (λ refused. refused ≡ true → new.files ≡ f)) (same t) (loads.unchanged t);
  canon = λ t state h. subst (λ (f : Files). OnOk r (HasNewCanonical f new.files)) (same t) (loads.canon t state (starts t state h));
  levels = λ t state h. subst (λ (f : Files). OnOk r (KeepsLevels f new.files)) (same t) (loads.levels t state (starts t state h));
  undone = λ t h. subst (λ (f : Files). KeepsUndone f new.files r) (same t) (loads.undone t (more t h));
  lasting = λ t h. subst (λ (f : Files). KeepsCommit f new.files) (same t) (loads.lasting t (more t h));
  lasts = λ t h. subst (λ (f : Files). KeepsLive NoneGoes f new.files) (same t) (loads.lasts t (more t h));
  cause = cause_after old.faults middle.faults new.faults r cause.on_ok loads.cause;
  evident = on_evident_less (told × trusts) (told × trusted) new.files r (λ h. (h.0, more h.0 h.1)) loads.evident;
}

-- what is stored is at rest, and so is a new index
loading_rests : (D : ℕ) (files : Files) (s : SessionData) (stored : State) (l : IsLoading D files s stored) → at_rest l.index ≡ l.index
loading_rests D files s None l = ap at_rest (sym (is_some _ _ l.is)) ∙ is_some _ _ l.is
  where
    is_some : (x y : Index) → Some x ≡ Some y → x ≡ y
    is_some x y e = cc
loading_rests D files s (Some i) l = ap at_rest (sym (is_some _ _ l.is) ∙ l.keeps.is) ∙ sym (sym (is_some _ _ l.is) ∙ l.keeps.is)
  where
    is_some : (x y : Index) → Some x ≡ Some y → x ≡ y
    is_some x y e = cc

-- ---- all points are added

-- points that are added begin no merge
points_begun : (i : Index) (points : List (List ℤ)) → (with_points i points).begun ≡ i.begun
points_begun i [] = refl
points_begun i (p ∷ ps) = points_begun (with_point i p) ps

-- where not all points fit, the file is refused
pub loading_full : (D : ℕ) (told trusts : Type 0) (files : Files) (s : SessionData) (faults : ℕ) (points : List (List ℤ)) (before after : List ℕ)
    → after ≡ before ++ text_line full_text → 2 ^ 24 + 1 ≤ s.set.points_given + length points
    → Loads told trusts (IsLoading D files s) (λ stored. columns_answer D stored points) (record { files = files; faults = faults; text = before })
    (record { files = files; faults = faults; text = after }) (Ok true)
loading_full D told trusts files s faults points before after grew many =
    loads_refused told trusts (IsLoading D files s) _ files faults before after full_text grew (λ stored l. l.keeps)
    (λ stored l. matched_is D stored l.index points l.is l.seen.dims
    ∙ full_is D stored l.index points l.is (subst (λ n. 2 ^ 24 + 1 ≤ n + length points) (sym l.seen.points_given) many))

-- the answer where all fit
fitting : (D : ℕ) (files : Files) (s : SessionData) (stored : State) (points : List (List ℤ)) (l : IsLoading D files s stored)
    → s.set.points_given + length points ≤ 2 ^ 24
    → columns_answer D stored points ≡ done_answer l.index points
fitting D files s stored points l fits =
    matched_is D stored l.index points l.is l.seen.dims
    ∙ added_is D stored l.index points l.is (subst (λ n. n + length points ≤ 2 ^ 24) (sym l.seen.points_given) fits)

-- the files are trusted then as they were
adds_trusts : {T : Type 0} (D : ℕ) (told : Type 0) (points : List (List ℤ)) (a b : SessionMoment) (r : Result T PageFault) → Adds D told points a b r → told
    → Trusts D a.files a.session → Trusts D b.files b.session
adds_trusts D told points a b r adds t trusts =
    record { guards = adds.stays.guards t trusts.guards; faithful = adds.stays.faithful t trusts.faithful; traced = adds.stays.traced t trusts }

-- and what was kept live is so after the commit, whatever it answers
commit_keeps : {T U : Type 0} (D : ℕ) (told : Type 0) (points : List (List ℤ)) (a b c : SessionMoment) (x : U) (r : Result T PageFault)
    → Adds D told points a b (Ok x) → CommitSays D told b c r → told → HasKept D a.files a.session → KeepsLive NoneGoes a.files c.files
commit_keeps D told points a b c x r adds commits t h = found_keeps D NoneGoes a.files c.files a.session.set h.finds
    (kept_then D NoneGoes NoneGoes NoneGoes a.files b.files c.files a.session.set b.session.set (λ number goes. goes) (λ number goes. goes)
    (adds.lasts t h.trusts.faithful) (inl (adds.kept t h.trusts.guards))
    (own_keeps D told b.files c.files b.session.set (adds.stays.faithful t h.trusts.faithful)
    (commits.durable.own t (adds.stays.guards t h.trusts.guards))))

-- a fault while they are added: what was stored is
pub adding_stopped : {T : Type 0} (D : ℕ) (told : Type 0) (answer : State → Answer) (points : List (List ℤ)) (a b : SessionMoment) (before after : List ℕ)
    (fault : PageFault) (r : Result Bool PageFault) → r ≡ Err fault
    → Adds {T = T} D told points a b (Err fault)
    → Loads told (HasKept D a.files a.session) (IsLoading D a.files a.session) answer (record { files = a.files; faults = a.faults; text = before })
    (record { files = b.files; faults = b.faults; text = after }) r
adding_stopped {T = T} D told answer points a b before after fault r is adds =
    loads_fault told (HasKept D a.files a.session) (IsLoading D a.files a.session) answer _ _ fault r is
    (λ t stored l. inl (stored_still a.files b.files stored (adds.kept t l.guards) l.keeps))
    (λ t stored l. adds.faults.whole t l.index l.seen) adds.faults.cause
    (on_evident_less {X = T} (told × Trusts D a.files a.session) (told × HasKept D a.files a.session) b.files (Err fault) (λ h. (h.0, h.1.trusts))
    adds.faults.evident)
    (λ t h. fault_kept a.files b.files (adds.kept t h.trusts.guards) fault) (λ t h. inl (adds.kept t h.trusts.guards))
    (λ t h. keeps_same NoneGoes a.files b.files (adds.kept t h.trusts.guards))

-- a fault of the commit after them: what was stored is, or all of it
pub commit_stopped : {T U : Type 0} (D : ℕ) (told : Type 0) (points : List (List ℤ)) (a b c : SessionMoment) (x : U) (before after : List ℕ) (fault : PageFault)
    (r : Result Bool PageFault) → r ≡ Err fault
    → a.session.set.points_given + length points ≤ 2 ^ 24 → Adds D told points a b (Ok x) → CommitSays {T = T} D told b c (Err fault)
    → Loads told (HasKept D a.files a.session) (IsLoading D a.files a.session) (λ stored. columns_answer D stored points)
    (record { files = a.files; faults = a.faults; text = before }) (record { files = c.files; faults = c.faults; text = after }) r
commit_stopped {T = T} D told points a b c x before after fault r is fits adds commits =
    loads_fault told (HasKept D a.files a.session) (IsLoading D a.files a.session) _ _ _ fault r is
    (λ t stored l. ⊎_elim
    (λ same. inl (stored_still b.files c.files stored same (stored_still a.files b.files stored (adds.kept t l.guards) l.keeps)))
    (λ there. inr (subst (IsStored c.files) (sym (ap (λ (n : Answer). n.state) (fitting D a.files a.session stored points l fits)))
    (subst (λ (i : Index). IsStored c.files (Some i)) (rest_done l.index points (loading_rests D a.files a.session stored l)) there)))
    (commits.durable.stored t (with_points l.index points) (adds.seen t l.index l.seen) (adds.stays.guards t l.guards)))
    (λ t stored l. commits.faults.whole t (with_points l.index points) (adds.seen t l.index l.seen))
    (cause_after a.faults b.faults c.faults (Err fault) adds.faults.cause.on_ok commits.faults.cause)
    (on_evident_less {X = T} (told × Trusts D b.files b.session) (told × HasKept D a.files a.session) c.files (Err fault)
    (λ h. (h.0, adds_trusts D told points a b (Ok x) adds h.0 h.1.trusts)) commits.faults.evident)
    (λ t h. undone_after {T = T} a.files b.files c.files (Err fault) (adds.kept t h.trusts.guards)
    (commits.durable.undone t (adds.stays.guards t h.trusts.guards)))
    (λ t h. commit_after a.files b.files c.files (adds.kept t h.trusts.guards)
    (commits.durable.lasting t (adds_trusts D told points a b (Ok x) adds t h.trusts)))
    (λ t h. commit_keeps {T = T} D told points a b c x (Err fault) adds commits t h)

-- all came, and are stored
pub all_loaded : {T U : Type 0} (D : ℕ) (told : Type 0) (points : List (List ℤ)) (a b c : SessionMoment) (x : U) (y : T) (next : ℕ) (before after : List ℕ)
    → a.session.set.points_given + length points ≤ 2 ^ 24 → next ≡ a.session.set.next → after ≡ before ++ loaded_text (length points) (next + length points)
    → Adds D told points a b (Ok x) → CommitSays D told b c (Ok y)
    → Loads told (HasKept D a.files a.session) (IsLoading D a.files a.session) (λ stored. columns_answer D stored points)
    (record { files = a.files; faults = a.faults; text = before }) (record { files = c.files; faults = c.faults; text = after }) (Ok false)
all_loaded D told points a b c x y next before after fits first grew adds commits = record {
  does = λ t stored l.
      let at = adds.seen t l.index l.seen in
      subst (λ (n : Answer). DoesWhole c.files stored n before after (Ok false)) (sym (fitting D a.files a.session stored points l fits)) (
        grew ∙ ap (λ n. before ++ loaded_text (length points) (n + length points)) (first ∙ sym l.seen.next),
        refl,
        subst (λ (i : Index). IsStored c.files (Some i)) (rest_done l.index points (loading_rests D a.files a.session stored l))
            (commits.durable.stored t (with_points l.index points) at (adds.stays.guards t l.guards)).0,
      );
  unchanged = λ t e. absurd cc;
  canon = λ t stored l.
      let at = adds.seen t l.index l.seen in
      let guards = adds.stays.guards t l.guards in
      new_canonical D a.files c.files a.session.set c.session (with_points l.index points) l.listed
      (brings_then D a.files b.files c.files a.session.set.parts b.session.set.parts c.session.set.parts (adds.canon t) (commits.canon t))
      (commits.seen t (with_points l.index points) at) (commits.stays.guards t guards)
      (commits.durable.kept t guards) commits.done.unchanged;
  levels = λ t stored l.
      let begun = begins_none D b.files b.session.set (with_points l.index points) (adds.seen t l.index l.seen)
      (points_begun l.index points ∙ ap (λ (i : Index). i.begun) (sym (loading_rests D a.files a.session stored l))) in
      levels_after a.files b.files c.files (adds.kept t l.guards) (commits.done.few t (adds.stays.guards t l.guards) begun);
  undone = λ t h. tt;
  lasting = λ t h. commit_after a.files b.files c.files (adds.kept t h.trusts.guards)
      (commits.durable.lasting t (adds_trusts D told points a b (Ok x) adds t h.trusts));
  lasts = λ t h. commit_keeps D told points a b c x (Ok y) adds commits t h;
  cause =
      let one = adds.faults.cause.on_ok in
      let two = commits.faults.cause.on_ok in
      let late = adds.faults.cause.later in
      let more = commits.faults.cause.later in
      record { later = omega arith; on_ok = two ∙ one; failed = λ e. absurd cc };
  evident = tt;
}
