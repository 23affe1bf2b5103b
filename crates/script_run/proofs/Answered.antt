-- The answer to one line, from what was read and what was done.
use Rattle.std.proofs.Common.{◌≡◌, ◌≢◌, ℕ, Bool, true, false, if◌then◌else◌, List, ◌++◌, Some, None, Ok, Err}
use Rattle.std.proofs.Common.{Result, IfOk, OnErr, IsErrOf, cond, refl, sym, ap, ◌∙◌, subst, ◌⊎◌, inl, inr}
use Rattle.outer_io.specs.Files.{Files}
use Rattle.page_cache.specs.declared.faults.PageFault.{PageFault}
use Rattle.page_cache.specs.declared.faults.PageFault.TheVariants as page
use Rattle.page_cache.specs.Evidence.{FaultShows}
use Rattle.script_lang.specs.Requests.{Request}
use Rattle.script_lang.specs.Requests as asks
use Rattle.script_lang.specs.Replies.{refused_text}
use Rattle.range_docs.specs.Reading.{RangeReading}
use Rattle.range_docs.specs.Seen.{AgreesOnRanges, request_in}
use Rattle.range_docs.specs.declared.faults.RangeFault.TheVariants as range
use Rattle.script_lang.specs.declared.faults.LineFault.TheVariants as fault
use Rattle.script_lang.specs.declared.faults.Refusal.{Refusal}
use Rattle.index_model.specs.State.{Index, State, at_rest}
use Rattle.index_model.specs.Step.{Outcome, Done, Refused, step_on}
use Rattle.index_model.specs.Script.{answer_to}
use Rattle.index_model.specs.declared.session.Applied.{Applied}
use Rattle.index_model.specs.declared.session.Applied.TheVariants as applied
use Rattle.stored_index.specs.Stored.{IsStored}
use Rattle.stored_index.proofs.KeptFiles.{stored_still}
use Rattle.index_core.specs.Sessions.{SessionData, Guards}
use Rattle.index_core.specs.Steps.{DoesOver, KeepsOver, Stores, is_committing}
use Rattle.script_run.specs.LineAnswers.{IsAnswered, IsUndone, Replies, IsSessionOf}
use Rattle.script_run.proofs.SoFar.{line_at}
use Rattle.script_run.specs.Languages.{LineRequest, answer, answer_of, asks_commit, commits, line_request, meaning}
use Rattle.script_run.specs.Script.{final, stored_by}
use Rattle.script_run.specs.declared.language.Language.{Language}
use Rattle.range_docs.specs.declared.faults.RangeFault.{RangeFault}
use Rattle.range_docs.specs.Replies.{range_fault_text}

-- ---- what is read of a line

-- a line is answered by what was read of it
answer_is : (lang : Language) → (line : ℕ) (i : Index) (dims : ℕ) (bytes : List ℕ) (reading : LineRequest) → i.dims ≡ dims
    → line_request lang (Some dims) bytes ≡ reading
    → answer lang line (Some i) bytes ≡ answer_of line (Some i) reading
unfolding answer
answer_is lang line i dims bytes reading d r = ap (λ n. answer_of line (Some i) (line_request lang (Some n) bytes)) d ∙ ap (answer_of line (Some i)) r

commits_is : (lang : Language) → (i : Index) (dims : ℕ) (bytes : List ℕ) (reading : LineRequest) → i.dims ≡ dims → line_request lang (Some dims) bytes ≡ reading
    → commits lang (Some i) bytes ≡ asks_commit reading
commits_is lang i dims bytes reading d r = ap (λ n. asks_commit (line_request lang (Some n) bytes)) d ∙ ap asks_commit r

-- a fault that is no want of memory is the one that was read
pub fault_read : {C : Type 0} (request : C → Request) (f : RangeFault) (reading : RangeReading) → f ≢ range.Memory
    → AgreesOnRanges request (Err f) reading → request_in reading ≡ Err f
fault_read request range.Memory reading no' h = absurd (no' refl)
fault_read request range.NotRange reading no' h = h
fault_read request range.NotRanges reading no' h = h
fault_read request (range.Line fault.Memory) reading no' h = absurd h
fault_read request (range.Line fault.TooLong) reading no' h = h
fault_read request (range.Line fault.NotUtf8) reading no' h = h
fault_read request (range.Line fault.NoIndex) reading no' h = h
fault_read request (range.Line fault.Unknown) reading no' h = h
fault_read request (range.Line fault.BadName) reading no' h = h
fault_read request (range.Line fault.NotTwo) reading no' h = h
fault_read request (range.Line fault.Words) reading no' h = h
fault_read request (range.Line (fault.Number word)) reading no' h = h
fault_read request (range.Line fault.Dims) reading no' h = h
fault_read request (range.Line fault.LeafSize) reading no' h = h
fault_read request (range.Line fault.BadK) reading no' h = h
fault_read request (range.Line (fault.Geo geo)) reading no' h = h

-- a line where no index is there is answered by what was read of it
pub first_is : (lang : Language) → (line : ℕ) (bytes : List ℕ) (reading : LineRequest) → line_request lang None bytes ≡ reading
    → answer lang line None bytes ≡ answer_of line None reading
unfolding answer
first_is lang line bytes reading r = ap (answer_of line None) r

-- lines that read alike are answered alike
pub first_alike : (lang : Language) → (line : ℕ) (bytes others : List ℕ) → line_request lang None bytes ≡ line_request lang None others
    → answer lang line None bytes ≡ answer lang line None others
unfolding answer
first_alike lang line bytes others same = ap (answer_of line None) same

-- ---- a line that can't be read

refused_one : (b : Bool) (n : ℕ) → n ≡ 1 → b ≡ true → n ≡ cond b 1 0
refused_one true n one e = one
refused_one false n one e = absurd cc

module _ (lang : Language) (D : ℕ) (files : Files) (s : SessionData) (i : Index) (stored : State) (number : ℕ) (bytes before after : List ℕ) (f : RangeFault)
    (h : IsSessionOf D files s i stored) (r : line_request lang (Some D) bytes ≡ Err f) where
  unread : answer lang number (Some i) bytes ≡ answer_of number (Some i) (Err f)
  unread = answer_is lang number i D bytes (Err f) h.seen.dims r

  uncommitted : stored ≡ stored_by (meaning lang) number stored (Some i) bytes
  uncommitted = sym (ap (λ b. if b then final (answer lang number (Some i) bytes).state else stored) (commits_is lang i D bytes (Err f) h.seen.dims r))

  refuses_unread : (is_refused : Bool) → is_refused ≡ true → after ≡ before ++ range_fault_text number f
      → Replies lang D (line_at number i stored bytes) files s before after (Ok is_refused)
  refuses_unread is_refused e text = (
    subst (λ a. IsAnswered D a (stored_by (meaning lang) number stored (Some i) bytes) files s is_refused) (sym unread)
        (record {
          index = i;
          state = refl;
          stands = record { seen = h.seen; guards = h.guards; keeps = subst (IsStored files) uncommitted h.keeps };
          refused = refused_one is_refused 1 refl e;
        }),
    text ∙ ap (λ a. before ++ a.text) (sym unread),
  )

  pub unread_replies : (result : Result Bool PageFault) → IfOk result (λ r. (r ≡ true) × (after ≡ before ++ range_fault_text number f))
      → OnErr result (IsErrOf result page.Memory)
      → Replies lang D (line_at number i stored bytes) files s before after result
  unread_replies (Ok r) ok memory = refuses_unread r ok.0 ok.1
  unread_replies (Err page.Memory) ok memory = inl h.keeps
  unread_replies (Err page.Failed) ok memory = let e : IsErrOf {T = Bool} (Err page.Failed) page.Memory = memory in absurd cc
  unread_replies (Err (page.Damaged damage)) ok memory = let e : IsErrOf {T = Bool} (Err (page.Damaged damage)) page.Memory = memory in absurd cc

-- ---- a request

same_test : (r : Request) → asks_commit (Ok r) ≡ is_committing r
same_test asks.Blank = refl
same_test (asks.Create dims leaf_size) = refl
same_test (asks.Add points) = refl
same_test (asks.Delete doc) = refl
same_test (asks.DeleteBox lo hi) = refl
same_test (asks.InBox view lo hi) = refl
same_test (asks.InPolygon view rings) = refl
same_test (asks.Nearest view k at) = refl
same_test asks.Flush = refl
same_test asks.Merge = refl
same_test (asks.MergeBegin positions) = refl
same_test asks.MergeEnd = refl
same_test (asks.Snapshot name) = refl
same_test (asks.Release name) = refl
same_test asks.Commit = refl
same_test asks.Reopen = refl

no_commit : {P : Type 0} → false ≡ true → P
no_commit e = cc

-- what is left by a request that commits is at rest the index before
rests : (number : ℕ) (i : Index) (r : Request) → is_committing r ≡ true → Some (at_rest i) ≡ final (answer_to number (Some i) (step_on i r)).state
unfolding step_on
rests number i asks.Commit e = refl
rests number i asks.Reopen e = refl
rests number i asks.Blank e = no_commit e
rests number i (asks.Create dims leaf_size) e = no_commit e
rests number i (asks.Add points) e = no_commit e
rests number i (asks.Delete doc) e = no_commit e
rests number i (asks.DeleteBox lo hi) e = no_commit e
rests number i (asks.InBox view lo hi) e = no_commit e
rests number i (asks.InPolygon view rings) e = no_commit e
rests number i (asks.Nearest view k at) e = no_commit e
rests number i asks.Flush e = no_commit e
rests number i asks.Merge e = no_commit e
rests number i (asks.MergeBegin positions) e = no_commit e
rests number i asks.MergeEnd e = no_commit e
rests number i (asks.Snapshot name) e = no_commit e
rests number i (asks.Release name) e = no_commit e

-- what is stored after a command that was answered: where it commits, the index at rest
stored_done : {T : Type 0} (old new : Files) (i : Index) (stored after : State) (t : SessionData) (x : T) (b : Bool) → IsStored old stored
    → (b ≡ true → Some (at_rest i) ≡ after)
    → KeepsOver b old new t (Ok x) → (b ≡ true → Stores old new i t.set (Ok x)) → IsStored new (if b then after else stored)
stored_done old new i stored after t x false h rest keeps stores = stored_still old new stored keeps h
stored_done old new i stored after t x true h rest keeps stores = subst (IsStored new) (rest refl) (stores refl).0

-- after a fault it may be
stored_left : (T : Type 0) (old new : Files) (i : Index) (stored after : State) (t : SessionData) (e : PageFault) (b : Bool) → IsStored old stored
    → (b ≡ true → Some (at_rest i) ≡ after)
    → KeepsOver {T = T} b old new t (Err e) → (b ≡ true → Stores {T = T} old new i t.set (Err e)) → IsStored new stored ⊎ ((b ≡ true) × IsStored new after)
stored_left T old new i stored after t e false h rest keeps stores = inl (stored_still old new stored keeps h)
stored_left T old new i stored after t e true h rest keeps stores =
    elim (stores refl) as (λ _. IsStored new stored ⊎ ((true ≡ true) × IsStored new after)) [
      | inl same ↦ inl (stored_still old new stored same h)
      | inr rested ↦ inr (refl, subst (IsStored new) (rest refl) rested)
    ]

-- where a command was answered it is
stored_untold : {T : Type 0} (old new : Files) (i : Index) (stored after : State) (t : SessionData) (x : T) (b : Bool) → IsStored old stored
    → (b ≡ true → Some (at_rest i) ≡ after)
    → KeepsOver b old new t (Ok x) → (b ≡ true → Stores old new i t.set (Ok x)) → IsStored new stored ⊎ ((b ≡ true) × IsStored new after)
stored_untold old new i stored after t x false h rest keeps stores = inl (stored_still old new stored keeps h)
stored_untold old new i stored after t x true h rest keeps stores = inr (refl, subst (IsStored new) (rest refl) (stores refl).0)

by_done : (D number : ℕ) (o : Outcome) (i : Index) (new : Files) (t : SessionData) (kept : State) (before after : List ℕ)
    → DoesOver D new o i t.set before after (Ok applied.Done)
    → Guards D new t → IsStored new kept → IsAnswered D (answer_to number (Some i) o) kept new t false × (after ≡ before ++ (answer_to number (Some i) o).text)
by_done D number (Done state text) i new t kept before after h guards stored = (
  record { index = h.0.0; state = h.0.1; stands = record { seen = h.0.2; guards = guards; keeps = stored }; refused = refl },
  h.1,
)
by_done D number (Refused cause) i new t kept before after h guards stored = absurd h

by_refused : (D number : ℕ) (o : Outcome) (i : Index) (new : Files) (t : SessionData) (kept : State) (before middle after : List ℕ) (why : Refusal)
    → DoesOver D new o i t.set before middle (Ok (applied.Refused why)) → after ≡ middle ++ refused_text number why
    → Guards D new t → IsStored new kept → IsAnswered D (answer_to number (Some i) o) kept new t true × (after ≡ before ++ (answer_to number (Some i) o).text)
by_refused D number (Done state text) i new t kept before middle after why h text' guards stored = absurd h
by_refused D number (Refused cause) i new t kept before middle after why h text guards stored = (
  record { index = i; state = refl; stands = record { seen = h.1; guards = guards; keeps = stored }; refused = refl },
  text ∙ (λ j. h.2 j ++ refused_text number (h.0 j)),
)

-- a line that was read, before a session that does its request
module _ (lang : Language) (D : ℕ) (old new : Files) (s t : SessionData) (i : Index) (stored : State) (number : ℕ) (bytes : List ℕ) (r : Request)
    (before : List ℕ)
    (h : IsSessionOf D old s i stored) (reads : line_request lang (Some D) bytes ≡ Ok r) where
  answer_says : answer lang number (Some i) bytes ≡ answer_to number (Some i) (step_on i r)
  answer_says = answer_is lang number i D bytes (Ok r) h.seen.dims reads

  commits_says : commits lang (Some i) bytes ≡ is_committing r
  commits_says = commits_is lang i D bytes (Ok r) h.seen.dims reads ∙ same_test r

  stored_says : stored_by (meaning lang) number stored (Some i) bytes
      ≡ (if is_committing r then final (answer_to number (Some i) (step_on i r)).state else stored)
  stored_says = (λ j. if commits_says j then final (answer_says j).state else stored)

  kept_done : (x : Applied) → KeepsOver (is_committing r) old new t (Ok x) → (is_committing r ≡ true → Stores old new i t.set (Ok x))
      → IsStored new (stored_by (meaning lang) number stored (Some i) bytes)
  kept_done x keeps stores = subst (IsStored new) (sym stored_says)
      (stored_done old new i stored (final (answer_to number (Some i) (step_on i r)).state) t x (is_committing r) h.keeps (rests number i r) keeps stores)

  pub done_replies : (after : List ℕ) → DoesOver D new (step_on i r) i t.set before after (Ok applied.Done) → Guards D new t
      → KeepsOver (is_committing r) old new t (Ok applied.Done) → (is_committing r ≡ true → Stores old new i t.set (Ok applied.Done))
      → Replies lang D (line_at number i stored bytes) new t before after (Ok false)
  done_replies after does guards keeps stores =
      subst (λ a. IsAnswered D a (stored_by (meaning lang) number stored (Some i) bytes) new t false × (after ≡ before ++ a.text)) (sym answer_says)
      (by_done D number (step_on i r) i new t (stored_by (meaning lang) number stored (Some i) bytes) before after does guards
      (kept_done applied.Done keeps stores))

  refused_true : (middle after : List ℕ) (why : Refusal) → DoesOver D new (step_on i r) i t.set before middle (Ok (applied.Refused why))
      → after ≡ middle ++ refused_text number why → Guards D new t
      → KeepsOver (is_committing r) old new t (Ok (applied.Refused why)) → (is_committing r ≡ true → Stores old new i t.set (Ok (applied.Refused why)))
      → Replies lang D (line_at number i stored bytes) new t before after (Ok true)
  refused_true middle after why does text guards keeps stores =
      subst (λ a. IsAnswered D a (stored_by (meaning lang) number stored (Some i) bytes) new t true × (after ≡ before ++ a.text)) (sym answer_says)
      (by_refused D number (step_on i r) i new t (stored_by (meaning lang) number stored (Some i) bytes) before middle after why does text guards
      (kept_done (applied.Refused why) keeps stores))

  left_says : IsStored new stored ⊎ ((is_committing r ≡ true) × IsStored new (final (answer_to number (Some i) (step_on i r)).state))
      → IsUndone lang (line_at number i stored bytes) new
  left_says (inl same) = inl same
  left_says (inr p) = inr (commits_says ∙ p.0, subst (λ a. IsStored new (final a.state)) (sym answer_says) p.1)

  fault_left : (after : List ℕ) (e : PageFault) → FaultShows (λ _. ⊥) e → IsUndone lang (line_at number i stored bytes) new
      → Replies lang D (line_at number i stored bytes) new t before after (Err e)
  fault_left after page.Failed whole left = left
  fault_left after page.Memory whole left = left
  fault_left after (page.Damaged damage) whole left = absurd whole

  pub fault_replies : (after : List ℕ) (e : PageFault) → FaultShows (λ _. ⊥) e → KeepsOver {T = Applied} (is_committing r) old new t (Err e)
      → (is_committing r ≡ true → Stores {T = Applied} old new i t.set (Err e)) → Replies lang D (line_at number i stored bytes) new t before after (Err e)
  fault_replies after e whole keeps stores = fault_left after e whole
      (left_says (stored_left Applied old new i stored (final (answer_to number (Some i) (step_on i r)).state) t e (is_committing r) h.keeps (rests number i r)
      keeps stores))

  -- the answer of a refused command found no memory
  pub untold_replies : (after : List ℕ) (x : Applied) → KeepsOver (is_committing r) old new t (Ok x) → (is_committing r ≡ true → Stores old new i t.set (Ok x))
      → Replies lang D (line_at number i stored bytes) new t before after (Err page.Memory)
  untold_replies after x keeps stores = left_says
      (stored_untold old new i stored (final (answer_to number (Some i) (step_on i r)).state) t x (is_committing r) h.keeps (rests number i r) keeps stores)

  pub refused_replies : (middle after : List ℕ) (why : Refusal) → DoesOver D new (step_on i r) i t.set before middle (Ok (applied.Refused why)) → Guards D new t
      → KeepsOver (is_committing r) old new t (Ok (applied.Refused why)) → (is_committing r ≡ true → Stores old new i t.set (Ok (applied.Refused why)))
      → (result : Result Bool PageFault) → IfOk result (λ x. (x ≡ true) × (after ≡ middle ++ refused_text number why))
      → OnErr result (IsErrOf result page.Memory)
      → Replies lang D (line_at number i stored bytes) new t before after result
  refused_replies middle after why does guards keeps stores (Ok x) ok memory =
      subst (λ y. Replies lang D (line_at number i stored bytes) new t before after (Ok y)) (sym ok.0)
      (refused_true middle after why does ok.1 guards keeps stores)
  refused_replies middle after why does guards keeps stores (Err page.Memory) ok memory = untold_replies after (applied.Refused why) keeps stores
  refused_replies middle after why does guards keeps stores (Err page.Failed) ok memory =
      let e : IsErrOf {T = Bool} (Err page.Failed) page.Memory = memory in
      absurd cc
  refused_replies middle after why does guards keeps stores (Err (page.Damaged damage)) ok memory =
      let e : IsErrOf {T = Bool} (Err (page.Damaged damage)) page.Memory = memory in absurd cc
