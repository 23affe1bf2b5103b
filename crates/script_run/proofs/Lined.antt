-- Lines in a session: what is so far, and how the run stops at one.
use Rattle.std.proofs.Common.{◌≡◌, ◌≤◌, ℕ, ◌+◌, Bool, List, [], ◌∷◌, ◌++◌, Some, None, Result, Ok, Err, IfOk}
use Rattle.std.proofs.Common.{OnErr, IsErrOf, refl, sym, ap, ◌∙◌, subst, ◌⊎◌, inl, inr, add-zero, arith}
use Rattle.outer_io.specs.Counts.{Rose}
use Rattle.outer_io.specs.Files.{Files, bytes_of}
use Rattle.outer_io.specs.declared.file_name.FileName.TheVariants.{Commit}
use Rattle.outer_io.specs.Parts.{WritesPart}
use Rattle.page_cache.specs.declared.faults.PageFault.{PageFault}
use Rattle.page_cache.specs.declared.faults.PageFault.TheVariants as page
use Rattle.page_cache.specs.Causes.{HasPageCause}
use Rattle.page_cache.specs.Evidence.{FaultShows}
use Rattle.index_model.specs.State.{Index, State}
use Rattle.stored_index.specs.Stored.{IsStored}
use Rattle.index_core.specs.Sessions.{SessionData}
use Rattle.commit_list.specs.Commits.{CommitData}
use Rattle.commit_list.specs.CommitFiles.{IsCommitFile}
use Rattle.script_run.specs.Origins.{IsFrom}
use Rattle.script_run.specs.declared.origin.Origin.{Origin}
use Rattle.script_run.specs.declared.origin.Origin.TheVariants as origin
use Rattle.script_run.proofs.Opened.{some_stored}
use Rattle.run_status.specs.Sent.{IsSentPart, IsSent}
use Rattle.script_run.specs.LineAnswers.{SendsReply, IsAnswered, Line, Replies, answer_to_line, stored_by_line}
use Rattle.script_run.specs.Progress.{ScriptPlace, Progress, start}
use Rattle.run_status.specs.Ends.{HasStopCause}
use Rattle.script_run.specs.Runs.{EndsLines, EndsRead, Halts}
use Rattle.script_run.specs.declared.halt.Halt.{Halt}
use Rattle.run_status.specs.Stops.{stop_of}
use Rattle.run_status.specs.declared.stop.Stop.{Stop}
use Rattle.run_status.specs.declared.stop.Stop.TheVariants as stop
use Rattle.script_run.proofs.Going.{one_more, ends_from, halts_from, halts_here, read_from, stops_here, breaks_here, fault_stops, finishes_here}
use Rattle.script_run.specs.Languages.{answer, meaning}
use Rattle.script_run.specs.declared.language.Language.{Language}
use Rattle.script_run.proofs.SoFar.{place_on}
use Rattle.run_status.proofs.Ending.{rose_from, page_memory, page_none}
use Rattle.stored_index.proofs.Whole.{no_index}

-- ---- the beginning

-- no session was opened, for this fault, and all stays as it was
pub unopened : (lang : Language) → (told : Type 0) (p : ScriptPlace) (old files : Files) (new : List ℕ) (fault : PageFault) → FaultShows (λ _. ⊥) fault
    → files ≡ old
    → IsStored old p.stored
    → (result : Result ℕ Stop) → result ≡ Err (stop_of fault) → p.written ≡ new → EndsLines (meaning lang) told p files new result
unopened lang told p old files new fault whole same keeps result is still = subst (EndsLines (meaning lang) told p files new) (sym is)
    (fault_stops {told = told} (meaning lang) p files new fault whole (λ _. sym still) (inl (subst (λ f. IsStored f p.stored) (sym same) keeps)))

-- what is stored where an index comes from
pub origin_keeps : (files : Files) (o : Origin) (i : Index) (stored : State) → IsFrom files o i stored → IsStored files stored
origin_keeps files (origin.New dims leaf_size) i stored h = subst (IsStored files) (sym h.2) h.0
origin_keeps files (origin.Stored commit) i stored h = subst (IsStored files) (sym h.2) h.1

module _ (lang : Language) (told : Type 0) (old files after : Files) (written : List ℕ) where
  -- no commit was found, so the lines start without an index
  pub from_none : (state : State) → files ≡ old → old Commit ≡ None → IsStored old state → (lines : List (List ℕ)) (new : List ℕ) (result : Result ℕ Halt)
      → (files Commit ≡ None → EndsRead (meaning lang) told (start None lines written) after new result)
      → EndsRead (meaning lang) told (start state lines written) after new result
  from_none state same none h lines new result ends =
      subst (λ s. EndsRead (meaning lang) told (start s lines written) after new result) (sym (no_index old state none h))
      (ends (ap (λ (f : Files). f Commit) same ∙ none))

  -- a commit was found, so the lines start from what it stores
  pub from_some : (commit : CommitData) (state : State) → files ≡ old → IsCommitFile (bytes_of (old Commit)) commit → IsStored old state
      → (lines : List (List ℕ)) (new : List ℕ) (result : Result ℕ Halt)
      → ((i : Index) (stored : State) → IsFrom files (origin.Stored commit) i stored
      → EndsRead (meaning lang) told (place_on 1 0 i stored lines written) after new result)
      → EndsRead (meaning lang) told (start state lines written) after new result
  from_some commit state same says h lines new result ends =
      let some = some_stored old commit state says h in
      subst (λ s. EndsRead (meaning lang) told (start s lines written) after new result) (sym some.1)
      (ends some.0 (Some some.0) (subst (λ (f : Files). IsFrom f (origin.Stored commit) some.0 (Some some.0)) (sym same) (says, some.2, refl)))

-- ---- a line that was sent

-- what holds of the value that was handed on holds of the result
pub known_is : {T : Type 0} (P : T → Type 0) (known : T) (result : Result T Stop) → IfOk result (λ x. x ≡ known) → P known → IfOk result P
known_is P known (Ok x) is h = subst P (sym is) h
known_is P known (Err e) is h = tt

module _ {told : Type 0} (lang : Language) (D : ℕ) (l : Line) (files : Files) (s : SessionData) (before reply written new : List ℕ) (is_refused : Bool) where
  -- the answer was sent, or a part of it
  pub sent_answers : before ≡ [] → Replies lang D l files s before reply (Ok is_refused) → (result : Result Bool Stop) → IfOk result (λ x. x ≡ is_refused)
      → OnErr result (IsErrOf result stop.SinkFault) → (told → IsSent reply written new result) → SendsReply lang told D l files s written new result
  sent_answers none a (Ok x) known cause sent =
      subst (λ y. IsAnswered D (answer_to_line lang l) (stored_by_line lang l) files s y × (told → new ≡ written ++ (answer_to_line lang l).text)) (sym known)
      (a.0, λ t. sent t ∙ ap (λ w. written ++ w) (a.1 ∙ ap (λ w. w ++ (answer_to_line lang l).text) none))
  sent_answers none a (Err stop.SinkFault) known cause sent =
      (a.0.stands.keeps, λ t. subst (WritesPart written new) (a.1 ∙ ap (λ w. w ++ (answer_to_line lang l).text) none) (sent t))
  sent_answers none a (Err stop.FolderFault) known cause sent = let e : IsErrOf {T = Bool} (Err stop.FolderFault) stop.SinkFault = cause in absurd cc
  sent_answers none a (Err stop.Memory) known cause sent = let e : IsErrOf {T = Bool} (Err stop.Memory) stop.SinkFault = cause in absurd cc
  sent_answers none a (Err (stop.Damaged damage)) known cause sent = let e : IsErrOf {T = Bool} (Err (stop.Damaged damage)) stop.SinkFault = cause in absurd cc

-- the answer failed, so nothing was sent
pub left_answers : (lang : Language)
    → (told : Type 0) (D : ℕ) (l : Line) (files : Files) (s : SessionData) (before reply written new : List ℕ) (fault : PageFault)
    → Replies lang D l files s before reply (Err fault)
    → (result : Result Bool Stop) → result ≡ Err (stop_of fault) → new ≡ written → SendsReply lang told D l files s written new result
left_answers lang told D l files s before reply written new page.Failed left result is same =
    subst (SendsReply lang told D l files s written new) (sym is) (left, λ t. same)
left_answers lang told D l files s before reply written new page.Memory left result is same =
    subst (SendsReply lang told D l files s written new) (sym is) (left, λ t. same)
left_answers lang told D l files s before reply written new (page.Damaged damage) left result is same = absurd left

pub only_sink : {T : Type 0} (result : Result T Stop) → OnErr result (IsErrOf result stop.SinkFault)
    → OnErr result (IsErrOf result stop.SinkFault ⊎ IsErrOf result stop.Memory)
only_sink (Ok x) h = tt
only_sink (Err e) h = inl h

-- ---- lines where no index is there

abbrev pub place_off : (line refused : ℕ) → (rest : List (List ℕ)) → (written : List ℕ) → ScriptPlace
place_off line refused rest written = record { line = line; refused = refused; state = None; stored = None; rest = rest; written = written }

module _ {told : Type 0} (lang : Language) (from : ScriptPlace) (line refused : ℕ) (ls : List (List ℕ)) (written : List ℕ)
    (g : Progress (meaning lang) told from (place_off line refused ls written)) where
  -- one more line is done, and still no index is there
  pub first_goes_on : (new : List ℕ) (bytes : List ℕ) (rest : List (List ℕ)) → ls ≡ bytes ∷ rest → (count : ℕ)
      → count ≡ refused + (answer lang line None bytes).refused
      → (answer lang line None bytes).state ≡ None → (told → new ≡ written ++ (answer lang line None bytes).text)
      → Progress (meaning lang) told from (place_off (line + 1) count rest new)
  first_goes_on new bytes rest next count counted state text =
      one_more (meaning lang) from (place_off line refused ls written) (place_off (line + 1) count rest new) bytes g next refl state refl counted text

  -- a line makes an index, and the rest is done on it
  pub made_ends : (bytes : List ℕ) (rest : List (List ℕ)) → ls ≡ bytes ∷ rest → (i : Index) (middle : List ℕ) → (answer lang line None bytes).state ≡ Some i
      → (answer lang line None bytes).refused ≡ 0 → (told → middle ≡ written ++ (answer lang line None bytes).text)
      → (after : Files) (last : List ℕ) (result : Result ℕ Halt)
      → EndsRead (meaning lang) told (place_on (line + 1) refused i None rest middle) after last result → EndsRead (meaning lang) told from after last result
  made_ends bytes rest next i middle state none_refused text after last result h =
      read_from (meaning lang) from (place_on (line + 1) refused i None rest middle)
      (one_more (meaning lang) from (place_off line refused ls written) (place_on (line + 1) refused i None rest middle) bytes g next refl state refl
      (sym (ap (λ r. refused + r) none_refused ∙ add-zero refused)) text)
      after last result h

  -- no line is left, and none has opened an index
  pub finishes_first : (files : Files) → IsStored files None → ls ≡ [] → EndsLines (meaning lang) told from files written (Ok refused)
  finishes_first files none empty =
      ends_from (meaning lang) from (place_off line refused ls written) g files written (Ok refused)
      (finishes_here {told = told} (meaning lang) (place_off line refused ls written) files written empty (λ _. refl) none)

  -- the source fails before another line has come
  pub halts_first : (files : Files) → IsStored files None → Halts (meaning lang) told from files written
  halts_first files none = halts_from (meaning lang) from (place_off line refused ls written) g files written
      (halts_here (meaning lang) (place_off line refused ls written) files written (λ _. refl) none)

  -- or memory is wanting, before an index was opened
  pub memory_first : (files : Files) → IsStored files None → EndsLines (meaning lang) told from files written (Err stop.Memory)
  memory_first files none =
      ends_from (meaning lang) from (place_off line refused ls written) g files written (Err stop.Memory)
      (stops_here (meaning lang) (place_off line refused ls written) files written (λ _. refl) (inl none))

module _ {told : Type 0} (lang : Language) (from : ScriptPlace) (files : Files) (line refused : ℕ) (ls : List (List ℕ)) (written new : List ℕ)
    (g : Progress (meaning lang) told from (place_off line refused ls written)) (none : IsStored files None) where
  first_stops : {T : Type 0} (bytes : List ℕ) (rest : List (List ℕ)) → ls ≡ bytes ∷ rest → (e : Stop)
      → IsErrOf {T = T} (Err e) stop.SinkFault ⊎ IsErrOf {T = T} (Err e) stop.Memory
      → (told → IsSentPart (answer lang line None bytes).text written new e)
      → EndsLines (meaning lang) told (place_off line refused ls written) files new (Err e)
  first_stops bytes rest next stop.SinkFault cause sent = breaks_here (meaning lang) (place_off line refused ls written) files new bytes rest next sent none
  first_stops bytes rest next stop.Memory cause sent = stops_here (meaning lang) (place_off line refused ls written) files new sent (inl none)
  first_stops bytes rest next stop.FolderFault cause sent = absurd (elim cause as (λ _. ⊥) [ inl e ↦ cc | inr e ↦ cc ])
  first_stops bytes rest next (stop.Damaged damage) cause sent = elim cause as (λ _. ⊥) [ inl e ↦ cc | inr e ↦ cc ]

  -- the run stops at the next line
  pub stops_first : {T : Type 0} (bytes : List ℕ) (rest : List (List ℕ)) → ls ≡ bytes ∷ rest → (e : Stop)
      → IsErrOf {T = T} (Err e) stop.SinkFault ⊎ IsErrOf {T = T} (Err e) stop.Memory
      → (told → IsSentPart (answer lang line None bytes).text written new e) → EndsLines (meaning lang) told from files new (Err e)
  stops_first {T} bytes rest next e cause sent =
      ends_from (meaning lang) from (place_off line refused ls written) g files new (Err e) (first_stops {T = T} bytes rest next e cause sent)

-- ---- causes

pub page_then : {S T : Type 0} (f0 f1 : ℕ) (x : S) (result : Result T PageFault) → HasPageCause f0 f1 (Ok x) → OnErr result (IsErrOf result page.Memory)
    → HasPageCause f0 f1 result
page_then f0 f1 x (Ok y) h only = record { later = h.later; on_ok = h.on_ok; failed = λ e. absurd cc }
page_then f0 f1 x (Err page.Memory) h only = record { later = h.later; on_ok = tt; failed = λ e. absurd cc }
page_then {T = T} f0 f1 x (Err page.Failed) h only = let e : IsErrOf {T = T} (Err page.Failed) page.Memory = only in absurd cc
page_then {T = T} f0 f1 x (Err (page.Damaged damage)) h only = let e : IsErrOf {T = T} (Err (page.Damaged damage)) page.Memory = only in absurd cc

pub page_same : {S T : Type 0} (f0 f1 : ℕ) (fault : PageFault) → HasPageCause {T = S} f0 f1 (Err fault) → HasPageCause {T = T} f0 f1 (Err fault)
page_same f0 f1 fault h =
    record { later = h.later; on_ok = tt; failed = λ e. let same : fault ≡ page.Failed = cc in h.failed (ap (λ (f : PageFault). Err f) same) }

pub page_still : {T : Type 0} (f : ℕ) (result : Result T PageFault) → OnErr result (IsErrOf result page.Memory) → HasPageCause f f result
page_still f (Ok y) only = page_none f y
page_still f (Err page.Memory) only = page_memory f
page_still {T = T} f (Err page.Failed) only = let e : IsErrOf {T = T} (Err page.Failed) page.Memory = only in absurd cc
page_still {T = T} f (Err (page.Damaged damage)) only = let e : IsErrOf {T = T} (Err (page.Damaged damage)) page.Memory = only in absurd cc

-- of a run

pub ok_cause : {S T : Type 0} (f0 f1 k : ℕ) (x : S) (y : T) → HasPageCause f0 f1 (Ok x) → HasStopCause f0 f1 k k (Ok y)
ok_cause f0 f1 k x y h = record { folder_later = h.later; sink_later = omega arith; folder = λ e. absurd cc; sink = λ e. absurd cc }

-- where the folder wasn't asked
pub first_cause : {S T : Type 0} (f k0 k1 : ℕ) (e : Stop) → IsErrOf {T = S} (Err e) stop.SinkFault ⊎ IsErrOf {T = S} (Err e) stop.Memory → k0 ≤ k1
    → (IsErrOf {T = S} (Err e) stop.SinkFault → Rose k0 k1) → HasStopCause {T = T} f f k0 k1 (Err e)
first_cause f k0 k1 e cause later sink = record {
  folder_later = omega arith;
  sink_later = later;
  folder = λ w. absurd (elim cause as (λ _. ⊥) [ inl s ↦ cc | inr m ↦ cc ]);
  sink = λ w. let same : e ≡ stop.SinkFault = cc in sink (ap (λ (x : Stop). Err x) same);
}

-- an earlier call left the folder alone
pub cause_on : {T : Type 0} (f0 f1 f2 k0 k1 k2 : ℕ) (result : Result T Stop) → f1 ≡ f0 → k0 ≤ k1 → HasStopCause f1 f2 k1 k2 result
    → HasStopCause f0 f2 k0 k2 result
cause_on f0 f1 f2 k0 k1 k2 result same later h = record {
  folder_later = omega (arith, same, h.folder_later);
  sink_later = omega (arith, later, h.sink_later);
  folder = λ e. subst (λ (n : ℕ). Rose n f2) same (h.folder e);
  sink = λ e. rose_from k0 k1 k2 later (h.sink e);
}
