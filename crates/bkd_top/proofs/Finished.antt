-- How a command that is done at once ends.
use Rattle.std.proofs.Common.{◌≡◌, ◌==◌, ◌++◌, ℕ, Bool, true, false, cond, List, [], Result, Ok, Err, IfOk, OnErr, OnOk, IsErrOf, refl, sym, ap, ◌∙◌, subst}
use Rattle.std.proofs.lemmas.Bool.{false≢true}
use Rattle.std.specs.Prelude.{IsOk}
use mir.Val.{bool_byte}
use Rattle.outer_io.specs.Counts.{Rose}
use Rattle.outer_io.specs.Files.{Files}
use Rattle.outer_io.specs.Parts.{WritesPart}
use Rattle.page_cache.specs.declared.faults.PageFault.{PageFault}
use Rattle.page_cache.specs.declared.faults.PageFault.TheVariants as page
use Rattle.page_cache.specs.Causes.{HasPageCause}
use Rattle.page_cache.specs.Evidence.{NotDamaged}
use Rattle.index_model.specs.Script.{Answer}
use Rattle.index_model.specs.State.{State}
use Rattle.index_core.specs.Whole.{DoesWhole}
use Rattle.run_status.specs.Sent.{IsSent}
use Rattle.run_status.specs.Ends.{IsAnswer}
use Rattle.bkd_top.specs.Commands.{Before, EndsWhole}
use Rattle.run_status.specs.Ends.{IsDamaged}
use Rattle.run_status.specs.Stops.{status_of, stop_of}
use Rattle.run_status.specs.declared.stop.Stop.{Stop}
use Rattle.run_status.specs.declared.stop.Stop.TheVariants as stop
use Rattle.run_status.specs.declared.status.Status.{Status}
use Rattle.run_status.specs.declared.status.Status.TheVariants as status

-- the status of a command that is done, or refused
abbrev done_status : (is_refused : Bool) → Status
done_status true = status.SomeRefused 1
done_status false = status.Done

status_done : (is_refused : Bool) → status_of (Ok (cond is_refused 1 0)) ≡ done_status is_refused
status_done true = refl
status_done false = refl

byte_counts : (b : Bool) (m : ℕ) → m ≡ bool_byte b → m ≡ cond b 1 0
byte_counts true m is = is
byte_counts false m is = is

-- the count that was handed on is that of one refusal, or none
pub count_sent : (is_refused : Bool) (m : ℕ) (r : Result ℕ Stop) → m ≡ bool_byte is_refused → IfOk r (λ n. n ≡ m) → IfOk r (λ n. n ≡ cond is_refused 1 0)
count_sent is_refused m (Ok n) is known = known ∙ byte_counts is_refused m is
count_sent is_refused m (Err e) is known = tt

module _ (told : Type 0) (b : Before) (a : Answer) (files : Files) (text new : List ℕ) where
  told_done : (is_refused : Bool) → DoesWhole files b.state a [] text (Ok is_refused) → (told → new ≡ b.written ++ text)
      → EndsWhole told b a files new (done_status is_refused)
  told_done true (is, refused, stored) went = (record { text = λ t. went t ∙ ap (λ bs. b.written ++ bs) is; stored = stored }, refused, refl)
  told_done false (is, refused, stored) went = (record { text = λ t. went t ∙ ap (λ bs. b.written ++ bs) is; stored = stored }, refused)

  -- the text was sent, or cut
  pub sent_ends : (is_refused : Bool) (r : Result ℕ Stop) → DoesWhole files b.state a [] text (Ok is_refused) → (told → IsSent text b.written new r)
      → IfOk r (λ n. n ≡ cond is_refused 1 0)
      → OnErr r (IsErrOf r stop.SinkFault) → EndsWhole told b a files new (status_of r)
  sent_ends is_refused (Ok n) does sent count only =
      subst (EndsWhole told b a files new) (sym (ap (λ m. status_of (Ok m)) count ∙ status_done is_refused)) (told_done is_refused does sent)
  sent_ends is_refused (Err stop.SinkFault) (is, refused, stored) sent count only =
      record { text = λ t. subst (WritesPart b.written new) is (sent t); stored = stored }
  sent_ends is_refused (Err stop.FolderFault) does sent count only = absurd cc
  sent_ends is_refused (Err stop.Memory) does sent count only = absurd cc
  sent_ends is_refused (Err (stop.Damaged d)) does sent count only = absurd cc

  -- there was a fault before it
  pub fault_ends : (fault : PageFault) → DoesWhole files b.state a [] text (Err fault) → (told → new ≡ b.written)
      → EndsWhole told b a files new (status_of (Err (stop_of fault)))
  fault_ends page.Failed does went = record { text = went; stored = does }
  fault_ends page.Memory does went = record { text = went; stored = does }
  fault_ends (page.Damaged d) does went = absurd does

-- what a command did shows no damage
pub whole_undamaged : (files : Files) (stored : State) (a : Answer) (before after : List ℕ) (r : Result Bool PageFault)
    → DoesWhole files stored a before after r → NotDamaged r
whole_undamaged files stored a before after (Ok b) does = tt
whole_undamaged files stored a before after (Err page.Failed) does = tt
whole_undamaged files stored a before after (Err page.Memory) does = tt
whole_undamaged files stored a before after (Err (page.Damaged d)) does = does

-- what holds where it is done
pub of_done : {T E P : Type 0} (r : Result T E) → IsOk r → OnOk r P → P
of_done (Ok x) is p = p
of_done (Err e) is p = absurd (false≢true is)

-- where a refused one changes no file
pub refused_same : (P : Type 0) (r : Result Bool PageFault) → r ≡ Ok true → IfOk r (λ refused. refused ≡ true → P) → P
refused_same P r is h = subst (λ (x : Result Bool PageFault). IfOk x (λ refused. refused ≡ true → P)) is h refl

-- its text is one that began empty
pub does_from : (files : Files) (stored : State) (a : Answer) (before after text : List ℕ) (r : Result Bool PageFault) → before ≡ [] → text ≡ after
    → DoesWhole files stored a before after r → DoesWhole files stored a [] text r
does_from files stored a before after text r empty same does =
    subst (λ (t : List ℕ). DoesWhole files stored a [] t r) (sym same) (subst (λ (b : List ℕ). DoesWhole files stored a b after r) empty does)

-- ---- the status of a command that was sent

-- it is told as refused only where it is
pub sent_refused : (is_refused : Bool) (r : Result ℕ Stop) → IfOk r (λ n. n ≡ cond is_refused 1 0) → (count : ℕ) → status_of r ≡ status.SomeRefused count
    → is_refused ≡ true
sent_refused true r known count e = refl
sent_refused false (Ok n) known count e = absurd (let done = sym (ap (λ m. status_of (Ok m)) known) ∙ e in done_refused done)
  where
    done_refused : status.Done ≡ status.SomeRefused count → ⊥
    done_refused same = cc
sent_refused false (Err stop.SinkFault) known count e = cc
sent_refused false (Err stop.FolderFault) known count e = cc
sent_refused false (Err stop.Memory) known count e = cc
sent_refused false (Err (stop.Damaged d)) known count e = cc

-- only the sink can fail then
pub sent_no_folder : {P : Type 0} (r : Result ℕ Stop) → OnErr r (IsErrOf r stop.SinkFault) → IsErrOf r stop.FolderFault → P
sent_no_folder (Ok n) only e = absurd cc
sent_no_folder (Err stop.SinkFault) only e = absurd cc
sent_no_folder (Err stop.FolderFault) only e = absurd cc
sent_no_folder (Err stop.Memory) only e = absurd cc
sent_no_folder (Err (stop.Damaged d)) only e = absurd cc

pub sent_undamaged : (r : Result ℕ Stop) → OnErr r (IsErrOf r stop.SinkFault) → IsDamaged (status_of r) → ⊥
sent_undamaged (Ok n) only d = by (n == 0) d
  where
    by : (b : Bool) → IsDamaged (cond b status.Done (status.SomeRefused n)) → ⊥
    by true d = d
    by false d = d
sent_undamaged (Err stop.SinkFault) only d = d
sent_undamaged (Err stop.FolderFault) only d = d
sent_undamaged (Err stop.Memory) only d = d
sent_undamaged (Err (stop.Damaged e)) only d = absurd cc

-- ---- and of one that failed

pub fault_no_answer : {P : Type 0} (fault : PageFault) → IsAnswer (status_of (Err (stop_of fault))) → P
fault_no_answer page.Failed a = absurd a
fault_no_answer page.Memory a = absurd a
fault_no_answer (page.Damaged d) a = absurd a

pub fault_rose : {T : Type 0} (old new : ℕ) (fault : PageFault) → HasPageCause {T = T} old new (Err fault)
    → status_of (Err (stop_of fault)) ≡ status.FolderFault → Rose old new
fault_rose old new page.Failed cause e = cause.failed refl
fault_rose old new page.Memory cause e = absurd cc
fault_rose old new (page.Damaged d) cause e = absurd cc

pub fault_undamaged : (fault : PageFault) → NotDamaged {T = Bool} (Err fault) → IsDamaged (status_of (Err (stop_of fault))) → ⊥
fault_undamaged page.Failed whole d = d
fault_undamaged page.Memory whole d = d
fault_undamaged (page.Damaged e) whole d = whole

pub fault_no_sink : {P : Type 0} (fault : PageFault) → status_of (Err (stop_of fault)) ≡ status.SinkFault → P
fault_no_sink page.Failed e = absurd cc
fault_no_sink page.Memory e = absurd cc
fault_no_sink (page.Damaged d) e = absurd cc
