-- What a command that looks promises, from what it does on its lines.
use Rattle.std.proofs.Common.{◌≡◌, ℕ, List, Result, Ok, Err, IsTrue, refl, sym, ap, subst, ◌∙◌, ◌⊎◌, inl, inr, arith}
use Rattle.std.specs.Prelude.{IsOk}
use Rattle.outer_io.specs.Files.{Files}
use Rattle.page_cache.specs.declared.faults.Damage.{Damage}
use Rattle.segment_file.specs.Heads.{Head}
use Rattle.script_lang.specs.Lines.{lines_of}
use Rattle.index_opening.specs.Evidence.{IsEvident}
use Rattle.run_status.specs.Ends.{DoesNothing, IsAnswer, IsDamaged, OnStatusDamage}
use Rattle.run_status.specs.Stops.{status_of}
use Rattle.run_status.specs.declared.stop.Stop.{Stop}
use Rattle.run_status.specs.declared.stop.Stop.TheVariants as stop
use Rattle.run_status.specs.Told.{EndsLines, EndsTold, Teller}
use Rattle.run_status.specs.declared.status.Status.{Status}
use Rattle.run_status.specs.declared.status.Status.TheVariants as status
use Rattle.stored_index.specs.Opening.{IsOpening}
use Rattle.run_status.proofs.Ending.{does_lines, folder_stopped, sink_stopped, status_shows}
use Rattle.run_status.proofs.Telling.{none_told, told_ends, told_undamaged}
use Rattle.world.specs.Steps.{Moment, Step}
use Rattle.world.proofs.Listing.{stop_evident}
use Rattle.commands.specs.Looks.{Looked, LooksAll, ReadsFew}
use Rattle.commands.specs.Promises.{IsDone, IsNotBegun, IsUnread, Promises}
use Rattle.commands.proofs.Looking.{AreScopes}

-- ---- an input that was not read

unread_ends : (told : Type 0) (T : Teller) (lines : List (List ℕ)) (old new : List ℕ) (s : Status) → IsUnread s → new ≡ old → EndsTold told T lines old new s
unread_ends told T lines old new status.SourceFault u same = λ t. same
unread_ends told T lines old new status.TooLarge u same = λ t. same
unread_ends told T lines old new status.Memory u same = none_told told T 1 lines old new same
unread_ends told T lines old new status.Usage u same = absurd u
unread_ends told T lines old new status.Done u same = absurd u
unread_ends told T lines old new (status.SomeRefused count) u same = absurd u
unread_ends told T lines old new status.FolderFault u same = absurd u
unread_ends told T lines old new status.SinkFault u same = absurd u
unread_ends told T lines old new (status.Damaged damage) u same = absurd u

unread_shows : (P : Damage → Type 0) (s : Status) → IsUnread s → OnStatusDamage s P
unread_shows P status.SourceFault u = tt
unread_shows P status.TooLarge u = tt
unread_shows P status.Memory u = tt
unread_shows P status.Usage u = tt
unread_shows P status.Done u = tt
unread_shows P (status.SomeRefused count) u = tt
unread_shows P status.FolderFault u = tt
unread_shows P status.SinkFault u = tt
unread_shows P (status.Damaged damage) u = absurd u

unread_whole : (s : Status) → IsUnread s → IsDamaged s → ⊥
unread_whole status.SourceFault u d = d
unread_whole status.TooLarge u d = d
unread_whole status.Memory u d = d
unread_whole status.Usage u d = d
unread_whole status.Done u d = d
unread_whole (status.SomeRefused count) u d = d
unread_whole status.FolderFault u d = d
unread_whole status.SinkFault u d = d
unread_whole (status.Damaged damage) u d = u

unread_no_answer : (s : Status) → IsUnread s → IsAnswer s → ⊥
unread_no_answer status.SourceFault u a = a
unread_no_answer status.TooLarge u a = a
unread_no_answer status.Memory u a = a
unread_no_answer status.Usage u a = a
unread_no_answer status.Done u a = u
unread_no_answer (status.SomeRefused count) u a = u
unread_no_answer status.FolderFault u a = a
unread_no_answer status.SinkFault u a = a
unread_no_answer (status.Damaged damage) u a = a

-- what is answered was done
pub answer_ok : (r : Result ℕ Stop) → IsAnswer (status_of r) → IsOk r
answer_ok (Ok n) a = refl
answer_ok (Err stop.SinkFault) a = absurd a
answer_ok (Err stop.FolderFault) a = absurd a
answer_ok (Err stop.Memory) a = absurd a
answer_ok (Err (stop.Damaged damage)) a = absurd a

module _ {Scope : Type 0} (is : Files → Scope → Type 0) (heads : Scope → List Head) (are : AreScopes is heads) (tells : Scope → Teller) (step : Step)
    (s : Status)
    (p : Promises (LooksAll is tells) step s) where
  done_looked : IsDone (LooksAll is tells) step s → Looked is tells step s
  done_looked d = record {
    never_usage = λ e. does_lines d.result (subst DoesNothing (sym e ∙ d.status) tt);
    ends = λ source told scope i.
        subst (λ (q : Status). EndsTold (IsTrue step.tells.sink) (tells scope) (lines_of step.old.left) step.old.written step.new.written q) (sym d.status)
        (told_ends _ (tells scope) _ _ _ d.result
        (subst (λ (text : List ℕ). EndsLines (IsTrue step.tells.sink) (tells scope) 1 0 (lines_of text) step.old.written step.new.written d.result)
        (d.read source) (d.did.ends told scope i)));
    files = d.did.files;
    opened = λ told answer. d.did.opened told (answer_ok d.result (subst IsAnswer d.status answer));
    reads = λ source told.
        subst (λ (text : List ℕ). ReadsFew (is step.old.files) (λ scope pages. IsOpening step.old.files pages) tells (lines_of text) step.old.reads
        step.new.reads)
        (d.read source) (d.did.reads told);
    input = p.input;
    whole = λ told state stored damaged.
        let scope = are.of step.old.files state stored in
        told_undamaged _ (tells scope.0) 1 0 _ _ _ d.result (d.did.ends told scope.0 scope.1) (subst IsDamaged d.status damaged);
    evident = subst (λ (q : Status). OnStatusDamage q (IsEvident (IsTrue step.tells.folder) step.new.files)) (sym d.status)
        (status_shows _ d.result
        (stop_evident (IsTrue step.tells.folder) (IsTrue step.tells.folder) step.old.files step.new.files d.result (λ k. k) d.did.files d.did.evident));
    causes = record {
      source = p.source;
      folder = λ e. d.did.cause.folder (folder_stopped d.result (sym d.status ∙ e));
      sink = λ e. d.did.cause.sink (sink_stopped d.result (sym d.status ∙ e));
    };
  }

  none_looked : IsNotBegun step s → Looked is tells step s
  none_looked n = record {
    never_usage = λ e. subst IsUnread e n.unread;
    ends = λ source told scope i. unread_ends _ (tells scope) _ _ _ s n.unread (ap (λ (m : Moment). m.written) n.rest);
    files = λ told. ap (λ (m : Moment). m.files) n.rest;
    opened = λ told answer. absurd (unread_no_answer s n.unread answer);
    reads = λ source told scope i pages o t all. let same = ap (λ (m : Moment). m.reads) n.rest in omega (arith, same);
    input = p.input;
    whole = λ told state stored. unread_whole s n.unread;
    evident = unread_shows _ s n.unread;
    causes = record { source = p.source; folder = λ e. absurd (subst IsUnread e n.unread); sink = λ e. absurd (subst IsUnread e n.unread) };
  }

  pub looked : Looked is tells step s
  looked = by p.ends
    where
      by : IsDone (LooksAll is tells) step s ⊎ IsNotBegun step s → Looked is tells step s
      by (inl d) = done_looked d
      by (inr n) = none_looked n
