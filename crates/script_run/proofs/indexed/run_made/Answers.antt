-- Each line goes on from those before it; after the last one what they leave is committed.
use Rattle.std.proofs.Common.{◌≡◌, Bool, ℕ, [], ◌∷◌, arith, rules, true, false, refl, sym, ap, ◌∙◌, IsTrue, Err, Some, inl, append_assoc}
use Rattle.index_core.specs.Sessions.{Trusts}
use Rattle.index_core.proofs.Brought.{commit_itself, commit_then}
use Rattle.index_core.proofs.LosingNone.{loses_itself}
use Rattle.index_core.proofs.Sizes.{session_fits}
use Rattle.line_source.specs.Reader.{lines_left}
use Rattle.stored_index.proofs.KeptFiles.{kept_after}
use Rattle.script_run.specs.Costs.{asks_commit}
use Rattle.script_run.proofs.Calling.{stop_after, stop_kept}
use Rattle.script_run.proofs.Halting.{halted_no_source, memory_cause, no_source, halted_cause, halted_ends, halted_keeps, halted_shows}
use Rattle.script_run.proofs.Reading.{closes_halted, gives_line, gives_none, going_ends, going_first, going_halts, going_on, going_stops}
use Rattle.script_run.proofs.Reading.{going_wants, none_read, of_all, of_left, of_line, one_read, quiet_first, quiet_on, reads_alike}
use Rattle.index_core.specs.Carried.{IsFileOf}
use Rattle.index_core.proofs.Carrying.{carries_itself, carries_then}
use Rattle.script_run.proofs.Shown.{stop_carried, stop_wider}
use Rattle.script_run.proofs.Taken.{end_kept, line_kept, lines_kept, one_loses}
use Rattle.script_run.proofs.indexed.run_made.Goals as goal
use Rattle.script_run.specs.Languages.{meaning}
use Rattle.script_run.specs.Taking.{IsTakenOut}
use Rattle.run_status.proofs.Ending.{rose_from, cause_from, same_stop, cause_to, refused_more, at_most_one}
use Rattle.index_core.proofs.Committing.{on_ok_any}

pub answer_line-requires-after_bounds : goal.answer_line-requires-after_bounds
answer_line-requires-after_bounds g c κs = λ _. (session_fits g.row.D c.requires.few, (c.requires.some, c.requires.few))

pub finish-requires-after_bounds : goal.finish-requires-after_bounds
finish-requires-after_bounds g c κs = λ _. session_fits g.row.D c.requires.few

pub overflow_add-refused : goal.overflow_add-refused
overflow_add-refused g c = omega (arith, c.lines.invariant.counted, at_most_one _ _ c.from-refused.ensures)

pub lines-init : goal.lines-init
lines-init g c = record {
  so_far = (
    none_read _ c.args.reader.now _,
    λ told i stored h more. going_first c.args.work.now.language _ g.row.D _ _ i stored _ _ more h,
    λ told h. quiet_first c.args.work.now.language g.row.D _,
    λ told h. commit_itself _,
    λ told h. loses_itself g.row.D (IsTakenOut c.args.work.now.language g.row.D []) (g.F.Pages.files c.args.folder.now) c.args.session.now.set,
  );
  trusts = λ told h. h;
  carries = λ told. carries_itself _ _;
  counted = c.requires.refused;
  folder_later = omega arith;
  sink_later = omega arith;
  source_later = omega arith;
}

pub lines-preserved : goal.lines-preserved
lines-preserved g c =
    let so_far = c.lines.invariant.so_far in
    let yes : c.in-Ok-true.field-0 ≡ true = search rules in
    let gives = gives_line (IsTrue g.S.Source.told) c.lines.reader (g.S.Source.left c.lines.input) c.next_line.new.self (g.S.Source.left c.next_line.new.source)
    c.next_line.new.line.items c.in-Ok-true.field-0 yes c.in-Ok-true.ensures.gives in
    let alike = reads_alike c.args.work.now.language (Some g.row.D) gives.line c.next_line.new.line.items c.as_slice.result.now gives.bytes_are
    c.as_slice.ensures.value in
    record {
      so_far = (
        one_read _ _ _ c.lines.reader _ so_far.0 _ _ _ gives,
        λ told i stored h more.
            let going = so_far.1 told i stored h (gives.line ∷ more) in
            rw (append_assoc so_far.0.lines (gives.line ∷ []) more)
            (going_on c.args.work.now.language _ g.row.D _ _ i stored _ _ _ _ _ _ _ gives.line more going _ _ c.in-Ok.is_refused
            _ (refused_more c.lines.refused c.in-Ok.is_refused _ _ refl c.from-refused.ensures)
            (c.in-Ok.ensures.answers told going.goes.index going.goes.stored going.goes.stands gives.line alike)
            (c.in-Ok.ensures.passes told going.goes.index going.goes.stored going.goes.stands gives.line alike)),
        λ told h. quiet_on c.args.work.now.language g.row.D so_far.0.lines gives.line _ _ _ (so_far.2 told h)
            (λ quiet. c.in-Ok.ensures.kept told (c.lines.invariant.trusts told h) (ap asks_commit (sym alike) ∙ quiet)),
        λ told h. commit_then (g.F.Pages.files c.args.folder.now) (g.F.Pages.files c.lines.folder) (g.F.Pages.files c.answer_line.new.folder)
            (so_far.3 told h) (c.in-Ok.ensures.lasting told (c.lines.invariant.trusts told h)),
        λ told h. one_loses c.args.work.now.language g.row.D so_far.0.lines (g.F.Pages.files c.args.folder.now)
            (g.F.Pages.files c.lines.folder) c.args.session.now.set c.lines.session.set (so_far.4 told h) gives.line c.as_slice.result.now alike
            (g.F.Pages.files c.answer_line.new.folder) c.answer_line.new.session.set
            (c.in-Ok.ensures.lasts told (c.lines.invariant.trusts told h)),
      );
      trusts = λ told h. c.in-Ok.ensures.trusts told (c.lines.invariant.trusts told h);
      carries = λ told. carries_then _ (g.F.Pages.files c.lines.folder) _ c.args.session.now.set c.lines.session.set c.answer_line.new.session.set
          (c.lines.invariant.carries told) (c.in-Ok.ensures.carries told);
      counted = omega (arith, c.lines.invariant.counted, at_most_one _ _ c.from-refused.ensures);
      folder_later = omega (arith, c.lines.invariant.folder_later, c.answer_line.ensures.cause.folder_later);
      sink_later = omega (arith, c.lines.invariant.sink_later, c.answer_line.ensures.cause.sink_later);
      source_later = omega (arith, c.lines.invariant.source_later, c.in-Ok-true.ensures.cause.later);
    }

pub returns-in-Err-clause-does : goal.returns-in-Err-clause-does
returns-in-Err-clause-does g c =
    let so_far = c.lines.invariant.so_far in
    let yes : c.in-Ok-true.field-0 ≡ true = search rules in
    let gives = gives_line (IsTrue g.S.Source.told) c.lines.reader (g.S.Source.left c.lines.input) c.next_line.new.self (g.S.Source.left c.next_line.new.source)
    c.next_line.new.line.items c.in-Ok-true.field-0 yes c.in-Ok-true.ensures.gives in
    let alike = reads_alike c.args.work.now.language (Some g.row.D) gives.line c.next_line.new.line.items c.as_slice.result.now gives.bytes_are
    c.as_slice.ensures.value in
    λ told. of_line _ _ _ c.lines.reader _ so_far.0 _ _ _ _ gives (λ i stored h.
    let going = so_far.1 told i stored h (gives.line ∷ lines_left c.next_line.new.self (g.S.Source.left c.next_line.new.source)) in
    going_stops c.args.work.now.language _ g.row.D _ _ i stored _ _ _ _ _ _ _ gives.line _ going _ _ c.in-Err.stop _
    (c.in-Err.ensures.answers told going.goes.index going.goes.stored going.goes.stands gives.line alike)
    (c.in-Err.ensures.passes told going.goes.index going.goes.stored going.goes.stands gives.line alike))

pub returns-in-Err-clause-cause : goal.returns-in-Err-clause-cause
returns-in-Err-clause-cause g c =
    cause_from {T = ℕ} _ _ _ _ _ _ (Err c.in-Err.stop) c.lines.invariant.folder_later c.lines.invariant.sink_later
    (cause_to _ _ _ _ c.in-Err.stop c.in-Err.ensures.cause)

pub returns-in-Err-clause-source : goal.returns-in-Err-clause-source
returns-in-Err-clause-source g c = no_source _ _ _ (omega (arith, c.lines.invariant.source_later, c.in-Ok-true.ensures.cause.later)) (λ e. cc)

pub returns-in-Err-clause-keeps : goal.returns-in-Err-clause-keeps
returns-in-Err-clause-keeps g c =
    let so_far = c.lines.invariant.so_far in
    let yes : c.in-Ok-true.field-0 ≡ true = search rules in
    let gives = gives_line (IsTrue g.S.Source.told) c.lines.reader (g.S.Source.left c.lines.input) c.next_line.new.self (g.S.Source.left c.next_line.new.source)
    c.next_line.new.line.items c.in-Ok-true.field-0 yes c.in-Ok-true.ensures.gives in
    let alike = reads_alike c.args.work.now.language (Some g.row.D) gives.line c.next_line.new.line.items c.as_slice.result.now gives.bytes_are
    c.as_slice.ensures.value in
    λ told. of_line _ _ _ c.lines.reader _ so_far.0 _ _ _ _ gives (λ h. (
      λ quiet.
          let next = (so_far.2 told h).kept (gives.line ∷ lines_left c.next_line.new.self (g.S.Source.left c.next_line.new.source)) quiet in
          stop_kept ℕ _ _ c.in-Err.stop
          (kept_after _ _ _ next.0 (c.in-Err.ensures.kept told (c.lines.invariant.trusts told h) (ap asks_commit (sym alike) ∙ next.1.0))),
      line_kept c.args.work.now.language g.row.D so_far.0.lines (g.F.Pages.files c.args.folder.now) (g.F.Pages.files c.lines.folder)
          c.args.session.now.set c.lines.session.set (so_far.4 told h) gives.line c.as_slice.result.now alike
          (g.F.Pages.files c.answer_line.new.folder) c.answer_line.new.session.set
          (c.in-Err.ensures.lasts told (c.lines.invariant.trusts told h)) (lines_left c.next_line.new.self (g.S.Source.left c.next_line.new.source)),
    ))

pub returns-in-Err-clause-evident : goal.returns-in-Err-clause-evident
returns-in-Err-clause-evident g c =
    stop_carried {X = ℕ} (IsTrue g.F.Pages.told × Trusts g.row.D (g.F.Pages.files c.lines.folder) c.lines.session)
    (IsTrue g.F.Pages.told × Trusts g.row.D (g.F.Pages.files c.args.folder.now) c.args.session.now)
    (g.F.Pages.files c.args.folder.now) (g.F.Pages.files c.lines.folder) (g.F.Pages.files c.answer_line.new.folder) c.args.session.now.set
    c.lines.session.set (Err c.in-Err.stop) (λ p. (p.0, c.lines.invariant.trusts p.0 p.1)) (λ p. c.lines.invariant.carries p.0)
    (same_stop Bool ℕ _ c.in-Err.stop c.in-Err.ensures.evident)

pub returns-in-Ok-false-clause-does : goal.returns-in-Ok-false-clause-does
returns-in-Ok-false-clause-does g c =
    let no : c.in-Ok-false.field-0 ≡ false = search rules in
    let so_far = c.lines.invariant.so_far in
    λ told. of_all _ _ _ c.lines.reader _ so_far.0 _ c.next_line.new.self (g.S.Source.left c.next_line.new.source)
    (gives_none (IsTrue g.S.Source.told) c.lines.reader (g.S.Source.left c.lines.input) c.next_line.new.self (g.S.Source.left c.next_line.new.source)
    c.next_line.new.line.items c.in-Ok-false.field-0 no c.in-Ok-false.ensures.gives) (λ i stored h.
    let going = so_far.1 told i stored h [] in
    let ends = going_ends c.args.work.now.language _ g.row.D _ _ i stored _ _ _ _ _ _ _ going _ c.finish.result c.halt_result.result
    (c.finish.ensures.ends told going.goes.index going.goes.stored going.goes.stands)
    (closes_halted g.row.D going.goes.index _ _ c.finish.result c.halt_result.result c.halt_result.ensures
    (c.finish.ensures.closes told going.goes.index going.goes.stored going.goes.stands)) in
    (halted_ends (meaning c.args.work.now.language) _ _ _ _ c.finish.result c.halt_result.result c.halt_result.ensures ends.0, ends.1))

pub returns-in-Ok-false-clause-read : goal.returns-in-Ok-false-clause-read
returns-in-Ok-false-clause-read g c =
    let no : c.in-Ok-false.field-0 ≡ false = search rules in
    let none = gives_none (IsTrue g.S.Source.told) c.lines.reader (g.S.Source.left c.lines.input) c.next_line.new.self (g.S.Source.left c.next_line.new.source)
    c.next_line.new.line.items c.in-Ok-false.field-0 no c.in-Ok-false.ensures.gives in
    λ source knows. on_ok_any c.halt_result.result (none source (c.lines.invariant.so_far.0.ended source knows)).1

pub returns-in-Ok-false-clause-cause : goal.returns-in-Ok-false-clause-cause
returns-in-Ok-false-clause-cause g c =
    halted_cause _ _ _ _ c.finish.result c.halt_result.result c.halt_result.ensures
    (cause_from _ _ _ _ _ _ c.finish.result c.lines.invariant.folder_later c.lines.invariant.sink_later (c.finish.ensures.cause _))

pub returns-in-Ok-false-clause-source : goal.returns-in-Ok-false-clause-source
returns-in-Ok-false-clause-source g c =
    no_source _ _ c.halt_result.result (omega (arith, c.lines.invariant.source_later, c.in-Ok-false.ensures.cause.later))
    (halted_no_source c.finish.result c.halt_result.result c.halt_result.ensures)

pub returns-in-Ok-false-clause-keeps : goal.returns-in-Ok-false-clause-keeps
returns-in-Ok-false-clause-keeps g c =
    let no : c.in-Ok-false.field-0 ≡ false = search rules in
    let so_far = c.lines.invariant.so_far in
    λ told. of_all _ _ _ c.lines.reader _ so_far.0 _ c.next_line.new.self (g.S.Source.left c.next_line.new.source)
    (gives_none (IsTrue g.S.Source.told) c.lines.reader (g.S.Source.left c.lines.input) c.next_line.new.self (g.S.Source.left c.next_line.new.source)
    c.next_line.new.line.items c.in-Ok-false.field-0 no c.in-Ok-false.ensures.gives) (λ h. (
      λ quiet.
          halted_keeps (g.F.Pages.files c.args.folder.now) (g.F.Pages.files c.finish.new.folder) c.finish.result c.halt_result.result c.halt_result.ensures
          (stop_after _ _ _ c.finish.result ((so_far.2 told h).kept [] quiet).0 (c.finish.ensures.undone told (c.lines.invariant.trusts told h))),
      end_kept c.args.work.now.language g.row.D so_far.0.lines (g.F.Pages.files c.args.folder.now) (g.F.Pages.files c.lines.folder)
          c.args.session.now.set c.lines.session.set (so_far.4 told h) (g.F.Pages.files c.finish.new.folder)
          (c.finish.ensures.lasts told (c.lines.invariant.trusts told h)) [],
    ))

pub returns-in-Ok-false-clause-evident : goal.returns-in-Ok-false-clause-evident
returns-in-Ok-false-clause-evident g c =
    halted_shows _ c.finish.result c.halt_result.result c.halt_result.ensures
    (stop_wider (IsFileOf (g.F.Pages.files c.args.folder.now) (g.F.Pages.files c.finish.new.folder) c.args.session.now.set)
    (IsTrue g.F.Pages.told × Trusts g.row.D (g.F.Pages.files c.lines.folder) c.lines.session)
    (IsTrue g.F.Pages.told × Trusts g.row.D (g.F.Pages.files c.args.folder.now) c.args.session.now)
    (g.F.Pages.files c.finish.new.folder) c.finish.result (λ p. (p.0, c.lines.invariant.trusts p.0 p.1)) c.finish.ensures.evident)

pub returns-in-Err-Failed-clause-does : goal.returns-in-Err-Failed-clause-does
returns-in-Err-Failed-clause-does g c =
    let so_far = c.lines.invariant.so_far in
    λ told. of_left _ _ _ c.lines.reader _ so_far.0
    _ (λ i stored h. going_halts c.args.work.now.language _ g.row.D _ _ i stored
    _ _ _ _ _ _ _ _ (so_far.1 told i stored h (lines_left c.lines.reader (g.S.Source.left c.lines.input))) _)

pub returns-in-Err-Failed-clause-source : goal.returns-in-Err-Failed-clause-source
returns-in-Err-Failed-clause-source g c =
    let cause = rw c.in-Err-Failed.field-0-is at c.in-Err-Failed.ensures.cause in
    record {
      later = omega (arith, c.lines.invariant.source_later, cause.later);
      failed = λ e. rose_from _ _ _ c.lines.invariant.source_later (cause.failed refl);
    }

pub returns-in-Err-Failed-clause-keeps : goal.returns-in-Err-Failed-clause-keeps
returns-in-Err-Failed-clause-keeps g c =
    let so_far = c.lines.invariant.so_far in
    λ told. of_left _ _ _ c.lines.reader _ so_far.0 _ (λ h. (
      λ quiet. ((so_far.2 told h).kept _ quiet).0,
      lines_kept c.args.work.now.language g.row.D so_far.0.lines (g.F.Pages.files c.args.folder.now) (g.F.Pages.files c.lines.folder)
          c.args.session.now.set c.lines.session.set (so_far.4 told h) (lines_left c.lines.reader (g.S.Source.left c.lines.input)),
    ))

pub returns-in-Err-Memory-clause-does : goal.returns-in-Err-Memory-clause-does
returns-in-Err-Memory-clause-does g c =
    let so_far = c.lines.invariant.so_far in
    λ told. of_left _ _ _ c.lines.reader _ so_far.0
    _ (λ i stored h. going_wants c.args.work.now.language _ g.row.D _ _ i stored
    _ _ _ _ _ _ _ _ (so_far.1 told i stored h (lines_left c.lines.reader (g.S.Source.left c.lines.input))) _)

pub returns-in-Err-Memory-clause-cause : goal.returns-in-Err-Memory-clause-cause
returns-in-Err-Memory-clause-cause g c = memory_cause _ _ _ _ c.lines.invariant.folder_later c.lines.invariant.sink_later

pub returns-in-Err-Memory-clause-source : goal.returns-in-Err-Memory-clause-source
returns-in-Err-Memory-clause-source g c = no_source _ _ _ (omega (arith, c.lines.invariant.source_later, c.in-Err-Memory.ensures.cause.later)) (λ e. cc)

pub returns-in-Err-Memory-clause-keeps : goal.returns-in-Err-Memory-clause-keeps
returns-in-Err-Memory-clause-keeps g c =
    let so_far = c.lines.invariant.so_far in
    λ told. of_left _ _ _ c.lines.reader _ so_far.0 _ (λ h. (
      λ quiet. inl ((so_far.2 told h).kept _ quiet).0,
      lines_kept c.args.work.now.language g.row.D so_far.0.lines (g.F.Pages.files c.args.folder.now) (g.F.Pages.files c.lines.folder)
          c.args.session.now.set c.lines.session.set (so_far.4 told h) (lines_left c.lines.reader (g.S.Source.left c.lines.input)),
    ))

pub returns-clause-does : goal.returns-clause-does
returns-clause-does g c =
    let so_far = c.lines.invariant.so_far in
    λ told. of_left _ _ _ c.lines.reader _ so_far.0
    _ (λ i stored h. going_wants c.args.work.now.language _ g.row.D _ _ i stored
    _ _ _ _ _ _ _ _ (so_far.1 told i stored h (lines_left c.lines.reader (g.S.Source.left c.lines.input))) _)

pub returns-clause-cause : goal.returns-clause-cause
returns-clause-cause g c = memory_cause _ _ _ _ c.lines.invariant.folder_later c.lines.invariant.sink_later

pub returns-clause-source : goal.returns-clause-source
returns-clause-source g c = no_source _ _ _ c.lines.invariant.source_later (λ e. cc)

pub returns-clause-keeps : goal.returns-clause-keeps
returns-clause-keeps g c =
    let so_far = c.lines.invariant.so_far in
    λ told. of_left _ _ _ c.lines.reader _ so_far.0 _ (λ h. (
      λ quiet. inl ((so_far.2 told h).kept _ quiet).0,
      lines_kept c.args.work.now.language g.row.D so_far.0.lines (g.F.Pages.files c.args.folder.now) (g.F.Pages.files c.lines.folder)
          c.args.session.now.set c.lines.session.set (so_far.4 told h) (lines_left c.lines.reader (g.S.Source.left c.lines.input)),
    ))

pub returns-in-Err-clause-lasting : goal.returns-in-Err-clause-lasting
returns-in-Err-clause-lasting g c = λ told h.
    commit_then (g.F.Pages.files c.args.folder.now) (g.F.Pages.files c.lines.folder) (g.F.Pages.files c.answer_line.new.folder)
    (c.lines.invariant.so_far.3 told h) (c.in-Err.ensures.lasting told (c.lines.invariant.trusts told h))

pub returns-in-Ok-false-clause-lasting : goal.returns-in-Ok-false-clause-lasting
returns-in-Ok-false-clause-lasting g c = λ told h.
    commit_then (g.F.Pages.files c.args.folder.now) (g.F.Pages.files c.lines.folder) (g.F.Pages.files c.finish.new.folder)
    (c.lines.invariant.so_far.3 told h) (c.finish.ensures.lasting told (c.lines.invariant.trusts told h))

pub returns-in-Err-Failed-clause-lasting : goal.returns-in-Err-Failed-clause-lasting
returns-in-Err-Failed-clause-lasting g c = c.lines.invariant.so_far.3

pub returns-in-Err-Memory-clause-lasting : goal.returns-in-Err-Memory-clause-lasting
returns-in-Err-Memory-clause-lasting g c = c.lines.invariant.so_far.3

pub returns-clause-lasting : goal.returns-clause-lasting
returns-clause-lasting g c = c.lines.invariant.so_far.3
