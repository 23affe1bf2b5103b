-- Each line goes on from those before it; the one that makes an index hands the rest on, and else the last one ends the script.
use Rattle.std.proofs.Common.{◌≡◌, ◌+◌, ◌++◌, ◌∷◌, [], ℕ, arith, rules, true, false, refl, sym, ap, ◌∙◌, subst, IsTrue, None, append_assoc}
use Rattle.outer_io.specs.declared.file_name.FileName.TheVariants.{Commit}
use Rattle.index_core.proofs.Brought.{commit_equal, commit_then}
use Rattle.index_model.specs.State.{new_index}
use Rattle.index_model.specs.Script.{Answer}
use Rattle.line_source.specs.Reader.{lines_left}
use Rattle.run_status.specs.Sent.{IsSentPart}
use Rattle.script_run.specs.declared.answers.Opening.{Opening}
use Rattle.script_run.proofs.Answered.{first_alike}
use Rattle.script_run.proofs.Going.{start_here}
use Rattle.script_run.proofs.Halting.{halt_cause_from, halt_since, memory_cause, no_source, source_cause_from}
use Rattle.script_run.proofs.Lined.{stops_first, finishes_first, first_goes_on, halts_first, made_ends, memory_first, first_cause, cause_on}
use Rattle.script_run.proofs.Reading.{gives_line, gives_none, none_read, of_all, of_left, of_line, of_rest, one_read, reads_alike}
use Rattle.script_run.proofs.Shown.{first_shows}
use Rattle.script_run.proofs.Starting.{leads_none, leads_same, made_leads, nears_first, nears_on}
use Rattle.script_run.proofs.lines.run_first.Goals as goal
use Rattle.script_run.specs.Languages.{meaning}
use Rattle.run_status.proofs.Ending.{rose_from, refused_more, at_most_one}

pub overflow_add-refused : goal.overflow_add-refused
overflow_add-refused g c = omega (arith, c.lines.invariant.counted, at_most_one _ _ c.from-refused.ensures)

pub lines-init : goal.lines-init
lines-init g c = record {
  so_far = (none_read _ c.args.reader.now _, λ more. (start_here (meaning c.args.work.now.language) _, nears_first c.args.work.now.language more));
  counted = omega arith;
  folder = refl;
  sink_later = omega arith;
  source_later = omega arith;
}

pub lines-preserved : goal.lines-preserved
lines-preserved g c =
    let so_far = c.lines.invariant.so_far in
    let yes : c.in-Ok-true.field-0 ≡ true = search rules in
    let gives = gives_line (IsTrue g.S.Source.told) c.lines.reader (g.S.Source.left c.lines.input) c.next_line.new.self (g.S.Source.left c.next_line.new.source)
    c.next_line.new.line.items c.in-Ok-true.field-0 yes c.in-Ok-true.ensures.gives in
    let is = first_alike c.args.work.now.language c.lines.line gives.line c.as_slice.result.now
    (reads_alike c.args.work.now.language None gives.line c.next_line.new.line.items c.as_slice.result.now gives.bytes_are c.as_slice.ensures.value) in
    let same = rw c.in-Ok-Nothing.field-0-is at c.in-Ok-Nothing.ensures.opening in
    let state = ap (λ (a : Answer). a.state) is ∙ same.state in
    record {
      so_far = (
        one_read _ _ _ c.lines.reader _ so_far.0 _ _ _ gives,
        λ more.
            let so = so_far.1 (gives.line ∷ more) in
            rw (append_assoc so_far.0.lines (gives.line ∷ []) more) (
              first_goes_on c.args.work.now.language _ _ _ _ _ so.0 _ gives.line more refl _
                  (refused_more c.lines.refused _ _ _ same.refused c.from-refused.ensures ∙ ap (λ (a : Answer). c.lines.refused + a.refused) (sym is)) state
                  (λ sink. c.in-Ok-Nothing.ensures.text sink ∙ ap (λ (a : Answer). g.K.Sink.written c.lines.out ++ a.text) (sym is)),
              nears_on c.args.work.now.language _ _ _ so.1 gives.line more refl state,
            ),
      );
      counted = omega (arith, c.lines.invariant.counted, at_most_one _ _ c.from-refused.ensures);
      folder = c.lines.invariant.folder;
      sink_later = omega (arith, c.lines.invariant.sink_later, c.answer_first.ensures.later);
      source_later = omega (arith, c.lines.invariant.source_later, c.in-Ok-true.ensures.cause.later);
    }

pub returns-in-Ok-Made-clause-does : goal.returns-in-Ok-Made-clause-does
returns-in-Ok-Made-clause-does g c =
    let so_far = c.lines.invariant.so_far in
    let yes : c.in-Ok-true.field-0 ≡ true = search rules in
    let gives = gives_line (IsTrue g.S.Source.told) c.lines.reader (g.S.Source.left c.lines.input) c.next_line.new.self (g.S.Source.left c.next_line.new.source)
    c.next_line.new.line.items c.in-Ok-true.field-0 yes c.in-Ok-true.ensures.gives in
    let is = first_alike c.args.work.now.language c.lines.line gives.line c.as_slice.result.now
    (reads_alike c.args.work.now.language None gives.line c.next_line.new.line.items c.as_slice.result.now gives.bytes_are c.as_slice.ensures.value) in
    let made = rw c.in-Ok-Made.field-0-is at c.in-Ok-Made.ensures.opening in
    let same = ap (λ f. g.F.Pages.files f) c.lines.invariant.folder in
    let state = ap (λ (a : Answer). a.state) is ∙ made.0 in
    λ told. of_rest _ _ _ c.next_line.new.self _ (one_read _ _ _ c.lines.reader _ so_far.0 _ _ _ gives) _ _
    (λ ls does none.
    let so = so_far.1 (gives.line ∷ ls) in
    let still : g.F.Pages.files c.lines.folder Commit ≡ None = rw same none in
    let done = does (new_index c.in-Ok-Made.dims c.in-Ok-Made.leaf_size) None (still, refl, refl) in
    rw (append_assoc so_far.0.lines (gives.line ∷ []) ls) (
      made_ends c.args.work.now.language _ _ _ _ _ so.0 gives.line ls refl (new_index c.in-Ok-Made.dims c.in-Ok-Made.leaf_size) _ state
          (ap (λ (a : Answer). a.refused) is ∙ made.1)
          (λ sink. c.in-Ok-Made.ensures.text sink ∙ ap (λ (a : Answer). g.K.Sink.written c.lines.out ++ a.text) (sym is)) _ _ c.run_from.result done.0,
      leads_same c.args.work.now.language None _ _ _ _ _ _ _ c.run_from.result same (ap (λ f. g.F.Pages.reads f) c.lines.invariant.folder)
          (made_leads c.args.work.now.language _ _ _ so.1 gives.line ls refl c.in-Ok-Made.dims c.in-Ok-Made.leaf_size state _ _ _ _ still c.run_from.result
          done.1),
    ))
    (c.run_from.ensures.does told)

pub returns-in-Ok-Made-clause-read : goal.returns-in-Ok-Made-clause-read
returns-in-Ok-Made-clause-read g c =
    let yes : c.in-Ok-true.field-0 ≡ true = search rules in
    let gives = gives_line (IsTrue g.S.Source.told) c.lines.reader (g.S.Source.left c.lines.input) c.next_line.new.self (g.S.Source.left c.next_line.new.source)
    c.next_line.new.line.items c.in-Ok-true.field-0 yes c.in-Ok-true.ensures.gives in
    λ source knows. c.run_from.ensures.read source (gives.ended source (c.lines.invariant.so_far.0.ended source knows))

pub returns-in-Ok-Made-clause-cause : goal.returns-in-Ok-Made-clause-cause
returns-in-Ok-Made-clause-cause g c =
    let same = ap (λ f. g.F.Pages.faults f) c.lines.invariant.folder in
    halt_cause_from _ _ _ _ _ _ c.run_from.result (omega (arith, same)) (omega (arith, c.lines.invariant.sink_later, c.answer_first.ensures.later))
    c.run_from.ensures.cause

pub returns-in-Ok-Made-clause-source : goal.returns-in-Ok-Made-clause-source
returns-in-Ok-Made-clause-source g c =
    source_cause_from _ _ _ c.run_from.result (omega (arith, c.lines.invariant.source_later, c.in-Ok-true.ensures.cause.later)) c.run_from.ensures.source

pub returns-in-Ok-Made-clause-evident : goal.returns-in-Ok-Made-clause-evident
returns-in-Ok-Made-clause-evident g c =
    let same = ap (λ f. g.F.Pages.files f) c.lines.invariant.folder in
    halt_since _ _ _ _ _ c.run_from.result (λ p. let still : g.F.Pages.files c.lines.folder Commit ≡ None = rw same p.1 in (p.0, still)) (λ p. same)
    c.run_from.ensures.evident

pub returns-in-Err-clause-does : goal.returns-in-Err-clause-does
returns-in-Err-clause-does g c =
    let so_far = c.lines.invariant.so_far in
    let yes : c.in-Ok-true.field-0 ≡ true = search rules in
    let gives = gives_line (IsTrue g.S.Source.told) c.lines.reader (g.S.Source.left c.lines.input) c.next_line.new.self (g.S.Source.left c.next_line.new.source)
    c.next_line.new.line.items c.in-Ok-true.field-0 yes c.in-Ok-true.ensures.gives in
    let is = first_alike c.args.work.now.language c.lines.line gives.line c.as_slice.result.now
    (reads_alike c.args.work.now.language None gives.line c.next_line.new.line.items c.as_slice.result.now gives.bytes_are c.as_slice.ensures.value) in
    let same = ap (λ f. g.F.Pages.files f) c.lines.invariant.folder in
    λ told. of_line _ _ _ c.lines.reader _ so_far.0 _ _ _ _ gives (λ none.
    let still : g.F.Pages.files c.lines.folder Commit ≡ None = rw same none in (
      stops_first c.args.work.now.language _ (g.F.Pages.files c.lines.folder)
          _ _ _ _ _ (so_far.1 (gives.line ∷ lines_left c.next_line.new.self (g.S.Source.left c.next_line.new.source))).0 still gives.line _ refl c.in-Err.stop
          c.in-Err.ensures.cause
          (λ sink. subst (λ (a : Answer). IsSentPart a.text (g.K.Sink.written c.lines.out) (g.K.Sink.written c.answer_first.new.out) c.in-Err.stop) (sym is)
          (c.in-Err.ensures.text sink)),
      leads_none c.args.work.now.language None _ _ _ _ _ _ same (ap (λ f. g.F.Pages.reads f) c.lines.invariant.folder),
    ))

pub returns-in-Err-clause-cause : goal.returns-in-Err-clause-cause
returns-in-Err-clause-cause g c =
    cause_on _ _ _ _ _ _ _ (ap (λ f. g.F.Pages.faults f) c.lines.invariant.folder) c.lines.invariant.sink_later
    (first_cause (g.F.Pages.faults c.lines.folder) _ _ c.in-Err.stop c.in-Err.ensures.cause c.in-Err.ensures.later c.in-Err.ensures.sink)

pub returns-in-Err-clause-source : goal.returns-in-Err-clause-source
returns-in-Err-clause-source g c = no_source _ _ _ (omega (arith, c.lines.invariant.source_later, c.in-Ok-true.ensures.cause.later)) (λ e. cc)

pub returns-in-Err-clause-evident : goal.returns-in-Err-clause-evident
returns-in-Err-clause-evident g c = first_shows Opening ℕ _ c.in-Err.stop c.in-Err.ensures.cause

pub returns-in-Ok-false-clause-does : goal.returns-in-Ok-false-clause-does
returns-in-Ok-false-clause-does g c =
    let no : c.in-Ok-false.field-0 ≡ false = search rules in
    let so_far = c.lines.invariant.so_far in
    let same = ap (λ f. g.F.Pages.files f) c.lines.invariant.folder in
    λ told. of_all _ _ _ c.lines.reader _ so_far.0 _ c.next_line.new.self (g.S.Source.left c.next_line.new.source)
    (gives_none (IsTrue g.S.Source.told) c.lines.reader (g.S.Source.left c.lines.input) c.next_line.new.self (g.S.Source.left c.next_line.new.source)
    c.next_line.new.line.items c.in-Ok-false.field-0 no c.in-Ok-false.ensures.gives) (λ none.
    let still : g.F.Pages.files c.lines.folder Commit ≡ None = rw same none in (
      finishes_first c.args.work.now.language _ _ _ _ _ (so_far.1 []).0 (g.F.Pages.files c.lines.folder) still refl,
      leads_none c.args.work.now.language None _ _ _ _ _ _ same (ap (λ f. g.F.Pages.reads f) c.lines.invariant.folder),
    ))

pub returns-in-Ok-false-clause-read : goal.returns-in-Ok-false-clause-read
returns-in-Ok-false-clause-read g c =
    let no : c.in-Ok-false.field-0 ≡ false = search rules in
    let none = gives_none (IsTrue g.S.Source.told) c.lines.reader (g.S.Source.left c.lines.input) c.next_line.new.self (g.S.Source.left c.next_line.new.source)
    c.next_line.new.line.items c.in-Ok-false.field-0 no c.in-Ok-false.ensures.gives in
    λ source knows. (none source (c.lines.invariant.so_far.0.ended source knows)).1

pub returns-in-Ok-false-clause-cause : goal.returns-in-Ok-false-clause-cause
returns-in-Ok-false-clause-cause g c = record {
  folder_later = omega (arith, ap (λ f. g.F.Pages.faults f) c.lines.invariant.folder);
  sink_later = c.lines.invariant.sink_later;
  folder = λ e. absurd cc;
  sink = λ e. absurd cc;
}

pub returns-in-Ok-false-clause-source : goal.returns-in-Ok-false-clause-source
returns-in-Ok-false-clause-source g c = no_source _ _ _ (omega (arith, c.lines.invariant.source_later, c.in-Ok-false.ensures.cause.later)) (λ e. cc)

pub returns-in-Err-Failed-clause-does : goal.returns-in-Err-Failed-clause-does
returns-in-Err-Failed-clause-does g c =
    let so_far = c.lines.invariant.so_far in
    let same = ap (λ f. g.F.Pages.files f) c.lines.invariant.folder in
    λ told. of_left _ _ _ c.lines.reader _ so_far.0 _ (λ none.
    let still : g.F.Pages.files c.lines.folder Commit ≡ None = rw same none in (
      halts_first c.args.work.now.language _ _ _ _ _ (so_far.1 (lines_left c.lines.reader (g.S.Source.left c.lines.input))).0 (g.F.Pages.files c.lines.folder)
          still,
      leads_none c.args.work.now.language None _ _ _ _ _ _ same (ap (λ f. g.F.Pages.reads f) c.lines.invariant.folder),
    ))

pub returns-in-Err-Failed-clause-cause : goal.returns-in-Err-Failed-clause-cause
returns-in-Err-Failed-clause-cause g c = (omega (arith, ap (λ f. g.F.Pages.faults f) c.lines.invariant.folder), c.lines.invariant.sink_later)

pub returns-in-Err-Failed-clause-source : goal.returns-in-Err-Failed-clause-source
returns-in-Err-Failed-clause-source g c =
    let cause = rw c.in-Err-Failed.field-0-is at c.in-Err-Failed.ensures.cause in
    record {
      later = omega (arith, c.lines.invariant.source_later, cause.later);
      failed = λ e. rose_from _ _ _ c.lines.invariant.source_later (cause.failed refl);
    }

pub returns-in-Err-Memory-clause-does : goal.returns-in-Err-Memory-clause-does
returns-in-Err-Memory-clause-does g c =
    let so_far = c.lines.invariant.so_far in
    let same = ap (λ f. g.F.Pages.files f) c.lines.invariant.folder in
    λ told. of_left _ _ _ c.lines.reader _ so_far.0 _ (λ none.
    let still : g.F.Pages.files c.lines.folder Commit ≡ None = rw same none in (
      memory_first c.args.work.now.language _ _ _ _ _ (so_far.1 (lines_left c.lines.reader (g.S.Source.left c.lines.input))).0 (g.F.Pages.files c.lines.folder)
          still,
      leads_none c.args.work.now.language None _ _ _ _ _ _ same (ap (λ f. g.F.Pages.reads f) c.lines.invariant.folder),
    ))

pub returns-in-Err-Memory-clause-cause : goal.returns-in-Err-Memory-clause-cause
returns-in-Err-Memory-clause-cause g c =
    memory_cause _ _ _ _ (omega (arith, ap (λ f. g.F.Pages.faults f) c.lines.invariant.folder)) c.lines.invariant.sink_later

pub returns-in-Err-Memory-clause-source : goal.returns-in-Err-Memory-clause-source
returns-in-Err-Memory-clause-source g c = no_source _ _ _ (omega (arith, c.lines.invariant.source_later, c.in-Err-Memory.ensures.cause.later)) (λ e. cc)

pub returns-clause-does : goal.returns-clause-does
returns-clause-does g c =
    let so_far = c.lines.invariant.so_far in
    let same = ap (λ f. g.F.Pages.files f) c.lines.invariant.folder in
    λ told. of_left _ _ _ c.lines.reader _ so_far.0 _ (λ none.
    let still : g.F.Pages.files c.lines.folder Commit ≡ None = rw same none in (
      memory_first c.args.work.now.language _ _ _ _ _ (so_far.1 (lines_left c.lines.reader (g.S.Source.left c.lines.input))).0 (g.F.Pages.files c.lines.folder)
          still,
      leads_none c.args.work.now.language None _ _ _ _ _ _ same (ap (λ f. g.F.Pages.reads f) c.lines.invariant.folder),
    ))

pub returns-clause-cause : goal.returns-clause-cause
returns-clause-cause g c = memory_cause _ _ _ _ (omega (arith, ap (λ f. g.F.Pages.faults f) c.lines.invariant.folder)) c.lines.invariant.sink_later

pub returns-clause-source : goal.returns-clause-source
returns-clause-source g c = no_source _ _ _ c.lines.invariant.source_later (λ e. cc)

pub returns-in-Ok-Made-clause-lasting : goal.returns-in-Ok-Made-clause-lasting
returns-in-Ok-Made-clause-lasting g c = λ told none.
    let same = ap (λ f. g.F.Pages.files f) c.lines.invariant.folder in
    let still : g.F.Pages.files c.lines.folder Commit ≡ None = rw same none in
    commit_then (g.F.Pages.files c.args.folder.now) (g.F.Pages.files c.lines.folder) (g.F.Pages.files c.run_from.new.folder)
    (commit_equal _ _ same) (c.run_from.ensures.lasting told still)

pub returns-in-Err-clause-lasting : goal.returns-in-Err-clause-lasting
returns-in-Err-clause-lasting g c = λ told none. commit_equal _ _ (ap (λ f. g.F.Pages.files f) c.lines.invariant.folder)

pub returns-in-Ok-false-clause-lasting : goal.returns-in-Ok-false-clause-lasting
returns-in-Ok-false-clause-lasting g c = λ told none. commit_equal _ _ (ap (λ f. g.F.Pages.files f) c.lines.invariant.folder)

pub returns-in-Err-Failed-clause-lasting : goal.returns-in-Err-Failed-clause-lasting
returns-in-Err-Failed-clause-lasting g c = λ told none. commit_equal _ _ (ap (λ f. g.F.Pages.files f) c.lines.invariant.folder)

pub returns-in-Err-Memory-clause-lasting : goal.returns-in-Err-Memory-clause-lasting
returns-in-Err-Memory-clause-lasting g c = λ told none. commit_equal _ _ (ap (λ f. g.F.Pages.files f) c.lines.invariant.folder)

pub returns-clause-lasting : goal.returns-clause-lasting
returns-clause-lasting g c = λ told none. commit_equal _ _ (ap (λ f. g.F.Pages.files f) c.lines.invariant.folder)
