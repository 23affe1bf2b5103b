use Rattle.std.proofs.Common.{IsTrue, refl, sym, subst, ◌∙◌, arith}
use Rattle.index_opening.specs.Evidence.{IsFound}
use Rattle.run_status.specs.Ends.{DoesNothing}
use Rattle.run_status.proofs.Ending.{does_lines, sink_stopped}
use Rattle.export_points.proofs.Ending.{line_only, odd_export, sink_no_folder, sink_shows_all}
use Rattle.export_points.proofs.Pieces.{sent_line}
use Rattle.export_points.proofs.run.export_commit.Goals as goal

pub returns-then-is_not_ranges-clause-done : goal.returns-then-is_not_ranges-clause-done
returns-then-is_not_ranges-clause-done g c = λ d. does_lines c.send.result (subst DoesNothing c.status_of.ensures d)

pub returns-then-is_not_ranges-clause-exports : goal.returns-then-is_not_ranges-clause-exports
returns-then-is_not_ranges-clause-exports g c = λ told says.
    let files = g.F.Pages.files c.args.folder.now in
    record {
      ends = rw c.status_of.ensures
          (odd_export (IsTrue g.K.Sink.told) c.args.as_ranges files (g.K.Sink.written c.args.out.now) (g.K.Sink.written c.send.new.out) c.args.commit.now says
          (sym c.is_not_ranges.ensures ∙ c.if-is_not_ranges.true) c.send.result
          (sent_line (IsTrue g.K.Sink.told) _ (g.K.Sink.written c.args.out.now) (g.K.Sink.written c.send.new.out) c.send.result c.send.ensures.known
          c.send.ensures.text c.send.ensures.cause));
      files = refl;
      reads = λ heads sets have live. omega arith;
      named = rw c.status_of.ensures (sink_shows_all (IsFound files) c.send.result (line_only c.send.result c.send.ensures.cause));
    }

pub returns-then-is_not_ranges-clause-evident : goal.returns-then-is_not_ranges-clause-evident
returns-then-is_not_ranges-clause-evident g c = rw c.status_of.ensures (sink_shows_all _ c.send.result (line_only c.send.result c.send.ensures.cause))

pub returns-then-is_not_ranges-clause-folder_fault : goal.returns-then-is_not_ranges-clause-folder_fault
returns-then-is_not_ranges-clause-folder_fault g c = λ e.
    sink_no_folder c.send.result (line_only c.send.result c.send.ensures.cause) (sym c.status_of.ensures ∙ e)

pub returns-then-is_not_ranges-clause-sink_fault : goal.returns-then-is_not_ranges-clause-sink_fault
returns-then-is_not_ranges-clause-sink_fault g c = λ e. c.send.ensures.sink (sink_stopped c.send.result (sym c.status_of.ensures ∙ e))

pub export_listed-requires : goal.export_listed-requires
export_listed-requires g c = sym c.is_not_ranges.ensures ∙ c.if-is_not_ranges.false
