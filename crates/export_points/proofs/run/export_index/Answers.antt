use Rattle.point_codec.proofs.Sizes.{entry_fits}
use Rattle.std.proofs.Common.{IsTrue, ◌≤◌, ℕ, Some, refl, sym, ap, subst, ◌∙◌, ◌%◌, ◌==◌, ◌&&◌}
use Rattle.index_model.specs.Script.{Answer}
use Rattle.export_points.specs.Ends.{Sends}
use Rattle.export_points.proofs.Pieces.{whole_answer}
use Rattle.commit_list.specs.CommitFiles.{IsCommitFile}
use Rattle.index_opening.specs.Evidence.{IsEvident, IsFound}
use Rattle.outer_io.specs.Files.{bytes_of}
use Rattle.outer_io.specs.declared.file_name.FileName.TheVariants.{Commit}
use Rattle.stored_index.specs.Stored.{index_of}
use Rattle.run_status.specs.Ends.{DoesNothing}
use Rattle.run_status.specs.Stops.{status_of}
use Rattle.run_status.proofs.Ending.{does_lines, sink_stopped}
use Rattle.export_points.proofs.Ending.{fault_export, fault_no_sink, fault_rose, fault_status, sent_export, sink_no_folder, sink_shows_all}
use Rattle.export_points.proofs.run.export_index.Goals as goal

pub returns-in-Ok-clause-done : goal.returns-in-Ok-clause-done
returns-in-Ok-clause-done g c = λ d. does_lines c.send_entries.result (subst DoesNothing c.status_of.ensures d)

pub returns-in-Err-clause-done : goal.returns-in-Err-clause-done
returns-in-Err-clause-done g c = λ d. does_lines c.stopped.result (subst DoesNothing c.status_of-in-Err.ensures d)

pub returns-in-Ok-clause-exports : goal.returns-in-Ok-clause-exports
returns-in-Ok-clause-exports g c = λ told says.
    let files = g.F.Pages.files c.args.folder.now in
    let commit = c.args.commit.now in
    let found = rw c.in-Ok.is at (c.stored_entries.ensures.entries told says) in
    record {
      ends = rw c.status_of.ensures
          (sent_export (IsTrue g.K.Sink.told) c.args.as_ranges files (g.K.Sink.written c.args.out.now) (g.K.Sink.written c.send_entries.new.out)
          (Some (index_of commit found.0)) (record { commit = commit; holds = found.1; is = refl }) c.send_entries.result
          (subst (λ (a : Answer). Sends (IsTrue g.K.Sink.told) a.text a.refused (g.K.Sink.written c.args.out.now) (g.K.Sink.written c.send_entries.new.out)
          c.send_entries.result) (sym (whole_answer c.args.as_ranges g.row.D (index_of commit found.0) c.requires.dims
          (ap (λ (d : ℕ). c.args.as_ranges && d % 2 == 1) (sym c.requires.dims) ∙ c.requires.even)))
          (c.send_entries.ensures.sends found.0 commit.next found.2)));
      files = c.stored_entries.ensures.files told;
      reads = c.stored_entries.ensures.reads told;
      named = rw c.status_of.ensures (sink_shows_all (IsFound files) c.send_entries.result c.send_entries.ensures.only);
    }

pub returns-in-Err-clause-exports : goal.returns-in-Err-clause-exports
returns-in-Err-clause-exports g c = λ told says.
    let files = g.F.Pages.files c.args.folder.now in
    record {
      ends = rw c.status_of-in-Err.ensures
          (rw c.stopped.ensures (fault_export (IsTrue g.K.Sink.told) c.args.as_ranges files (g.K.Sink.written c.args.out.now)
          (g.K.Sink.written c.args.out.now) c.in-Err.fault (rw c.in-Err.is at (c.stored_entries.ensures.undefined told says)) (λ sink. refl)));
      files = c.stored_entries.ensures.files told;
      reads = c.stored_entries.ensures.reads told;
      named = rw c.status_of-in-Err.ensures (rw c.stopped.ensures (fault_status (IsFound files) c.in-Err.fault
          (rw c.in-Err.is at (c.stored_entries.ensures.named told says))));
    }

pub returns-in-Ok-clause-evident : goal.returns-in-Ok-clause-evident
returns-in-Ok-clause-evident g c = rw c.status_of.ensures (sink_shows_all _ c.send_entries.result c.send_entries.ensures.only)

pub returns-in-Err-clause-evident : goal.returns-in-Err-clause-evident
returns-in-Err-clause-evident g c = rw c.status_of-in-Err.ensures (rw c.stopped.ensures (fault_status
    (IsEvident (IsTrue g.F.Pages.told × IsCommitFile (bytes_of (g.F.Pages.files c.args.folder.now Commit)) c.args.commit.now)
    (g.F.Pages.files c.args.folder.now))
    c.in-Err.fault (rw c.in-Err.is at c.stored_entries.ensures.evident)))

pub returns-in-Ok-clause-folder_fault : goal.returns-in-Ok-clause-folder_fault
returns-in-Ok-clause-folder_fault g c = λ e. sink_no_folder c.send_entries.result c.send_entries.ensures.only (sym c.status_of.ensures ∙ e)

pub returns-in-Err-clause-folder_fault : goal.returns-in-Err-clause-folder_fault
returns-in-Err-clause-folder_fault g c = λ e.
    fault_rose _ _ c.in-Err.fault (rw c.in-Err.is at c.stored_entries.ensures.cause) (sym (c.status_of-in-Err.ensures ∙ ap status_of c.stopped.ensures) ∙ e)

pub returns-in-Ok-clause-sink_fault : goal.returns-in-Ok-clause-sink_fault
returns-in-Ok-clause-sink_fault g c = λ e. c.send_entries.ensures.sink (sink_stopped c.send_entries.result (sym c.status_of.ensures ∙ e))

pub returns-in-Err-clause-sink_fault : goal.returns-in-Err-clause-sink_fault
returns-in-Err-clause-sink_fault g c = λ e. fault_no_sink c.in-Err.fault (sym (c.status_of-in-Err.ensures ∙ ap status_of c.stopped.ensures) ∙ e)

pub stored_entries-requires : goal.stored_entries-requires
stored_entries-requires g c = (entry_fits g.row.D (subst (λ n. n ≤ 8) c.requires.dims c.dims-dims.ensures.commit.ranges.most_dims), c.requires.dims)

pub send_entries-requires : goal.send_entries-requires
send_entries-requires g c = entry_fits g.row.D (subst (λ n. n ≤ 8) c.requires.dims c.dims-dims.ensures.commit.ranges.most_dims)
