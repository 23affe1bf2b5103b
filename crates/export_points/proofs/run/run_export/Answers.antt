use Rattle.std.proofs.Common.{IsTrue, None, Option, Err, refl, sym, ap, subst, ◌∙◌}
use Rattle.outer_io.specs.Files.{Files, bytes_of}
use Rattle.outer_io.specs.declared.file_name.FileName.TheVariants.{Commit}
use Rattle.page_cache.proofs.Damages.{fault_weaker}
use Rattle.commit_list.specs.Commits.{CommitData}
use Rattle.commit_list.specs.CommitFiles.{IsCommitFile}
use Rattle.index_opening.specs.Evidence.{IsEvident, IsFound}
use Rattle.index_opening.proofs.Evident.{evident_files, on_commit_evident}
use Rattle.index_opening.proofs.Listed.{undefined_fault}
use Rattle.index_opening.proofs.Named.{commit_found}
use Rattle.folder_check.proofs.Whole.{commit_undefined, pages_all, pages_read, read_at}
use Rattle.run_status.specs.Ends.{DoesNothing, OnStatusDamage}
use Rattle.run_status.specs.Stops.{status_of}
use Rattle.run_status.proofs.Ending.{does_lines, rose_from, sink_stopped}
use Rattle.export_points.specs.Ends.{EndsExport}
use Rattle.export_points.proofs.Ending.{fault_export, fault_no_sink, fault_rose, fault_status, line_only}
use Rattle.export_points.proofs.Ending.{never_damaged, sent_export, sink_no_folder, sink_shows_all, status_weaker}
use Rattle.export_points.proofs.Pieces.{sent_line}
use Rattle.export_points.proofs.run.run_export.Goals as goal

pub returns-in-Ok-None-clause-done : goal.returns-in-Ok-None-clause-done
returns-in-Ok-None-clause-done g c = λ d. does_lines c.send.result (subst DoesNothing c.status_of.ensures d)

pub returns-in-Err-clause-done : goal.returns-in-Err-clause-done
returns-in-Err-clause-done g c = λ d. does_lines c.stopped.result (subst DoesNothing c.status_of-in-Err.ensures d)

pub returns-in-Ok-None-clause-exports : goal.returns-in-Ok-None-clause-exports
returns-in-Ok-None-clause-exports g c = λ told.
    let files = g.F.Pages.files c.args.folder.now in
    let none = rw c.in-Ok-None.field-0-is at (c.in-Ok-None.ensures.found told) in
    record {
      ends = rw c.status_of.ensures
          (sent_export (IsTrue g.K.Sink.told) c.args.as_ranges files (g.K.Sink.written c.args.out.now) (g.K.Sink.written c.send.new.out) None none
          c.send.result
          (sent_line (IsTrue g.K.Sink.told) _ (g.K.Sink.written c.args.out.now) (g.K.Sink.written c.send.new.out) c.send.result c.send.ensures.known
          c.send.ensures.text c.send.ensures.cause));
      files = c.in-Ok-None.ensures.files told;
      reads = λ pages checking. pages_read files pages (g.F.Pages.reads c.args.folder.now) (g.F.Pages.reads c.read_commit.new.folder)
          (g.F.Pages.reads c.read_commit.new.folder) (c.in-Ok-None.ensures.unread told) (c.in-Ok-None.ensures.most told) refl checking;
      named = rw c.status_of.ensures (sink_shows_all (IsFound files) c.send.result (line_only c.send.result c.send.ensures.cause));
    }

pub returns-in-Ok-Some-clause-exports : goal.returns-in-Ok-Some-clause-exports
returns-in-Ok-Some-clause-exports g c = λ told.
    let files = g.F.Pages.files c.args.folder.now in
    let mid = g.F.Pages.files c.read_commit.new.folder in
    let commit = c.in-Ok-Some.commit in
    let same = c.in-Ok-Some.ensures.files told in
    let says = rw c.in-Ok-Some.field-0-is at (c.in-Ok-Some.ensures.found told) in
    let e = c.export_commit.ensures.exports told (subst (λ (f : Files). IsCommitFile (bytes_of (f Commit)) commit) (sym same) says) in
    record {
      ends = subst (λ (f : Files). EndsExport (IsTrue g.K.Sink.told) c.args.as_ranges f (g.K.Sink.written c.args.out.now)
          (g.K.Sink.written c.export_commit.new.out) c.export_commit.result) same e.ends;
      files = e.files ∙ same;
      reads = λ pages checking. pages_all files commit pages (g.F.Pages.reads c.args.folder.now) (g.F.Pages.reads c.read_commit.new.folder)
          (g.F.Pages.reads c.export_commit.new.folder) says (c.in-Ok-Some.ensures.most told)
          (read_at files mid commit (g.F.Pages.reads c.read_commit.new.folder) (g.F.Pages.reads c.export_commit.new.folder) same e.reads) checking;
      named = subst (λ (f : Files). OnStatusDamage c.export_commit.result (IsFound f)) same e.named;
    }

pub returns-in-Err-clause-exports : goal.returns-in-Err-clause-exports
returns-in-Err-clause-exports g c = λ told.
    let files = g.F.Pages.files c.args.folder.now in
    let fault = c.in-Err.fault in
    record {
      ends = rw c.status_of-in-Err.ensures
          (rw c.stopped.ensures (fault_export (IsTrue g.K.Sink.told) c.args.as_ranges files (g.K.Sink.written c.args.out.now)
          (g.K.Sink.written c.args.out.now) fault
          (undefined_fault files fault (commit_undefined files fault (c.in-Err.ensures.absent told) (c.in-Err.ensures.whole told))) (λ sink. refl)));
      files = c.in-Err.ensures.files told;
      reads = λ pages checking. pages_read files pages (g.F.Pages.reads c.args.folder.now) (g.F.Pages.reads c.read_commit.new.folder)
          (g.F.Pages.reads c.read_commit.new.folder) (c.in-Err.ensures.unread told) (c.in-Err.ensures.most told) refl checking;
      named = rw c.status_of-in-Err.ensures (rw c.stopped.ensures (fault_status (IsFound files) fault
          (commit_found files fault c.in-Err.ensures.shown (c.in-Err.ensures.damage told))));
    }

pub returns-in-Ok-None-clause-whole : goal.returns-in-Ok-None-clause-whole
returns-in-Ok-None-clause-whole g c = λ told. never_damaged _ _ _ _ _ _ (returns-in-Ok-None-clause-exports g c told).ends

pub returns-in-Ok-Some-clause-whole : goal.returns-in-Ok-Some-clause-whole
returns-in-Ok-Some-clause-whole g c = λ told. never_damaged _ _ _ _ _ _ (returns-in-Ok-Some-clause-exports g c told).ends

pub returns-in-Err-clause-whole : goal.returns-in-Err-clause-whole
returns-in-Err-clause-whole g c = λ told. never_damaged _ _ _ _ _ _ (returns-in-Err-clause-exports g c told).ends

pub returns-in-Ok-None-clause-evident : goal.returns-in-Ok-None-clause-evident
returns-in-Ok-None-clause-evident g c = rw c.status_of.ensures (sink_shows_all _ c.send.result (line_only c.send.result c.send.ensures.cause))

pub returns-in-Ok-Some-clause-evident : goal.returns-in-Ok-Some-clause-evident
returns-in-Ok-Some-clause-evident g c =
    let mid = g.F.Pages.files c.read_commit.new.folder in
    let new = g.F.Pages.files c.export_commit.new.folder in
    let commit = c.in-Ok-Some.commit in
    let S = IsTrue g.F.Pages.told × IsCommitFile (bytes_of (mid Commit)) commit in
    let T = IsTrue g.F.Pages.told in
    let says : T → S = λ told. (
      told,
      subst (λ (f : Files). IsCommitFile (bytes_of (f Commit)) commit) (sym (c.in-Ok-Some.ensures.files told))
          (rw c.in-Ok-Some.field-0-is at (c.in-Ok-Some.ensures.found told)),
    ) in
    status_weaker (IsEvident S mid) (IsEvident T new) c.export_commit.result
    (λ d h. evident_files S T mid new d says (λ told. (c.export_commit.ensures.exports told (says told).1).files) h) c.export_commit.ensures.evident

pub returns-in-Err-clause-evident : goal.returns-in-Err-clause-evident
returns-in-Err-clause-evident g c =
    let files = g.F.Pages.files c.args.folder.now in
    let new = g.F.Pages.files c.read_commit.new.folder in
    let T = IsTrue g.F.Pages.told in
    let fault = c.in-Err.fault in
    rw c.status_of-in-Err.ensures (rw c.stopped.ensures (fault_status (IsEvident T new) fault
    (fault_weaker fault (IsEvident T files) (IsEvident T new) (λ d h. evident_files T T files new d (λ told. told) c.in-Err.ensures.files h)
    (on_commit_evident {X = Option CommitData} T files (Err fault) c.in-Err.ensures.damage c.in-Err.ensures.shown))))

pub returns-in-Ok-None-clause-folder_fault : goal.returns-in-Ok-None-clause-folder_fault
returns-in-Ok-None-clause-folder_fault g c = λ e. sink_no_folder c.send.result (line_only c.send.result c.send.ensures.cause) (sym c.status_of.ensures ∙ e)

pub returns-in-Ok-Some-clause-folder_fault : goal.returns-in-Ok-Some-clause-folder_fault
returns-in-Ok-Some-clause-folder_fault g c = λ e. rose_from _ _ _ c.in-Ok-Some.ensures.cause.later (c.export_commit.ensures.folder_fault e)

pub returns-in-Err-clause-folder_fault : goal.returns-in-Err-clause-folder_fault
returns-in-Err-clause-folder_fault g c = λ e.
    fault_rose _ _ c.in-Err.fault c.in-Err.ensures.cause (sym (c.status_of-in-Err.ensures ∙ ap status_of c.stopped.ensures) ∙ e)

pub returns-in-Ok-None-clause-sink_fault : goal.returns-in-Ok-None-clause-sink_fault
returns-in-Ok-None-clause-sink_fault g c = λ e. c.send.ensures.sink (sink_stopped c.send.result (sym c.status_of.ensures ∙ e))

pub returns-in-Err-clause-sink_fault : goal.returns-in-Err-clause-sink_fault
returns-in-Err-clause-sink_fault g c = λ e. fault_no_sink c.in-Err.fault (sym (c.status_of-in-Err.ensures ∙ ap status_of c.stopped.ensures) ∙ e)
