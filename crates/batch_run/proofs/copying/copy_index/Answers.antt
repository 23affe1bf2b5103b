-- With each segment its two files are copied, and the others stay.
use Rattle.std.proofs.Common.{◌∙◌}
use Rattle.outer_io.specs.MemFolder.{folder_files}
use Rattle.batch_run.proofs.CopiedFiles.{all_copied, commit_stays, copied_next, reads_all, reads_next}
use Rattle.batch_run.proofs.copying.copy_index.Goals as goal

pub loop-s-preserved : goal.loop-s-preserved
loop-s-preserved g c = record {
  commit = commit_stays (folder_files c.loop-s.copy) (folder_files c.copy_file.new.copy) (folder_files c.copy_file-in-loop-s.new.copy) _ _ c.args.c.now
      (λ e. cc) (λ e. cc) c.in_ok-copy_file.ensures.others c.in_ok-copy_file-2.ensures.others c.loop-s.invariant.commit;
  copied = λ told.
      copied_next (g.F.Pages.files c.args.folder.now) (g.F.Pages.files c.loop-s.folder) (g.F.Pages.files c.copy_file.new.folder)
      (folder_files c.loop-s.copy) (folder_files c.copy_file.new.copy) (folder_files c.copy_file-in-loop-s.new.copy)
      c.args.c.now.listed c.listed-s-items.result.now c.loop-s.s-index _
      c.listed-s-items.ensures.value c.loop-s-test.true (c.loop-s.invariant.files told) (c.in_ok-copy_file.ensures.files told)
      (c.in_ok-copy_file.ensures.copied told) c.in_ok-copy_file.ensures.others
      (c.in_ok-copy_file-2.ensures.copied told) c.in_ok-copy_file-2.ensures.others (c.loop-s.invariant.copied told);
  files = λ told. c.in_ok-copy_file-2.ensures.files told ∙ c.in_ok-copy_file.ensures.files told ∙ c.loop-s.invariant.files told;
  reads = λ told.
      reads_next (g.F.Pages.files c.args.folder.now) (g.F.Pages.files c.loop-s.folder) (g.F.Pages.files c.copy_file.new.folder)
      c.args.c.now.listed c.listed-s-items.result.now c.loop-s.s-index _
      (g.F.Pages.reads c.args.folder.now) (g.F.Pages.reads c.loop-s.folder) (g.F.Pages.reads c.copy_file.new.folder)
      (g.F.Pages.reads c.copy_file-in-loop-s.new.folder)
      c.listed-s-items.ensures.value c.loop-s-test.true (c.loop-s.invariant.files told) (c.in_ok-copy_file.ensures.files told)
      (c.loop-s.invariant.reads told) (c.in_ok-copy_file.ensures.reads told) (c.in_ok-copy_file-2.ensures.reads told);
  faults = c.in_ok-copy_file-2.ensures.cause.on_ok ∙ c.in_ok-copy_file.ensures.cause.on_ok ∙ c.loop-s.invariant.faults;
}

pub returns-clause-copied : goal.returns-clause-copied
returns-clause-copied g c = λ told.
    all_copied (g.F.Pages.files c.args.folder.now) (folder_files c.loop-s.copy) c.args.c.now.listed c.listed-s-items.result.now c.loop-s.s-index
    c.listed-s-items.ensures.value c.loop-s-test.false (c.loop-s.invariant.copied told)

pub returns-clause-reads : goal.returns-clause-reads
returns-clause-reads g c = λ told.
    reads_all (g.F.Pages.files c.args.folder.now) c.args.c.now.listed c.listed-s-items.result.now c.loop-s.s-index
    (g.F.Pages.reads c.args.folder.now) (g.F.Pages.reads c.loop-s.folder)
    c.listed-s-items.ensures.value c.loop-s-test.false (c.loop-s.invariant.reads told)
