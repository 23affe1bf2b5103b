use Rattle.std.proofs.Common.{◌≡◌, ◌≤◌, ◌+◌, sum_by, take}
use Rattle.std.specs.Prelude.{IsTrue, All}
use Rattle.outer_io.specs.declared.file_name.FileName.TheVariants.{Commit}
use Rattle.outer_io.specs.Files.{bytes_of}
use Rattle.outer_io.specs.MemFolder.{folder_files}
use Rattle.commit_list.specs.CommitFiles.{IsCommitFile}
use Rattle.batch_run.specs.Copies.{IsCopied, copied_pages}
use Rattle.batch_run.proofs.copying.copy_index.Given as goal

-- the files of the segments so far were copied beside that of the commit, and nothing failed
abbrev pub invariant-loop-s : goal.invariant-loop-s
invariant-loop-s g l = record {
  commit : IsCommitFile (bytes_of (folder_files l.copy Commit)) l.c;
  copied : IsTrue g.F.Pages.told → All (IsCopied (g.F.Pages.files l.initial.folder) (folder_files l.copy)) (take l.s-index l.c.listed);
  files : IsTrue g.F.Pages.told → g.F.Pages.files l.folder ≡ g.F.Pages.files l.initial.folder;
  reads : IsTrue g.F.Pages.told
      → g.F.Pages.reads l.folder ≤ g.F.Pages.reads l.initial.folder + sum_by (copied_pages (g.F.Pages.files l.initial.folder)) (take l.s-index l.c.listed);
  faults : g.F.Pages.faults l.folder ≡ g.F.Pages.faults l.initial.folder;
}
