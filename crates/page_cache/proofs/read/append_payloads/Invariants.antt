use Rattle.std.proofs.Common.{◌≡◌, ◌≤◌, ◌+◌, ◌*◌, ◌++◌, vec_len, IsTrue}
use Rattle.outer_io.specs.Files.{bytes_of}
use Rattle.page_cache.specs.FilePages.{ArePages, payloads_of}
use Rattle.page_cache.proofs.read.append_payloads.Given as goal

abbrev pub invariant-pages : goal.invariant-pages
invariant-pages g l = record {
  files : IsTrue g.F.Pages.told → g.F.Pages.files l.folder ≡ g.F.Pages.files l.initial.folder;
  reads : g.F.Pages.reads l.folder ≤ g.F.Pages.reads l.initial.folder + l.i;
  faults : g.F.Pages.faults l.folder ≡ g.F.Pages.faults l.initial.folder;
  len : vec_len l.out ≡ vec_len l.initial.out + 4064 * l.i;
  payloads : IsTrue g.F.Pages.told → l.out.items ≡ l.initial.out.items ++ payloads_of (bytes_of (g.F.Pages.files l.initial.folder l.name)) 1 l.i;
  pages : IsTrue g.F.Pages.told → ArePages l.name (bytes_of (g.F.Pages.files l.initial.folder l.name)) 1 (1 + l.i);
}
