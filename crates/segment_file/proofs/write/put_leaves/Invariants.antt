use Rattle.std.proofs.Common.{◌≡◌, ◌≤◌, ◌+◌, ◌++◌, ℕ, List, [], drop}
use Rattle.std.specs.Prelude.{IsTrue}
use Rattle.outer_io.specs.Files.{bytes_of, SameBut}
use Rattle.outer_io.specs.declared.file_name.FileName.TheVariants.{Segment}
use Rattle.segment_file.specs.Pieced.{piece_id, piece_pages, so_far, open_page, IsPaged, laid_pages}
use Rattle.segment_file.proofs.write.put_leaves.Given as goal

abbrev pub invariant-loop-leaf : goal.invariant-loop-leaf
invariant-loop-leaf g l = record {
  id : piece_id l.pieces ≡ piece_id l.initial.pieces;
  pages : piece_pages l.pieces ≤ piece_pages l.initial.pieces + l.leaf-index;
  put : IsTrue g.F.Pages.told → (payloads : List ℕ)
      → IsPaged (Segment (piece_id l.initial.pieces)) (piece_pages l.initial.pieces) payloads
      (so_far (bytes_of (g.F.Pages.files l.initial.folder (Segment (piece_id l.initial.pieces)))) l.initial.pieces)
      → (more : List ℕ)
      × IsPaged (Segment (piece_id l.initial.pieces)) (piece_pages l.pieces) more
      (so_far (bytes_of (g.F.Pages.files l.folder (Segment (piece_id l.initial.pieces)))) l.pieces)
      × (payloads ++ laid_pages [] l.leaves ≡ more ++ laid_pages (open_page l.pieces) (drop l.leaf-index l.leaves));
  others : IsTrue g.F.Pages.told → SameBut (Segment (piece_id l.initial.pieces)) (g.F.Pages.files l.initial.folder) (g.F.Pages.files l.folder);
  reads : g.F.Pages.reads l.folder ≡ g.F.Pages.reads l.initial.folder;
  faults : g.F.Pages.faults l.folder ≡ g.F.Pages.faults l.initial.folder;
}
