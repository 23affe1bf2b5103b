-- What the size of a file says of its first page.
use Rattle.std.proofs.Common.{◌≡◌, ℕ, ◌+◌, ◌*◌, ◌≤◌, ◌<◌, List, [], length, Option, Some, None, arith}
use Rattle.outer_io.specs.declared.file_name.FileName.{FileName}
use Rattle.outer_io.specs.Files.{bytes_of, size_of}
use Rattle.page_cache.specs.FilePages.{IsFilePage}
use Rattle.page_cache.proofs.PageRuns.{page_within}

pub size_is_length : (file : Option (List ℕ)) (size : ℕ) → Some size ≡ size_of file → size ≡ length (bytes_of file)
size_is_length None size e = cc
size_is_length (Some bytes) size e = cc

pub no_file_no_page : (name : FileName) (file : Option (List ℕ)) → None ≡ size_of file → IsFilePage name (bytes_of file) 0 → ⊥
no_file_no_page name None e page = let within : 4096 * 0 + 4096 ≤ 0 = page_within name [] 0 page in absurd (omega arith)
no_file_no_page name (Some bytes) e page = cc

pub small_file_no_page : (name : FileName) (file : Option (List ℕ)) (size : ℕ) → Some size ≡ size_of file → size < 4096 → IsFilePage name (bytes_of file) 0 → ⊥
small_file_no_page name file size e short page =
    let len = size_is_length file size e in let within = page_within name (bytes_of file) 0 page in absurd (omega arith)
