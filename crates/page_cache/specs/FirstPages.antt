-- What contracts see of the first page of a file.
use Rattle.std.specs.Prelude.{◌≡◌, ℕ, List, length}
use Rattle.outer_io.specs.declared.file_name.FileName.{FileName}
use Rattle.outer_io.specs.Files.{Files, bytes_of}
use Rattle.page_file.specs.Page.{payload_of}
use Rattle.page_cache.specs.declared.first_page.FirstPage.{FirstPage}
use Rattle.page_cache.specs.FilePages.{page_at, IsFilePage}

-- the file that it is of
unfoldable pub first_name : FirstPage → FileName
first_name p = p.name

-- the payload of the first page
unfoldable pub first_payload : FirstPage → List ℕ
first_payload p = payload_of p.page.value.b

-- the size of the file, as the folder said it
unfoldable pub first_size : FirstPage → ℕ
first_size p = p.size

-- it is the first page of its file, which is there with that size
pub record IsFirstPage (files : Files) (p : FirstPage) : Type 0 where
  pub size : first_size p ≡ length (bytes_of (files (first_name p)))
  pub page : IsFilePage (first_name p) (bytes_of (files (first_name p))) 0
  pub payload : first_payload p ≡ payload_of (page_at (bytes_of (files (first_name p))) 0)
