-- A body: bytes that fill the payloads of pages in order, with zeros behind them in the last page.
use Rattle.std.specs.Prelude.{◌≡◌, ℕ, ◌+◌, ◌-◌, ◌*◌, ◌/◌, ◌<◌, List, ◌++◌, length, replicate}
use Rattle.outer_io.specs.declared.file_name.FileName.{FileName}
use Rattle.page_file.specs.Page.{IsPage, payload_of}
use Rattle.page_cache.specs.FilePages.{kind_of, number_of, page_at, ArePages, payloads_of}

-- how many pages a body of so many bytes fills
abbrev pub pages_for : ℕ → ℕ
pages_for len = (len + 4063) / 4064

-- the body and the zeros behind it, a whole number of payloads
abbrev pub padded_body : List ℕ → List ℕ
padded_body body = body ++ replicate (4064 * pages_for (length body) - length body) 0

-- the bytes are the pages of this body, sealed as the pages of a file from page `first` on
pub record ArePagesOf (name : FileName) (first : ℕ) (body bytes : List ℕ) : Type 0 where
  pub len : length bytes ≡ 4096 * pages_for (length body)
  pub pages : (i : ℕ) → i < pages_for (length body)
      → IsPage (kind_of name) (number_of name) (first + i) (page_at bytes i)
  pub payload : payloads_of bytes 0 (pages_for (length body)) ≡ padded_body body

-- a file of this name and these bytes is one body: exactly its pages, each for its place
pub record IsBodyFile (name : FileName) (bytes body : List ℕ) : Type 0 where
  pub len : length bytes ≡ 4096 * pages_for (length body)
  pub pages : ArePages name bytes 0 (pages_for (length body))
  pub payload : payloads_of bytes 0 (pages_for (length body)) ≡ padded_body body

-- one page for this place was put behind what was there, with this payload and zeros
pub record AppendsPage (name : FileName) (number : ℕ) (part old new : List ℕ) : Type 0 where
  pub bytes : List ℕ
  pub grew : new ≡ old ++ bytes
  pub page : IsPage (kind_of name) (number_of name) number bytes
  pub payload : payload_of bytes ≡ part ++ replicate (4064 - length part) 0

-- the pages of this body were put behind what was there
pub record AppendsPages (name : FileName) (first : ℕ) (body old new : List ℕ) : Type 0 where
  pub bytes : List ℕ
  pub grew : new ≡ old ++ bytes
  pub pages : ArePagesOf name first body bytes
