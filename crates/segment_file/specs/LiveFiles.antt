-- A file of live bits.
use Rattle.std.specs.Prelude.{◌≡◌, ◌/◌, ℕ, List, length, max}
use Rattle.outer_io.specs.declared.file_name.FileName.TheVariants.{Live}
use Rattle.live_bits.specs.LiveSet.{LiveSet}
use Rattle.live_bits.specs.LiveBody.{IsLiveBody}
use Rattle.page_cache.specs.Bodies.{padded_body, IsBodyFile}

-- the file of this segment and generation is the body of this set
pub record LiveParts (segment generation : ℕ) (bytes : List ℕ) (live : LiveSet) : Type 0 where
  pub body : List ℕ
  pub set : IsLiveBody segment generation live body
  pub file : IsBodyFile (Live segment generation) bytes body

-- the same, of which no part is told. A file has one set at most (`one_live_set`)
unfoldable pub IsLiveFile : (segment generation : ℕ) → List ℕ → LiveSet → Type 0
IsLiveFile segment generation bytes live = LiveParts segment generation bytes live

-- the payloads of the file, all of them, are those of the body of this set
pub record IsSetOf (segment generation : ℕ) (payloads : List ℕ) (live : LiveSet) : Type 0 where
  pub body : List ℕ
  pub set : IsLiveBody segment generation live body
  pub payloads_are : payloads ≡ padded_body body

-- how many pages of a file of these bytes are read at most where each is read once: all, and one where there is none
abbrev pub pages_once : List ℕ → ℕ
pages_once bytes = max 1 (length bytes / 4096)
