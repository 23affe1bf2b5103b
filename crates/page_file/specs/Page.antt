-- A page of a file: 4,096 bytes, of which the last 32 vouch for the others and for where the page stands.
use Rattle.std.specs.Prelude.{◌≡◌, ℕ, List, ◌∷◌, ◌++◌, length, take, drop}
use Rattle.std.specs.Int.{w32, w64, to_be_bytes}
use Rattle.sha2.specs.Sha256.{sha256}

-- the SHA-256 (FIPS 180-4) of the kind of the file, its number, the number of the page in it, and the payload
unfoldable pub page_digest : ℕ → ℕ → ℕ → List ℕ → List ℕ
page_digest kind file number payload = sha256 (kind ∷ (to_be_bytes w64 file ++ to_be_bytes w32 number ++ payload))

-- the payload of a page
abbrev pub payload_of : List ℕ → List ℕ
payload_of bytes = take 4064 bytes

-- the bytes are a page for that place
pub record IsPage (kind file number : ℕ) (bytes : List ℕ) : Type 0 where
  pub len : length bytes ≡ 4096
  pub digest : drop 4064 bytes ≡ page_digest kind file number (payload_of bytes)
