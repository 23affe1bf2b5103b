-- Bytes that are read as a number, the greatest first, are the number's spelling, and no bytes begin with
-- two numbers of one width.
use Rattle.std.proofs.Common.{◌≡◌, ◌<◌, ◌^◌, ℕ, List, ◌++◌, length, get_or, drop, sym, ap, ◌∙◌, arith}
use Rattle.std.specs.Int.{Width, w16, w32, w64, byte_len, to_be_bytes, bytes_high_first}
use Rattle.std.proofs.lemmas.Nat.{be_bytes_2, be_bytes_4, be_bytes_8}
use Rattle.std.proofs.lemmas.List.{drop_at}
use Rattle.byteorder.specs.Endian.{big_number}
use Rattle.byteorder.specs.Numbers.{big_number-reads_back, length-bytes_high_first}

-- each element is a byte
abbrev pub AreBytes : List ℕ → Type 0
AreBytes bytes = (i : ℕ) → get_or bytes i 0 < 256

pub spelt_16 : (bytes : List ℕ) (n : ℕ) → length bytes ≡ 2 → AreBytes bytes → n ≡ big_number 2 bytes → to_be_bytes w16 n ≡ bytes
spelt_16 bytes n len fit e = be_bytes_2 bytes n len fit (omega (arith, e))

pub spelt_32 : (bytes : List ℕ) (n : ℕ) → length bytes ≡ 4 → AreBytes bytes → n ≡ big_number 4 bytes → to_be_bytes w32 n ≡ bytes
spelt_32 bytes n len fit e = be_bytes_4 bytes n len fit (omega (arith, e))

pub spelt_64 : (bytes : List ℕ) (n : ℕ) → length bytes ≡ 8 → AreBytes bytes → n ≡ big_number 8 bytes → to_be_bytes w64 n ≡ bytes
spelt_64 bytes n len fit e = be_bytes_8 bytes n len fit (omega (arith, e))

-- no bytes begin with two numbers of k bytes
high_first_unique : (k m n : ℕ) (x y : List ℕ) → m < 256 ^ k → n < 256 ^ k → bytes_high_first k m ++ x ≡ bytes_high_first k n ++ y → (m ≡ n) × (x ≡ y)
high_first_unique k m n x y hm hn e =
    let back_m = big_number-reads_back k m x hm in
    let back_n = big_number-reads_back k n y hn in
    let same : m ≡ n = sym back_m ∙ ap (λ (bytes : List ℕ). big_number k bytes) e ∙ back_n in
    let rest_m = drop_at (bytes_high_first k m) x k (length-bytes_high_first k m) in
    let rest_n = drop_at (bytes_high_first k n) y k (length-bytes_high_first k n) in
    (same, sym rest_m ∙ ap (λ (bytes : List ℕ). drop k bytes) e ∙ rest_n)

pub spelling_unique : (w : Width) (m n : ℕ) (x y : List ℕ) → m < 256 ^ byte_len w → n < 256 ^ byte_len w → to_be_bytes w m ++ x ≡ to_be_bytes w n ++ y
    → (m ≡ n) × (x ≡ y)
spelling_unique w m n x y hm hn e = high_first_unique (byte_len w) m n x y hm hn e
