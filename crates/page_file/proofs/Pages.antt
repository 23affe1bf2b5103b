-- Pages as lists: their payload's length, one page a payload, and the page that a payload was written into.
use Rattle.std.proofs.Common.{◌≡◌, ◌≤◌, ◌+◌, ◌-◌, ℕ, List, [], ◌++◌, length, take, drop, replicate}
use Rattle.std.proofs.Common.{sym, ap, ◌∙◌, arith, length-append, append-nil}
use Rattle.std.proofs.lemmas.List.{length-take, take-append-drop, take_at, drop_at, drop-replicate, take-replicate}
use Rattle.std.proofs.Math.ListN.{drop_of_length-le}
use Rattle.std.proofs.Math.Seq.{take-append-add}
use Rattle.page_file.specs.Page.{IsPage, payload_of, page_digest}

pub payload_of-length : (kind file number : ℕ) (bytes : List ℕ) → IsPage kind file number bytes → length (payload_of bytes) ≡ 4064
payload_of-length kind file number bytes page = let len = page.len in omega (arith, length-take 4064 bytes)

pub page_unique : (kind file number : ℕ) (a b : List ℕ) → IsPage kind file number a → IsPage kind file number b → payload_of a ≡ payload_of b → a ≡ b
page_unique kind file number a b p q e =
    let digests : drop 4064 a ≡ drop 4064 b = p.digest ∙ ap (λ (x : List ℕ). page_digest kind file number x) e ∙ sym q.digest in
    sym (take-append-drop 4064 a) ∙ ap (λ (x : List ℕ). x ++ drop 4064 a) e ∙ ap (λ (x : List ℕ). take 4064 b ++ x) digests ∙ take-append-drop 4064 b

-- what a page is whose digest was put behind the payload
pub sealed_page : (kind file number : ℕ) (filled new digest : List ℕ) → length filled ≡ 4096 → length digest ≡ 32
    → digest ≡ page_digest kind file number (take 4064 filled)
    → new ≡ take 4064 filled ++ digest ++ drop (4064 + length digest) filled → IsPage kind file number new × (payload_of new ≡ payload_of filled)
sealed_page kind file number filled new digest len short digests e =
    let front : length (take 4064 filled) ≡ 4064 = omega (arith, length-take 4064 filled) in
    let whole : length (take 4064 filled ++ digest) ≡ 4096 = omega (arith, length-append (take 4064 filled) digest) in
    let nothing : drop (4064 + length digest) filled ≡ [] = drop_of_length-le filled (omega arith) in
    let parts : new ≡ take 4064 filled ++ digest = e ∙ ap (λ (x : List ℕ). take 4064 filled ++ digest ++ x) nothing ∙ append-nil (take 4064 filled ++ digest) in
    let payload : take 4064 new ≡ take 4064 filled = ap (λ (x : List ℕ). take 4064 x) parts ∙ take_at (take 4064 filled) digest 4064 front in (
      record {
        len = ap (λ (x : List ℕ). length x) parts ∙ whole;
        digest = ap (λ (x : List ℕ). drop 4064 x) parts ∙ drop_at (take 4064 filled) digest 4064 front ∙ digests
            ∙ ap (λ (x : List ℕ). page_digest kind file number x) (sym payload);
      },
      payload,
    )

-- the payload that `seal` put over zeros
pub sealed_payload : (payload filled new : List ℕ) → length payload ≤ 4064 → filled ≡ payload ++ drop (0 + length payload) (replicate 4096 0)
    → payload_of new ≡ payload_of filled → payload_of new ≡ payload ++ replicate (4064 - length payload) 0
sealed_payload payload filled new fits e same =
    let left : length payload + (4064 - length payload) ≡ 4064 = omega arith in
    let shorter : 4064 - length payload ≤ 4096 - length payload = omega arith in
    let past : length payload ≡ 0 + length payload = omega arith in
    let zeros : drop (0 + length payload) (replicate 4096 0) ≡ replicate (4096 - length payload) 0 = rw (← past) (drop-replicate (length payload) 4096 0) in
    same
    ∙ ap (λ (x : List ℕ). take 4064 x) (e ∙ ap (λ (x : List ℕ). payload ++ x) zeros)
    ∙ ap (λ (n : ℕ). take n (payload ++ replicate (4096 - length payload) 0)) (sym left)
    ∙ take-append-add payload (replicate (4096 - length payload) 0) (4064 - length payload)
    ∙ ap (λ (x : List ℕ). payload ++ x) (take-replicate (4064 - length payload) (4096 - length payload) 0 shorter)
