-- The pages of a body, put one after another.
use Rattle.std.proofs.Common.{◌≡◌, ℕ, ◌+◌, ◌-◌, ◌*◌, ◌≤◌, ◌<◌, inl, inr, min, List, [], ◌++◌, length, take, drop, replicate, refl, sym, ap}
use Rattle.std.proofs.Common.{◌∙◌, subst, arith, add-zero, zero-add, append_assoc, append-nil, length-append, length-take, length-drop}
use Rattle.std.proofs.lemmas.Bool.{cases_lt}
use Rattle.std.proofs.lemmas.List.{take_all, take-append-le, drop-append-le, drop-drop, length-replicate, take-replicate}
use Rattle.std.proofs.Math.Seq.{take-add, take-append-add}
use Rattle.std.proofs.Math.ListN.{drop_of_length-le}
use Rattle.outer_io.specs.declared.file_name.FileName.{FileName}
use Rattle.page_file.specs.Page.{IsPage, payload_of}
use Rattle.page_cache.specs.FilePages.{kind_of, number_of, page_at, payloads_of}
use Rattle.page_cache.specs.Bodies.{pages_for, padded_body, AppendsPage, AppendsPages, IsBodyFile}
use Rattle.page_cache.proofs.PageRuns.{page_at_front, page_at_back, page_at_only, payloads_front, payloads_more, pages_behind}

-- the first i pages of the body were put behind what was there
pub record PutSoFar (name : FileName) (first : ℕ) (body : List ℕ) (i : ℕ) (old new : List ℕ) : Type 0 where
  pub bytes : List ℕ
  pub grew : new ≡ old ++ bytes
  pub len : length bytes ≡ 4096 * i
  pub pages : (k : ℕ) → k < i → IsPage (kind_of name) (number_of name) (first + k) (page_at bytes k)
  pub payload : payloads_of bytes 0 i ≡ take (4064 * i) (padded_body body)

pub length-filled : (body : List ℕ) → length (padded_body body) ≡ 4064 * pages_for (length body)
length-filled body =
    let both = length-append body (replicate (4064 * pages_for (length body) - length body) 0) in
    let zeros = length-replicate {A = ℕ} (4064 * pages_for (length body) - length body) 0 in
    omega arith

-- the part of the body that page i holds, with the zeros of the page
pub part_filled : (body rest part : List ℕ) (i : ℕ) → i < pages_for (length body) → rest ≡ drop (4064 * i) body → part ≡ take (min (length rest) 4064) rest
    → part ++ replicate (4064 - length part) 0 ≡ take 4064 (drop (4064 * i) (padded_body body))
part_filled body rest part i some e f =
    let begin : 4064 * i ≤ length body = omega arith in
    let left : length rest ≡ length body - 4064 * i = ap (λ (x : List ℕ). length x) e ∙ length-drop (4064 * i) body in
    let behind : drop (4064 * i) (padded_body body) ≡ rest ++ replicate (4064 * pages_for (length body) - length body) 0 =
    drop-append-le (4064 * i) body (replicate (4064 * pages_for (length body) - length body) 0) begin
    ∙ ap (λ (x : List ℕ). x ++ replicate (4064 * pages_for (length body) - length body) 0) (sym e) in
    elim (cases_lt (length rest) 4064) [
      | inl short ↦
          let all : part ≡ rest = f ∙ take_all (min (length rest) 4064) rest (omega arith) in
          let same : 4064 - length part ≡ 4064 * pages_for (length body) - length body = ap (λ (x : List ℕ). 4064 - length x) all ∙ omega arith in
          let whole : length (rest ++ replicate (4064 * pages_for (length body) - length body) 0) ≤ 4064 =
          omega (
            arith,
            length-append rest (replicate (4064 * pages_for (length body) - length body) 0),
            length-replicate {A = ℕ} (4064 * pages_for (length body) - length body) 0,
          ) in
          ap (λ (n : ℕ). part ++ replicate n 0) same
          ∙ ap (λ (x : List ℕ). x ++ replicate (4064 * pages_for (length body) - length body) 0) all
          ∙ sym (take_all 4064 (rest ++ replicate (4064 * pages_for (length body) - length body) 0) whole)
          ∙ ap (λ (x : List ℕ). take 4064 x) (sym behind)
      | inr long ↦
          let count : min (length rest) 4064 ≡ 4064 = omega arith in
          let front : part ≡ take 4064 rest = f ∙ ap (λ (n : ℕ). take n rest) count in
          let none : 4064 - length part ≡ 0 = ap (λ (x : List ℕ). 4064 - length x) front ∙ omega (arith, length-take 4064 rest) in
          ap (λ (n : ℕ). part ++ replicate n 0) none
          ∙ append-nil part
          ∙ front
          ∙ sym (take-append-le 4064 rest (replicate (4064 * pages_for (length body) - length body) 0) long)
          ∙ ap (λ (x : List ℕ). take 4064 x) (sym behind)
    ]

-- what stands from `from` on was filled with zeros and sealed
pub sealed_from : (name : FileName) (number from : ℕ) (old grown front page sealed : List ℕ) → from ≤ length old → length old ≤ from + 4064
    → grown ≡ take (from + 4096) old ++ replicate (from + 4096 - length old) 0 → front ≡ take from grown → page ≡ drop from grown
    → IsPage (kind_of name) (number_of name) number sealed → payload_of sealed ≡ payload_of page
    → AppendsPage name number (drop from old) (take from old) (front ++ sealed)
sealed_from name number from old grown front page sealed within fits e f h is same = record {
  bytes = sealed;
  grew = ap (λ (x : List ℕ). x ++ sealed) (f ∙ ap (λ (x : List ℕ). take from x) whole ∙ take-append-le from old zeros within);
  page = is;
  payload = same
      ∙ ap (λ (x : List ℕ). take 4064 x) (h ∙ ap (λ (x : List ℕ). drop from x) whole ∙ drop-append-le from old zeros within)
      ∙ ap (λ (n : ℕ). take n (drop from old ++ zeros)) (sym left)
      ∙ take-append-add (drop from old) zeros (4064 - length (drop from old))
      ∙ ap (λ (x : List ℕ). drop from old ++ x) (take-replicate (4064 - length (drop from old)) (from + 4096 - length old) 0 shorter);
}
  where
    zeros : List ℕ
    zeros = replicate (from + 4096 - length old) 0

    whole : grown ≡ old ++ zeros
    whole = e ∙ ap (λ (x : List ℕ). x ++ zeros) (take_all (from + 4096) old (omega arith))

    part : length (drop from old) ≡ length old - from
    part = length-drop from old

    left : length (drop from old) + (4064 - length (drop from old)) ≡ 4064
    left = omega (arith, part)

    shorter : 4064 - length (drop from old) ≤ from + 4096 - length old
    shorter = omega (arith, part)

-- before the first page nothing was put
pub put_none : (name : FileName) (first : ℕ) (body old : List ℕ) → PutSoFar name first body 0 old old
unfolding payloads_of
put_none name first body old = record {
  bytes = [];
  grew = sym (append-nil old);
  len = refl;
  pages = λ k none. absurd (omega arith);
  payload = refl;
}

-- one page more is put behind the others
pub put_more : (name : FileName) (first : ℕ) (body rest part : List ℕ) (i : ℕ) (old mid new : List ℕ) → i < pages_for (length body)
    → rest ≡ drop (4064 * i) body → part ≡ take (min (length rest) 4064) rest
    → PutSoFar name first body i old mid → AppendsPage name (first + i) part mid new → PutSoFar name first body (i + 1) old new
put_more name first body rest part i old mid new some e f put page =
    let long : length page.bytes ≡ 4096 = page.page.len in
    let this : page_at (put.bytes ++ page.bytes) i ≡ page.bytes =
    page_at_back put.bytes page.bytes i i 0 put.len (sym (add-zero i)) ∙ page_at_only page.bytes long in
    let before : 4096 * (0 + i) ≤ length put.bytes = let len = put.len in omega arith in
    let payload : payload_of page.bytes ≡ payload_of (page_at (put.bytes ++ page.bytes) (0 + i)) =
    ap payload_of (sym this) ∙ ap (λ (n : ℕ). payload_of (page_at (put.bytes ++ page.bytes) n)) (sym (zero-add i)) in
    let grown : 4064 * i + 4064 ≡ 4064 * (i + 1) = omega arith in
    record {
      bytes = put.bytes ++ page.bytes;
      grew = page.grew ∙ ap (λ (x : List ℕ). x ++ page.bytes) put.grew ∙ append_assoc old put.bytes page.bytes;
      len = let len = put.len in omega (arith, length-append put.bytes page.bytes);
      pages = λ k low. elim (cases_lt k i) [
        | inl below ↦ let fits : 4096 * k + 4096 ≤ length put.bytes = let len = put.len in omega arith in
            subst (IsPage (kind_of name) (number_of name) (first + k)) (sym (page_at_front put.bytes page.bytes k fits)) (put.pages k below)
        | inr at_least ↦ let same : i ≡ k = omega arith in
            subst (λ (n : ℕ). IsPage (kind_of name) (number_of name) (first + n) (page_at (put.bytes ++ page.bytes) n)) same
            (subst (IsPage (kind_of name) (number_of name) (first + i)) (sym this) page.page)
      ];
      payload =
          sym (payloads_more (put.bytes ++ page.bytes) [] (payloads_of (put.bytes ++ page.bytes) 0 i) (payload_of page.bytes) 0 i refl payload)
          ∙ ap (λ (x : List ℕ). x ++ payload_of page.bytes) (payloads_front put.bytes page.bytes 0 i before ∙ put.payload)
          ∙ ap (λ (x : List ℕ). take (4064 * i) (padded_body body) ++ x) (page.payload ∙ part_filled body rest part i some e f)
          ∙ sym (take-add (4064 * i) 4064 (padded_body body))
          ∙ ap (λ (n : ℕ). take n (padded_body body)) grown;
    }

-- where all pages were put, the body's pages are appended
pub put_all : (name : FileName) (first : ℕ) (body old new : List ℕ) (count : ℕ) → count ≡ pages_for (length body)
    → PutSoFar name first body count old new → AppendsPages name first body old new
put_all name first body old new count all put = record {
  bytes = put.bytes;
  grew = put.grew;
  pages = record {
    len = put.len ∙ ap (λ (n : ℕ). 4096 * n) all;
    pages = λ k low. put.pages k (omega arith);
    payload =
        ap (λ (n : ℕ). payloads_of put.bytes 0 n) (sym all) ∙ put.payload ∙ take_all (4064 * count) (padded_body body) (omega (arith, length-filled body));
  };
}

-- what is left of the body after one more part
pub rest_more : (body rest others : List ℕ) (i : ℕ) → rest ≡ drop (4064 * i) body → others ≡ drop (min (length rest) 4064) rest
    → others ≡ drop (4064 * (i + 1)) body
rest_more body rest others i e f =
    let left : length rest ≡ length body - 4064 * i = ap (λ (x : List ℕ). length x) e ∙ length-drop (4064 * i) body in
    elim (cases_lt (length rest) 4064) [
      | inl short ↦
          let gone : drop (4064 * (i + 1)) body ≡ [] = drop_of_length-le body (omega arith) in
          let none : drop (min (length rest) 4064) rest ≡ [] = drop_of_length-le rest (omega arith) in
          f ∙ none ∙ sym gone
      | inr long ↦
          let count : min (length rest) 4064 ≡ 4064 = omega arith in
          let place : 4064 * i + 4064 ≡ 4064 * (i + 1) = omega arith in
          f ∙ ap (λ (n : ℕ). drop n rest) count ∙ ap (λ (x : List ℕ). drop 4064 x) e ∙ drop-drop 4064 (4064 * i) body ∙ ap (λ (n : ℕ). drop n body) place
    ]

-- the pages of a body, from page 0 on and with nothing before, are its file
pub body_file : (name : FileName) (body old new : List ℕ) → old ≡ [] → AppendsPages name 0 body old new → IsBodyFile name new body
body_file name body old new none put =
    let same : put.bytes ≡ new = sym (put.grew ∙ ap (λ (x : List ℕ). x ++ put.bytes) none) in
    subst (λ (x : List ℕ). IsBodyFile name x body) same (record {
      len = put.pages.len;
      pages = λ n low high. pages_behind name 0 (pages_for (length body)) [] put.bytes refl put.pages.pages n low (omega arith);
      payload = put.pages.payload;
    })
