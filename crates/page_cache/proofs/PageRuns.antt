-- Payloads of runs of pages, and pages put behind others.
use Rattle.std.proofs.Common.{◌≡◌, ℕ, zero, suc, ◌+◌, ◌-◌, ◌*◌, ◌≤◌, ◌<◌, List, [], ◌++◌, length, take, drop, refl, sym, ap, ◌∙◌, subst}
use Rattle.std.proofs.Common.{arith, add-zero, add-suc, add-one, inl, inr, add_assoc, append_assoc, append-nil, length-take, length-drop}
use Rattle.std.proofs.lemmas.Bool.{cases_lt}
use Rattle.std.proofs.lemmas.List.{take_all, take-append-le, drop-append-le}
use Rattle.std.proofs.Math.Seq.{drop-append-add}
use Rattle.outer_io.specs.declared.file_name.FileName.{FileName}
use Rattle.page_file.specs.Page.{IsPage, payload_of}
use Rattle.page_cache.specs.FilePages.{kind_of, number_of, page_at, IsFilePage, ArePages, payloads_of}

pub payloads_join : (bytes : List ℕ) (from a b : ℕ) → payloads_of bytes from (a + b) ≡ payloads_of bytes from a ++ payloads_of bytes (from + a) b
unfolding payloads_of
payloads_join bytes from a zero = ap (λ (n : ℕ). payloads_of bytes from n) (add-zero a) ∙ sym (append-nil (payloads_of bytes from a))
payloads_join bytes from a (suc b) =
    ap (λ (n : ℕ). payloads_of bytes from n) (add-suc a b)
    ∙ ap (λ (x : List ℕ). x ++ payload_of (page_at bytes (from + (a + b)))) (payloads_join bytes from a b)
    ∙ ap (λ (n : ℕ). payloads_of bytes from a ++ payloads_of bytes (from + a) b ++ payload_of (page_at bytes n)) (sym (add_assoc from a b))
    ∙ append_assoc (payloads_of bytes from a) (payloads_of bytes (from + a) b) (payload_of (page_at bytes (from + a + b)))

pub payloads_of_one : (bytes : List ℕ) (n : ℕ) → payloads_of bytes n 1 ≡ payload_of (page_at bytes n)
unfolding payloads_of
payloads_of_one bytes n = ap (λ (m : ℕ). payload_of (page_at bytes m)) (add-zero n)

-- one more page of a run
pub payloads_more : (bytes old new payload : List ℕ) (from i : ℕ) → new ≡ old ++ payloads_of bytes from i → payload ≡ payload_of (page_at bytes (from + i))
    → new ++ payload ≡ old ++ payloads_of bytes from (i + 1)
unfolding payloads_of
payloads_more bytes old new payload from i before this =
    ap (λ (x : List ℕ). x ++ payload) before
    ∙ ap (λ (x : List ℕ). old ++ payloads_of bytes from i ++ x) this
    ∙ append_assoc old (payloads_of bytes from i) (payload_of (page_at bytes (from + i)))
    ∙ ap (λ (n : ℕ). old ++ payloads_of bytes from n) (sym (add-one i))

pub payloads_grown : (bytes old new payload all : List ℕ) (from i : ℕ) → all ≡ new ++ payload → new ≡ old ++ payloads_of bytes from i
    → payload ≡ payload_of (page_at bytes (from + i))
    → all ≡ old ++ payloads_of bytes from (i + 1)
payloads_grown bytes old new payload all from i grew before this = grew ∙ payloads_more bytes old new payload from i before this

pub pages_more : (name : FileName) (bytes : List ℕ) (from i : ℕ) → ArePages name bytes from (from + i) → IsFilePage name bytes (from + i)
    → ArePages name bytes from (from + (i + 1))
pages_more name bytes from i before this n low high = elim (cases_lt n (from + i)) [
  | inl below ↦ before n low below
  | inr at_least ↦ let same : from + i ≡ n = omega arith in subst (IsFilePage name bytes) same this
]

-- ---- pages behind whole pages

-- a page that stands before the seam
pub page_at_front : (a b : List ℕ) (n : ℕ) → 4096 * n + 4096 ≤ length a → page_at (a ++ b) n ≡ page_at a n
unfolding page_at
page_at_front a b n fits =
    let left : 4096 ≤ length (drop (4096 * n) a) = omega (arith, length-drop (4096 * n) a) in
    let begin : 4096 * n ≤ length a = omega arith in
    ap (λ (x : List ℕ). take 4096 x) (drop-append-le (4096 * n) a b begin) ∙ take-append-le 4096 (drop (4096 * n) a) b left

-- a page that stands behind it
pub page_at_back : (a b : List ℕ) (first n i : ℕ) → length a ≡ 4096 * first → n ≡ first + i → page_at (a ++ b) n ≡ page_at b i
unfolding page_at
page_at_back a b first n i len e =
    let place : 4096 * n ≡ length a + 4096 * i = omega arith in
    ap (λ (k : ℕ). take 4096 (drop k (a ++ b))) place ∙ ap (λ (x : List ℕ). take 4096 x) (drop-append-add a b (4096 * i))

-- of one page alone the page at 0 is itself
pub page_at_only : (page : List ℕ) → length page ≡ 4096 → page_at page 0 ≡ page
unfolding page_at
page_at_only page len = take_all 4096 page (omega arith)

-- a page that the file has ends within it
pub page_within : (name : FileName) (bytes : List ℕ) (n : ℕ) → IsFilePage name bytes n → 4096 * n + 4096 ≤ length bytes
unfolding IsFilePage page_at
page_within name bytes n page =
    let whole : length (take 4096 (drop (4096 * n) bytes)) ≡ 4096 = page.len in
    let taken = length-take 4096 (drop (4096 * n) bytes) in
    let left = length-drop (4096 * n) bytes in
    omega arith

pub payloads_front : (a b : List ℕ) (from count : ℕ) → 4096 * (from + count) ≤ length a → payloads_of (a ++ b) from count ≡ payloads_of a from count
unfolding payloads_of
payloads_front a b from zero fits = refl
payloads_front a b from (suc count) fits =
    let less : 4096 * (from + count) ≤ length a = omega arith in
    let this : 4096 * (from + count) + 4096 ≤ length a = omega arith in
    ap (λ (x : List ℕ). x ++ payload_of (page_at (a ++ b) (from + count))) (payloads_front a b from count less)
    ∙ ap (λ (x : List ℕ). payloads_of a from count ++ payload_of x) (page_at_front a b (from + count) this)

pub payloads_back : (a b : List ℕ) (first count : ℕ) → length a ≡ 4096 * first → payloads_of (a ++ b) first count ≡ payloads_of b 0 count
unfolding payloads_of
payloads_back a b first zero len = refl
payloads_back a b first (suc count) len =
    let same : first + count ≡ first + (0 + count) = omega arith in
    ap (λ (x : List ℕ). x ++ payload_of (page_at (a ++ b) (first + count))) (payloads_back a b first count len)
    ∙ ap (λ (x : List ℕ). payloads_of b 0 count ++ payload_of x) (page_at_back a b first (first + count) (0 + count) len same)

pub pages_front : (name : FileName) (from end : ℕ) (a b : List ℕ) → ArePages name a from end → ArePages name (a ++ b) from end
unfolding IsFilePage
pages_front name from end a b pages n low high =
    let page : IsFilePage name a n = pages n low high in
    subst (IsPage (kind_of name) (number_of name) n) (sym (page_at_front a b n (page_within name a n page))) page

-- the payloads of pages that are there stay where bytes are put behind
pub payloads_stay : (name : FileName) (from count : ℕ) (a b : List ℕ) → ArePages name a from (from + count)
    → payloads_of (a ++ b) from count ≡ payloads_of a from count
unfolding payloads_of
payloads_stay name from zero a b pages = refl
payloads_stay name from (suc count) a b pages =
    let low : from ≤ from + count = omega arith in
    let high : from + count < from + suc count = omega arith in
    let fits = page_within name a (from + count) (pages (from + count) low high) in
    let all : 4096 * (from + suc count) ≤ length a = omega arith in
    payloads_front a b from (suc count) all

pub pages_behind : (name : FileName) (first count : ℕ) (a b : List ℕ) → length a ≡ 4096 * first
    → ((i : ℕ) → i < count → IsPage (kind_of name) (number_of name) (first + i) (page_at b i)) → ArePages name (a ++ b) first (first + count)
unfolding IsFilePage
pages_behind name first count a b len pages n low high =
    let place : n ≡ first + (n - first) = omega arith in
    let few : n - first < count = omega arith in
    let page : IsPage (kind_of name) (number_of name) n (page_at b (n - first)) =
    subst (λ (k : ℕ). IsPage (kind_of name) (number_of name) k (page_at b (n - first))) (sym place) (pages (n - first) few) in
    subst (IsPage (kind_of name) (number_of name) n) (sym (page_at_back a b first n (n - first) len place)) page

-- the first page and the pages behind it
pub pages_from_first : (name : FileName) (bytes : List ℕ) (count : ℕ) → IsFilePage name bytes 0 → ArePages name bytes 1 (1 + count)
    → ArePages name bytes 0 (1 + count)
pages_from_first name bytes count first others n low high = elim (cases_lt n 1) [
  | inl below ↦ let same : 0 ≡ n = omega arith in subst (IsFilePage name bytes) same first
  | inr at_least ↦ others n at_least high
]

pub joined_payloads : (bytes none mid all payload : List ℕ) (pages : ℕ) → 1 ≤ pages → none ≡ [] → mid ≡ none ++ payload → payload ≡ payload_of (page_at bytes 0)
    → all ≡ mid ++ payloads_of bytes 1 (pages - 1) → all ≡ payloads_of bytes 0 pages
joined_payloads bytes none mid all payload pages some e f g h =
    let count : 1 + (pages - 1) ≡ pages = omega arith in
    h ∙ ap (λ (x : List ℕ). x ++ payloads_of bytes 1 (pages - 1)) (f ∙ ap (λ (x : List ℕ). x ++ payload) e ∙ g ∙ sym (payloads_of_one bytes 0))
    ∙ sym (payloads_join bytes 0 1 (pages - 1)) ∙ ap (λ (n : ℕ). payloads_of bytes 0 n) count
