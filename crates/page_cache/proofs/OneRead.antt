-- What one read of 4,096 bytes says of a page.
use Rattle.std.proofs.Common.{◌≡◌, ℕ, ◌*◌, ◌≤◌, ◌<◌, List, [], ◌++◌, length, take, drop, sym, ap, ◌∙◌, subst, arith, append-nil, length-take, length-drop}
use Rattle.std.proofs.Common.{Result, Ok, Err, IfOk, OnErr}
use Rattle.std.proofs.Math.ListN.{drop_of_length-le}
use Rattle.std.specs.declared.boxed.Box.{Box}
use Rattle.std.specs.declared.alloc.Global.{Global}
use Rattle.page_file.specs.declared.page.PageBytes.{PageBytes}
use Rattle.outer_io.specs.declared.file_name.FileName.{FileName}
use Rattle.outer_io.specs.Files.{Files, bytes_of, IsReadAt}
use Rattle.page_file.specs.Page.{IsPage}
use Rattle.page_cache.specs.FilePages.{kind_of, number_of, page_at, IsFilePage}
use Rattle.page_cache.specs.declared.faults.PageFault.{PageFault}
use Rattle.page_cache.specs.declared.faults.PageFault.TheVariants.{Failed, Damaged, Memory}
use Rattle.page_cache.specs.Evidence.{NotDamaged, IsPageOf}

-- a read that brought a whole page brought that of the file
pub read_whole : (files : Files) (name : FileName) (n at count : ℕ) (old new : List ℕ) → length old ≡ 4096 → at ≡ 4096 * n → 4096 ≤ count
    → IsReadAt (files name) at count old new → IsPageOf files name n new
unfolding page_at
read_whole files name n at count old new len begin full read =
    let all : count ≡ 4096 = let counted = read.counted in omega arith in
    let none : drop count old ≡ [] = drop_of_length-le old (omega arith) in
    read.filled ∙ ap (λ (x : List ℕ). take count (drop at (bytes_of (files name))) ++ x) none ∙ append-nil (take count (drop at (bytes_of (files name))))
    ∙ ap (λ (k : ℕ). take k (drop at (bytes_of (files name)))) all ∙ ap (λ (k : ℕ). take 4096 (drop k (bytes_of (files name)))) begin

-- and then it doesn't have the page
pub short_is_none : (files : Files) (name : FileName) (n at count : ℕ) (old new : List ℕ) → length old ≡ 4096 → at ≡ 4096 * n → count < 4096
    → IsReadAt (files name) at count old new → IsFilePage name (bytes_of (files name)) n → ⊥
unfolding page_at IsFilePage
short_is_none files name n at count old new len begin short read page =
    let counted = read.counted in
    let left = length-drop at (bytes_of (files name)) in
    let whole : length (take 4096 (drop (4096 * n) (bytes_of (files name)))) ≡ 4096 = page.len in
    let taken = length-take 4096 (drop (4096 * n) (bytes_of (files name))) in
    let same : length (drop at (bytes_of (files name))) ≡ length (drop (4096 * n) (bytes_of (files name))) =
    ap (λ (k : ℕ). length (drop k (bytes_of (files name)))) begin in
    omega arith

-- the page of the file is the bytes that came
pub page_of_file : (files : Files) (name : FileName) (n : ℕ) (bytes : List ℕ) → IsPageOf files name n bytes → IsFilePage name (bytes_of (files name)) n
    → IsPage (kind_of name) (number_of name) n bytes
unfolding IsFilePage
page_of_file files name n bytes same page = subst (IsPage (kind_of name) (number_of name) n) (sym same) page

pub file_of_page : (files : Files) (name : FileName) (n : ℕ) (bytes : List ℕ) → IsPageOf files name n bytes → IsPage (kind_of name) (number_of name) n bytes
    → IsFilePage name (bytes_of (files name)) n
unfolding IsFilePage
file_of_page files name n bytes same page = subst (IsPage (kind_of name) (number_of name) n) same page

-- ---- answers that have the page, or say that it is none

module _ (files : Files) (name : FileName) (n : ℕ) (page : Box PageBytes Global) where
  pub checked_bytes : (r : Result (Box PageBytes Global) PageFault) → IsPageOf files name n page.value.b → IfOk r (λ p. p ≡ page)
      → IfOk r (λ p. IsPageOf files name n p.value.b)
  checked_bytes (Ok p) same e = subst (λ (q : Box PageBytes Global). IsPageOf files name n q.value.b) (sym e) same
  checked_bytes (Err e) same h = tt

pub checked_whole : {T : Type 0} (r : Result T PageFault) (P : Type 0) → P → OnErr r (P → ⊥) → NotDamaged r
checked_whole (Ok p) P holds h = tt
checked_whole (Err Failed) P holds h = tt
checked_whole (Err (Damaged d)) P holds h = h holds
checked_whole (Err Memory) P holds h = tt
