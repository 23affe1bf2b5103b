-- What a first page that was read says of its file.
use Rattle.std.proofs.Common.{◌≡◌, ◌≤◌, ◌+◌, ◌-◌, ◌*◌, ℕ, List, ◌++◌, length, sym, ap, subst, ◌∙◌, arith}
use Rattle.outer_io.specs.Files.{Files, bytes_of}
use Rattle.outer_io.specs.declared.file_name.FileName.{FileName}
use Rattle.page_file.specs.Page.{payload_of}
use Rattle.page_cache.specs.FilePages.{page_at, IsFilePage, ArePages, payloads_of}
use Rattle.page_cache.specs.Evidence.{ArePayloadsOf, IsCut, IsShort, SizeNeeds, SizeWithin}
use Rattle.page_cache.specs.declared.first_page.FirstPage.{FirstPage}
use Rattle.page_cache.specs.FirstPages.{first_name, first_payload, first_size, IsFirstPage}
use Rattle.page_cache.specs.declared.faults.Damage.{Damage}
use Rattle.page_cache.specs.declared.faults.Damage.TheVariants.{Size}
use Rattle.page_cache.proofs.Damages.{short_of_cut, not_cut}
use Rattle.page_cache.proofs.PageRuns.{payloads_join, payloads_of_one}

pub first_payload_is : (files : Files) (p : FirstPage) (name : FileName) → first_name p ≡ name → IsFirstPage files p
    → first_payload p ≡ payload_of (page_at (bytes_of (files name)) 0)
first_payload_is files p name same first = subst (λ (n : FileName). first_payload p ≡ payload_of (page_at (bytes_of (files n)) 0)) same first.payload

pub first_size_is : (files : Files) (p : FirstPage) (name : FileName) → first_name p ≡ name → IsFirstPage files p
    → first_size p ≡ length (bytes_of (files name))
first_size_is files p name same first = subst (λ (n : FileName). first_size p ≡ length (bytes_of (files n))) same first.size

-- the payload of the first page is that of the first pages of the file, one page
pub first_payloads : (files : Files) (p : FirstPage) (name : FileName) → first_name p ≡ name → IsFirstPage files p → ArePayloadsOf files name (first_payload p)
first_payloads files p name same first = record {
  count = 1;
  some = omega arith;
  pages = subst (λ (n : FileName). ArePages n (bytes_of (files n)) 0 1) same
      (λ n from below.
      let zero_is : 0 ≡ n = omega arith in
      subst (λ (k : ℕ). IsFilePage (first_name p) (bytes_of (files (first_name p))) k) zero_is first.page);
  same = first_payload_is files p name same first ∙ sym (payloads_of_one (bytes_of (files name)) 0);
}

-- with the payloads of the other pages
pub with_rest : (bytes payload rest all : List ℕ) (pages : ℕ) → 1 ≤ pages → payload ≡ payload_of (page_at bytes 0) → rest ≡ payloads_of bytes 1 (pages - 1)
    → all ≡ payload ++ rest
    → all ≡ payloads_of bytes 0 pages
with_rest bytes payload rest all pages some front back e =
    let behind : 1 + (pages - 1) ≡ pages = omega arith in
    e ∙ ap (λ (l : List ℕ). l ++ rest) (front ∙ sym (payloads_of_one bytes 0)) ∙ ap (λ (l : List ℕ). payloads_of bytes 0 1 ++ l) back
    ∙ sym (payloads_join bytes 0 1 (pages - 1)) ∙ ap (λ (n : ℕ). payloads_of bytes 0 n) behind

-- ---- where a file ends too early

-- by what is known of a size, a file of this name that is cut is short of its first page
abbrev pub OnlyShort : Files → FileName → (Damage → Type 0) → Type 0
OnlyShort files name known =
    (file : FileName) (size needed : ℕ) → file ≡ name → known (Size file size needed) → IsCut files file size needed → IsShort files file size needed

-- as it is where its first page is needed
pub short_first : (files : Files) (name : FileName) → OnlyShort files name (SizeNeeds 4096)
short_first files name = λ file size needed named page cut. short_of_cut files file size needed page cut

-- and where no more pages are needed than it has
pub never_cut : (files : Files) (name : FileName) (pages all : ℕ) → pages ≤ all → length (bytes_of (files name)) ≡ 4096 * all
    → OnlyShort files name (SizeWithin (4096 * pages))
never_cut files name pages all few long = λ file size needed named within cut.
    let below : needed ≤ 4096 * pages = within in
    absurd (not_cut files file all size needed (subst (λ (n : FileName). length (bytes_of (files n)) ≡ 4096 * all) (sym named) long) (omega arith) cut)
