-- Files that are copied one after the other.
use Rattle.std.proofs.Common.{◌≡◌, ℕ, ◌+◌, ◌<◌, ◌≤◌, List, true, false, get_or, length, take, refl, sym, ap, subst, sum_by, ◌∙◌, arith}
use Rattle.std.proofs.lemmas.List.{take_all, take_more}
use Rattle.std.proofs.lemmas.List.Sums.{sum_by_push}
use Rattle.std.specs.List.{All}
use Rattle.std.proofs.lemmas.List.Elements.{All-contains, All-more, All-weaker}
use Rattle.outer_io.specs.declared.file_name.FileName.{FileName}
use Rattle.outer_io.specs.declared.file_name.FileName.TheVariants.{Commit, Live, Segment}
use Rattle.outer_io.specs.Files.{Files, SameBut, bytes_of}
use Rattle.outer_io.specs.Names.{same_name}
use Rattle.outer_io.proofs.Names.{same_name-false, same_name-true}
use Rattle.documents.specs.Documents.{Document}
use Rattle.commit_list.specs.declared.listed.Listed.{Listed}
use Rattle.commit_list.specs.Commits.{CommitData}
use Rattle.commit_list.specs.CommitFiles.{IsCommitFile}
use Rattle.stored_index.specs.Segments.{HoldsListed}
use Rattle.stored_index.specs.Stored.{HoldsFiles, HoldsIndex}
use Rattle.stored_index.proofs.Pairwise.{zip_moved}
use Rattle.batch_run.specs.Copies.{IsCopied, copied_pages, pages_in}

-- what was copied stays so where a file is copied
pub stays_copied : (files before after : Files) (name : FileName) → bytes_of (after name) ≡ bytes_of (files name) → SameBut name before after
    → (n : FileName) → bytes_of (before n) ≡ bytes_of (files n) → bytes_of (after n) ≡ bytes_of (files n)
stays_copied files before after name this others n so =
    elim (same_name n name) as (λ t. same_name n name ≡ t → bytes_of (after n) ≡ bytes_of (files n)) [
      | true ↦ λ is. subst (λ (m : FileName). bytes_of (after m) ≡ bytes_of (files m)) (sym (same_name-true n name is)) this
      | false ↦ λ is. ap bytes_of (others n (same_name-false n name is)) ∙ so
    ] refl

-- both files of a listed segment were copied
pub both_copied : (files before between after : Files) (s : Listed)
    → bytes_of (between (Segment s.segment)) ≡ bytes_of (files (Segment s.segment)) → SameBut (Segment s.segment) before between
    → bytes_of (after (Live s.segment s.generation)) ≡ bytes_of (files (Live s.segment s.generation))
    → SameBut (Live s.segment s.generation) between after
    → (done : List Listed) → All (IsCopied files before) done → All (IsCopied files after) done × IsCopied files after s
both_copied files before between after s first others second more done so = (
  All-weaker (IsCopied files before) (IsCopied files after) (λ t h. record {
    segment = later (Segment t.segment) h.segment;
    live = later (Live t.segment t.generation) h.live;
  }) done so,
  record { segment = stays_copied files between after (Live s.segment s.generation) second more (Segment s.segment) first; live = second },
)
  where
    later : (n : FileName) → bytes_of (before n) ≡ bytes_of (files n) → bytes_of (after n) ≡ bytes_of (files n)
    later n h = stays_copied files between after (Live s.segment s.generation) second more n
        (stays_copied files before between (Segment s.segment) first others n h)

-- one segment more is copied, and those before it stay
pub copied_next : (start here mid before between after : Files) (listed items : List Listed) (i : ℕ) (d : Listed) → items ≡ listed → i < length items
    → here ≡ start → mid ≡ here
    → bytes_of (between (Segment (get_or items i d).segment)) ≡ bytes_of (here (Segment (get_or items i d).segment))
    → SameBut (Segment (get_or items i d).segment) before between
    → bytes_of (after (Live (get_or items i d).segment (get_or items i d).generation)) ≡
    bytes_of (mid (Live (get_or items i d).segment (get_or items i d).generation))
    → SameBut (Live (get_or items i d).segment (get_or items i d).generation) between after
    → All (IsCopied start before) (take i listed) → All (IsCopied start after) (take (i + 1) listed)
copied_next start here mid before between after listed items i d same lt stood stays first others second more done =
    let s : Listed = get_or items i d in
    let segment = first ∙ ap (λ (f : Files). bytes_of (f (Segment s.segment))) stood in
    let live = second ∙ ap (λ (f : Files). bytes_of (f (Live s.segment s.generation))) (stays ∙ stood) in
    let both = both_copied start before between after s segment others live more (take i items)
    (subst (λ (ls : List Listed). All (IsCopied start before) (take i ls)) (sym same) done) in
    subst (λ (ls : List Listed). All (IsCopied start after) (take (i + 1) ls)) same (All-more (IsCopied start after) items i d lt both.0 both.1)

-- with the last one all
pub all_copied : (start copy : Files) (listed items : List Listed) (i : ℕ) → items ≡ listed → length items ≤ i
    → All (IsCopied start copy) (take i listed) → All (IsCopied start copy) listed
all_copied start copy listed items i same le done =
    subst (λ (ls : List Listed). All (IsCopied start copy) ls) (take_all i listed (subst (λ (ls : List Listed). length ls ≤ i) same le)) done

-- what was read is within the pages of the segments so far
pub reads_next : (start here mid : Files) (listed items : List Listed) (i : ℕ) (d : Listed) (first before between after : ℕ)
    → items ≡ listed → i < length items → here ≡ start → mid ≡ here
    → before ≤ first + sum_by (copied_pages start) (take i listed)
    → between ≤ before + pages_in (bytes_of (here (Segment (get_or items i d).segment)))
    → after ≤ between + pages_in (bytes_of (mid (Live (get_or items i d).segment (get_or items i d).generation)))
    → after ≤ first + sum_by (copied_pages start) (take (i + 1) listed)
reads_next start here mid listed items i d first before between after same lt stood stays so segment live =
    let s : Listed = get_or items i d in
    let one : between ≤ before + pages_in (bytes_of (start (Segment s.segment))) =
    subst (λ (f : Files). between ≤ before + pages_in (bytes_of (f (Segment s.segment)))) stood segment in
    let two : after ≤ between + pages_in (bytes_of (start (Live s.segment s.generation))) =
    subst (λ (f : Files). after ≤ between + pages_in (bytes_of (f (Live s.segment s.generation)))) (stays ∙ stood) live in
    let sum : sum_by (copied_pages start) (take (i + 1) items) ≡ sum_by (copied_pages start) (take i items) + copied_pages start s =
    ap (sum_by (copied_pages start)) (take_more items i d lt) ∙ sum_by_push (copied_pages start) (take i items) s in
    let begun : before ≤ first + sum_by (copied_pages start) (take i items) =
    subst (λ (ls : List Listed). before ≤ first + sum_by (copied_pages start) (take i ls)) (sym same) so in
    subst (λ (ls : List Listed). after ≤ first + sum_by (copied_pages start) (take (i + 1) ls)) same (omega (arith, one, two, sum, begun))

pub reads_all : (start : Files) (listed items : List Listed) (i : ℕ) (first now : ℕ) → items ≡ listed → length items ≤ i
    → now ≤ first + sum_by (copied_pages start) (take i listed) → now ≤ first + sum_by (copied_pages start) listed
reads_all start listed items i first now same le so =
    subst (λ (ls : List Listed). now ≤ first + sum_by (copied_pages start) ls)
    (take_all i listed (subst (λ (ls : List Listed). length ls ≤ i) same le)) so

-- the file of the commit stays
pub commit_stays : (before between after : Files) (a b : FileName) (c : CommitData) → (a ≡ Commit → ⊥) → (b ≡ Commit → ⊥)
    → SameBut a before between → SameBut b between after → IsCommitFile (bytes_of (before Commit)) c → IsCommitFile (bytes_of (after Commit)) c
commit_stays before between after a b c not_a not_b first second =
    subst (λ xs. IsCommitFile xs c) (ap bytes_of (sym (second Commit (λ e. not_b (sym e)) ∙ first Commit (λ e. not_a (sym e)))))

-- the files have what the copy has
pub copied_back : (files copy : Files) (listed : List Listed) → All (IsCopied files copy) listed → All (IsCopied copy files) listed
copied_back files copy listed all =
    All-weaker (IsCopied files copy) (IsCopied copy files) (λ s h. record { segment = sym h.segment; live = sym h.live }) listed all

-- the copy of an index holds it
pub copy_holds : (files copy : Files) (c : CommitData) (docs : List Document) → IsCommitFile (bytes_of (copy Commit)) c
    → All (IsCopied files copy) c.listed → HoldsIndex files c docs → HoldsIndex copy c docs
copy_holds files copy c docs says all h = record {
  commit = says;
  parts = h.parts;
  segments = zip_moved (HoldsFiles files c) (HoldsFiles copy c) c.listed h.parts (λ s d there held.
      let k = All-contains (IsCopied files copy) c.listed s all there in
      subst (λ xs. HoldsListed c.dims c.leaf_size s xs (bytes_of (copy (Live s.segment s.generation))) d) (sym k.segment)
      (subst (λ xs. HoldsListed c.dims c.leaf_size s (bytes_of (files (Segment s.segment))) xs d) (sym k.live) held)) h.segments;
  alone = h.alone;
  are_docs = h.are_docs;
  few = h.few;
}
