-- What `info` reads and counts.
use Rattle.std.proofs.Common.{◌≡◌, ◌≤◌, ◌<◌, ◌+◌, ◌-◌, ◌^◌, ◌/◌, ℕ, List, length, get_or, min, take}
use Rattle.std.proofs.Common.{sym, ap, subst, ◌∙◌, arith, inl, inr, None, Some}
use Rattle.std.specs.List.{AllZip, sum_by}
use Rattle.std.proofs.lemmas.List.Sums.{sum_by_more}
use Rattle.commit_list.proofs.CommitPages.{file_there, one_file}
use Rattle.outer_io.specs.declared.file_name.FileName.TheVariants.{Commit}
use Rattle.outer_io.specs.Files.{Files, bytes_of}
use Rattle.live_bits.specs.LiveSet.{LiveSet}
use Rattle.commit_list.specs.declared.listed.Listed.{Listed}
use Rattle.commit_list.specs.Commits.{CommitData}
use Rattle.commit_list.specs.CommitFiles.{IsCommitFile}
use Rattle.segment_file.specs.Heads.{Head}
use Rattle.stored_index.specs.Opening.{opening_pages, segments_pages}
use Rattle.stored_index.specs.Stored.{HaveHeads, HaveLive}
use Rattle.segment_view.specs.LiveSegments.{LiveSegment, heads_of, lives_of}
use Rattle.index_opening.specs.Opened.{IsOpened}
use Rattle.index_opening.proofs.Listed.{opened_heads, opened_lives}
use Rattle.folder_check.specs.Informed.{HasParts, IsInforming, listed_bytes}

-- ---- what is read

none_there : {X : Type 0} {x : X} {P : Type 0} → None ≡ Some x → P
none_there e = absurd cc

pub none_informed : (files : Files) (pages from mid now : ℕ) → (files Commit ≡ None → mid ≡ from)
    → ((c : CommitData) → IsCommitFile (bytes_of (files Commit)) c → mid ≤ from + length (bytes_of (files Commit)) / 4096) → now ≡ mid
    → IsInforming files pages → now ≤ from + pages
none_informed files pages from mid now none most same (inl (absent, zero)) = omega (arith, none absent, same, zero)
none_informed files pages from mid now none most same (inr k) = omega (arith, most k.commit k.says, same, k.is)

pub all_informed : (files mid_files : Files) (c : CommitData) (pages from mid now : ℕ) → mid_files ≡ files → IsCommitFile (bytes_of (files Commit)) c
    → ((d : CommitData) → IsCommitFile (bytes_of (files Commit)) d → mid ≤ from + length (bytes_of (files Commit)) / 4096)
    → ((heads : List Head) (sets : List LiveSet) → HaveHeads mid_files c heads → HaveLive mid_files c sets
    → now ≤ mid + segments_pages mid_files c.listed heads)
    → IsInforming files pages → now ≤ from + pages
all_informed files mid_files c pages from mid now same_files says most more (inl (absent, zero)) =
    none_there (sym absent ∙ (file_there (files Commit) c says).0)
all_informed files mid_files c pages from mid now same_files says most more (inr k) =
    let same : k.commit ≡ c = one_file (bytes_of (files Commit)) k.commit c k.says says in
    let here = most c says in
    let rest = subst (λ (f : Files). (heads : List Head) (sets : List LiveSet) → HaveHeads f c heads → HaveLive f c sets
    → now ≤ mid + segments_pages f c.listed heads) same_files more k.parts.heads k.parts.sets
    (subst (λ (d : CommitData). HaveHeads files d k.parts.heads) same k.parts.have)
    (subst (λ (d : CommitData). HaveLive files d k.parts.sets) same k.parts.live) in
    let is : pages ≡ opening_pages files c k.parts.heads = k.is ∙ ap (λ (d : CommitData). opening_pages files d k.parts.heads) same in
    omega (arith, here, rest, is)

pub parts_opened : (T : Type 0) (files : Files) (c : CommitData) (parts : List LiveSegment) → T → AllZip (IsOpened T files c) c.listed parts → HasParts files c
parts_opened T files c parts t all = record {
  heads = heads_of parts;
  have = opened_heads T files c parts t all;
  sets = lives_of parts;
  live = opened_lives T files c parts t all;
}

-- ---- what is counted

pub one_more : (files mid : Files) (xs : List Listed) (i : ℕ) (d : Listed) (bytes more now : ℕ) → mid ≡ files → i < length xs
    → bytes ≡ min (sum_by (listed_bytes files) (take i xs)) (2 ^ 64 - 1) → more ≡ min (listed_bytes mid (get_or xs i d)) (2 ^ 64 - 1)
    → now ≡ min (bytes + more) (2 ^ 64 - 1)
    → now ≡ min (sum_by (listed_bytes files) (take (i + 1) xs)) (2 ^ 64 - 1)
one_more files mid xs i d bytes more now same lt was one sum =
    let here = one ∙ ap (λ (f : Files). min (listed_bytes f (get_or xs i d)) (2 ^ 64 - 1)) same in
    let joined = sum_by_more (listed_bytes files) xs i d lt in
    omega (arith, was, here, sum, joined)
