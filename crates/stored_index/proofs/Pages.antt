-- The pages that opening reads.
use Rattle.std.proofs.Common.{◌≡◌, ℕ, ◌+◌, ◌/◌, List, [], ◌∷◌, ◌++◌, length, map, Option, Some, None, inl, inr, arith, refl, sym, ap, subst, ◌∙◌}
use Rattle.std.specs.List.{Contains}
use Rattle.outer_io.specs.declared.file_name.FileName.{FileName}
use Rattle.outer_io.specs.declared.file_name.FileName.TheVariants.{Commit, Segment, Live}
use Rattle.outer_io.specs.Files.{Files, bytes_of}
use Rattle.documents.specs.Documents.{Document}
use Rattle.index_model.specs.State.{State}
use Rattle.commit_list.specs.declared.listed.Listed.{Listed}
use Rattle.commit_list.specs.Commits.{CommitData}
use Rattle.commit_list.proofs.CommitPages.{one_file, file_there}
use Rattle.segment_file.specs.Heads.{Head, index_pages}
use Rattle.documents.proofs.Lists.{cons_head, cons_tail}
use Rattle.segment_file.specs.Segments.{IsHeadOf}
use Rattle.stored_index.specs.Stored.{HoldsIndex, HasHead, HaveHeads, IsStored}
use Rattle.stored_index.specs.Kept.{ListsFile, SameKept}
use Rattle.stored_index.specs.Opening.{OpensIndex, IsOpening, listed_pages, segments_pages, opening_pages}
use Rattle.stored_index.proofs.Pairwise.{zip_moved}
use Rattle.stored_index.proofs.Parts.{heads_once, head_in, held_heads}
use Rattle.stored_index.proofs.KeptFiles.{still_says}

index_once : (files : Files) (m n : ℕ) → OpensIndex files m → OpensIndex files n → m ≡ n
index_once files m n p q =
    let commit : p.commit ≡ q.commit = one_file (bytes_of (files Commit)) p.commit q.commit p.says q.says in
    let heads : p.heads ≡ q.heads = heads_once files q.commit p.heads q.heads (subst (λ (c : CommitData). HaveHeads files c p.heads) commit p.have) q.have in
    p.is ∙ ap (λ (c : CommitData). opening_pages files c p.heads) commit ∙ ap (opening_pages files q.commit) heads ∙ sym q.is

never_without : (files : Files) (n : ℕ) → OpensIndex files n → files Commit ≡ None → ⊥
never_without files n p none = let there = (file_there (files Commit) p.commit p.says).0 in cc

pub opening_once : (files : Files) (m n : ℕ) → IsOpening files m → IsOpening files n → m ≡ n
opening_once files m n (inl p) (inl q) = p.1 ∙ sym q.1
opening_once files m n (inl p) (inr q) = absurd (never_without files n q p.0)
opening_once files m n (inr p) (inl q) = absurd (never_without files m p q.0)
opening_once files m n (inr p) (inr q) = index_once files m n p q

pub opening_of : (files : Files) (c : CommitData) (docs : List Document) (held : HoldsIndex files c docs)
    → IsOpening files (opening_pages files c (map head_in held.parts))
opening_of files c docs held = inr (record {
  commit = c;
  says = held.commit;
  heads = map head_in held.parts;
  have = held_heads files c held.parts held.segments;
  is = refl;
})

pub opening_there : (files : Files) (state : State) → IsStored files state → (pages : ℕ) × IsOpening files pages
opening_there files None p = (0, inl (p, refl))
opening_there files (Some i) p = (opening_pages files p.commit (map head_in p.holds.parts), opening_of files p.commit i.docs p.holds)

-- one segment more adds its own pages
pub pages_grow : (files : Files) (listed : List Listed) (heads : List Head) (s : Listed) (head : Head) → length listed ≡ length heads
    → segments_pages files (listed ++ s ∷ []) (heads ++ head ∷ []) ≡ segments_pages files listed heads + listed_pages files s head
pages_grow files [] [] s head same = omega arith
pages_grow files [] (h ∷ hs) s head same = absurd (omega (arith, same))
pages_grow files (t ∷ ts) [] s head same = absurd (omega (arith, same))
pages_grow files (t ∷ ts) (h ∷ hs) s head same = omega (arith, pages_grow files ts hs s head (omega (arith, same)))

-- ---- they depend on what is kept alone

-- the files of live bits of the listed segments are the same
abbrev pub SameLive : Files → Files → List Listed → Type 0
SameLive old new listed = (s : Listed) → Contains listed s → new (Live s.segment s.generation) ≡ old (Live s.segment s.generation)

pages_still : (old new : Files) (listed : List Listed) (heads : List Head) → SameLive old new listed
    → segments_pages new listed heads ≡ segments_pages old listed heads
pages_still old new [] heads same = refl
pages_still old new (s ∷ ss) [] same = refl
pages_still old new (s ∷ ss) (h ∷ hs) same =
    ap (λ (n : ℕ). n + segments_pages new ss hs) (ap (λ (b : Option (List ℕ)). 1 + index_pages h + length (bytes_of b) / 4096) (same s (cons_head s ss)))
    ∙ ap (λ (n : ℕ). listed_pages old s h + n) (pages_still old new ss hs (λ t there. same t (cons_tail s ss t there)))

heads_still : (old new : Files) (c : CommitData) (heads : List Head) → SameKept old new → ((name : FileName) → ListsFile c name → new name ≡ old name)
    → HaveHeads old c heads → HaveHeads new c heads
heads_still old new c heads kept same h =
    zip_moved (HasHead c.dims old) (HasHead c.dims new) c.listed heads
    (λ s g there has. record {
      id = has.id;
      is = subst (λ (b : Option (List ℕ)). IsHeadOf c.dims (bytes_of b) g) (sym (same (Segment s.segment) (s, there, refl))) has.is;
    }) h

index_still : (old new : Files) (pages : ℕ) → SameKept old new → OpensIndex old pages → OpensIndex new pages
index_still old new pages kept p =
    let same = kept.listed p.commit p.says in
    record {
      commit = p.commit;
      says = still_says old new p.commit kept p.says;
      heads = p.heads;
      have = heads_still old new p.commit p.heads kept same p.have;
      is = p.is
          ∙ ap (λ (b : Option (List ℕ)). length (bytes_of b) / 4096 + segments_pages old p.commit.listed p.heads) (sym kept.commit)
          ∙ ap (λ (n : ℕ). length (bytes_of (new Commit)) / 4096 + n)
          (sym (pages_still old new p.commit.listed p.heads (λ s there. same (Live s.segment s.generation) (s, there, refl, refl))));
    }

pub opening_still : (old new : Files) (pages : ℕ) → SameKept old new → IsOpening old pages → IsOpening new pages
opening_still old new pages kept (inl p) = inl (kept.commit ∙ p.0, p.1)
opening_still old new pages kept (inr p) = inr (index_still old new pages kept p)
