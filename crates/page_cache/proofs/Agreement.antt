-- What agreement of a cache gives, and that a file is one body of a length.
use Rattle.std.proofs.Common.{◌≡◌, ℕ, ◌-◌, ◌*◌, List, length, take, replicate, Option, ◌↔◌, sym, ap, ◌∙◌, subst}
use Rattle.std.proofs.Math.Seq.{take-append_seam}
use Rattle.outer_io.specs.declared.file_name.FileName.{FileName}
use Rattle.outer_io.specs.declared.file_name.FileName.TheVariants.{Segment}
use Rattle.outer_io.specs.Files.{Files, bytes_of}
use Rattle.page_cache.specs.declared.cache.PageCache.{PageCache}
use Rattle.page_cache.specs.FilePages.{page_at, payloads_of}
use Rattle.page_cache.specs.Bodies.{pages_for, padded_body, IsBodyFile}
use Rattle.page_cache.specs.Cache.{Keeps, KeepsDead, IsKept, KeepsPages, KeepsFile, Agrees}
use Rattle.page_cache.specs.Evidence.{IsPageOf}

-- only the files of which pages are kept matter
pub agrees_other : (old new : Files) (c : PageCache) → ((id : ℕ) → KeepsFile c id → new (Segment id) ≡ old (Segment id)) → Agrees old c → Agrees new c
unfolding Agrees KeepsFile IsKept
agrees_other old new c same agrees id number bytes keeps =
    subst (λ (file : Option (List ℕ)). bytes ≡ page_at (bytes_of file) number) (sym (same id (number, (bytes, keeps)))) (agrees id number bytes keeps)

-- what is kept is the page of the file
pub agreeing_page : (files : Files) (c : PageCache) (id number : ℕ) (bytes : List ℕ) → Agrees files c → Keeps c id number bytes
    → IsPageOf files (Segment id) number bytes
unfolding Agrees
agreeing_page files c id number bytes agrees keeps = agrees id number bytes keeps

-- a page of which a leaf is known to be dead is kept
pub dead_is_kept : (c : PageCache) (id number offset len : ℕ) (bytes : List ℕ) → KeepsDead c id number offset len bytes → Keeps c id number bytes
unfolding Keeps KeepsDead
dead_is_kept c id number offset len bytes known = (known.0, known.1, known.2)

pub dead_file_kept : (c : PageCache) (id number offset len : ℕ) (bytes : List ℕ) → KeepsDead c id number offset len bytes → KeepsFile c id
unfolding KeepsFile IsKept
dead_file_kept c id number offset len bytes known = (number, (bytes, dead_is_kept c id number offset len bytes known))

-- two caches that keep the same pages
module _ (old new : PageCache) (keeps : (id number : ℕ) (bytes : List ℕ) → Keeps new id number bytes ↔ Keeps old id number bytes) where
  pub pages_alike : KeepsPages old new
  unfolding IsKept
  pages_alike id number kept = (kept.0, (keeps id number kept.0).1 kept.1)

  pub file_alike : (id : ℕ) → KeepsFile new id → KeepsFile old id
  unfolding KeepsFile IsKept
  file_alike id kept = (kept.0, (kept.1.0, (keeps id kept.0 kept.1.0).0 kept.1.1))

  pub agrees_alike : (files : Files) → Agrees files old → Agrees files new
  unfolding Agrees
  agrees_alike files agrees id number bytes kept = agrees id number bytes ((keeps id number bytes).0 kept)

-- two bodies of one length that a file is are the same
pub bodies_equal : (name : FileName) (bytes a b : List ℕ) → length a ≡ length b → IsBodyFile name bytes a → IsBodyFile name bytes b → a ≡ b
bodies_equal name bytes a b len x y =
    let same : padded_body a ≡ padded_body b = sym x.payload ∙ ap (λ (n : ℕ). payloads_of bytes 0 (pages_for n)) len ∙ y.payload in
    sym (take-append_seam a (replicate (4064 * pages_for (length a) - length a) 0))
    ∙ ap (λ (l : List ℕ). take (length a) l) same
    ∙ ap (λ (n : ℕ). take n (padded_body b)) len
    ∙ take-append_seam b (replicate (4064 * pages_for (length b) - length b) 0)
