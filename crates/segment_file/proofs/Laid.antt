-- How leaves are laid into pages, one leaf after another.
use Rattle.std.proofs.Common.{◌≡◌, ◌≤◌, ◌<◌, ◌+◌, ℕ, List, [], ◌∷◌, ◌++◌, length, drop, get_or, Bool, sym, ap, ◌∙◌, append_assoc, add-one}
use Rattle.std.specs.Prelude.{if◌then◌else◌}
use Rattle.std.proofs.lemmas.Bool.{lt-leb}
use Rattle.std.proofs.Math.Seq.{drop-cons}
use Rattle.std.proofs.Math.ListN.{drop_of_length-le}
use Rattle.page_cache.specs.Bodies.{padded_body}
use Rattle.segment_file.specs.Pieced.{laid_pages}

-- a leaf for which the page has no room begins the next one
pub lay_next : (payloads page leaf : List ℕ) (leaves : List (List ℕ)) → 4064 < length page + length leaf
    → payloads ++ laid_pages page (leaf ∷ leaves) ≡ payloads ++ padded_body page ++ laid_pages ([] ++ leaf) leaves
lay_next payloads page leaf leaves over =
    ap (λ (b : Bool). payloads ++ (if b then laid_pages (page ++ leaf) leaves else padded_body page ++ laid_pages leaf leaves))
    (lt-leb (length page + length leaf) 4064 over)
    ∙ sym (append_assoc payloads (padded_body page) (laid_pages leaf leaves))

-- one leaf more is laid
pub laid_more : (all more next page page' leaf : List ℕ) (leaves : List (List ℕ)) (i : ℕ) → i < length leaves → leaf ≡ get_or leaves i leaf
    → all ≡ more ++ laid_pages page (drop i leaves) → more ++ laid_pages page (leaf ∷ drop (i + 1) leaves) ≡ next ++ laid_pages page' (drop (i + 1) leaves)
    → all ≡ next ++ laid_pages page' (drop (i + 1) leaves)
laid_more all more next page page' leaf leaves i inside item before after =
    let behind : drop i leaves ≡ leaf ∷ drop (i + 1) leaves =
    drop-cons leaves i leaf inside ∙ ap (λ (n : ℕ). get_or leaves i leaf ∷ drop n leaves) (sym (add-one i))
    ∙ ap (λ (l : List ℕ). l ∷ drop (i + 1) leaves) (sym item) in
    before ∙ ap (λ (ls : List (List ℕ)). more ++ laid_pages page ls) behind ∙ after

-- where all leaves are laid, the open page is the last one
pub laid_all : (all more page : List ℕ) (leaves : List (List ℕ)) (i : ℕ) → length leaves ≤ i → all ≡ more ++ laid_pages page (drop i leaves)
    → all ≡ more ++ padded_body page
laid_all all more page leaves i past e = e ∙ ap (λ (ls : List (List ℕ)). more ++ laid_pages page ls) (drop_of_length-le leaves past)
