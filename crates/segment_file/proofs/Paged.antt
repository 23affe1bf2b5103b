-- A file that grows by whole pages.
use Rattle.std.proofs.Common.{◌≡◌, ◌≤◌, ◌<◌, min, take_all, subst, add-zero, ◌+◌, ℕ, List}
use Rattle.std.proofs.Common.{[], ◌++◌, length, take, drop, append-nil, Bool, true, false, refl, sym}
use Rattle.std.proofs.Common.{ap, ◌∙◌, arith, append_assoc, length-append, zero-add, inl, inr}
use Rattle.std.proofs.lemmas.Bool.{cases_lt}
use Rattle.std.proofs.lemmas.List.{take-append-drop}
use Rattle.std.specs.Prelude.{if◌then◌else◌}
use Rattle.outer_io.specs.declared.file_name.FileName.{FileName}
use Rattle.page_cache.specs.FilePages.{payloads_of}
use Rattle.page_cache.specs.Bodies.{pages_for, padded_body, ArePagesOf, AppendsPage, AppendsPages}
use Rattle.page_cache.proofs.PageRuns.{payloads_join, pages_front, pages_behind, payloads_stay, payloads_back}
use Rattle.page_cache.proofs.Sealed.{put_none, put_more, put_all}
use Rattle.segment_file.specs.Pieced.{IsPaged}

pub behind : (started : Bool) (held out new bytes : List ℕ) → new ≡ out ++ bytes
    → (if started then held ++ new else new) ≡ (if started then held ++ out else out) ++ bytes
behind true held out new bytes e = ap (λ (l : List ℕ). held ++ l) e ∙ sym (append_assoc held out bytes)
behind false held out new bytes e = e

-- where nothing stands behind the whole pages they are all
pub all_whole : (n : ℕ) (out : List ℕ) → drop n out ≡ [] → take n out ≡ out
all_whole n out none = sym (append-nil (take n out)) ∙ ap (λ (l : List ℕ). take n out ++ l) (sym none) ∙ take-append-drop n out

pub no_pages : (name : FileName) → IsPaged name 0 [] []
unfolding payloads_of
no_pages name = record { len = refl; pages = λ n from below. absurd (omega arith); payloads_are = refl }

-- the pages of a body put behind those that are there
pub more_pages : (name : FileName) (n : ℕ) (payloads old body bytes : List ℕ) → IsPaged name n payloads old → ArePagesOf name n body bytes
    → IsPaged name (n + pages_for (length body)) (payloads ++ padded_body body) (old ++ bytes)
more_pages name n payloads old body bytes p a =
    let len = p.len in
    let more = a.len in
    let back : payloads_of (old ++ bytes) n (pages_for (length body)) ≡ padded_body body =
    payloads_back old bytes n (pages_for (length body)) p.len ∙ a.payload in
    let behind_is : payloads_of (old ++ bytes) (0 + n) (pages_for (length body)) ≡ padded_body body =
    ap (λ (m : ℕ). payloads_of (old ++ bytes) m (pages_for (length body))) (zero-add n) ∙ back in
    let front : payloads_of (old ++ bytes) 0 n ≡ payloads = payloads_stay name 0 n old bytes (λ i from below. p.pages i from (omega arith)) ∙ p.payloads_are in
    record {
      len = omega (arith, len, more, length-append old bytes);
      pages = λ i from below. elim (cases_lt i n) [
        | inl lt ↦ pages_front name 0 n old bytes p.pages i from lt
        | inr le ↦ pages_behind name n (pages_for (length body)) old bytes p.len a.pages i le below
      ];
      payloads_are = payloads_join (old ++ bytes) 0 n (pages_for (length body)) ∙ ap (λ (l : List ℕ). payloads_of (old ++ bytes) 0 n ++ l) behind_is
          ∙ ap (λ (l : List ℕ). l ++ padded_body body) front;
    }

-- what a page has room for fills one
pub fills_one : (body : List ℕ) → 0 < length body → length body ≤ 4064 → 1 ≡ pages_for (length body)
fills_one body some fits = omega arith

-- one page put behind what was there is the pages of what is on it
pub one_page : (name : FileName) (n : ℕ) (body old new : List ℕ) → 0 < length body → length body ≤ 4064 → AppendsPage name n body old new
    → AppendsPages name n body old new
one_page name n body old new some fits page =
    put_all name n body old new 1 (fills_one body some fits)
    (put_more name n body body body 0 old old new (omega arith) refl (sym (take_all (min (length body) 4064) body (omega arith))) (put_none name n body old)
    (subst (λ (m : ℕ). AppendsPage name m body old new) (sym (add-zero n)) page))
