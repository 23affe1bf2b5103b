-- How many leaf pages are read for a subtree.
use Rattle.std.proofs.Common.{◌≡◌, ◌≤◌, ◌+◌, ℕ, ℤ, sym, ap, subst, ◌∙◌, arith, inl, inr}
use Rattle.std.proofs.lemmas.Bool.{cases_lt}
use Rattle.point_codec.specs.Points.{Region}
use Rattle.inner_pack.specs.Places.{Spot, leaf_begin, end_of}
use Rattle.inner_pack.specs.Trees.{IndexTree, Leaf, Split, lengths_of}
use Rattle.inner_pack.specs.Bodies.{right_begin, first_length}
use Rattle.inner_pack.specs.Nodes.{IsAt, IsPlaceOf}
use Rattle.inner_pack.specs.declared.node.NodeAt.{NodeAt}
use Rattle.inner_pack.specs.declared.place.LeafPlace.{LeafPlace}
use Rattle.inner_pack.proofs.PlaceLemmas.{AreLengths, end_of_from, fitted_here, fitted_next}
use Rattle.inner_pack.proofs.Nested.{left_ends, right_ends}
use Rattle.page_cache.specs.declared.cache.PageCache.{PageCache}
use Rattle.page_cache.specs.Cache.{IsKept}
use Rattle.segment_file.specs.Heads.{Head, page_of}
use Rattle.segment_file.specs.Gathers.{ReadsEach, last_page}

-- a leaf's last page is that in which it begins
leaf_page_is : (s : Spot) (len : ℕ) (own : Region) → s.offset + len ≤ 4064 → last_page s (Leaf len own) ≡ s.page
leaf_page_is s len own fits = ap (λ (e : Spot). e.page) (fitted_here s len fits)

pub right_last : (s : Spot) (k : ℕ) (x : ℤ) (l r : IndexTree) → AreLengths (lengths_of r) → last_page (right_begin s l r) r ≡ last_page s (Split k x l r)
right_last s k x l r long = ap (λ (e : Spot). e.page) (right_ends s k x l r long)

-- where only the left child was read
pub left_reads : (old new : ℕ) (a : PageCache) (head : Head) (s : Spot) (k : ℕ) (x : ℤ) (l r : IndexTree)
    → ReadsEach old new a head s l → ReadsEach old new a head s (Split k x l r)
left_reads old new a head s k x l r left =
    let before : last_page s l ≤ last_page s (Split k x l r) = left_ends s k x l r in
    let all = left.all in
    record {
      all = omega (arith, all, before);
      begun = λ kept. let first = left.begun kept in omega (arith, first, before);
    }

-- the right child's first leaf stands in the page of the left one's last, which is kept, or begins a page
begun_right : (old new : ℕ) (b : PageCache) (head : Head) (e : Spot) (n : ℕ) (r : IndexTree)
    → ReadsEach old new b head (leaf_begin e n) r → IsKept b head.id (page_of head e.page) → new + e.page ≤ old + last_page (leaf_begin e n) r
begun_right old new b head e n r right kept = elim (cases_lt 4064 (e.offset + n)) [
  | inl lt ↦ let all = right.all in let page : (leaf_begin e n).page ≡ e.page + 1 = ap (λ (s : Spot). s.page) (fitted_next e n lt) in omega (arith, all, page)
  | inr le ↦
      let page : (leaf_begin e n).page ≡ e.page = ap (λ (s : Spot). s.page) (fitted_here e n le) in
      let first = right.begun (subst (λ (m : ℕ). IsKept b head.id (page_of head m)) (sym page) kept) in omega (arith, first, page)
]

pub both_read : (old mid new : ℕ) (a b : PageCache) (head : Head) (s : Spot) (k : ℕ) (x : ℤ) (l r : IndexTree)
    → AreLengths (lengths_of r) → ReadsEach old mid a head s l → ReadsEach mid new b head (right_begin s l r) r
    → IsKept b head.id (page_of head (last_page s l)) → ReadsEach old new a head s (Split k x l r)
unfolding right_begin
both_read old mid new a b head s k x l r long left right kept =
    let all = left.all in
    let last = right_last s k x l r long in
    let more = begun_right mid new b head (end_of s (lengths_of l)) (first_length r) r right kept in
    record {
      all = omega (arith, all, last, more);
      begun = λ here. let first = left.begun here in omega (arith, first, last, more);
    }

-- one read at most, and none where the first page was kept
pub leaf_reads : (old new : ℕ) (a : PageCache) (head : Head) (s : Spot) (t : IndexTree)
    → new ≤ old + 1 → (IsKept a head.id (page_of head s.page) → new ≡ old) → ReadsEach old new a head s t
leaf_reads old new a head s t one hit =
    let from : s.page ≤ last_page s t = end_of_from s (lengths_of t) in
    record {
      all = omega (arith, one, from);
      begun = λ kept. let none = hit kept in omega (arith, none, from);
    }

-- the page that is kept of a node that is a leaf is its last one
pub leaf_last : (D : ℕ) (node : NodeAt D) (b : PageCache) (head : Head) (p : LeafPlace) (first : ℕ) (s : Spot) (path : Region) (t : IndexTree)
    → IsAt node first s path t → IsPlaceOf p s t → IsKept b head.id (page_of head p.page) → IsKept b head.id (page_of head (last_page s t))
leaf_last D node b head p first s path t at place kept =
    let fits : s.offset + p.length ≤ 4064 = subst (λ (u : IndexTree). s.offset + first_length u ≤ 4064) place.is at.is.fits in
    let last : last_page s t ≡ s.page = ap (λ (u : IndexTree). last_page s u) place.is ∙ leaf_page_is s p.length place.own fits in
    subst (λ (page : ℕ). IsKept b head.id (page_of head page)) (place.page ∙ sym last) kept
