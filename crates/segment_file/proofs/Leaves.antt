-- A leaf in its page: from what the page spells to what the file holds, and back.
use Rattle.std.proofs.Common.{◌≡◌, ◌≤◌, ◌+◌, ◌*◌, ◌∙◌, arith, ℕ, List, refl, sym, ap, subst}
use Rattle.outer_io.specs.Files.{Files}
use Rattle.outer_io.specs.declared.file_name.FileName.{FileName}
use Rattle.outer_io.specs.declared.file_name.FileName.TheVariants.{Segment}
use Rattle.point_codec.specs.Points.{Item, Region}
use Rattle.leaf_codec.specs.Leaves.{SpellsLeafIn}
use Rattle.inner_pack.specs.Places.{Spot}
use Rattle.inner_pack.specs.Trees.{IndexTree, Leaf}
use Rattle.inner_pack.specs.Nodes.{IsAt, IsPlaceOf}
use Rattle.inner_pack.specs.declared.node.NodeAt.{NodeAt}
use Rattle.inner_pack.specs.declared.place.LeafPlace.{LeafPlace}
use Rattle.page_file.specs.Page.{IsPage}
use Rattle.page_cache.specs.FilePages.{kind_of, number_of, page_at, IsFilePage}
use Rattle.page_cache.specs.declared.cache.PageCache.{PageCache}
use Rattle.page_cache.specs.Cache.{Keeps}
use Rattle.page_cache.specs.Evidence.{IsPageDamage, IsPageDamageOf}
use Rattle.page_cache.specs.declared.faults.Damage.{Damage}
use Rattle.page_cache.specs.declared.faults.Damage.TheVariants.{Page, Leaf as LeafDamage, Body, Missing, Size, Unequal, NotGiven, Doubled}
use Rattle.segment_file.specs.Heads.{Head, page_of, count_of}
use Rattle.segment_file.specs.Segments.{part_of, HoldsLeaf, IsLeafOf}
use Rattle.segment_file.specs.Damages.{IsNoLeaf, IsLeafDamage, IsLeafDamageOf}
use Rattle.segment_file.specs.Kept.{SpellsNoLeaf}

-- the place of a leaf is where the leaf begins, and is as long
pub place_length : (place : LeafPlace) (s : Spot) (len : ℕ) (own : Region) → IsPlaceOf place s (Leaf len own) → len ≡ place.length
place_length place s len own at = let same = at.is in cc

pub holds_leaf : (D : ℕ) (bytes page : List ℕ) (head : Head) (first : ℕ) (s : Spot) (len : ℕ) (own : Region) (items : List Item) (place : LeafPlace)
    → page ≡ page_at bytes (page_of head place.page) → IsPage 1 head.id (page_of head place.page) page → IsPlaceOf place s (Leaf len own)
    → SpellsLeafIn D (part_of place.offset place.length page) (count_of head first) own items → HoldsLeaf D bytes head first s len own items
unfolding HoldsLeaf IsFilePage
holds_leaf D bytes page head first s len own items place same valid at spells =
    let long = place_length place s len own at in
    record {
      page = rw (← at.page, ← same) valid;
      spells = rw (← at.page, ← same, ← at.offset, long) spells;
    }

pub leaf_spells : (D : ℕ) (bytes page : List ℕ) (head : Head) (first : ℕ) (s : Spot) (len : ℕ) (own : Region) (items : List Item) (place : LeafPlace)
    → page ≡ page_at bytes (page_of head place.page) → IsPlaceOf place s (Leaf len own)
    → HoldsLeaf D bytes head first s len own items → SpellsLeafIn D (part_of place.offset place.length page) (count_of head first) own items
unfolding HoldsLeaf
leaf_spells D bytes page head first s len own items place same at holds =
    let long = place_length place s len own at in
    rw (same, at.page, at.offset, ← long) holds.spells

-- a tree that is a leaf has it
first_of_leaf : (first : ℕ) (s : Spot) (t : IndexTree) (place : LeafPlace) (at : IsPlaceOf place s t) → IsLeafOf first s t first s place.length at.own
first_of_leaf first s t place at = subst (λ (u : IndexTree). IsLeafOf first s u first s place.length at.own) (sym at.is) (refl, refl, refl, refl)

-- a kept page that spells no leaf at its place
pub no_leaf : (D : ℕ) (cache : PageCache) (head : Head) (node : NodeAt D) (first : ℕ) (s : Spot) (path : Region) (t : IndexTree) (place : LeafPlace)
    (bytes : List ℕ)
    → Keeps cache head.id (page_of head place.page) bytes → IsAt node first s path t → IsPlaceOf place s t → SpellsNoLeaf cache head node place
    → IsNoLeaf D head first s t (page_of head place.page) place.offset place.length (part_of place.offset place.length bytes)
unfolding SpellsNoLeaf
no_leaf D cache head node first s path t place bytes kept at where_ none =
    record {
      number = first;
      spot = s;
      own = where_.own;
      is = first_of_leaf first s t place where_;
      page_is = ap (λ (n : ℕ). page_of head n) where_.page;
      offset_is = where_.offset;
      none = λ items spells.
          none first s path place.length where_.own (subst (λ (u : IndexTree). IsAt node first s path u) where_.is at) bytes items kept spells;
    }

-- the damage of a page behind the first is one of reading a leaf
pub leaf_from_page_of : (files : Files) (name : FileName) (n : ℕ) (d : Damage) → 1 ≤ n → IsPageDamage name n d → IsPageDamageOf files n d
    → IsLeafDamageOf files d
leaf_from_page_of files name n (Page file number bytes) behind h k = k
leaf_from_page_of files name n (Size file size needed) behind h k =
    record { number = n; page_end = h.1; seen = k; short = h.2; there = λ first. absurd (omega arith) }
leaf_from_page_of files name n (LeafDamage file number offset len bytes) behind h k = absurd k
leaf_from_page_of files name n (Body file bytes) behind h k = k
leaf_from_page_of files name n (Missing file) behind h k = k
leaf_from_page_of files name n (Unequal file said found) behind h k = k
leaf_from_page_of files name n (NotGiven doc next) behind h k = k
leaf_from_page_of files name n (Doubled doc) behind h k = k

-- and what it shows is shown of the leaf that stands there
pub leaf_from_page : (D : ℕ) (head : Head) (first : ℕ) (s : Spot) (t : IndexTree) (place : LeafPlace) (d : Damage) → IsPlaceOf place s t
    → IsPageDamage (Segment head.id) (page_of head place.page) d → IsLeafDamage D head first s t d
leaf_from_page D head first s t place (Page file number bytes) at h =
    (h.0, subst (λ (f : FileName). IsPage (kind_of f) (number_of f) number bytes.value.b → ⊥) h.0 h.2)
leaf_from_page D head first s t place (Size file size needed) at h = (
  h.0,
  h.2,
  record {
    number = first;
    spot = s;
    len = place.length;
    own = at.own;
    is = first_of_leaf first s t place at;
    needs = h.1 ∙ ap (λ (n : ℕ). 4096 * (page_of head n + 1)) at.page;
  },
)
leaf_from_page D head first s t place (LeafDamage file number offset len bytes) at h = absurd h
leaf_from_page D head first s t place (Body file bytes) at h = h
leaf_from_page D head first s t place (Missing file) at h = h
leaf_from_page D head first s t place (Unequal file said found) at h = h
leaf_from_page D head first s t place (NotGiven doc next) at h = h
leaf_from_page D head first s t place (Doubled doc) at h = h
