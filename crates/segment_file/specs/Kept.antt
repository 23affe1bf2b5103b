-- Leaves in pages that a cache keeps.
use Rattle.std.specs.Prelude.{◌≡◌, ℕ, List, Err}
use Rattle.std.specs.declared.boxed.Box.{Box}
use Rattle.std.specs.declared.alloc.Global.{Global}
use Rattle.outer_io.specs.declared.file_name.FileName.TheVariants.{Segment}
use Rattle.point_codec.specs.Points.{Item, Region}
use Rattle.leaf_codec.specs.Leaves.{SpellsLeafIn}
use Rattle.inner_pack.specs.Places.{Spot}
use Rattle.inner_pack.specs.Trees.{Leaf}
use Rattle.inner_pack.specs.Nodes.{IsAt}
use Rattle.inner_pack.specs.declared.node.NodeAt.{NodeAt}
use Rattle.inner_pack.specs.declared.place.LeafPlace.{LeafPlace}
use Rattle.page_file.specs.Page.{IsPage}
use Rattle.page_file.specs.declared.page.PageBytes.{PageBytes}
use Rattle.page_cache.specs.declared.cache.PageCache.{PageCache}
use Rattle.page_cache.specs.declared.faults.Damage.{Damage}
use Rattle.page_cache.specs.declared.faults.Damage.TheVariants as damage
use Rattle.page_cache.specs.declared.faults.PageFault.{PageFault}
use Rattle.page_cache.specs.declared.faults.PageFault.TheVariants as fault
use Rattle.page_cache.specs.Cache.{Keeps}
use Rattle.page_cache.specs.Evidence.{OnDamage}
use Rattle.segment_file.specs.Heads.{Head, page_of, count_of}
use Rattle.segment_file.specs.Segments.{part_of}

-- what the cache keeps of this place spells no leaf of the count and the own cell of the node, which is a leaf of the
-- head's index
unfoldable pub SpellsNoLeaf : {D : ℕ} → PageCache → Head → NodeAt D → LeafPlace → Type 0
SpellsNoLeaf {D} cache head node place =
    (first : ℕ) (s : Spot) (path : Region) (len : ℕ) (own : Region) → IsAt node first s path (Leaf len own)
    → (bytes : List ℕ) (items : List Item) → Keeps cache head.id (page_of head place.page) bytes
    → SpellsLeafIn D (part_of place.offset place.length bytes) (count_of head first) own items → ⊥

-- the fault is a damage of that place, and carries the page that the cache kept
pub record IsLeafFault (cache : PageCache) (head : Head) (place : LeafPlace) (f : PageFault) : Type 0 where
  pub page : Box PageBytes Global
  pub is : f ≡ fault.Damaged (damage.Leaf (Segment head.id) (page_of head place.page) place.offset place.length page)
  pub kept : Keeps cache head.id (page_of head place.page) page.value.b
  pub valid : IsPage 1 head.id (page_of head place.page) page.value.b

-- P holds of the damage, where the fault is one
abbrev pub OnFault : PageFault → (Damage → Type 0) → Type 0
OnFault f P = OnDamage {T = Unit {0}} (Err f) P
