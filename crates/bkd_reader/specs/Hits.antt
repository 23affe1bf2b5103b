-- What a walk over a segment finds.
use Rattle.std.specs.Prelude.{ℕ, ◌+◌, ◌≡◌, ◌⊎◌, Bool, false, ◌&&◌, List, [], ◌++◌, map, filter, ℤ}
use Rattle.point_codec.specs.Points.{Item, Region}
use Rattle.live_bits.specs.LiveSet.{LiveSet, is_live}
use Rattle.cell_relate.specs.Relations.{AllAnswer}
use Rattle.inner_pack.specs.Places.{Spot}
use Rattle.inner_pack.specs.Trees.{IndexTree, Leaf, Split, leaf_count}
use Rattle.inner_pack.specs.Bodies.{right_begin}
use Rattle.segment_file.specs.Heads.{Head}
use Rattle.segment_file.specs.Segments.{HoldsLeaf}

-- the entry is live, and the shape has its point
abbrev pub is_hit : (List ℤ → Bool) → LiveSet → Item → Bool
is_hit has live x = is_live live x.doc && has x.at

-- the numbers of the live entries that the shape has, in their order; a document is named once for each
unfoldable pub hits_in : (List ℤ → Bool) → LiveSet → List Item → List ℕ
hits_in has live items = map (λ x. x.doc) (filter (is_hit has live) items)

-- a leaf's hits: where no point of its own cell is the shape's there are none, whatever stands in its page; else its
-- page is one for its place and spells as many entries as it must, inside its own cell, and the hits are theirs
abbrev pub AreLeafHits : (D : ℕ) (bytes : List ℕ) (head : Head) (has : List ℤ → Bool) (live : LiveSet) (number : ℕ)
    → Spot → (len : ℕ) → Region → List ℕ → Type 0
AreLeafHits D bytes head has live number s len own out =
    (AllAnswer has false own × (out ≡ []))
    ⊎ ((items : List Item) × HoldsLeaf D bytes head number s len own items × (out ≡ hits_in has live items))

-- two lists one behind the other
pub record JoinsHits (left right : List ℕ → Type 0) (out : List ℕ) : Type 0 where
  pub front_hits : List ℕ
  pub back_hits : List ℕ
  pub front_are : left front_hits
  pub back_are : right back_hits
  pub joined : out ≡ front_hits ++ back_hits

-- the hits of a subtree's leaves from left to right
abbrev pub AreHits : (D : ℕ) (bytes : List ℕ) (head : Head) (has : List ℤ → Bool) (live : LiveSet) (first : ℕ) → Spot
    → IndexTree → List ℕ → Type 0
AreHits D bytes head has live first s (Leaf len own) out = AreLeafHits D bytes head has live first s len own out
AreHits D bytes head has live first s (Split d x l r) out =
    JoinsHits (AreHits D bytes head has live first s l)
    (AreHits D bytes head has live (first + leaf_count l) (right_begin s l r) r) out

-- what was there, and something behind it
pub record Appends (old new : List ℕ) (P : List ℕ → Type 0) : Type 0 where
  pub out : List ℕ
  pub grew : new ≡ old ++ out
  pub holds : P out

-- what was there still stands in front
abbrev pub Begins : (old new : List ℕ) → Type 0
Begins old new = (rest : List ℕ) × (new ≡ old ++ rest)
