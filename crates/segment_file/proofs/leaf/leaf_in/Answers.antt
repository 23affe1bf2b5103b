use Rattle.std.proofs.Common.{◌≡◌, ℕ, List, ap, sym, subst, rules, ◌∙◌, take, drop}
use Rattle.outer_io.specs.Files.{Files, bytes_of}
use Rattle.outer_io.specs.declared.file_name.FileName.TheVariants.{Segment}
use Rattle.point_codec.specs.Points.{Region}
use Rattle.point_codec.specs.Seen.{region_of}
use Rattle.leaf_codec.specs.Leaves.{SpellsLeaf, SpellsSomeIn}
use Rattle.inner_pack.specs.Places.{Spot}
use Rattle.inner_pack.specs.Trees.{Leaf}
use Rattle.inner_pack.specs.Nodes.{IsAt}
use Rattle.page_file.specs.Page.{IsPage}
use Rattle.page_cache.specs.Cache.{Keeps}
use Rattle.page_cache.specs.FilePages.{page_at}
use Rattle.segment_file.specs.Heads.{page_of, count_of}
use Rattle.segment_file.specs.Segments.{part_of}
use Rattle.segment_file.specs.Kept.{SpellsNoLeaf}
use Rattle.segment_file.proofs.Options.{some_weaker, none_weaker}
use Rattle.segment_file.proofs.Leaves.{holds_leaf, leaf_spells}
use Rattle.segment_file.proofs.leaf.leaf_in.Given as given
use Rattle.segment_file.proofs.leaf.leaf_in.Goals as goal

-- what is read is the place's part of the page that is viewed
part : (g : given.Over) (c : goal.After-read_part g)
    → c.part_of-part.result.now ≡ part_of c.args.place.offset c.args.place.length c.noted_view-known.result.0.bytes.now.b
part g c = c.part_of-part.ensures ∙ ap (λ (x : List ℕ). take c.args.place.length (drop c.args.place.offset x)) c.payload.ensures.bytes

count : (g : given.Over) (c : goal.After-read_part g) (first : ℕ) (s : Spot) (path : Region) (len : ℕ) (own : Region)
    → IsAt {D = g.row.D} c.args.node.now first s path (Leaf len own) → c.count_of-count.result ≡ count_of c.args.head.now first
count g c first s path len own at =
    c.count_of-count.ensures ∙ ap (λ (n : ℕ). count_of c.args.head.now n) (c.first_leaf.ensures.number first s path (Leaf len own) at)

of_file : (g : given.Over) (c : goal.After-read_part g) (files : Files) → Rattle.page_cache.specs.Cache.Agrees files c.args.cache.now
    → c.noted_view-known.result.0.bytes.now.b ≡ page_at (bytes_of (files (Segment c.args.head.now.id))) (page_of c.args.head.now c.args.place.page)
of_file g c files agrees = rw (← c.id.ensures, ← c.page_of.ensures) (c.noted_view-known.ensures.file files agrees)

valid : (g : given.Over) (c : goal.After-read_part g)
    → IsPage 1 c.args.head.now.id (page_of c.args.head.now c.args.place.page) c.noted_view-known.result.0.bytes.now.b
valid g c =
    let place = c.noted_view-known.ensures.place in
    rw (← c.id.ensures, ← c.page_of.ensures, ← place.0, ← place.1, ← place.2) c.noted_view-known.result.0.valid

pub returns-clause-some : goal.returns-clause-some
returns-clause-some g c =
    some_weaker c.read_part.result _ _
    (λ view h files first s path len own agrees at place.
    holds_leaf g.row.D (bytes_of (files (Segment c.args.head.now.id))) c.noted_view-known.result.0.bytes.now.b c.args.head.now first s len own view c.args.place
    (of_file g c files agrees) (valid g c) place
    (rw (part g c, count g c first s path len own at, c.cell-cell.ensures first s path (Leaf len own) at) at h))
    c.read_part.ensures.some

pub returns-clause-count : goal.returns-clause-count
returns-clause-count g c =
    some_weaker c.read_part.result _ _
    (λ view h first s path t at.
    h.counted ∙ c.count_of-count.ensures ∙ ap (λ (n : ℕ). count_of c.args.head.now n) (c.first_leaf.ensures.number first s path t at))
    c.read_part.ensures.some

pub returns-clause-none : goal.returns-clause-none
returns-clause-none g c =
    none_weaker c.read_part.result _ _
    (λ h files first s path len own agrees at place items holds.
    h items (rw (part g c, count g c first s path len own at, c.cell-cell.ensures first s path (Leaf len own) at)
    (leaf_spells g.row.D (bytes_of (files (Segment c.args.head.now.id))) c.noted_view-known.result.0.bytes.now.b c.args.head.now first s len own items
    c.args.place (of_file g c files agrees) place holds)))
    c.read_part.ensures.none

pub returns-clause-spelled : goal.returns-clause-spelled
returns-clause-spelled g c =
    some_weaker c.read_part.result _ _
    (λ view h bytes kept.
    let here : Keeps c.args.cache.now c.id.result c.page_of.result bytes = rw (c.id.ensures, c.page_of.ensures) kept in
    let same : c.noted_view-known.result.0.bytes.now.b ≡ bytes = sym (c.noted_view-known.ensures.only bytes here) in
    subst (λ (p : List ℕ). SpellsLeaf g.row.D p view)
    (part g c ∙ ap (λ (page : List ℕ). part_of c.args.place.offset c.args.place.length page) same) h.spells)
    c.read_part.ensures.some

pub returns-clause-bad : goal.returns-clause-bad
unfolding SpellsNoLeaf
returns-clause-bad g c =
    none_weaker c.read_part.result _ _
    (λ h first s path len own at bytes items kept spells.
    let here : Keeps c.args.cache.now c.id.result c.page_of.result bytes = rw (c.id.ensures, c.page_of.ensures) kept in
    let same : c.noted_view-known.result.0.bytes.now.b ≡ bytes = sym (c.noted_view-known.ensures.only bytes here) in
    h items (rw (part g c, same, count g c first s path len own at, c.cell-cell.ensures first s path (Leaf len own) at) spells))
    c.read_part.ensures.none

pub read_part-requires : goal.read_part-requires
read_part-requires g c = (
  search rules,
  (
    search rules,
    λ known.
        let part = c.part_of-part.ensures ∙ ap (λ (x : List ℕ). take c.args.place.length (drop c.args.place.offset x)) c.payload.ensures.bytes in
        subst (λ (p : List ℕ). SpellsSomeIn g.row.D p c.count_of-count.result (region_of c.cell-cell.result)) (sym part)
        ((c.of-note.ensures c.noted_view-known.result.0.bytes.now.b).0 (c.noted_view-known.ensures.noted known)),
  ),
)
