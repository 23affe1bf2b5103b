use Rattle.std.proofs.Common.{◌≡◌, ◌<◌, ◌^◌, ℕ, List, ◌++◌, length, sym, ap, ◌∙◌, arith}
use Rattle.std.specs.Int.{w16, to_be_bytes}
use Rattle.std.proofs.lemmas.List.Elements.{All-map}
use Rattle.point_codec.specs.Points.{Item}
use Rattle.point_codec.specs.Seen.{items_of}
use Rattle.point_codec.specs.declared.entries.Entry.{Entry}
use Rattle.leaf_codec.specs.Dimensions.{sorted_dimension}
use Rattle.leaf_codec.specs.Entries.{docs_of}
use Rattle.leaf_codec.specs.LeafOrder.{item_of}
use Rattle.leaf_codec.specs.Leaves.{AreLeaf}
use Rattle.leaf_codec.specs.Spelling.{numbers, prefixes, sorted_part, rests, spelling}
use Rattle.leaf_codec.proofs.Items.{length-items}
use Rattle.leaf_codec.proofs.Lengths.{length-spelling}
use Rattle.leaf_codec.proofs.encode.spell.Given.{Over}
use Rattle.leaf_codec.proofs.encode.spell.Goals as goal

-- the entries are a leaf's
are_leaf : (g : Over) (c : goal.After-new g) → AreLeaf g.row.D (items_of c.args.entries.now)
are_leaf g c = record {
  some = omega (arith, length-items c.args.entries.now, c.requires.some);
  few = omega (arith, length-items c.args.entries.now, c.requires.few);
  numbers = All-map (λ (x : Item). x.doc < 2 ^ 24) (λ (e : Entry g.row.D). item_of e) c.args.entries.now c.requires.numbers;
  points = c.in_ok-put_rests.ensures.points;
  ascending = c.requires.ascending;
}

-- the parts are appended one after another, and are the whole spelling
spelled : (g : Over) (c : goal.After-new g) → c.new.result ≡ spelling g.row.D (items_of c.args.entries.now)
unfolding spelling
spelled g c =
    let items = items_of c.args.entries.now in
    let D = g.row.D in
    let count = sym (length-items c.args.entries.now) in
    let start : c.put_u16.new.out.items ≡ to_be_bytes w16 (length items) =
    c.in_ok-put_u16.ensures.ok ∙ (λ i. c.in_ok-out.ensures.items i ++ to_be_bytes w16 (count i)) in
    c.new.ensures
    ∙ c.shrink_to_fit.ensures.items
    ∙ c.in_ok-put_rests.ensures.ok
    ∙ ap (λ (t : List ℕ). t ++ rests D items) (c.in_ok-put_sorted.ensures
    ∙ ap (λ (t : List ℕ). t ++ sorted_part (sorted_dimension D items) items) (c.in_ok-put_prefixes.ensures
    ∙ ap (λ (t : List ℕ). t ++ prefixes D items) (c.in_ok-put_numbers.ensures
    ∙ ap (λ (t : List ℕ). t ++ numbers (docs_of c.args.entries.now)) start)))

pub returns-clause-spelled : goal.returns-clause-spelled
returns-clause-spelled g c = record { are_leaf = are_leaf g c; is = spelled g c }

pub returns-clause-length : goal.returns-clause-length
returns-clause-length g c =
    let long = length-spelling g.row.D (items_of c.args.entries.now) (omega (arith, c.requires.dims.1)) (are_leaf g c) in
    let e = ap length (spelled g c) in
    (omega (arith, e, long.0), omega (arith, e, long.1))
