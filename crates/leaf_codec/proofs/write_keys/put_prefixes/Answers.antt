use Rattle.std.proofs.Common.{◌≡◌, ◌<◌, append_assoc, ◌+◌, ℕ, List, ◌++◌, take, get_or, length, arith, sym, ap, ◌∙◌}
use Rattle.std.specs.List.{flat_map, range_with_len}
use Rattle.point_codec.specs.Seen.{items_of}
use Rattle.leaf_codec.specs.LeafOrder.{item_of}
use Rattle.leaf_codec.specs.Spelling.{shared_bytes, prefixes}
use Rattle.leaf_codec.proofs.Lists.{grows, flat_map-range_more}
use Rattle.leaf_codec.proofs.Written.{shared_bytes_is, lengths_of, get_or-lengths}
use Rattle.leaf_codec.proofs.Items.{length-items, get_or-items}
use Rattle.leaf_codec.proofs.write_keys.put_prefixes.Goals as goal

pub loop-d-preserved : goal.loop-d-preserved
loop-d-preserved g c =
    let items = items_of c.args.entries.now in
    let d = c.loop-d.d in
    let x = item_of c.index-entries-0.result in
    let some : 0 < length items = omega (arith, length-items c.args.entries.now, c.requires.some) in
    let first = get_or-items c.args.entries.now 0 c.index-entries-0.result x c.requires.some c.index-entries-0.is in
    let length_is = ap (λ (ls : List ℕ). get_or ls d 0) c.requires.lengths ∙ get_or-lengths g.row.D d items c.loop-d-test.true in
    let written : take (get_or c.args.dimensions.now.lengths d 0) c.key-key.result ≡ shared_bytes d items =
    (λ i. take (length_is i) (c.key-key.ensures.value i)) ∙ sym (shared_bytes_is d items x some first) in
    grows c.put_slice-in-loop-d.new.out.items c.loop-d.out.items c.put_slice.new.out.items (flat_map (λ k. shared_bytes k items) (range_with_len 0 d))
    (shared_bytes d items)
    (flat_map (λ k. shared_bytes k items) (range_with_len 0 (d + 1)))
    (c.in_ok-put_slice-2.ensures.ok ∙ ap (λ (t : List ℕ). c.loop-d.out.items ++ t) written)
    c.loop-d.invariant
    (sym (flat_map-range_more (λ k. shared_bytes k items) d))

pub returns : goal.returns
unfolding prefixes
returns g c =
    let items = items_of c.args.entries.now in
    let whole : c.loop-d.d ≡ g.row.D = omega arith in
    c.loop-d.invariant
    ∙ (λ i. (c.in_ok-put_slice.ensures.ok i) ++ flat_map (λ k. shared_bytes k items) (range_with_len 0 (whole i)))
    ∙ (λ i. (c.args.out.now.items ++ c.requires.lengths i) ++ flat_map (λ k. shared_bytes k items) (range_with_len 0 g.row.D))
    ∙ append_assoc c.args.out.now.items (lengths_of g.row.D items) (flat_map (λ k. shared_bytes k items) (range_with_len 0 g.row.D))
