use Rattle.std.proofs.Common.{◌≡◌, ◌+◌, ◌-◌, ℕ, List, ◌++◌, take, drop, get_or, sym, ap, ◌∙◌, arith, eqb, below_more, w32, pos, ℤ}
use Rattle.std.specs.Prelude.{FitsSigned}
use Rattle.std.proofs.lemmas.List.Elements.{All-from_get_or}
use Rattle.std.specs.List.{flat_map, range_with_len}
use Rattle.leaf_codec.specs.Dimensions.{key_of, told_of}
use Rattle.leaf_codec.specs.LeafOrder.{item_of}
use Rattle.leaf_codec.proofs.Lists.{grows, flat_map-range_more}
use Rattle.leaf_codec.proofs.Written.{flag_is, key_from}
use Rattle.leaf_codec.proofs.write_keys.put_rest.Goals as goal

pub loop-d-preserved : goal.loop-d-preserved
loop-d-preserved g c =
    let lengths = c.args.dimensions.now.lengths in
    let sorted = c.args.dimensions.now.sorted in
    let d = c.loop-d.d in
    let x = item_of c.args.entry.now in
    let left = λ (k : ℕ). drop (told_of lengths sorted k) (key_of k x) in
    let told : get_or lengths d 0 + c.from.result ≡ told_of lengths sorted d = ap (λ n. get_or lengths d 0 + n) (c.from.ensures ∙ flag_is (eqb d sorted)) in
    let written : take (4 - (get_or lengths d 0 + c.from.result)) (drop (get_or lengths d 0 + c.from.result) c.key.result) ≡ left d =
    (λ i. take (4 - told i) (drop (told i) (c.key.ensures.value i))) ∙ key_from d (told_of lengths sorted d) x in
    record {
      long = λ some. c.key.ensures.long;
      fits = below_more (λ k. FitsSigned w32 (get_or c.args.entry.now.point.c k (pos 0))) d c.loop-d.invariant.fits c.key.ensures.fits;
      written = grows c.put_slice.new.out.items c.loop-d.out.items c.args.out.now.items (flat_map left (range_with_len 0 d)) (left d)
          (flat_map left (range_with_len 0 (d + 1)))
          (c.in_ok-put_slice.ensures.ok ∙ ap (λ (t : List ℕ). c.loop-d.out.items ++ t) written)
          c.loop-d.invariant.written
          (sym (flat_map-range_more left d));
    }

pub returns-clause-point : goal.returns-clause-point
returns-clause-point g c =
    let p = c.args.entry.now.point in
    let long = c.loop-d.invariant.long (omega (arith, p.low)) in
    record {
      dims = long;
      fits = All-from_get_or (λ (x : ℤ). FitsSigned w32 x) p.c (pos 0) (λ k lt. c.loop-d.invariant.fits k (omega (arith, long)));
    }
