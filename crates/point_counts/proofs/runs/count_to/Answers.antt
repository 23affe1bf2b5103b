use Rattle.std.proofs.Common.{◌≡◌, ◌<◌, ◌+◌, ◌∙◌, Bool, true, false, int_le, sym, ap, length, take, arith, rules, cond}
use Rattle.std.proofs.Common.{to_z, of_z, w32}
use Rattle.std.proofs.lemmas.Int.{ints}
use Rattle.std.specs.List.{count_by}
use Rattle.std.proofs.lemmas.List.Sums.{sum_by_more}
use Rattle.point_codec.specs.Points.{Item}
use Rattle.leaf_codec.specs.Ascending.{coordinate}
use Rattle.bkd_reader.proofs.HitLemmas.{no_item, read_item}
use Rattle.point_counts.specs.Tables.{is_up_to}
use Rattle.point_counts.proofs.runs.count_to.Goals as goal

pub loop-k-preserved-then-coordinate-cut : goal.loop-k-preserved-then-coordinate-cut
loop-k-preserved-then-coordinate-cut g c =
    let leaf = c.args.leaf.now in
    let d = c.args.d in
    let cut = c.args.cut.now in
    let k = c.loop-k.k in
    let under : k < c.args.next = omega (arith, c.loop-k-test.true) in
    let inside : k < length leaf = omega (arith, under, c.requires.within) in
    let is = read_item (λ x. c.coordinate.result ≡ coordinate d x) leaf k inside c.coordinate.ensures in
    let value_is : to_z w32 (of_z w32 c.coordinate.result) ≡ c.coordinate.result = search rules in
    let cut_is : to_z w32 (of_z w32 cut) ≡ cut = search rules in
    let told : int_le c.coordinate.result cut ≡ false = grind (arith, ints, c.if-coordinate-cut.true, value_is, cut_is) in
    let more : count_by (is_up_to d cut) (take (k + 1) leaf) ≡ count_by (is_up_to d cut) (take k leaf) + 0 =
    sum_by_more (λ (x : Item). cond (is_up_to d cut x) 1 0) leaf k no_item inside
    ∙ ap (λ (b : Bool). count_by (is_up_to d cut) (take k leaf) + cond b 1 0) (sym (ap (λ z. int_le z cut) is) ∙ told) in
    record {
      within = omega (arith, under);
      few = omega (arith, c.loop-k.invariant.few);
      sum = omega (arith, c.loop-k.invariant.sum, more);
    }

pub loop-k-preserved : goal.loop-k-preserved
loop-k-preserved g c =
    let leaf = c.args.leaf.now in
    let d = c.args.d in
    let cut = c.args.cut.now in
    let k = c.loop-k.k in
    let under : k < c.args.next = omega (arith, c.loop-k-test.true) in
    let inside : k < length leaf = omega (arith, under, c.requires.within) in
    let is = read_item (λ x. c.coordinate.result ≡ coordinate d x) leaf k inside c.coordinate.ensures in
    let value_is : to_z w32 (of_z w32 c.coordinate.result) ≡ c.coordinate.result = search rules in
    let cut_is : to_z w32 (of_z w32 cut) ≡ cut = search rules in
    let told : int_le c.coordinate.result cut ≡ true = grind (arith, ints, c.if-coordinate-cut.false, value_is, cut_is) in
    let more : count_by (is_up_to d cut) (take (k + 1) leaf) ≡ count_by (is_up_to d cut) (take k leaf) + 1 =
    sum_by_more (λ (x : Item). cond (is_up_to d cut x) 1 0) leaf k no_item inside
    ∙ ap (λ (b : Bool). count_by (is_up_to d cut) (take k leaf) + cond b 1 0) (sym (ap (λ z. int_le z cut) is) ∙ told) in
    record {
      within = omega (arith, under);
      few = omega (arith, c.loop-k.invariant.few);
      sum = omega (arith, c.loop-k.invariant.sum, more);
    }
