use Rattle.std.proofs.Common.{List, length, refl, subst}
use Rattle.std.specs.List.Sorted.{IsPermutation}
use Rattle.point_codec.specs.Points.{Item}
use Rattle.point_codec.specs.Seen.{items_of}
use Rattle.segment_build.proofs.Numbers.{live_in_order}
use Rattle.segment_build.proofs.OneList.{has_once}
use Rattle.segment_build.proofs.Writable.{has_built, some_built}
use Rattle.segment_build.proofs.build.build_segment.Goals as goal

pub invariant_of-result : goal.invariant_of-result
invariant_of-result g c =
    let r = c.requires in
    some_built c.args.leaf_size (length c.args.entries.now) c.args.entries.now c.in_ok-built.built c.in_ok-live.live r.least_leaf r.greatest_leaf r.some r.few
    refl
    c.in_ok-built.ensures.built

pub returns-clause-has : goal.returns-clause-has
returns-clause-has g c =
    let r = c.requires in
    has_built c.args.leaf_size (length c.args.entries.now) c.args.entries.now c.in_ok-built.built c.in_ok-live.live r.least_leaf r.greatest_leaf r.some r.few
    refl
    c.in_ok-built.ensures.built

pub returns-clause-found : goal.returns-clause-found
returns-clause-found g c = λ items has.
    let r = c.requires in
    let live = c.in_ok-live.live in
    let (own, same, own_has) =
    has_built c.args.leaf_size (length c.args.entries.now) c.args.entries.now c.in_ok-built.built live r.least_leaf r.greatest_leaf r.some r.few refl
    c.in_ok-built.ensures.built in
    live_in_order live (items_of c.args.entries.now) items
    (subst (λ (xs : List Item). IsPermutation (items_of c.args.entries.now) xs) (has_once g.row.D own items _ own_has has) same) c.in_ok-live.ensures.live
