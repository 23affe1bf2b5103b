use Rattle.std.proofs.lemmas.Grind.{merely}
use Rattle.std.proofs.Common.{arith}
use Rattle.std.proofs.lemmas.Result.{on_ok_weaker}
use Rattle.point_codec.specs.Seen.{items_of}
use Rattle.segment_set.proofs.Counted.{uncrowded}
use Rattle.segment_set.proofs.Fresh.{all_live, holds_live, items_length, made}
use Rattle.segment_set.proofs.Rearranged.{entries_below}
use Rattle.segment_set.proofs.Sizes.{built_fits}
use Rattle.segment_set.proofs.writing.write_entries.Goals as goal
use Rattle.point_codec.proofs.Sizes.{entry_fits}

pub build_segment-requires-after_bounds : goal.build_segment-requires-after_bounds
build_segment-requires-after_bounds g c κs = λ _.
    let plan = c.args.plan.now in (
      entry_fits g.row.D c.requires.dims,
      (
        built_fits g.row.D c.requires.dims,
        (
          (plan.some_dims, plan.few_dims),
          (
            c.requires.some,
            (
              c.requires.few,
              (entries_below c.args.entries.now c.requires.numbers, (c.requires.once, (plan.least_leaf, plan.greatest_leaf))),
            ),
          ),
        ),
      ),
    )

pub returns-clause-written : goal.returns-clause-written
returns-clause-written g c =
    let entries = items_of c.args.entries.now in
    let has = c.in_ok-new.ensures.has in
    let live = c.in_ok-new.ensures.live in
    on_ok_weaker c.swap.result
    (λ put. record {
      n = c.in_ok-new.new;
      made = made g.row.D entries has.0 c.in_ok-new.new has.1 has.2 live.1 c.args.plan.now.leaf_size c.in_ok-new.ensures.leaf_size.0 live.0
          (omega (arith, c.requires.some, items_length c.args.entries.now)) (uncrowded entries c.requires.once c.requires.sixteen);
      put = put;
      live = live.1;
      holds = holds_live g.row.D entries has.0 c.in_ok-new.new has.1 has.2 live.1;
      all = merely (record { items = has.0; has = has.2; all = all_live g.row.D entries has.0 c.in_ok-new.new has.1 has.2 live.1 });
    }) c.swap.ensures.put
