use Rattle.std.proofs.Common.{rules, ◌∙◌}
use Rattle.segment_build.proofs.Writable.{segment_of, some_dims, can_write}
use Rattle.segment_build.proofs.segment.NewSegment.write.Goals as goal

pub write_segment-requires : goal.write_segment-requires
write_segment-requires g c =
    let i = c.self.inside in
    let n = segment_of i.built i.leaf_size i.entries i.live in
    let dims = some_dims g.row.D n c.self.invariant in (
      search rules,
      (
        search rules,
        can_write g.row.D c.args.id n c.in_ok-index.index c.leaves.result.now (c.in_ok-index.ensures ∙ c.index.ensures) c.leaves.ensures c.self.invariant,
      ),
    )
