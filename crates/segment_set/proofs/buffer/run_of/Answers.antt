-- The entries of a number stand between the two places.
use Rattle.std.proofs.Common.{leb, ltb, refl, rules}
use Rattle.std.proofs.lemmas.List.Sorted.{IsPartitionPoint-from_clause, IsPartitionedBy-leb, IsPartitionedBy-ltb}
use Rattle.point_codec.specs.declared.entries.Entry.{Entry}
use Rattle.segment_set.specs.Waiting.{came_as}
use Rattle.segment_set.proofs.Buffered.{points_run}
use Rattle.segment_set.proofs.buffer.run_of.Goals as goal

pub returns-clause-run : goal.returns-clause-run
returns-clause-run g c =
    let lower = IsPartitionPoint-from_clause (λ (e : Entry g.row.D). ltb (came_as e.doc) c.args.number) c.args.entries.now c.partition_point-first.result
    c.partition_point-first.ensures.partitioned
    (IsPartitionedBy-ltb (λ (e : Entry g.row.D). came_as e.doc) c.args.entries.now c.args.number c.requires) (λ a r f k. search rules) in
    let upper = IsPartitionPoint-from_clause (λ (e : Entry g.row.D). leb (came_as e.doc) c.args.number) c.args.entries.now c.partition_point-end.result
    c.partition_point-end.ensures.partitioned
    (IsPartitionedBy-leb (λ (e : Entry g.row.D). came_as e.doc) c.args.entries.now c.args.number c.requires) (λ a r f k. search rules) in
    points_run (λ (e : Entry g.row.D). came_as e.doc) c.args.number c.args.entries.now c.args.entries.now c.args.entries.now c.partition_point-first.result
    c.partition_point-end.result
    refl refl c.partition_point-first.ensures.bound c.partition_point-end.ensures.bound lower upper
