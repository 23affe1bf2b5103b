use Rattle.std.proofs.Common.{ℕ, ap}
use Rattle.outer_io.specs.declared.file_name.FileName.TheVariants.{Segment}
use Rattle.page_cache.specs.Cache.{Keeps}
use Rattle.segment_file.specs.Heads.{page_of}
use Rattle.segment_file.proofs.Leaves.{no_leaf}
use Rattle.page_cache.specs.Cache.{Agrees}
use Rattle.segment_file.proofs.leaf.bad_leaf.Goals as goal

pub returns-clause-shown : goal.returns-clause-shown
returns-clause-shown g c = λ first s path t at place.
    let kept : Keeps c.args.cache.now c.args.head.now.id (page_of c.args.head.now c.args.place.page) c.in-Some.bytes.value.b =
    rw (← c.id.ensures, ← c.page_of-number.ensures) c.in-Some.ensures.some in (
      ap (λ (n : ℕ). Segment n) c.id.ensures,
      rw (← c.id.ensures) c.in-Some.ensures.valid,
      rw c.page_of-number.ensures
          (no_leaf g.row.D c.args.cache.now c.args.head.now c.args.node.now first s path t c.args.place c.in-Some.bytes.value.b kept at place c.requires.bad),
    )

pub returns-clause-damage : goal.returns-clause-damage
unfolding Agrees
returns-clause-damage g c = λ files agrees. agrees _ _ _ c.in-Some.ensures.some
