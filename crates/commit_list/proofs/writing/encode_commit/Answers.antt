use Rattle.std.proofs.Common.{length, refl, ap, ◌∙◌, arith}
use Rattle.commit_list.specs.declared.head.Layout.TheVariants.{Second}
use Rattle.commit_list.proofs.Bodies.{written, written_spells}
use Rattle.commit_list.proofs.writing.encode_commit.Goals as goal

pub returns-clause-spelling : goal.returns-clause-spelling
returns-clause-spelling c =
    written c.args.c.now _ c.listed-listed.result.now c.put_head.new.out.items c.new.result
    (λ i. record {
      layout = Second;
      dims = c.dims.ensures.value i;
      leaf_size = c.leaf_size.ensures.value i;
      next = c.next.ensures.value i;
      points_given = c.points_given.ensures.value i;
      next_segment = c.next_segment.ensures.value i;
      count = ap length c.listed-listed.ensures.value i;
    })
    c.listed-listed.ensures.value (c.in_ok-put_head.ensures ∙ rw c.in_ok-out.ensures.items refl) (c.new.ensures ∙ c.in_ok-put_list.ensures.spelling)

pub returns-clause-spells : goal.returns-clause-spells
returns-clause-spells c =
    written_spells c.args.c.now c.listed-listed.result.now c.new.result c.dims.ensures.commit
    (omega (arith, c.next_segment.ensures.value, c.next_segment.type_inv)) c.in_ok-put_list.ensures.fits c.listed-listed.ensures.value
    (written c.args.c.now _ c.listed-listed.result.now c.put_head.new.out.items c.new.result
    (λ i. record {
      layout = Second;
      dims = c.dims.ensures.value i;
      leaf_size = c.leaf_size.ensures.value i;
      next = c.next.ensures.value i;
      points_given = c.points_given.ensures.value i;
      next_segment = c.next_segment.ensures.value i;
      count = ap length c.listed-listed.ensures.value i;
    })
    c.listed-listed.ensures.value (c.in_ok-put_head.ensures ∙ rw c.in_ok-out.ensures.items refl) (c.new.ensures ∙ c.in_ok-put_list.ensures.spelling))
