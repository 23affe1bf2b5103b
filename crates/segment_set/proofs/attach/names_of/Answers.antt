use Rattle.std.proofs.Common.{◌∙◌}
use Rattle.segment_set.proofs.Attaching.{below_next, commit_unlisted, names_all, names_listed, names_next}
use Rattle.segment_set.proofs.attach.names_of.Goals as goal

pub add-requires : goal.add-requires
add-requires c =
    below_next c.args.c.now c.listed-listed.result.now c.loop-s.s-index _ c.loop-s.names.next_segment c.listed-listed.ensures.value
    c.listed-listed.ensures.commit c.loop-s-test.true c.loop-s.invariant.next

pub loop-s-preserved : goal.loop-s-preserved
loop-s-preserved c = record {
  names = names_next c.args.c.now c.listed-listed.result.now c.loop-s.s-index _ c.loop-s.names.names c.add.new.self.names c.add-in-loop-s.new.self.names
      c.listed-listed.ensures.value c.loop-s-test.true c.loop-s.invariant.names
      c.in_ok-add.ensures.named c.in_ok-add-2.ensures.named;
  next = c.in_ok-add-2.ensures.next ∙ c.in_ok-add.ensures.next ∙ c.loop-s.invariant.next;
}

pub returns-clause-names : goal.returns-clause-names
returns-clause-names c =
    names_listed c.args.c.now c.loop-s.names.names
    (names_all c.args.c.now c.listed-listed.result.now c.loop-s.s-index c.loop-s.names.names c.listed-listed.ensures.value c.loop-s-test.false
    c.loop-s.invariant.names)

pub returns-clause-own : goal.returns-clause-own
returns-clause-own c =
    commit_unlisted c.args.c.now c.loop-s.names.names
    (names_all c.args.c.now c.listed-listed.result.now c.loop-s.s-index c.loop-s.names.names c.listed-listed.ensures.value c.loop-s-test.false
    c.loop-s.invariant.names)
