use Rattle.std.proofs.Common.{sym, ◌∙◌}
use Rattle.ring_parity.specs.Edges.{is_above}
use Rattle.ring_parity.specs.Seen.{ends_of}
use Rattle.ring_parity.proofs.Rays.{counts_level, on_passed, same_from, other_from}
use Rattle.ring_parity.proofs.edges.incidence_of.Goals as goal

pub returns-then-is_level-clause-counts : goal.returns-then-is_level-clause-counts
returns-then-is_level-clause-counts c =
    sym (counts_level (ends_of c.args.e.now) c.args.p.now.c
    (same_from (is_above c.args.e.now.a.c c.args.p.now.c) (is_above c.args.e.now.b.c c.args.p.now.c) (sym c.is_level.ensures ∙ c.if-is_level.true)))

pub returns-clause-on : goal.returns-clause-on
returns-clause-on c =
    c.is_in_line.ensures
    ∙ sym (on_passed (ends_of c.args.e.now) c.args.p.now.c
    (other_from (is_above c.args.e.now.a.c c.args.p.now.c) (is_above c.args.e.now.b.c c.args.p.now.c) (sym c.is_level.ensures ∙ c.if-is_level.false)))
