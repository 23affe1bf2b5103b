-- A set keeps to its rules, and its numbers are as its fields say.
use Rattle.std.proofs.Common.{◌≤◌, ◌+◌, IsTrue, leb, length, lit<, subst, arith}
use Rattle.std.specs.Prelude.{◌↔◌}
use Rattle.std.proofs.lemmas.Bool.{le-leb, leb-true}
use Rattle.std.specs.List.{All}
use Rattle.segment_set.specs.Sets.{IsNamed, SetData}
use Rattle.segment_set.proofs.set.SegmentSet.has_room.Goals as goal

pub returns-clause-named : goal.returns-clause-named
returns-clause-named g c = subst (λ (s : SetData). All (IsNamed s.names) s.parts) c.self.view_is c.self.invariant.named

pub len-requires : goal.len-requires
len-requires g c = lit< tt

pub returns-clause-room : goal.returns-clause-room
returns-clause-room g c =
    let wanted = c.len.result + c.args.count in
    subst (λ (s : SetData). IsTrue (leb wanted 16384) ↔ (length s.buffer + c.args.count ≤ 16384)) c.self.view_is
    (subst (λ n. IsTrue (leb wanted 16384) ↔ (n + c.args.count ≤ 16384)) c.len.ensures (leb-true wanted 16384, le-leb wanted 16384))

pub overflow_add-result : goal.overflow_add-result
overflow_add-result g c = omega (arith, c.len.ensures, c.self.invariant.room, c.requires)
