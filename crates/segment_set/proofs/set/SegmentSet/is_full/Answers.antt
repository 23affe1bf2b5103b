-- A set keeps to its rules, and its numbers are as its fields say.
use Rattle.std.proofs.Common.{◌<◌, ◌+◌, ◌^◌, IsTrue, ltb, subst, arith}
use Rattle.std.specs.Prelude.{◌↔◌}
use Rattle.std.proofs.lemmas.Bool.{lt-ltb, ltb-true}
use Rattle.std.specs.List.{All}
use Rattle.segment_set.specs.Sets.{IsNamed, SetData}
use Rattle.segment_set.proofs.set.SegmentSet.is_full.Goals as goal

pub returns-clause-named : goal.returns-clause-named
returns-clause-named g c = subst (λ (s : SetData). All (IsNamed s.names) s.parts) c.self.view_is c.self.invariant.named

pub returns-clause-full : goal.returns-clause-full
returns-clause-full g c =
    let given = c.self.inside.points_given + c.args.count in
    subst (λ (s : SetData). IsTrue (ltb (2 ^ 24) given) ↔ (2 ^ 24 < s.points_given + c.args.count)) c.self.view_is
    (ltb-true (2 ^ 24) given, lt-ltb (2 ^ 24) given)

pub overflow_add-result : goal.overflow_add-result
overflow_add-result g c = omega (arith, c.self.invariant.most_given, c.requires)
