-- Nothing changed where there is a commit, none was refused, and the set is as it says.
use Rattle.std.proofs.Common.{subst, ap, sym, ◌∙◌}
use Rattle.index_core.specs.Sessions.{IsSound, IsUnchanged, SessionData}
use Rattle.std.proofs.Common.{◌≡◌, ◌↔◌, false}
use Rattle.segment_set.specs.Sets.{IsWell}
use Rattle.segment_set.proofs.Sizes.{set_fits}
use Rattle.index_core.proofs.Committing.{changed_by, changed_none, changed_refused}
use Rattle.index_core.proofs.session.Session.is_changed.Goals as goal

pub returns-in_default-clause-unchanged : goal.returns-in_default-clause-unchanged
returns-in_default-clause-unchanged g c = changed_none _ (ap (λ (u : SessionData). u.commit) (sym c.self.view_is) ∙ c.in_default.is)

pub returns-in_default-clause-sound : goal.returns-in_default-clause-sound
returns-in_default-clause-sound g c e = absurd cc

pub returns-then-self-clause-unchanged : goal.returns-then-self-clause-unchanged
returns-then-self-clause-unchanged g c = changed_refused _ (ap (λ (u : SessionData). u.refused) (sym c.self.view_is) ∙ c.if-self.true)

pub returns-then-self-clause-sound : goal.returns-then-self-clause-sound
returns-then-self-clause-sound g c e = absurd cc

pub returns-clause-unchanged : goal.returns-clause-unchanged
returns-clause-unchanged g c = subst (λ (u : SessionData). (c.differs.result ≡ false) ↔ IsUnchanged u) c.self.view_is
    (changed_by _ c.in-Some.commit c.differs.result c.in-Some.is c.if-self.false c.differs.ensures.same)

pub returns-clause-sound : goal.returns-clause-sound
returns-clause-sound g c e = subst (IsSound g.row.D) c.self.view_is (record {
  dims = c.self.invariant.has;
  sets = c.differs.ensures.sets e;
  well = c.leaf_size-leaf_size.ensures.well;
})

pub returns-in_default-clause-well : goal.returns-in_default-clause-well
returns-in_default-clause-well g c = subst (λ (u : SessionData). IsWell g.row.D u.set) c.self.view_is c.leaf_size-leaf_size.ensures.well

pub returns-then-self-clause-well : goal.returns-then-self-clause-well
returns-then-self-clause-well g c = subst (λ (u : SessionData). IsWell g.row.D u.set) c.self.view_is c.leaf_size-leaf_size.ensures.well

pub returns-clause-well : goal.returns-clause-well
returns-clause-well g c = subst (λ (u : SessionData). IsWell g.row.D u.set) c.self.view_is c.leaf_size-leaf_size.ensures.well

pub leaf_size-leaf_size-requires : goal.leaf_size-leaf_size-requires
leaf_size-leaf_size-requires g c = set_fits g.row.D c.self.invariant.few

pub differs-requires : goal.differs-requires
differs-requires g c = set_fits g.row.D c.self.invariant.few
