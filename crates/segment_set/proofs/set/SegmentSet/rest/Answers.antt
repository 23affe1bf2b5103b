-- No snapshot stays, and no begun merge.
use Rattle.std.proofs.Common.{◌≡◌, None, sym, ap, subst, ◌∙◌}
use Rattle.index_model.specs.State.{at_rest}
use Rattle.segment_set.specs.Sets.{IsWell, SetData}
use Rattle.segment_set.specs.Seen.{Sees}
use Rattle.segment_set.specs.Faithful.{IsFaithful}
use Rattle.segment_set.proofs.Snapped.{faithful_rested, rested_is, sees_rested, set_rested, well_rested}
use Rattle.segment_set.proofs.set.SegmentSet.rest.Given as given
use Rattle.segment_set.proofs.set.SegmentSet.rest.Goals as goal

-- the set as it was, by its fields
abbrev old : (g : given.Over) (c : goal.Joined-self g) → SetData
old g c = record {
  leaf_size = c.self.inside.leaf_size;
  next = c.self.inside.buffer.next;
  points_given = c.self.inside.points_given;
  names = c.self.inside.names;
  parts = c.self.inside.segments;
  buffer = c.self.inside.buffer.items;
  snapshots = c.self.inside.snapshots.items;
  begun = c.self.inside.begun;
  cache = c.self.inside.cache;
  saved = c.self.inside.saved;
}

fields : (g : given.Over) (c : goal.Joined-self g) → record (old g c) { snapshots = c.clear.new.self.items; begun = None } ≡ set_rested (old g c)
fields g c = rested_is (old g c) c.clear.new.self.items c.clear.ensures.items

whole : (g : given.Over) (c : goal.Joined-self g) → record (old g c) { snapshots = c.clear.new.self.items; begun = None } ≡ set_rested c.args.self.now
whole g c = fields g c ∙ ap set_rested c.self.view_is

pub invariant_of-self : goal.invariant_of-self
invariant_of-self g c = subst (IsWell g.row.D) (sym (fields g c)) (well_rested g.row.D (old g c) c.self.invariant)

pub returns-clause-seen : goal.returns-clause-seen
returns-clause-seen g c files i seen =
    subst (λ (s : SetData). Sees g.row.D files s (at_rest i)) (sym (whole g c)) (sees_rested g.row.D files c.args.self.now i seen)

pub returns-clause-faithful : goal.returns-clause-faithful
returns-clause-faithful g c files keeps = subst (IsFaithful g.row.D files) (sym (whole g c)) (faithful_rested g.row.D files c.args.self.now keeps)

pub returns-clause-kept : goal.returns-clause-kept
returns-clause-kept g c = whole g c
