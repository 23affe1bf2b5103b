-- The snapshots of other names stay.
use Rattle.std.proofs.Common.{◌≡◌, not, sym, ap, subst, ◌∙◌}
use Rattle.std.specs.List.{filter}
use Rattle.std.specs.Str.{bytes_eq}
use Rattle.index_model.specs.State.{Snapshot}
use Rattle.segment_set.specs.Sets.{IsWell, SetData}
use Rattle.segment_set.specs.Seen.{Sees}
use Rattle.segment_set.specs.Faithful.{IsFaithful}
use Rattle.segment_set.proofs.Snapped.{released_is, sees_released, set_released, well_released}
use Rattle.segment_set.proofs.Viewing.{faithful_released}
use Rattle.segment_set.proofs.set.SegmentSet.release.Given as given
use Rattle.segment_set.proofs.set.SegmentSet.release.Goals as goal

-- the set as it was, by its fields
abbrev old : (g : given.Over) (c : goal.After-let_go g) → SetData
old g c = record {
  leaf_size = c.self.inside.leaf_size;
  next = c.self.inside.buffer.next;
  points_given = c.self.inside.points_given;
  names = c.self.inside.names;
  parts = c.self.inside.segments;
  buffer = c.self.inside.buffer.items;
  snapshots = c.self.inside.snapshots.items;
  begun = c.self.inside.begun;
  cache = c.self.inside.cache;
  saved = c.self.inside.saved;
}

fields : (g : given.Over) (c : goal.After-let_go g) → record (old g c) { snapshots = c.let_go.new.snapshots.items } ≡ set_released c.args.name.now (old g c)
fields g c = released_is (old g c) c.args.name.now c.let_go.new.snapshots.items c.let_go.ensures

whole : (g : given.Over) (c : goal.After-let_go g)
    → record (old g c) { snapshots = c.let_go.new.snapshots.items } ≡ set_released c.args.name.now c.args.self.now
whole g c = fields g c ∙ ap (set_released c.args.name.now) c.self.view_is

pub invariant_of-self : goal.invariant_of-self
invariant_of-self g c = subst (IsWell g.row.D) (sym (fields g c)) (well_released g.row.D (old g c) c.args.name.now c.self.invariant)

pub returns-clause-seen : goal.returns-clause-seen
returns-clause-seen g c files i seen =
    subst (λ (s : SetData). Sees g.row.D files s (record i { snapshots = filter (λ (t : Snapshot). not (bytes_eq t.name c.args.name.now)) i.snapshots }))
    (sym (whole g c))
    (sees_released g.row.D files c.args.self.now i c.args.name.now seen)

pub returns-clause-faithful : goal.returns-clause-faithful
returns-clause-faithful g c files keeps =
    subst (IsFaithful g.row.D files) (sym (whole g c)) (faithful_released g.row.D files c.args.self.now c.args.name.now keeps)

pub returns-clause-kept : goal.returns-clause-kept
returns-clause-kept g c = whole g c
