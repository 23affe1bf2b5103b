-- The other set, with this one's list of names.
use Rattle.std.proofs.Common.{◌≡◌, ℕ, true, refl, sym, ap, subst, ◌∙◌}
use Rattle.outer_io.specs.declared.file_name.FileName.TheVariants.{Segment}
use Rattle.file_names.specs.Names.{is_named}
use Rattle.segment_set.specs.Sets.{SetData}
use Rattle.segment_set.specs.Seen.{Sees}
use Rattle.segment_set.specs.Faithful.{IsFaithful}
use Rattle.segment_set.proofs.Saving.{well_other}
use Rattle.segment_set.proofs.Standing.{sees_like}
use Rattle.segment_set.proofs.set.SegmentSet.renew.Given as given
use Rattle.segment_set.proofs.set.SegmentSet.renew.Goals as goal
use Rattle.segment_set.proofs.set.SegmentSet.renew.Goals.{After-drop-set-inside}

-- the other set, by its fields
abbrev other : (g : given.Over) (c : After-drop-set-inside g) → SetData
other g c = record {
  leaf_size = c.set.inside.leaf_size;
  next = c.set.inside.buffer.next;
  points_given = c.set.inside.points_given;
  names = c.set.inside.names;
  parts = c.set.inside.segments;
  buffer = c.set.inside.buffer.items;
  snapshots = c.set.inside.snapshots.items;
  begun = c.set.inside.begun;
  cache = c.set.inside.cache;
  saved = c.set.inside.saved;
}

-- this set's list has its files
named : (g : given.Over) (c : After-drop-set-inside g) (id : ℕ) → is_named c.set.inside.names.names (Segment id) ≡ true
    → is_named c.self.inside.names.names (Segment id) ≡ true
named g c id there =
    ap (λ (s : SetData). is_named s.names.names (Segment id)) c.self.view_is
    ∙ c.requires id (ap (λ (s : SetData). is_named s.names.names (Segment id)) (sym c.set.view_is) ∙ there)

whole : (g : given.Over) (c : After-drop-set-inside g)
    → record (other g c) { names = c.self.inside.names } ≡ record c.args.set { names = c.args.self.now.names }
whole g c = λ j. record (c.set.view_is j) { names = (ap (λ (s : SetData). s.names) c.self.view_is) j }

pub invariant_of-self : goal.invariant_of-self
invariant_of-self g c = well_other g.row.D (other g c) c.self.inside.names c.set.inside.cache c.set.inside.saved c.set.invariant
    (λ k p lt. named g c _ (c.set.invariant.named k p lt)) (λ k v lt j p jt. named g c _ (c.set.invariant.kept k v lt j p jt)) c.self.invariant.own
    (λ id keeps. named g c id (c.set.invariant.cached id keeps)) c.set.invariant.unhidden

pub returns-clause-seen : goal.returns-clause-seen
returns-clause-seen g c files i seen = subst (λ (s : SetData). Sees g.row.D files s i) (sym (whole g c))
    (sees_like g.row.D files c.args.set (record c.args.set { names = c.args.self.now.names }) i
    (record { leaf_size = refl; next = refl; points_given = refl; snapshots = refl }) refl refl refl seen.stands.agrees seen)

pub returns-clause-faithful : goal.returns-clause-faithful
returns-clause-faithful g c files keeps =
    subst (IsFaithful g.row.D files) (sym (whole g c)) (record { pages = keeps.pages; heads = keeps.heads; kept = keeps.kept; begun = keeps.begun })

pub returns-clause-kept : goal.returns-clause-kept
returns-clause-kept g c = whole g c
