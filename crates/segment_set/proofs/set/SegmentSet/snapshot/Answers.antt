-- What is live now is kept under the name.
use Rattle.std.proofs.Common.{◌≡◌, ◌<◌, ◌++◌, [], ◌∷◌, sym, ap, subst, ◌∙◌}
use Rattle.point_codec.specs.Seen.{items_of}
use Rattle.segment_set.specs.Sets.{IsWell, SetData}
use Rattle.segment_set.specs.Seen.{Sees}
use Rattle.segment_set.specs.Faithful.{IsFaithful}
use Rattle.segment_set.proofs.Snapped.{sees_snapped, set_snapped, snapped_is, well_snapped}
use Rattle.segment_set.proofs.Viewing.{faithful_snapped}
use Rattle.segment_set.proofs.set.SegmentSet.snapshot.Given as given
use Rattle.segment_set.proofs.set.SegmentSet.snapshot.Goals as goal

-- the set as it was, by its fields
abbrev old : (g : given.Over) (c : goal.After-push_reserved g) → SetData
old g c = record {
  leaf_size = c.self.inside.leaf_size;
  next = c.self.inside.buffer.next;
  points_given = c.self.inside.points_given;
  names = c.self.inside.names;
  parts = c.self.inside.segments;
  buffer = c.self.inside.buffer.items;
  snapshots = c.self.inside.snapshots.items;
  begun = c.self.inside.begun;
  cache = c.self.inside.cache;
  saved = c.self.inside.saved;
}

-- the buffer has the same still
settled : (g : given.Over) (c : goal.After-push_reserved g) → record (old g c) { next = c.settle.new.self.next; buffer = c.settle.new.self.items } ≡ old g c
settled g c = λ i. record (old g c) { next = c.settle.ensures.next i; buffer = c.settle.ensures.items i }

fields : (g : given.Over) (c : goal.After-push_reserved g)
    → record (old g c) { next = c.settle.new.self.next; buffer = c.settle.new.self.items; snapshots = c.push_reserved.new.self.items }
    ≡ set_snapped c.args.name (old g c)
fields g c =
    (λ i. record (settled g c i) { snapshots = c.push_reserved.new.self.items })
    ∙ snapped_is (old g c) c.args.name c.reserve.new.self.items c.push_reserved.new.self.items c.in_ok-segments.segments (items_of c.in_ok-buffer.buffer.items)
    c.reserve.ensures.items c.in_ok-segments.ensures (ap items_of c.in_ok-buffer.ensures.items ∙ c.as_slice-2.ensures ∙ c.settle.ensures.items)
    c.push_reserved.ensures.items

pub invariant_of-self-2 : goal.invariant_of-self-2
invariant_of-self-2 g c =
    subst (IsWell g.row.D) (sym (fields g c))
    (well_snapped g.row.D (old g c) c.args.name (subst (λ n. n < 16) (c.len.ensures ∙ c.self.inside.snapshots.ok.0) c.if-len-ge16.false) c.self.invariant)

pub returns-clause-seen : goal.returns-clause-seen
returns-clause-seen g c files i seen =
    subst (λ (s : SetData). Sees g.row.D files s (record i { snapshots = i.snapshots ++ record { name = c.args.name; docs = i.docs } ∷ [] }))
    (sym (fields g c ∙ ap (set_snapped c.args.name) c.self.view_is))
    (sees_snapped g.row.D files c.args.self.now i c.args.name seen)

pub returns-clause-faithful : goal.returns-clause-faithful
returns-clause-faithful g c files keeps =
    subst (IsFaithful g.row.D files) (sym (fields g c ∙ ap (set_snapped c.args.name) c.self.view_is))
    (faithful_snapped g.row.D files c.args.self.now c.args.name keeps)
