-- The set afterwards is the one before without the document.
use Rattle.std.proofs.Common.{◌≡◌, lit<, sym, ap, subst, ◌∙◌}
use Rattle.documents.specs.Documents.{docs_without}
use Rattle.segment_set.specs.Sets.{IsWell, SetData, is_live_in, set_but}
use Rattle.segment_set.specs.Seen.{Sees}
use Rattle.segment_set.specs.Kept.{Follows}
use Rattle.segment_set.specs.Faithful.{IsFaithful}
use Rattle.segment_set.proofs.Carried.{follows_cleared}
use Rattle.segment_set.proofs.Changed.{live_either, live_seen, live_without, sees_but, set_but_is}
use Rattle.segment_set.proofs.Faithful.{faithful_but}
use Rattle.segment_set.proofs.Well.{well_but}
use Rattle.segment_set.proofs.set.SegmentSet.delete.Given as given
use Rattle.segment_set.proofs.set.SegmentSet.delete.Goals as goal

-- the set as it was, by its fields
abbrev old : (g : given.Over) (c : goal.After-take-in_buffer g) → SetData
old g c = record {
  leaf_size = c.self.inside.leaf_size;
  next = c.self.inside.buffer.next;
  points_given = c.self.inside.points_given;
  names = c.self.inside.names;
  parts = c.self.inside.segments;
  buffer = c.self.inside.buffer.items;
  snapshots = c.self.inside.snapshots.items;
  begun = c.self.inside.begun;
  cache = c.self.inside.cache;
  saved = c.self.inside.saved;
}

fields : (g : given.Over) (c : goal.After-take-in_buffer g)
    → record (old g c) {
      next = c.take-in_buffer.new.self.next;
      parts = c.clear-in_segment.new.self;
      buffer = c.take-in_buffer.new.self.items;
      begun = c.clear_begun.new.begun;
    }
    ≡ set_but c.args.doc (old g c)
fields g c =
    set_but_is c.args.doc (old g c) c.take-in_buffer.new.self.next c.clear-in_segment.new.self c.take-in_buffer.new.self.items c.clear_begun.new.begun
    c.take-in_buffer.ensures.next c.clear-in_segment.ensures.after c.take-in_buffer.ensures.rest c.clear_begun.ensures

whole : (g : given.Over) (c : goal.After-take-in_buffer g)
    → record (old g c) {
      next = c.take-in_buffer.new.self.next;
      parts = c.clear-in_segment.new.self;
      buffer = c.take-in_buffer.new.self.items;
      begun = c.clear_begun.new.begun;
    }
    ≡ set_but c.args.doc c.args.self.now
whole g c = fields g c ∙ ap (set_but c.args.doc) c.self.view_is

pub take-in_buffer-requires : goal.take-in_buffer-requires
take-in_buffer-requires g c = (lit< tt, c.self.invariant.few_dims)

pub invariant_of-self : goal.invariant_of-self
invariant_of-self g c = subst (IsWell g.row.D) (sym (fields g c)) (well_but g.row.D c.args.doc (old g c) c.self.invariant)

pub returns-clause-answer : goal.returns-clause-answer
returns-clause-answer g c =
    live_either c.args.doc (old g c) c.clear-in_segment.result c.take-in_buffer.result c.clear-in_segment.ensures.answer
    c.take-in_buffer.ensures.answer
    ∙ ap (λ (s : SetData). is_live_in s c.args.doc) c.self.view_is

pub returns-clause-seen : goal.returns-clause-seen
returns-clause-seen g c files i seen =
    subst (λ (s : SetData). Sees g.row.D files s (record i { docs = docs_without c.args.doc i.docs })) (sym (whole g c))
    (sees_but g.row.D c.args.doc files c.args.self.now i seen)

pub returns-clause-live : goal.returns-clause-live
returns-clause-live g c files i seen =
    live_either c.args.doc (old g c) c.clear-in_segment.result c.take-in_buffer.result c.clear-in_segment.ensures.answer
    c.take-in_buffer.ensures.answer
    ∙ ap (λ (s : SetData). is_live_in s c.args.doc) c.self.view_is
    ∙ live_seen g.row.D c.args.doc files c.args.self.now i seen

pub returns-clause-rest : goal.returns-clause-rest
returns-clause-rest g c = whole g c

pub returns-clause-faithful : goal.returns-clause-faithful
returns-clause-faithful g c files keeps = subst (IsFaithful g.row.D files) (sym (whole g c)) (faithful_but g.row.D files c.args.doc c.args.self.now keeps)

pub returns-clause-dead : goal.returns-clause-dead
returns-clause-dead g c = ap is_live_in (whole g c) ∙ live_without c.args.doc c.args.self.now

pub returns-clause-follows : goal.returns-clause-follows
returns-clause-follows g c =
    subst (λ (s : SetData). Follows c.args.self.now.names c.args.self.now.parts s.parts) (sym (whole g c))
    (follows_cleared c.args.self.now.names c.args.doc c.args.self.now.parts)
