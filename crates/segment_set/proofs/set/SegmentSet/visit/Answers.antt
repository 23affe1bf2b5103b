-- What is found are the documents that the view shows.
use Rattle.std.proofs.Common.{◌≡◌, List, length, IfOk, sym, ap, subst, ◌∙◌}
use Rattle.std.proofs.lemmas.List.{length-map}
use Rattle.point_codec.specs.Seen.{items_of}
use Rattle.page_cache.specs.Cache.{Agrees}
use Rattle.page_cache.specs.Evidence.{OnDamage}
use Rattle.script_lang.specs.Seen.{view_name}
use Rattle.segment_view.specs.LiveSegments.{LiveSegment, heads_of, ids_of}
use Rattle.segment_view.specs.Costs.{AreTouched, AsksAtMost, IsCostOf}
use Rattle.segment_view.specs.Calm.{IsCalm}
use Rattle.segment_view.specs.Damages.{IsPartDamage}
use Rattle.segment_view.proofs.Reading.{calm_cached}
use Rattle.index_model.specs.State.{Index}
use Rattle.segment_set.specs.Sets.{IsWell, SetData, buffer_at, parts_at, viewed_buffer, viewed_parts}
use Rattle.segment_set.specs.Seen.{Sees}
use Rattle.segment_set.specs.Faithful.{IsFaithful}
use Rattle.segment_set.proofs.Viewed.{looked_buffer, looked_found, looked_parts, looked_read, looked_sees, looked_well}
use Rattle.segment_set.proofs.Viewing.{looked_evident, looked_faithful}
use Rattle.segment_set.proofs.set.SegmentSet.visit.Given as given
use Rattle.segment_set.proofs.set.SegmentSet.visit.Goals as goal
use Rattle.segment_set.proofs.Unhidden.{unhidden_still}

-- the set as it was, by its fields
abbrev was : (g : given.Over) (c : goal.After-visit g) → SetData
was g c = record {
  leaf_size = c.self.inside.leaf_size;
  next = c.self.inside.buffer.next;
  points_given = c.self.inside.points_given;
  names = c.self.inside.names;
  parts = c.self.inside.segments;
  buffer = c.self.inside.buffer.items;
  snapshots = c.self.inside.snapshots.items;
  begun = c.self.inside.begun;
  cache = c.self.inside.cache;
  saved = c.self.inside.saved;
}

-- and as it is, which but for its cache is the same
abbrev is : (g : given.Over) (c : goal.After-visit g) → SetData
is g c = record (was g c) { next = c.settle_for.new.buffer.next; buffer = c.settle_for.new.buffer.items; cache = c.visit.new.cache }

same : (g : given.Over) (c : goal.After-visit g) → is g c ≡ record (was g c) { cache = c.visit.new.cache }
same g c = λ i. record (was g c) {
  next = c.settle_for.ensures.next i;
  buffer = c.settle_for.ensures.items i;
  cache = c.visit.new.cache;
}

here : (g : given.Over) (c : goal.After-visit g)
    → c.view_of.result.0.now ≡ parts_at (view_name c.args.view.now) c.self.inside.segments c.self.inside.snapshots.items
here g c = c.view_of.ensures.segments ∙ ap (parts_at (view_name c.args.view.now) c.self.inside.segments) c.as_slice.ensures.value

parts_are : (g : given.Over) (c : goal.After-visit g) → c.view_of.result.0.now ≡ viewed_parts (view_name c.args.view.now) c.args.self.now
parts_are g c = looked_parts (was g c) _ (view_name c.args.view.now) _ c.self.view_is (here g c)

buffer_is : (g : given.Over) (c : goal.After-visit g) → items_of c.view_of.result.1.now ≡ viewed_buffer (view_name c.args.view.now) c.args.self.now
buffer_is g c =
    looked_buffer (was g c) _ (view_name c.args.view.now) _ c.self.view_is
    (c.view_of.ensures.buffer
    ∙ ap (λ xs. buffer_at (view_name c.args.view.now) xs c.as_slice.result.now) c.settle_for.ensures.items
    ∙ ap (buffer_at (view_name c.args.view.now) c.self.inside.buffer.items) c.as_slice.ensures.value)

calm : (g : given.Over) (c : goal.After-visit g)
    → IsCalm g.F.Pages.told (g.F.Pages.files c.args.folder.now) (g.F.Pages.files c.visit.new.folder) c.self.inside.cache c.visit.new.cache
    (ids_of c.view_of.result.0.now)
calm g c = calm_cached _ _ _ _ _ _ _ _ _ c.visit.ensures.reading

agreed : (g : given.Over) (c : goal.After-visit g) (i : Index) → Sees g.row.D (g.F.Pages.files c.args.folder.now) c.args.self.now i
    → Agrees (g.F.Pages.files c.args.folder.now) c.self.inside.cache
agreed g c i seen = subst (λ (u : SetData). Agrees (g.F.Pages.files c.args.folder.now) u.cache) (sym c.self.view_is) seen.stands.agrees

pub invariant_of-self : goal.invariant_of-self
invariant_of-self g c =
    subst (IsWell g.row.D) (sym (same g c))
    (looked_well _ _ _ _ (was g c) (view_name c.args.view.now) _ _ c.self.invariant (here g c) (calm g c)
    (unhidden_still g.row.D c.self.inside.cache c.visit.new.cache c.self.inside.segments c.visit.ensures.reading.marks c.self.invariant.unhidden))

pub returns-clause-found : goal.returns-clause-found
returns-clause-found g c told i seen docs is =
    looked_found (λ v. v.docs.items) _ _ _ i (view_name c.args.view.now) _ _ _ docs (parts_are g c) (buffer_is g c) seen is _
    (c.visit.ensures.found told (agreed g c i seen) seen.contents (looked_read _ _ _ i _ _ (parts_are g c) seen))

pub returns-clause-seen : goal.returns-clause-seen
returns-clause-seen g c told i seen =
    subst (λ (s : SetData). Sees g.row.D (g.F.Pages.files c.visit.new.folder) s i) (sym (same g c))
    (looked_sees _ _ _ _ (was g c) _ _ _ c.self.view_is (calm g c) told i seen)

pub returns-clause-rest : goal.returns-clause-rest
returns-clause-rest g c = record { is = same g c ∙ (λ i. record (c.self.view_is i) { cache = c.visit.new.cache }) }

pub returns-clause-counts : goal.returns-clause-counts
returns-clause-counts g c =
    subst (λ (ps : List LiveSegment).
    IfOk c.visit.result (λ v. IsCostOf g.row.D (g.S.Shape.has c.args.shape.now) (g.S.Shape.crosses c.args.shape.now) (heads_of ps) v.cost)) (parts_are g c)
    c.visit.ensures.counts

pub returns-clause-asks : goal.returns-clause-asks
returns-clause-asks g c =
    let long : length c.view_of.result.1.now ≡ length (viewed_buffer (view_name c.args.view.now) c.args.self.now) =
    sym (length-map c.view_of.result.1.now _) ∙ ap length (buffer_is g c) in
    subst (λ n. AsksAtMost g.row.D (g.S.Shape.crosses c.args.shape.now) (heads_of (viewed_parts (view_name c.args.view.now) c.args.self.now)) n
    (g.S.Shape.tests c.args.shape.now) (g.S.Shape.tests c.visit.new.shape) (g.S.Shape.compares c.args.shape.now) (g.S.Shape.compares c.visit.new.shape)) long
    (subst (λ (ps : List LiveSegment). AsksAtMost g.row.D (g.S.Shape.crosses c.args.shape.now) (heads_of ps) (length c.view_of.result.1.now)
    (g.S.Shape.tests c.args.shape.now) (g.S.Shape.tests c.visit.new.shape) (g.S.Shape.compares c.args.shape.now) (g.S.Shape.compares c.visit.new.shape))
    (parts_are g c) c.visit.ensures.asks)

pub returns-clause-reads : goal.returns-clause-reads
returns-clause-reads g c n are =
    c.visit.ensures.reads.most n
    (subst (λ (ps : List LiveSegment). AreTouched g.row.D (g.S.Shape.has c.args.shape.now) (g.S.Shape.crosses c.args.shape.now) (heads_of ps) n)
    (sym (parts_are g c))
    are)

pub returns-clause-faithful : goal.returns-clause-faithful
returns-clause-faithful g c told keeps =
    subst (IsFaithful g.row.D (g.F.Pages.files c.visit.new.folder)) (sym (same g c))
    (looked_faithful g.row.D _ _ _ (was g c) _ _ _ c.self.view_is (calm g c) told keeps)

pub returns-clause-damaged : goal.returns-clause-damaged
returns-clause-damaged g c = record {
  whole = λ told i seen. c.visit.ensures.whole told (agreed g c i seen) seen.contents (looked_read _ _ _ i _ _ (parts_are g c) seen);
  shown = subst (λ (ps : List LiveSegment). OnDamage c.visit.result (IsPartDamage g.row.D ps)) (parts_are g c) c.visit.ensures.shown;
  damage = λ told agrees.
      c.visit.ensures.damage told (subst (λ (u : SetData). Agrees (g.F.Pages.files c.args.folder.now) u.cache) (sym c.self.view_is) agrees);
  evident = looked_evident g.row.D _ _ _ _ _ (view_name c.args.view.now) c.view_of.result.0.now _ _ c.visit.result c.self.view_is (parts_are g c)
      (calm g c) c.visit.ensures.shown c.visit.ensures.damage;
}
