-- What is found are the nearest documents that the view shows.
use Rattle.std.proofs.lemmas.Result.{IfOk-weaker}
use Rattle.std.proofs.Common.{◌≡◌, List, IfOk, sym, ap, subst, ◌∙◌, lit<}
use Rattle.point_codec.specs.Points.{Item}
use Rattle.point_codec.specs.Seen.{items_of}
use Rattle.page_cache.specs.Cache.{Agrees}
use Rattle.page_cache.specs.Evidence.{OnDamage}
use Rattle.documents.specs.NearestEntries.{IsNearest, nears_of}
use Rattle.nearest_query.specs.Segments.{AreNearLeaves, bound_of}
use Rattle.script_lang.specs.Seen.{view_name}
use Rattle.segment_view.specs.LiveSegments.{AreRead, LiveSegment, heads_of, ids_of}
use Rattle.segment_view.specs.Calm.{IsCalm}
use Rattle.segment_view.specs.Damages.{IsPartDamage}
use Rattle.segment_view.proofs.Reading.{calm_marking}
use Rattle.index_model.specs.State.{Index}
use Rattle.segment_set.specs.Sets.{IsWell, SetData, buffer_at, parts_at, viewed_buffer, viewed_parts}
use Rattle.segment_set.specs.Seen.{Sees, entries_seen}
use Rattle.segment_set.specs.Faithful.{IsFaithful}
use Rattle.segment_set.proofs.Sizes.{point_fits}
use Rattle.segment_set.proofs.Viewed.{looked_buffer, looked_nearest, looked_parts, looked_read, looked_sees, looked_unhidden, looked_well, unhidden_in}
use Rattle.segment_set.proofs.Viewed.{viewed_read}
use Rattle.segment_set.proofs.Viewing.{looked_evident, looked_faithful}
use Rattle.segment_set.proofs.set.SegmentSet.nearest.Given as given
use Rattle.segment_set.proofs.set.SegmentSet.nearest.Goals as goal
use Rattle.point_codec.proofs.Sizes.{entry_fits}

-- the set as it was, by its fields
abbrev was : (g : given.Over) (c : goal.After-nearest g) → SetData
was g c = record {
  leaf_size = c.self.inside.leaf_size;
  next = c.self.inside.buffer.next;
  points_given = c.self.inside.points_given;
  names = c.self.inside.names;
  parts = c.self.inside.segments;
  buffer = c.self.inside.buffer.items;
  snapshots = c.self.inside.snapshots.items;
  begun = c.self.inside.begun;
  cache = c.self.inside.cache;
  saved = c.self.inside.saved;
}

-- and as it is, which but for its cache is the same
abbrev is : (g : given.Over) (c : goal.After-nearest g) → SetData
is g c = record (was g c) { next = c.settle_for.new.buffer.next; buffer = c.settle_for.new.buffer.items; cache = c.nearest.new.cache }

same : (g : given.Over) (c : goal.After-nearest g) → is g c ≡ record (was g c) { cache = c.nearest.new.cache }
same g c = λ i. record (was g c) {
  next = c.settle_for.ensures.next i;
  buffer = c.settle_for.ensures.items i;
  cache = c.nearest.new.cache;
}

here : (g : given.Over) (c : goal.After-nearest g)
    → c.view_of.result.0.now ≡ parts_at (view_name c.args.view.now) c.self.inside.segments c.self.inside.snapshots.items
here g c = c.view_of.ensures.segments ∙ ap (parts_at (view_name c.args.view.now) c.self.inside.segments) c.as_slice.ensures.value

parts_are : (g : given.Over) (c : goal.After-nearest g) → c.view_of.result.0.now ≡ viewed_parts (view_name c.args.view.now) c.args.self.now
parts_are g c = looked_parts (was g c) _ (view_name c.args.view.now) _ c.self.view_is (here g c)

buffer_is : (g : given.Over) (c : goal.After-nearest g) → items_of c.view_of.result.1.now ≡ viewed_buffer (view_name c.args.view.now) c.args.self.now
buffer_is g c =
    looked_buffer (was g c) _ (view_name c.args.view.now) _ c.self.view_is
    (c.view_of.ensures.buffer
    ∙ ap (λ xs. buffer_at (view_name c.args.view.now) xs c.as_slice.result.now) c.settle_for.ensures.items
    ∙ ap (buffer_at (view_name c.args.view.now) c.self.inside.buffer.items) c.as_slice.ensures.value)

calm : (g : given.Over) (c : goal.After-nearest g)
    → IsCalm g.F.Pages.told (g.F.Pages.files c.args.folder.now) (g.F.Pages.files c.nearest.new.folder) c.self.inside.cache c.nearest.new.cache
    (ids_of c.view_of.result.0.now)
calm g c = calm_marking _ _ _ _ _ _ _ _ _ c.nearest.ensures.reading

agreed : (g : given.Over) (c : goal.After-nearest g) (i : Index) → Sees g.row.D (g.F.Pages.files c.args.folder.now) c.args.self.now i
    → Agrees (g.F.Pages.files c.args.folder.now) c.self.inside.cache
agreed g c i seen = subst (λ (u : SetData). Agrees (g.F.Pages.files c.args.folder.now) u.cache) (sym c.self.view_is) seen.stands.agrees

pub invariant_of-self : goal.invariant_of-self
invariant_of-self g c =
    subst (IsWell g.row.D) (sym (same g c))
    (looked_well _ _ _ _ (was g c) (view_name c.args.view.now) _ _ c.self.invariant (here g c) (calm g c)
    (looked_unhidden g.row.D c.is_of_now-watched.result (was g c) (view_name c.args.view.now) c.view_of.result.0.now c.nearest.new.cache (here g c)
    c.is_of_now-watched.ensures c.nearest.ensures.marks.hides c.nearest.ensures.marks.go c.self.invariant.unhidden))

pub nearest-requires : goal.nearest-requires
nearest-requires g c =
    let dims = c.self.invariant.few_dims in (
      lit< tt,
      (
        entry_fits g.row.D dims,
        (
          point_fits g.row.D dims,
          (
            c.requires.some,
            (
              c.requires.few,
              λ watched.
                  unhidden_in g.row.D c.self.inside.cache c.self.inside.segments c.self.inside.snapshots.items (view_name c.args.view.now)
                  c.view_of.result.0.now
                  (c.view_of.ensures.segments ∙ ap (parts_at (view_name c.args.view.now) c.self.inside.segments) c.as_slice.ensures.value)
                  (c.is_of_now-watched.ensures watched) c.self.invariant.unhidden,
            ),
          ),
        ),
      ),
    )

pub returns-clause-found : goal.returns-clause-found
returns-clause-found g c told i seen docs is =
    looked_nearest (λ v. v.docs.items) _ _ _ i (view_name c.args.view.now) _ _ _ _ docs (parts_are g c) (buffer_is g c) seen is _
    (IfOk-weaker c.nearest.result _ _ (λ v h. h.docs)
    (c.nearest.ensures.answer told (agreed g c i seen) seen.contents (looked_read _ _ _ i _ _ (parts_are g c) seen)))

pub returns-clause-touches : goal.returns-clause-touches
returns-clause-touches g c told i seen =
    subst (λ (ps : List LiveSegment).
    IfOk c.nearest.result (λ v. AreNearLeaves g.row.D c.args.at.now.c (bound_of c.args.k v.docs.items) (heads_of ps) v.touched)) (parts_are g c)
    (IfOk-weaker c.nearest.result _ _ (λ v h. h.touched)
    (c.nearest.ensures.answer told (agreed g c i seen) seen.contents (looked_read _ _ _ i _ _ (parts_are g c) seen)))

pub returns-clause-seen : goal.returns-clause-seen
returns-clause-seen g c told i seen =
    subst (λ (s : SetData). Sees g.row.D (g.F.Pages.files c.nearest.new.folder) s i) (sym (same g c))
    (looked_sees _ _ _ _ (was g c) _ _ _ c.self.view_is (calm g c) told i seen)

pub returns-clause-rest : goal.returns-clause-rest
returns-clause-rest g c = record { is = same g c ∙ (λ i. record (c.self.view_is i) { cache = c.nearest.new.cache }) }

pub returns-clause-reads : goal.returns-clause-reads
returns-clause-reads g c told contents stands found is leaves are =
    c.nearest.ensures.reads told (subst (λ (u : SetData). Agrees (g.F.Pages.files c.args.folder.now) u.cache) (sym c.self.view_is) stands.agrees) contents
    (subst (AreRead g.row.D (g.F.Pages.files c.args.folder.now) contents) (sym (parts_are g c)) (viewed_read _ _ contents (view_name c.args.view.now) _ stands))
    found
    (subst (λ (ps : List LiveSegment). IsNearest c.args.k (nears_of c.args.at.now.c (entries_seen contents ps (items_of c.view_of.result.1.now))) found)
    (sym (parts_are g c))
    (subst (λ (xs : List Item).
    IsNearest c.args.k (nears_of c.args.at.now.c (entries_seen contents (viewed_parts (view_name c.args.view.now) c.args.self.now) xs)) found)
    (sym (buffer_is g c)) is))
    leaves
    (subst (λ (ps : List LiveSegment). AreNearLeaves g.row.D c.args.at.now.c (bound_of c.args.k found) (heads_of ps) leaves) (sym (parts_are g c)) are)

pub returns-clause-faithful : goal.returns-clause-faithful
returns-clause-faithful g c told keeps =
    subst (IsFaithful g.row.D (g.F.Pages.files c.nearest.new.folder)) (sym (same g c))
    (looked_faithful g.row.D _ _ _ (was g c) _ _ _ c.self.view_is (calm g c) told keeps)

pub returns-clause-damaged : goal.returns-clause-damaged
returns-clause-damaged g c = record {
  whole = λ told i seen. c.nearest.ensures.whole told (agreed g c i seen) seen.contents (looked_read _ _ _ i _ _ (parts_are g c) seen);
  shown = subst (λ (ps : List LiveSegment). OnDamage c.nearest.result (IsPartDamage g.row.D ps)) (parts_are g c) c.nearest.ensures.shown;
  damage = λ told agrees.
      c.nearest.ensures.damage told (subst (λ (u : SetData). Agrees (g.F.Pages.files c.args.folder.now) u.cache) (sym c.self.view_is) agrees);
  evident = looked_evident g.row.D _ _ _ _ _ (view_name c.args.view.now) c.view_of.result.0.now _ _ c.nearest.result c.self.view_is (parts_are g c)
      (calm g c) c.nearest.ensures.shown c.nearest.ensures.damage;
}
