-- One segment is written of the entries, and then their numbers and points are counted.
use Rattle.std.proofs.Common.{◌+◌, IsTrue, length, lit<, refl, sym, ap, subst, ◌∙◌, arith}
use Rattle.point_codec.specs.Seen.{items_of}
use Rattle.segment_set.specs.AtOnce.{points_in}
use Rattle.segment_set.specs.Merges.{IsBufferWritten}
use Rattle.segment_set.specs.Sets.{SetData}
use Rattle.segment_set.proofs.Loaded.{IsLoaded}
use Rattle.segment_set.proofs.LoadedSet.{loaded_as, unloaded_as, unloaded_writes, waiting_as, writes_as}
use Rattle.segment_set.proofs.Refused.{at_error}
use Rattle.segment_set.proofs.Sizes.{set_fits}
use Rattle.segment_set.proofs.set.SegmentSet.write_entries.Given as given
use Rattle.segment_set.proofs.set.SegmentSet.write_entries.Goals as goal
use Rattle.point_codec.proofs.Sizes.{entry_fits}

-- the set as it was, by its fields
abbrev before : (g : given.Over) (c : goal.After-plan-1 g) → SetData
before g c = record {
  leaf_size = c.self.inside.leaf_size;
  next = c.self.inside.buffer.next;
  points_given = c.self.inside.points_given;
  names = c.self.inside.names;
  parts = c.self.inside.segments;
  buffer = c.self.inside.buffer.items;
  snapshots = c.self.inside.snapshots.items;
  begun = c.self.inside.begun;
  cache = c.self.inside.cache;
  saved = c.self.inside.saved;
}

abbrev stopped : (g : given.Over) (c : goal.After-from_residual g) → SetData
stopped g c = record {
  leaf_size = c.self.inside.leaf_size;
  next = c.self.inside.buffer.next;
  points_given = c.self.inside.points_given;
  names = c.self.inside.names;
  parts = c.self.inside.segments;
  buffer = c.self.inside.buffer.items;
  snapshots = c.self.inside.snapshots.items;
  begun = c.self.inside.begun;
  cache = c.self.inside.cache;
  saved = c.self.inside.saved;
}

abbrev was : (g : given.Over) (c : goal.After-self-1 g) → SetData
was g c = record {
  leaf_size = c.self.inside.leaf_size;
  next = c.self.inside.buffer.next;
  points_given = c.self.inside.points_given;
  names = c.self.inside.names;
  parts = c.self.inside.segments;
  buffer = c.self.inside.buffer.items;
  snapshots = c.self.inside.snapshots.items;
  begun = c.self.inside.begun;
  cache = c.self.inside.cache;
  saved = c.self.inside.saved;
}

-- and as it is, where the buffer has passed over the numbers
abbrev is : (g : given.Over) (c : goal.After-self-1 g) → SetData
is g c = record (was g c) {
  names = c.write_entries.new.names;
  parts = c.write_entries.new.segments;
  next = c.pass.new.self.next;
  points_given = c.self.inside.points_given + length c.args.entries.now;
  buffer = c.pass.new.self.items;
}

written : (g : given.Over) (c : goal.After-self-1 g)
    → IsBufferWritten g.row.D (IsTrue g.F.Pages.told) c.self.inside.leaf_size c.self.inside.names c.write_entries.new.names
    (g.F.Pages.files c.write_entries.new.folder) (items_of c.args.entries.now) c.self.inside.segments c.write_entries.new.segments
written g c = subst (λ n. IsBufferWritten g.row.D (IsTrue g.F.Pages.told) n c.self.inside.names c.write_entries.new.names
    (g.F.Pages.files c.write_entries.new.folder) (items_of c.args.entries.now) c.self.inside.segments c.write_entries.new.segments)
    (c.plan-plan.ensures.leaf_size ∙ sym (ap (λ (s : SetData). s.leaf_size) c.self.view_is)) c.in_ok-write_entries.ensures.written

done : (g : given.Over) (c : goal.After-self-1 g)
    → IsLoaded g.row.D (IsTrue g.F.Pages.told) (g.F.Pages.files c.args.folder.now) (g.F.Pages.files c.write_entries.new.folder) (points_in c.args.entries.now)
    c.args.self.now (is g c)
done g c =
    subst (IsLoaded g.row.D (IsTrue g.F.Pages.told) (g.F.Pages.files c.args.folder.now) (g.F.Pages.files c.write_entries.new.folder)
    (points_in c.args.entries.now) c.args.self.now)
    (λ i. record (was g c) {
      names = c.write_entries.new.names;
      parts = c.write_entries.new.segments;
      next = sym c.pass.ensures.next i;
      points_given = c.self.inside.points_given + length c.args.entries.now;
      buffer = sym c.pass.ensures.items i;
    })
    (loaded_as (IsTrue g.F.Pages.told) (g.F.Pages.files c.args.folder.now) (g.F.Pages.files c.write_entries.new.folder) c.args.entries.now (was g c)
    c.args.self.now
    c.self.view_is c.self.invariant c.requires.room c.requires.numbered c.requires.fits c.write_entries.new.names c.write_entries.new.segments
    (c.self.inside.buffer.next + length c.args.entries.now) refl c.write_entries.ensures.kept
    (written g c))

pub plan-plan-requires : goal.plan-plan-requires
plan-plan-requires g c = (set_fits g.row.D c.self.invariant.few_dims, lit< tt)

pub write_entries-requires-after_bounds : goal.write_entries-requires-after_bounds
write_entries-requires-after_bounds g c = λ lifetimes outlive.
    let waits = waiting_as c.args.entries.now (before g c) c.args.self.now c.self.view_is c.self.invariant c.requires.numbered c.requires.fits in (
      lit< tt,
      (
        entry_fits g.row.D c.self.invariant.few_dims,
        (
          lit< tt,
          (
            c.self.invariant.few_dims,
            (
              c.self.invariant.named,
              (c.requires.some, (omega (arith, c.requires.fits), (waits.below, (waits.once, waits.sixteen)))),
            ),
          ),
        ),
      ),
    )

pub pass-requires : goal.pass-requires
pass-requires g c = (
  lit< tt,
  omega (arith, c.requires.fits, c.self.invariant.numbered, ap (λ (s : SetData). s.points_given) c.self.view_is),
)

pub invariant_of-self : goal.invariant_of-self
invariant_of-self g c =
    (unloaded_as (IsTrue g.F.Pages.told) (g.F.Pages.files c.args.folder.now) (g.F.Pages.files c.write_entries.new.folder) (stopped g c) (stopped g c) refl
    c.self.invariant
    c.write_entries.new.names c.write_entries.new.segments c.in_err-write_entries.ensures.refused c.write_entries.ensures.kept).well

pub returns-in_err-write_entries-clause-stays : goal.returns-in_err-write_entries-clause-stays
returns-in_err-write_entries-clause-stays g c = λ told i seen. at_error _ c.from_residual.result c.from_residual.ensures.1 _
    ((unloaded_as (IsTrue g.F.Pages.told) (g.F.Pages.files c.args.folder.now) (g.F.Pages.files c.write_entries.new.folder) (stopped g c) c.args.self.now
    c.self.view_is c.self.invariant
    c.write_entries.new.names c.write_entries.new.segments c.in_err-write_entries.ensures.refused c.write_entries.ensures.kept).seen told i seen)

pub returns-in_err-write_entries-clause-rewrites : goal.returns-in_err-write_entries-clause-rewrites
returns-in_err-write_entries-clause-rewrites g c =
    unloaded_writes (IsTrue g.F.Pages.told) (g.F.Pages.files c.args.folder.now) (g.F.Pages.files c.write_entries.new.folder) (stopped g c) c.args.self.now
    c.self.view_is c.self.invariant
    c.write_entries.new.names c.write_entries.new.segments c.in_err-write_entries.ensures.refused c.write_entries.ensures.kept

pub invariant_of-self-2 : goal.invariant_of-self-2
invariant_of-self-2 g c = (done g c).well

pub returns-clause-seen : goal.returns-clause-seen
returns-clause-seen g c = λ told i seen. (done g c).seen told i seen

pub returns-clause-rewrites : goal.returns-clause-rewrites
returns-clause-rewrites g c = (done g c).rewrites

pub returns-clause-writes : goal.returns-clause-writes
returns-clause-writes g c =
    writes_as (IsTrue g.F.Pages.told) (g.F.Pages.files c.args.folder.now) (g.F.Pages.files c.write_entries.new.folder) c.args.entries.now (was g c)
    c.args.self.now c.self.view_is c.write_entries.new.names c.write_entries.new.segments c.pass.new.self.next c.pass.new.self.items c.pass.ensures.next
    c.pass.ensures.items (written g c)
