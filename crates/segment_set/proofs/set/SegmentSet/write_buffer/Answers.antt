use Rattle.std.proofs.Common.{◌≡◌, ◌≤◌, ◌+◌, ◌<◌, ℕ, IsTrue, List, [], length, lit<, refl, sym, ap, subst, ◌∙◌, inl, inr, arith}
use Rattle.std.specs.Result.{OnOk}
use Rattle.std.specs.List.{All}
use Rattle.std.proofs.lemmas.Bool.Decides.{nat_tests}
use Rattle.std.proofs.lemmas.Result.{on_err_weaker, on_ok_weaker}
use Rattle.outer_io.specs.declared.file_name.FileName.TheVariants.{Segment}
use Rattle.page_cache.proofs.Agreement.{agrees_other}
use Rattle.segment_view.specs.LiveSegments.{LiveSegment}
use Rattle.merge_policy.specs.Choice.{free_count}
use Rattle.segment_set.specs.Sets.{IsNamed, IsWell, SetData, inputs_of, pins_of, sizes_of}
use Rattle.segment_set.specs.Kept.{IsAsBefore}
use Rattle.segment_set.specs.Merged.{Rearranges}
use Rattle.segment_set.specs.Merges.{IsBufferWritten, part_at}
use Rattle.segment_set.specs.Settles.{WritesBuffer, moment}
use Rattle.segment_set.specs.Faithful.{IsFaithful}
use Rattle.segment_set.proofs.Faithful.{faithful_rearranged}
use Rattle.segment_set.proofs.Leveled.{free_placed, pinned}
use Rattle.segment_set.proofs.Moved.{moved}
use Rattle.segment_set.proofs.Rearranged.{both_ok, empty_list, rearranges_after, rearranges_none, waiting_below}
use Rattle.segment_set.proofs.Settled.{before_moved, writes_moved}
use Rattle.segment_set.proofs.Sizes.{set_fits}
use Rattle.segment_set.proofs.WrittenBuffer.{written_after}
use Rattle.segment_set.proofs.Steps.{IsAfter, ok_or_err}
use Rattle.segment_set.proofs.set.SegmentSet.write_buffer.Given as given
use Rattle.segment_set.proofs.set.SegmentSet.write_buffer.Goals as goal

-- the set as it was, by its fields
abbrev was : (g : given.Over) (c : goal.After-write_buffer g) → SetData
was g c = record {
  leaf_size = c.self.inside.leaf_size;
  next = c.self.inside.buffer.next;
  points_given = c.self.inside.points_given;
  names = c.self.inside.names;
  parts = c.self.inside.segments;
  buffer = c.self.inside.buffer.items;
  snapshots = c.self.inside.snapshots.items;
  begun = c.self.inside.begun;
  cache = c.self.inside.cache;
  saved = c.self.inside.saved;
}

-- and the set as it is after the buffer was written
abbrev is : (g : given.Over) (c : goal.After-write_buffer g) → SetData
is g c = moved (was g c) c.write_buffer.new.names c.write_buffer.new.segments c.write_buffer.new.buffer.items c.self.inside.begun c.self.inside.cache

-- with the next number of the buffer it is the same set
now : (g : given.Over) (c : goal.After-write_buffer g) → record (is g c) { next = c.write_buffer.new.buffer.next } ≡ is g c
now g c = λ i. record (is g c) { next = c.write_buffer.ensures.next i }

few : (g : given.Over) (c : goal.After-write_buffer g) → length c.self.inside.segments < 200
few g c = subst (λ (s : SetData). length s.parts < 200) (sym c.self.view_is) c.requires

written : (g : given.Over) (c : goal.After-write_buffer g)
    → OnOk c.write_buffer.result
    (IsBufferWritten g.row.D (IsTrue g.F.Pages.told) c.self.inside.leaf_size c.self.inside.names c.write_buffer.new.names
    (g.F.Pages.files c.write_buffer.new.folder)
    c.self.inside.buffer.items
    c.self.inside.segments c.write_buffer.new.segments)
written g c =
    subst (λ n. OnOk c.write_buffer.result
    (IsBufferWritten g.row.D (IsTrue g.F.Pages.told) n c.self.inside.names c.write_buffer.new.names (g.F.Pages.files c.write_buffer.new.folder)
    c.self.inside.buffer.items
    c.self.inside.segments c.write_buffer.new.segments))
    (c.plan-plan.ensures.leaf_size ∙ sym (ap (λ (s : SetData). s.leaf_size) c.self.view_is)) c.write_buffer.ensures.written

after : (g : given.Over) (c : goal.After-write_buffer g)
    → IsAfter g.row.D (IsTrue g.F.Pages.told) (g.F.Pages.files c.args.folder.now) (g.F.Pages.files c.write_buffer.new.folder) (was g c) (is g c)
after g c =
    written_after g.row.D (IsTrue g.F.Pages.told) (g.F.Pages.files c.args.folder.now) (g.F.Pages.files c.write_buffer.new.folder) {s = was g c} c.self.invariant
    c.write_buffer.new.names c.write_buffer.new.segments c.write_buffer.new.buffer.items (few g c)
    c.write_buffer.ensures.kept c.write_buffer.result
    (both_ok
    (IsBufferWritten g.row.D (IsTrue g.F.Pages.told) c.self.inside.leaf_size c.self.inside.names c.write_buffer.new.names
    (g.F.Pages.files c.write_buffer.new.folder)
    c.self.inside.buffer.items c.self.inside.segments c.write_buffer.new.segments)
    (c.write_buffer.new.buffer.items ≡ [])
    c.write_buffer.result (written g c) c.write_buffer.ensures.emptied)
    c.write_buffer.ensures.refused

pub plan-plan-requires : goal.plan-plan-requires
plan-plan-requires g c = (set_fits g.row.D c.self.invariant.few_dims, lit< tt)

pub write_buffer-requires-after_bounds : goal.write_buffer-requires-after_bounds
write_buffer-requires-after_bounds g c = λ lifetimes outlive.
    let entries = c.self.inside.buffer.items in
    let dims = c.self.invariant.few_dims in
    let some : 1 ≤ length entries = grind (arith, nat_tests, c.is_empty.ensures, c.if-is_empty.false) in
    let below = waiting_below (record {
      leaf_size = c.self.inside.leaf_size;
      next = c.self.inside.buffer.next;
      points_given = c.self.inside.points_given;
      names = c.self.inside.names;
      parts = c.self.inside.segments;
      buffer = c.self.inside.buffer.items;
      snapshots = c.self.inside.snapshots.items;
      begun = c.self.inside.begun;
      cache = c.self.inside.cache;
      saved = c.self.inside.saved;
    }) c.self.invariant in (
      lit< tt,
      (
        lit< tt,
        (
          lit< tt,
          (
            dims,
            (
              c.self.invariant.named,
              (some, (c.self.invariant.room, (below, (c.self.invariant.once, c.self.invariant.sixteen)))),
            ),
          ),
        ),
      ),
    )

pub returns-then-is_empty-clause-well : goal.returns-then-is_empty-clause-well
returns-then-is_empty-clause-well g c = subst (IsWell g.row.D) c.self.view_is c.self.invariant

pub returns-then-is_empty-clause-moves : goal.returns-then-is_empty-clause-moves
returns-then-is_empty-clause-moves g c =
    rearranges_none g.row.D (IsTrue g.F.Pages.told) (g.F.Pages.files c.args.folder.now) c.args.self.now
    (subst (λ (s : SetData). All (IsNamed s.names) s.parts) c.self.view_is c.self.invariant.named)

pub returns-then-is_empty-clause-emptied : goal.returns-then-is_empty-clause-emptied
returns-then-is_empty-clause-emptied g c =
    sym (ap (λ (s : SetData). s.buffer) c.self.view_is)
    ∙ empty_list c.self.inside.buffer.items (grind (arith, nat_tests, c.is_empty.ensures, c.if-is_empty.true))

pub invariant_of-self : goal.invariant_of-self
invariant_of-self g c = subst (IsWell g.row.D) (sym (now g c)) (after g c).well

moves : (g : given.Over) (c : goal.After-write_buffer g)
    → Rearranges g.row.D (IsTrue g.F.Pages.told) (g.F.Pages.files c.args.folder.now) (g.F.Pages.files c.write_buffer.new.folder) (was g c) (is g c)
moves g c =
    rearranges_after g.row.D (IsTrue g.F.Pages.told) (g.F.Pages.files c.args.folder.now) (g.F.Pages.files c.write_buffer.new.folder) {s = was g c}
    c.write_buffer.new.names c.write_buffer.new.segments c.write_buffer.new.buffer.items c.self.inside.cache
    c.write_buffer.ensures.kept (after g c)

pub returns-clause-moves : goal.returns-clause-moves
returns-clause-moves g c =
    subst (λ (s : SetData). Rearranges g.row.D (IsTrue g.F.Pages.told) (g.F.Pages.files c.args.folder.now) (g.F.Pages.files c.write_buffer.new.folder) s
    (record (is g c) { next = c.write_buffer.new.buffer.next })) c.self.view_is
    (subst (Rearranges g.row.D (IsTrue g.F.Pages.told) (g.F.Pages.files c.args.folder.now) (g.F.Pages.files c.write_buffer.new.folder) (was g c))
    (sym (now g c)) (moves g c))

pub returns-then-is_empty-clause-faithful : goal.returns-then-is_empty-clause-faithful
returns-then-is_empty-clause-faithful g c = λ told faithful. faithful

pub returns-then-is_empty-clause-cache : goal.returns-then-is_empty-clause-cache
returns-then-is_empty-clause-cache g c = refl

pub returns-clause-cache : goal.returns-clause-cache
returns-clause-cache g c = ap (λ (s : SetData). s.cache) c.self.view_is

-- the cache stays, and the files of which it keeps pages are named
pub returns-clause-faithful : goal.returns-clause-faithful
returns-clause-faithful g c = λ told faithful.
    subst (IsFaithful g.row.D (g.F.Pages.files c.write_buffer.new.folder)) (sym (now g c))
    (faithful_rearranged g.row.D (IsTrue g.F.Pages.told) (g.F.Pages.files c.args.folder.now) (g.F.Pages.files c.write_buffer.new.folder) (was g c) (is g c)
    c.self.invariant (moves g c) told
    (agrees_other (g.F.Pages.files c.args.folder.now) (g.F.Pages.files c.write_buffer.new.folder) c.self.inside.cache
    (λ id kept. c.write_buffer.ensures.kept.files told (Segment id) (c.self.invariant.cached id kept)))
    (subst (IsFaithful g.row.D (g.F.Pages.files c.args.folder.now)) (sym c.self.view_is) faithful))

pub returns-clause-one_more : goal.returns-clause-one_more
returns-clause-one_more g c = λ level.
    let inputs = inputs_of c.self.inside.begun in
    let free : List LiveSegment → ℕ = λ parts. free_count level (sizes_of parts) (pinned inputs parts) in
    subst (λ (s : SetData). free c.write_buffer.new.segments ≤ free_count level (sizes_of s.parts) (pins_of s.begun s.parts) + 1) c.self.view_is
    (elim (ok_or_err c.write_buffer.result (written g c) c.write_buffer.ensures.refused) [
      | inl s ↦ free_placed level inputs (part_at s.put.id s.n) c.self.inside.segments c.write_buffer.new.segments s.put.placed
      | inr same ↦ omega (arith, ap free same.0)
    ])

pub returns-then-is_empty-clause-reads : goal.returns-then-is_empty-clause-reads
returns-then-is_empty-clause-reads g c = refl

pub returns-clause-reads : goal.returns-clause-reads
returns-clause-reads g c = c.write_buffer.ensures.reads

pub returns-then-is_empty-clause-writes : goal.returns-then-is_empty-clause-writes
returns-then-is_empty-clause-writes g c = inl refl

pub returns-clause-writes : goal.returns-clause-writes
returns-clause-writes g c = on_ok_weaker c.write_buffer.result
    (λ h. inr
    (subst (λ (s : SetData). WritesBuffer g.row.D (IsTrue g.F.Pages.told) (moment (g.F.Pages.files c.args.folder.now) c.args.self.now)
    (moment (g.F.Pages.files c.write_buffer.new.folder) s)) (sym (now g c))
    (writes_moved g.row.D (IsTrue g.F.Pages.told) (g.F.Pages.files c.args.folder.now) (g.F.Pages.files c.write_buffer.new.folder) c.args.self.now
    (was g c) c.self.view_is c.write_buffer.new.names c.write_buffer.new.segments c.write_buffer.new.buffer.items h.0 h.1)))
    (both_ok
    (IsBufferWritten g.row.D (IsTrue g.F.Pages.told) c.self.inside.leaf_size c.self.inside.names c.write_buffer.new.names
    (g.F.Pages.files c.write_buffer.new.folder)
    c.self.inside.buffer.items c.self.inside.segments c.write_buffer.new.segments)
    (c.write_buffer.new.buffer.items ≡ [])
    c.write_buffer.result (written g c) c.write_buffer.ensures.emptied)

pub returns-clause-refused : goal.returns-clause-refused
returns-clause-refused g c = on_err_weaker c.write_buffer.result
    (λ r. subst (IsAsBefore c.args.self.now) (sym (now g c))
    (before_moved c.args.self.now (was g c) c.self.view_is c.write_buffer.new.names c.write_buffer.new.segments c.write_buffer.new.buffer.items
    c.self.inside.cache r.0 r.1)) c.write_buffer.ensures.refused
