use Rattle.std.proofs.Common.{◌≡◌, ◌≤◌, ◌+◌, ◌∙◌, false, List, length, take, sym, subst, rules, arith}
use Rattle.std.specs.Prelude.{IsTrue}
use Rattle.std.specs.List.{AllZip}
use Rattle.std.proofs.lemmas.List.Elements.{All-contains}
use Rattle.outer_io.specs.declared.file_name.FileName.TheVariants.{Segment}
use Rattle.documents.specs.Entries.{is_among}
use Rattle.commit_list.specs.declared.listed.Listed.{Listed}
use Rattle.segment_view.specs.LiveSegments.{LiveSegment, ids_of, live_segment}
use Rattle.segment_view.proofs.Living.{part_in, parts_more}
use Rattle.segment_set.specs.Sets.{IsNamed}
use Rattle.segment_set.specs.Saved.{IsSaved}
use Rattle.segment_set.proofs.Carried.{keeps_then}
use Rattle.segment_set.proofs.SavedSegments.{later_among, later_id, saved_more, take_whole}
use Rattle.segment_set.proofs.save.list_lives.Goals as goal

pub list_one-requires : goal.list_one-requires
list_one-requires g c =
    let p = live_segment c.part.result.0.now c.part.result.1.now in
    let there = part_in c.args.segments.now c.loop-i.i p c.part.ensures in
    let dims = c.len-i-end.ensures.dims in (
      search rules,
      (
        c.loop-i.invariant.kept.more (Segment p.head.id) (All-contains (IsNamed c.args.names.now) c.args.segments.now p c.requires.named there),
        All-contains (λ (q : LiveSegment). length q.live.live ≤ q.head.entries) c.args.segments.now p c.requires.fits there,
      ),
    )

pub loop-i-preserved : goal.loop-i-preserved
loop-i-preserved g c =
    let p = live_segment c.part.result.0.now c.part.result.1.now in
    let parts = c.args.segments.now in
    let was = c.loop-i.invariant in
    let one = c.in_ok-one.ensures in
    record {
      kept = keeps_then (IsTrue g.F.Pages.told) c.args.names.now c.loop-i.names c.list_one.new.names (g.F.Pages.files c.args.folder.now)
          (g.F.Pages.files c.loop-i.folder) (g.F.Pages.files c.list_one.new.folder) was.kept one.kept;
      next = one.next ∙ was.next;
      apart = λ id n none.
          let later = later_among (take c.loop-i.i parts) p id
          (subst (λ (ps : List LiveSegment). is_among (ids_of ps) id ≡ false) (parts_more parts c.loop-i.i p c.part.ensures) none) in
          one.apart id n (λ same. later.1 (same ∙ one.listed.line.segment)) ∙ was.apart id n later.0;
      reads = one.reads ∙ was.reads;
      faults = one.cause.on_ok ∙ was.faults;
      room = omega (arith, was.room, c.push_reserved.ensures.len, c.push_reserved.ensures.capacity, c.loop-i-test.true, c.len-i-end.ensures.value);
      listed = subst
          (λ (ls : List Listed). AllZip
          (IsSaved (IsTrue g.F.Pages.told) c.args.last.now c.args.names.now c.list_one.new.names (g.F.Pages.files c.list_one.new.folder)) ls
          (take (c.loop-i.i + 1) parts)) (sym c.push_reserved.ensures.items)
          (saved_more (IsTrue g.F.Pages.told) c.args.last.now c.args.names.now c.loop-i.names c.list_one.new.names (g.F.Pages.files c.loop-i.folder)
          (g.F.Pages.files c.list_one.new.folder) c.loop-i.listed.items (take c.loop-i.i parts) (take (c.loop-i.i + 1) parts)
          c.in_ok-one.one p one.kept was.kept.more (λ n. was.apart p.head.id n (later_id parts c.loop-i.i p c.requires.ascend c.part.ensures)) one.next
          (parts_more parts c.loop-i.i p c.part.ensures) was.listed one.listed);
    }

pub returns-clause-listed : goal.returns-clause-listed
returns-clause-listed g c =
    let long : length c.args.segments.now ≤ c.loop-i.i = omega (arith, c.loop-i-test.false, c.len-i-end.ensures.value) in
    subst (AllZip (IsSaved (IsTrue g.F.Pages.told) c.args.last.now c.args.names.now c.loop-i.names (g.F.Pages.files c.loop-i.folder)) c.loop-i.listed.items)
    (take_whole c.args.segments.now c.loop-i.i long) c.loop-i.invariant.listed

pub returns-clause-reads : goal.returns-clause-reads
returns-clause-reads g c = c.loop-i.invariant.reads

pub returns-in_err-one-clause-kept : goal.returns-in_err-one-clause-kept
returns-in_err-one-clause-kept g c =
    keeps_then (IsTrue g.F.Pages.told) c.args.names.now c.loop-i.names c.list_one.new.names (g.F.Pages.files c.args.folder.now)
    (g.F.Pages.files c.loop-i.folder) (g.F.Pages.files c.list_one.new.folder) c.loop-i.invariant.kept c.in_err-one.ensures.kept
