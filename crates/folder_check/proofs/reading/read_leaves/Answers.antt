use Rattle.std.proofs.Common.{◌∙◌, ◌≡◌, ◌++◌, List, ap, length, sym, subst, arith}
use Rattle.std.proofs.lemmas.List.{length_push, take_all}
use Rattle.std.proofs.lemmas.List.Elements.{All-contains}
use Rattle.std.proofs.lemmas.Result.{err_from_is_err_and}
use Rattle.outer_io.specs.Files.{Files}
use Rattle.point_codec.specs.Points.{Item}
use Rattle.point_codec.specs.Seen.{items_of}
use Rattle.page_cache.specs.Cache.{Agrees}
use Rattle.segment_file.specs.Damages.{IsLeafDamageOf}
use Rattle.page_cache.specs.Evidence.{FaultShows}
use Rattle.segment_view.specs.Held.{AreHeld, HasOwnHead}
use Rattle.segment_view.specs.LiveSegments.{LiveSegment, live_segment}
use Rattle.segment_view.proofs.Living.{part_in}
use Rattle.folder_check.specs.Found.{HasSegment, IsFinding}
use Rattle.folder_check.proofs.KeptEntries.{held_pushed}
use Rattle.folder_check.proofs.Leaves.{fault_of_part, found_more}
use Rattle.folder_check.proofs.Pages.{one_read, pages_more, pages_upto}
use Rattle.folder_check.proofs.First.{first_leaf}
use Rattle.folder_check.proofs.reading.read_leaves.Goals as goal

pub loop-i-preserved : goal.loop-i-preserved
loop-i-preserved g c =
    let was = c.loop-i.invariant in
    let one = c.in_ok-finding.ensures in
    let parts = c.args.segments.now in
    let p = live_segment c.part.result.0.now c.part.result.1.now in
    let files = g.F.Pages.files c.args.folder.now in
    record {
      files = λ told. one.files told ∙ was.files told;
      agrees = λ told. subst (λ (f : Files). Agrees f c.read_segment.new.cache) (was.files told)
          (one.agrees told (subst (λ (f : Files). Agrees f c.loop-i.cache) (sym (was.files told)) (was.agrees told)));
      faults = one.cause.on_ok ∙ was.faults;
      reads = λ told own.
          let step = pages_more files parts c.loop-i.i p c.part.ensures in
          let before = was.reads told own in
          let there = part_in parts c.loop-i.i p c.part.ensures in
          let here = one_read g.row.D files (g.F.Pages.files c.loop-i.folder) parts p _ _ (was.files told) own there (one.reads told) in
          omega (arith, step, before, here);
      kept = λ keeps told own.
          held_pushed g.row.D files (g.F.Pages.files c.loop-i.folder) parts c.loop-i.i p (items_of c.args.kept.now.items) (items_of c.loop-i.kept.items)
          (items_of c.read_segment.new.kept.items) c.part.ensures (was.files told) (was.kept keeps told own)
          (one.kept keeps told (subst (λ (f : Files). Agrees f c.loop-i.cache) (sym (was.files told)) (was.agrees told))
          (subst (λ (f : Files). HasOwnHead g.row.D f p) (sym (was.files told))
          (All-contains (HasOwnHead g.row.D files) parts p own (part_in parts c.loop-i.i p c.part.ensures))));
      each =
          let is = ap length c.in_ok-extend_from_slice.ensures.items in
          let more = length_push c.loop-i.findings.items c.in_ok-finding.finding in
          let was_long = was.each in omega (arith, is, more, was_long);
      found = λ told own.
          found_more g.row.D files parts c.loop-i.i p c.loop-i.findings.items _ c.in_ok-finding.finding c.part.ensures c.in_ok-extend_from_slice.ensures.items
          (subst (λ (f : Files). IsFinding g.row.D f p c.in_ok-finding.finding) (was.files told)
          (one.found told (subst (λ (f : Files). Agrees f c.loop-i.cache) (sym (was.files told)) (was.agrees told))
          (subst (λ (f : Files). HasOwnHead g.row.D f p) (sym (was.files told))
          (All-contains (HasOwnHead g.row.D files) parts p own (part_in parts c.loop-i.i p c.part.ensures)))))
          (was.found told own);
    }

pub returns-in_err-finding-clause-files : goal.returns-in_err-finding-clause-files
returns-in_err-finding-clause-files g c = λ told. c.in_err-finding.ensures.files told ∙ c.loop-i.invariant.files told

pub returns-in_err-finding-clause-reads : goal.returns-in_err-finding-clause-reads
returns-in_err-finding-clause-reads g c = λ told own.
    let files = g.F.Pages.files c.args.folder.now in
    let parts = c.args.segments.now in
    let p = live_segment c.part.result.0.now c.part.result.1.now in
    let most = pages_upto files parts c.loop-i.i p c.part.ensures in
    let before = c.loop-i.invariant.reads told own in
    let same = c.loop-i.invariant.files told in
    let there = part_in parts c.loop-i.i p c.part.ensures in
    let here = one_read g.row.D files (g.F.Pages.files c.loop-i.folder) parts p _ _ same own there (c.in_err-finding.ensures.reads told) in
    omega (arith, most, before, here)

pub returns-in_err-finding-clause-shown : goal.returns-in_err-finding-clause-shown
returns-in_err-finding-clause-shown g c =
    let e = err_from_is_err_and c.from_residual-in_err-finding.result c.from_residual-in_err-finding.ensures.1 in
    let p = live_segment c.part.result.0.now c.part.result.1.now in
    rw (e.1, e.2)
    (fault_of_part g.row.D c.args.segments.now p c.in_err-finding.field-0.0 (part_in c.args.segments.now c.loop-i.i p c.part.ensures)
    c.in_err-finding.ensures.shown)

pub returns-in_err-finding-clause-damage : goal.returns-in_err-finding-clause-damage
returns-in_err-finding-clause-damage g c = λ told.
    let e = err_from_is_err_and c.from_residual-in_err-finding.result c.from_residual-in_err-finding.ensures.1 in
    let same = c.loop-i.invariant.files told in
    rw (e.1, e.2)
    (subst (λ (f : Files). FaultShows (IsLeafDamageOf f) c.in_err-finding.field-0.0) same
    (c.in_err-finding.ensures.damage told (subst (λ (f : Files). Agrees f c.loop-i.cache) (sym same) (c.loop-i.invariant.agrees told))))

pub returns-in_err-finding-clause-whole : goal.returns-in_err-finding-clause-whole
returns-in_err-finding-clause-whole g c = λ told have.
    let e = err_from_is_err_and c.from_residual-in_err-finding.result c.from_residual-in_err-finding.ensures.1 in
    let same = c.loop-i.invariant.files told in
    let p = live_segment c.part.result.0.now c.part.result.1.now in
    rw (e.1, e.2)
    (c.in_err-finding.ensures.whole told (subst (λ (f : Files). Agrees f c.loop-i.cache) (sym same) (c.loop-i.invariant.agrees told))
    (subst (λ (f : Files). HasSegment g.row.D f p) (sym same)
    (All-contains (HasSegment g.row.D (g.F.Pages.files c.args.folder.now)) c.args.segments.now p have
    (part_in c.args.segments.now c.loop-i.i p c.part.ensures))))

pub returns-in_err-extend_from_slice-clause-reads : goal.returns-in_err-extend_from_slice-clause-reads
returns-in_err-extend_from_slice-clause-reads g c = λ told own.
    let files = g.F.Pages.files c.args.folder.now in
    let parts = c.args.segments.now in
    let p = live_segment c.part.result.0.now c.part.result.1.now in
    let most = pages_upto files parts c.loop-i.i p c.part.ensures in
    let before = c.loop-i.invariant.reads told own in
    let same = c.loop-i.invariant.files told in
    let there = part_in parts c.loop-i.i p c.part.ensures in
    let here = one_read g.row.D files (g.F.Pages.files c.loop-i.folder) parts p _ _ same own there (c.in_ok-finding.ensures.reads told) in
    omega (arith, most, before, here)

pub returns-in_err-finding-clause-first : goal.returns-in_err-finding-clause-first
returns-in_err-finding-clause-first g c = λ told own.
    let e = err_from_is_err_and c.from_residual-in_err-finding.result c.from_residual-in_err-finding.ensures.1 in
    let p = live_segment c.part.result.0.now c.part.result.1.now in
    rw (e.1, e.2)
    (first_leaf g.row.D (g.F.Pages.files c.args.folder.now) c.args.segments.now c.loop-i.i p c.loop-i.findings.items c.in_err-finding.field-0.0 c.part.ensures
    (c.loop-i.invariant.found told own) c.in_err-finding.ensures.shown)

pub returns-clause-kept : goal.returns-clause-kept
returns-clause-kept g c = λ keeps told own.
    subst (λ (ps : List LiveSegment). (more : List Item) × (items_of c.loop-i.kept.items ≡ items_of c.args.kept.now.items ++ more)
    × AreHeld g.row.D (g.F.Pages.files c.args.folder.now) ps more)
    (take_all c.loop-i.i c.args.segments.now (omega (arith, c.loop-i-test.false, c.len-i-end.ensures.value)))
    (c.loop-i.invariant.kept keeps told own)
