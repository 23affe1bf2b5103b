use Rattle.std.proofs.Common.{◌∙◌, List, ap}
use Rattle.std.specs.Prelude.{filter}
use Rattle.std.proofs.lemmas.Result.{err_from_is_err_and}
use Rattle.outer_io.specs.Files.{bytes_of}
use Rattle.outer_io.specs.declared.file_name.FileName.TheVariants.{Segment}
use Rattle.point_codec.specs.Points.{Item}
use Rattle.live_bits.specs.LiveSet.{is_live}
use Rattle.inner_pack.specs.Places.{front}
use Rattle.segment_file.specs.Segments.{IsHeadOf, IsSegment}
use Rattle.segment_file.proofs.Entries.{appended, only_live}
use Rattle.segment_file.proofs.Unique.{tree_once}
use Rattle.segment_file.proofs.read.read_entries.Goals as goal

pub returns-in_err-gather_all-clause-shown : goal.returns-in_err-gather_all-clause-shown
returns-in_err-gather_all-clause-shown g c = λ root t has.
    let e = err_from_is_err_and c.from_residual-in_err-gather_all.result c.from_residual-in_err-gather_all.ensures.1 in
    rw (e.1, e.2) (c.in_err-gather_all.ensures.shown root t has)

pub returns-in_err-gather_all-clause-whole : goal.returns-in_err-gather_all-clause-whole
returns-in_err-gather_all-clause-whole g c = λ told agrees items p.
    let e = err_from_is_err_and c.from_residual-in_err-gather_all.result c.from_residual-in_err-gather_all.ensures.1 in
    rw (e.1, e.2) (c.in_err-gather_all.ensures.whole told agrees items p)

pub unreachable-requires : goal.unreachable-requires
unreachable-requires g c = (rw c.in-Numbers.is at c.in_ok-gather_all.ensures.added).1

pub returns-clause-gathers : goal.returns-clause-gathers
returns-clause-gathers g c = λ told agrees root t has.
    let got = rw c.in-Entries.is at (c.in_ok-gather_all.ensures.gathers told agrees root t has) in
    record { items = got.items; holds = got.holds; so = appended c.args.live.now _ _ got.items c.in_ok-list.ensures.items got.so }

pub returns-clause-spelled : goal.returns-clause-spelled
unfolding IsSegment IsHeadOf
returns-clause-spelled g c = λ told agrees p.
    let got = rw c.in-Entries.is at (c.in_ok-gather_all.ensures.gathers told agrees p.root p.tree p.spells.has) in (
      got.items,
      record { head_is = p; root = p.root; tree = p.tree; has = p.spells.has; holds = got.holds },
      appended c.args.live.now _ _ got.items c.in_ok-list.ensures.items got.so,
    )

pub returns-clause-entries : goal.returns-clause-entries
unfolding IsSegment
returns-clause-entries g c = λ told agrees items p.
    let got = rw c.in-Entries.is at (c.in_ok-gather_all.ensures.gathers told agrees p.root p.tree p.has) in
    let same = tree_once g.row.D (bytes_of (g.F.Pages.files c.args.folder.now (Segment c.args.head.now.id))) c.args.head.now 0 front p.tree got.items items
    got.holds p.holds in
    appended c.args.live.now _ _ got.items c.in_ok-list.ensures.items got.so
    ∙ ap (λ (l : List Item). filter (λ (x : Item). is_live c.args.live.now x.doc) l) same

pub returns-clause-live : goal.returns-clause-live
returns-clause-live g c =
    let (items, added) = rw c.in-Entries.is at c.in_ok-gather_all.ensures.added in
    only_live c.args.live.now items _ (appended c.args.live.now _ _ items c.in_ok-list.ensures.items added)
