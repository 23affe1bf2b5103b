use Rattle.std.proofs.Common.{◌++◌, List, ap, ◌∙◌}
use Rattle.std.specs.Prelude.{filter}
use Rattle.std.proofs.lemmas.List.Elements.{filter_passes}
use Rattle.std.proofs.lemmas.Result.{on_ok_weaker}
use Rattle.outer_io.specs.Files.{bytes_of}
use Rattle.outer_io.specs.declared.file_name.FileName.TheVariants.{Segment}
use Rattle.point_codec.specs.Points.{Item}
use Rattle.point_codec.specs.Seen.{items_of}
use Rattle.live_bits.specs.LiveSet.{is_live}
use Rattle.inner_pack.specs.Places.{front}
use Rattle.segment_file.specs.Segments.{IsHeadOf, IsSegment}
use Rattle.segment_file.proofs.Entries.{taken_then}
use Rattle.segment_file.proofs.Unique.{tree_once}
use Rattle.segment_file.proofs.read.append_entries.Goals as goal

pub returns-in-Entries-clause-spelled : goal.returns-in-Entries-clause-spelled
unfolding IsSegment IsHeadOf
returns-in-Entries-clause-spelled g c = λ told agrees p.
    let got = rw c.in-Entries.is at (c.gather_all-done.ensures.gathers told agrees p.root p.tree p.spells.has) in
    on_ok_weaker c.gather_all-done.result
    (λ m. (
      m.items,
      record { head_is = p; root = p.root; tree = p.tree; has = p.spells.has; holds = m.holds },
      taken_then c.args.live.now c.args.entries.now c.replace-taken.result c.in-Entries.list.items m.items c.replace-taken.ensures.value m.so,
    )) got

pub returns-in-Entries-clause-entries : goal.returns-in-Entries-clause-entries
unfolding IsSegment
returns-in-Entries-clause-entries g c = λ told agrees items p.
    let bytes = bytes_of (g.F.Pages.files c.args.folder.now (Segment c.args.head.now.id)) in
    let got = rw c.in-Entries.is at (c.gather_all-done.ensures.gathers told agrees p.root p.tree p.has) in
    on_ok_weaker c.gather_all-done.result
    (λ m.
    let same = tree_once g.row.D bytes c.args.head.now 0 front p.tree m.items items m.holds p.holds in
    taken_then c.args.live.now c.args.entries.now c.replace-taken.result c.in-Entries.list.items m.items c.replace-taken.ensures.value m.so
    ∙ ap (λ (l : List Item). items_of c.args.entries.now.items ++ filter (λ (x : Item). is_live c.args.live.now x.doc) l) same)
    got

pub returns-in-Entries-clause-live : goal.returns-in-Entries-clause-live
returns-in-Entries-clause-live g c =
    let got = rw c.in-Entries.is at c.gather_all-done.ensures.added in
    on_ok_weaker c.gather_all-done.result
    (λ m. (
      filter (λ (x : Item). is_live c.args.live.now x.doc) m.0,
      taken_then c.args.live.now c.args.entries.now c.replace-taken.result c.in-Entries.list.items m.0 c.replace-taken.ensures.value m.1,
      filter_passes (λ (x : Item). is_live c.args.live.now x.doc) m.0,
    )) got

-- a list stays a list: this is no answer that is Ok

pub returns-in-Numbers-clause-spelled : goal.returns-in-Numbers-clause-spelled
returns-in-Numbers-clause-spelled g c = λ told agrees p.
    let none = rw c.in-Numbers.is at c.gather_all-done.ensures.added in
    on_ok_weaker c.gather_all-done.result (λ m. absurd m.1) none

pub returns-in-Numbers-clause-entries : goal.returns-in-Numbers-clause-entries
returns-in-Numbers-clause-entries g c = λ told agrees items p.
    let none = rw c.in-Numbers.is at c.gather_all-done.ensures.added in
    on_ok_weaker c.gather_all-done.result (λ m. absurd m.1) none

pub returns-in-Numbers-clause-live : goal.returns-in-Numbers-clause-live
returns-in-Numbers-clause-live g c =
    let none = rw c.in-Numbers.is at c.gather_all-done.ensures.added in
    on_ok_weaker c.gather_all-done.result (λ m. absurd m.1) none
