use Rattle.std.proofs.Common.{◌≡◌, List, true, sym, subst}
use Rattle.std.specs.List.{All}
use Rattle.point_codec.specs.Points.{Item, Region, in_box}
use Rattle.point_codec.specs.Seen.{region_of}
use Rattle.live_bits.specs.LiveSet.{is_live}
use Rattle.outer_io.specs.Files.{bytes_of}
use Rattle.outer_io.specs.declared.file_name.FileName.TheVariants.{Segment}
use Rattle.segment_file.specs.Damages.{IsLeafDamage}
use Rattle.bkd_reader.proofs.Trees.{handed_on, first_page, never_bad}
use Rattle.point_counts.specs.Tables.{AddsCounts, live_at}
use Rattle.point_counts.proofs.Subtrees.{same_items, leaf_in_cell}
use Rattle.point_counts.proofs.leaf.count_leaf.Goals as goal

pub returns-in_err-place-clause-shown : goal.returns-in_err-place-clause-shown
returns-in_err-place-clause-shown g c = λ first s path t is.
    handed_on c.from_residual.result c.in_err-place.field-0.0 (IsLeafDamage g.row.D c.args.head.now first s t)
    c.from_residual.ensures.1 (c.in_err-place.ensures.shown first s path t is)

pub returns-in_err-place-clause-whole : goal.returns-in_err-place-clause-whole
returns-in_err-place-clause-whole g c = λ told agrees first s path t items is holds.
    handed_on c.from_residual.result c.in_err-place.field-0.0 (λ _. ⊥) c.from_residual.ensures.1
    (c.in_err-place.ensures.whole told first s path t is (first_page _ _ _ first s t items holds))

pub returns-in_default-clause-shown : goal.returns-in_default-clause-shown
returns-in_default-clause-shown g c = λ first s path t is. c.bad_leaf.ensures.shown first s path t is
    (c.in_ok-place.ensures.place first s path t is)

pub returns-in_default-clause-whole : goal.returns-in_default-clause-whole
returns-in_default-clause-whole g c = λ told agrees first s path t items is holds.
    absurd (never_bad (bytes_of (g.F.Pages.files c.args.folder.now (Segment c.args.head.now.id))) c.args.head.now
    c.args.node.now c.in_ok-place.place first s path t items is (c.in_ok-place.ensures.place first s path t is)
    holds
    (λ len own at place here. c.in_default.ensures.none (g.F.Pages.files c.args.folder.now) first s path len own
    (c.in_ok-place.ensures.reading.agrees told agrees) at place items here))

pub returns-clause-counts : goal.returns-clause-counts
returns-clause-counts g c = λ told agrees first s path t items is holds alive.
    let box = g.S.Sorting.bounds c.args.sorting.now in
    let place = g.S.Sorting.place c.args.sorting.now in
    let bytes = bytes_of (g.F.Pages.files c.args.folder.now (Segment c.args.head.now.id)) in
    let same = same_items bytes c.args.head.now c.args.node.now c.in_ok-place.place first s path t items c.in-Some.leaf
    is (c.in_ok-place.ensures.place first s path t is) holds
    (λ len own at here. c.in-Some.ensures.some (g.F.Pages.files c.args.folder.now) first s path len own
    (c.in_ok-place.ensures.reading.agrees told agrees) at here) in
    let inside = subst (λ (r : Region). All (λ (x : Item). in_box r x.at ≡ true) items)
    (sym (c.cell.ensures first s path t is))
    (leaf_in_cell g.row.D bytes c.args.head.now c.in_ok-place.place first s path t items
    (c.in_ok-place.ensures.place first s path t is) holds) in
    subst (λ (xs : List Item). AddsCounts (live_at box place c.args.live.now xs) c.args.table.now c.count_live.new.table) same
    (c.count_live.ensures (subst (All (λ (x : Item). in_box (region_of c.cell.result) x.at ≡ true)) (sym same) inside)
    (λ e. subst (All (λ (x : Item). is_live c.args.live.now x.doc ≡ true)) (sym same) (alive e)))

pub returns-clause-reading : goal.returns-clause-reading
returns-clause-reading g c =
    let h = c.in_ok-place.ensures.reading in
    record {
      files = h.files;
      others = h.others;
      agrees = h.agrees;
      cause = record { later = h.cause.later; on_ok = h.cause.on_ok; failed = λ e. absurd cc };
      marks = h.marks;
    }
