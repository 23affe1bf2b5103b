use Rattle.std.proofs.Common.{sym, subst, rules}
use Rattle.std.proofs.lemmas.Result.{err_from_is_err_and}
use Rattle.outer_io.specs.Files.{bytes_of}
use Rattle.outer_io.specs.declared.file_name.FileName.TheVariants.{Segment}
use Rattle.inner_pack.specs.Trees.{IndexTree}
use Rattle.inner_pack.specs.Nodes.{IsAt, IsPlaceOf}
use Rattle.segment_file.specs.Segments.{HoldsTree}
use Rattle.segment_file.proofs.Subtrees.{page_of_leaf}
use Rattle.segment_file.proofs.LeafPages.{leaf_reads, leaf_last}
use Rattle.segment_file.proofs.read.gather_leaf.Goals as goal

pub returns-in_err-place-clause-shown : goal.returns-in_err-place-clause-shown
returns-in_err-place-clause-shown g c = λ first s path t at.
    let e = err_from_is_err_and c.from_residual.result c.from_residual.ensures.1 in
    rw (e.1, e.2) (c.in_err-place.ensures.shown first s path t at)

pub returns-in_err-place-clause-whole : goal.returns-in_err-place-clause-whole
returns-in_err-place-clause-whole g c = λ told agrees first s path t at items holds.
    let bytes = bytes_of (g.F.Pages.files c.args.folder.now (Segment c.args.head.now.id)) in
    let e = err_from_is_err_and c.from_residual.result c.from_residual.ensures.1 in
    rw (e.1, e.2)
    (c.in_err-place.ensures.whole told first s path t at (page_of_leaf g.row.D bytes c.args.head.now c.args.node.now first s path t items at c.requires holds))

pub returns-in_default-clause-shown : goal.returns-in_default-clause-shown
returns-in_default-clause-shown g c = λ first s path t at. c.bad_leaf.ensures.shown first s path t at (c.in_ok-place.ensures.place first s path t at)

pub returns-in_default-clause-whole : goal.returns-in_default-clause-whole
returns-in_default-clause-whole g c = λ told agrees first s path t at items holds.
    let place = c.in_ok-place.ensures.place first s path t at in
    let after = c.in_ok-place.ensures.reading.agrees told agrees in
    let leaf = place.is in
    absurd (c.in_default.ensures.none (g.F.Pages.files c.args.folder.now) first s path c.in_ok-place.place.length place.own after
    (subst (λ (u : IndexTree). IsAt c.args.node.now first s path u) leaf at) (subst (λ (u : IndexTree). IsPlaceOf c.in_ok-place.place s u) leaf place) items
    (subst (λ (u : IndexTree). HoldsTree g.row.D (bytes_of (g.F.Pages.files c.args.folder.now (Segment c.args.head.now.id))) c.args.head.now first s u items)
    leaf holds))

pub returns-clause-gathers : goal.returns-clause-gathers
returns-clause-gathers g c = λ told agrees first s path t at.
    let place = c.in_ok-place.ensures.place first s path t at in
    let after = c.in_ok-place.ensures.reading.agrees told agrees in
    let leaf = place.is in
    let bytes = bytes_of (g.F.Pages.files c.args.folder.now (Segment c.args.head.now.id)) in
    let holds = c.in-Some.ensures.some (g.F.Pages.files c.args.folder.now) first s path c.in_ok-place.place.length place.own after
    (subst (λ (u : IndexTree). IsAt c.args.node.now first s path u) leaf at) (subst (λ (u : IndexTree). IsPlaceOf c.in_ok-place.place s u) leaf place) in
    record {
      items = c.in-Some.view;
      holds = subst (λ (u : IndexTree). HoldsTree g.row.D bytes c.args.head.now first s u c.in-Some.view) (sym leaf) holds;
      so = c.in_ok-add_leaf.ensures;
    }

pub returns-in_default-clause-pages : goal.returns-in_default-clause-pages
returns-in_default-clause-pages g c = λ first s path t at.
    leaf_reads _ _ c.args.cache.now c.args.head.now s t c.load_leaf.ensures.reads (λ kept. (c.load_leaf.ensures.hit first s path t at kept).1)

pub returns-in_err-add_leaf-clause-pages : goal.returns-in_err-add_leaf-clause-pages
returns-in_err-add_leaf-clause-pages g c = λ first s path t at.
    leaf_reads _ _ c.args.cache.now c.args.head.now s t c.load_leaf.ensures.reads (λ kept. (c.load_leaf.ensures.hit first s path t at kept).1)

pub returns-clause-pages : goal.returns-clause-pages
returns-clause-pages g c = λ first s path t at.
    leaf_reads _ _ c.args.cache.now c.args.head.now s t c.load_leaf.ensures.reads (λ kept. (c.load_leaf.ensures.hit first s path t at kept).1)

pub returns-clause-last : goal.returns-clause-last
returns-clause-last g c = λ first s path t at.
    let place = c.in_ok-place.ensures.place first s path t at in
    leaf_last g.row.D c.args.node.now c.load_leaf.new.cache c.args.head.now c.in_ok-place.place first s path t at place c.in_ok-place.ensures.kept

pub returns-clause-added : goal.returns-clause-added
returns-clause-added g c = (c.in-Some.view, c.in_ok-add_leaf.ensures)

pub returns-clause-reading : goal.returns-clause-reading
returns-clause-reading g c =
    let h = c.in_ok-place.ensures.reading in
    record { files = h.files; others = h.others; agrees = h.agrees; cause = search rules; marks = h.marks }

pub returns-in_err-add_leaf-clause-reading : goal.returns-in_err-add_leaf-clause-reading
returns-in_err-add_leaf-clause-reading g c =
    let h = c.in_ok-place.ensures.reading in
    record { files = h.files; others = h.others; agrees = h.agrees; cause = search rules; marks = h.marks }
