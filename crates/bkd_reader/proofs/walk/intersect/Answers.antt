use Rattle.std.proofs.Common.{◌≡◌, ◌++◌, sym, subst, ap, ◌∙◌}
use Rattle.outer_io.specs.Files.{bytes_of}
use Rattle.outer_io.specs.declared.file_name.FileName.TheVariants.{Segment}
use Rattle.inner_pack.specs.Places.{front}
use Rattle.inner_pack.specs.Bodies.{HasTree}
use Rattle.bkd_reader.specs.Hits.{AreHits, Appends, hits_in}
use Rattle.bkd_reader.proofs.Sums.{both_ok}
use Rattle.bkd_reader.proofs.Trees.{root_of, parts_of, tree_hits}
use Rattle.bkd_reader.proofs.walk.intersect.Goals as goal
use Rattle.segment_file.proofs.Subtrees.{on_ok}

pub returns-clause-found : goal.returns-clause-found
returns-clause-found g c = λ told agrees items is.
    let p = parts_of g.row.D _ c.args.head.now items is in
    let at = root_of c.walk.result c.args.head.now.index p.root p.tree p.has
    (c.walk.ensures p.root p.tree (subst (λ i. HasTree g.row.D i p.root p.tree) (sym c.index.ensures.value) p.has)) in
    on_ok (Appends c.args.hits.now.items c.visit.new.hits.items
    (AreHits g.row.D (bytes_of (g.F.Pages.files c.args.folder.now (Segment c.args.head.now.id))) c.args.head.now (g.S.Shape.has c.args.shape.now)
    c.args.live.now 0 front p.tree))
    (c.visit.new.hits.items ≡ c.args.hits.now.items ++ hits_in (g.S.Shape.has c.args.shape.now) c.args.live.now items)
    c.visit.result
    (λ a. a.grew ∙ ap (λ z. c.args.hits.now.items ++ z)
    (tree_hits g.row.D _ c.args.head.now (g.S.Shape.has c.args.shape.now) c.args.live.now 0 front p.tree items a.out p.holds a.holds))
    (c.visit.ensures.hits told agrees 0 front p.root p.tree at)

pub returns-clause-hits : goal.returns-clause-hits
returns-clause-hits g c = λ told agrees root t h.
    c.visit.ensures.hits told agrees 0 front root t
    (root_of c.walk.result c.args.head.now.index root t h (c.walk.ensures root t (subst (λ i. HasTree g.row.D i root t) (sym c.index.ensures.value) h)))

pub returns-clause-tests : goal.returns-clause-tests
returns-clause-tests g c = λ root t h.
    c.visit.ensures.tests 0 front root t
    (root_of c.walk.result c.args.head.now.index root t h (c.walk.ensures root t (subst (λ i. HasTree g.row.D i root t) (sym c.index.ensures.value) h)))

pub returns-clause-compares : goal.returns-clause-compares
returns-clause-compares g c = λ root t h.
    c.visit.ensures.compares 0 front root t (c.walk.ensures root t (subst (λ i. HasTree g.row.D i root t) (sym c.index.ensures.value) h))

pub returns-clause-reads : goal.returns-clause-reads
returns-clause-reads g c = λ root t h.
    let at =
    root_of c.walk.result c.args.head.now.index root t h (c.walk.ensures root t (subst (λ i. HasTree g.row.D i root t) (sym c.index.ensures.value) h)) in
    record { most = c.visit.ensures.reads 0 front root t at; none = c.visit.ensures.kept 0 front root t at }

pub returns-clause-counts : goal.returns-clause-counts
returns-clause-counts g c = λ root t h.
    let at =
    root_of c.walk.result c.args.head.now.index root t h (c.walk.ensures root t (subst (λ i. HasTree g.row.D i root t) (sym c.index.ensures.value) h)) in
    both_ok c.visit.result _ _ (c.visit.ensures.tested 0 front root t at) (c.visit.ensures.touched 0 front root t at)

pub returns-clause-shown : goal.returns-clause-shown
returns-clause-shown g c = λ root t h.
    c.visit.ensures.shown 0 front root t (c.walk.ensures root t (subst (λ i. HasTree g.row.D i root t) (sym c.index.ensures.value) h))

pub returns-clause-whole : goal.returns-clause-whole
returns-clause-whole g c = λ told agrees items is.
    let p = parts_of g.row.D _ c.args.head.now items is in
    c.visit.ensures.whole told agrees 0 front p.root p.tree items
    (c.walk.ensures p.root p.tree (subst (λ i. HasTree g.row.D i p.root p.tree) (sym c.index.ensures.value) p.has)) p.holds
