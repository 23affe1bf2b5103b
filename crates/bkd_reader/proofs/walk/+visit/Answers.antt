use Rattle.std.proofs.Common.{rules, ◌≡◌, ℕ, true, sym, subst, refl, ◌∙◌, ◌+◌, arith}
use Rattle.std.proofs.lemmas.Result.{IfOk-weaker, err_from_is_err_and}
use Rattle.std.specs.Prelude.{OnOk}
use Rattle.outer_io.specs.Files.{bytes_of}
use Rattle.outer_io.specs.declared.file_name.FileName.TheVariants.{Segment}
use Rattle.point_codec.specs.Points.{Region}
use Rattle.cell_relate.specs.Relations.{AllAnswer}
use Rattle.inner_pack.specs.Places.{Spot}
use Rattle.inner_pack.specs.Trees.{IndexTree, cell_of, leaf_count}
use Rattle.inner_pack.specs.Bodies.{right_begin}
use Rattle.inner_pack.specs.Nodes.{IsAt}
use Rattle.page_cache.specs.Cache.{Agrees}
use Rattle.page_cache.proofs.Unread.{reads_failed}
use Rattle.segment_file.specs.Heads.{count_of}
use Rattle.bkd_reader.specs.Below.{IsRoot}
use Rattle.bkd_reader.specs.Counts.{touched_leaves}
use Rattle.bkd_reader.specs.declared.walk.Cost.{Cost}
use Rattle.bkd_reader.specs.Hits.{AreHits, Appends}
use Rattle.bkd_reader.proofs.Cells.{touched_all}
use Rattle.bkd_reader.proofs.HitLemmas.{begins_on}
use Rattle.bkd_reader.proofs.LeafNodes.{leaf_kept, leaf_tested, leaf_tests, leaf_touched, none_found, none_tested, none_touched}
use Rattle.bkd_reader.proofs.Trees.{handed_on, count_at, held}
use Rattle.bkd_reader.proofs.Uncrossed.{asked_some}
use Rattle.bkd_reader.proofs.Unread.{any_kept}
use Rattle.bkd_reader.proofs.Walks.{both_compares, both_hits, both_kept, both_reads, both_tested, both_tests, both_touched, held_right}
use Rattle.bkd_reader.proofs.Walks.{left_compares, left_kept, left_reads, left_shown, left_tests, right_shown}
use Rattle.bkd_reader.proofs.walk.+visit.Given as given
use Rattle.bkd_reader.proofs.walk.+visit.Goals as goal

-- ---- the cell is not crossed

pub returns-in-Outside-clause-hits : goal.returns-in-Outside-clause-hits
returns-in-Outside-clause-hits g t c = λ told agrees first s path t' root.
    none_found g.row.D _ _ (g.S.Shape.within_uncrossed c.args.shape.now) first path t' root.cells _ (c.cell.ensures first s path t' root.is) _ _ _ s
    c.args.hits.now.items c.in-Outside.ensures.answer

pub returns-in-Outside-clause-compares : goal.returns-in-Outside-clause-compares
returns-in-Outside-clause-compares g t c = λ first s path t' is.
    let some = asked_some (g.S.Shape.crosses c.args.shape.now) path t' in
    let one = c.compare.ensures.compares in omega (arith, some, one)

pub returns-in-Outside-clause-tested : goal.returns-in-Outside-clause-tested
returns-in-Outside-clause-tested g t c = λ first s path t' root.
    none_tested g.row.D _ _ (g.S.Shape.within_uncrossed c.args.shape.now) first path t' root.cells _ (c.cell.ensures first s path t' root.is) _ _
    c.in-Outside.ensures.answer

pub returns-in-Outside-clause-touched : goal.returns-in-Outside-clause-touched
returns-in-Outside-clause-touched g t c = λ first s path t' root.
    none_touched g.row.D _ _ (g.S.Shape.within_uncrossed c.args.shape.now) first path t' root.cells _ (c.cell.ensures first s path t' root.is)
    c.in-Outside.ensures.answer

pub returns-in-Outside-clause-kept : goal.returns-in-Outside-clause-kept
returns-in-Outside-clause-kept g t c = λ first s path t' root kept. record { reads = refl; kept = λ i n k. k }

inside : (g : given.Over) (t : ℕ) (c : goal.After-take_all g t) (first : ℕ) (s : Spot) (path : Region) (u : IndexTree)
    → IsAt c.args.node.now first s path u → AllAnswer (g.S.Shape.has c.args.shape.now) true (cell_of path u)
inside g t c first s path u is = subst (AllAnswer (g.S.Shape.has c.args.shape.now) true) (c.cell.ensures first s path u is) c.in-Inside.ensures.answer.all

inside_touched : (g : given.Over) (t : ℕ) (c : goal.After-take_all g t) (first : ℕ) (s : Spot) (path : Region) (u : IndexTree)
    → IsRoot c.args.node.now first s path u
    → c.args.node.now.leaves ≡ touched_leaves (g.S.Shape.has c.args.shape.now) (g.S.Shape.crosses c.args.shape.now) u
inside_touched g t c first s path u root =
    sym (count_at c.args.node.now first s path u root.is)
    ∙ sym (touched_all g.row.D (g.S.Shape.has c.args.shape.now) (g.S.Shape.crosses c.args.shape.now) path u root.cells (inside g t c first s path u root.is))

pub returns-in-Inside-clause-hits : goal.returns-in-Inside-clause-hits
returns-in-Inside-clause-hits g t c = λ told agrees first s path t' root.
    c.take_all.ensures.hits told agrees first s path t' root (g.S.Shape.has c.args.shape.now) (inside g t c first s path t' root.is)

pub returns-in-Inside-clause-compares : goal.returns-in-Inside-clause-compares
returns-in-Inside-clause-compares g t c = λ first s path t' is.
    let some = asked_some (g.S.Shape.crosses c.args.shape.now) path t' in
    let one = c.compare.ensures.compares in omega (arith, some, one)

pub returns-in-Inside-clause-reads : goal.returns-in-Inside-clause-reads
returns-in-Inside-clause-reads g t c = λ first s path t' root.
    let most = c.take_all.ensures.reads in
    let each = inside_touched g t c first s path t' root in
    omega (arith, most, each)

pub returns-in-Inside-clause-kept : goal.returns-in-Inside-clause-kept
returns-in-Inside-clause-kept g t c = λ first s path t' root kept.
    c.take_all.ensures.kept first s path t' root.is
    (any_kept g.row.D (g.S.Shape.has c.args.shape.now) (g.S.Shape.crosses c.args.shape.now) c.args.cache.now c.args.head.now path s t' root.cells
    (inside g t c first s path t' root.is) kept)

pub returns-in-Inside-clause-tested : goal.returns-in-Inside-clause-tested
returns-in-Inside-clause-tested g t c = λ first s path t' root.
    let zero = none_tested g.row.D _ _ (g.S.Shape.within_uncrossed c.args.shape.now) first path t' root.cells _ (c.cell.ensures first s path t' root.is)
    (count_of c.args.head.now) _ c.in-Inside.ensures.answer in
    IfOk-weaker c.take_all.result _ _ (λ n none. none ∙ zero) c.take_all.ensures.untested

pub returns-in-Inside-clause-touched : goal.returns-in-Inside-clause-touched
returns-in-Inside-clause-touched g t c = λ first s path t' root.
    IfOk-weaker c.take_all.result _ _ (λ n all. all ∙ inside_touched g t c first s path t' root) c.take_all.ensures.touched

-- ---- children are walked, and each may be refused

pub returns-in_err-front-in-Some-clause-tests : goal.returns-in_err-front-in-Some-clause-tests
returns-in_err-front-in-Some-clause-tests g t c = λ first s path t' root.
    let left = left_tests c.in-Some.left c.in-Some.right first s path t' (c.in-Some.ensures.some first s path t' root.is) root.cells
    (g.S.Shape.crosses c.args.shape.now) _ (count_of c.args.head.now) _ _
    c.compare.ensures.crosses c.in_err-front-in-Some.ensures.tests in
    let same = c.compare.ensures.tests in omega (arith, left, same)

pub returns-in_err-front-in-Some-clause-compares : goal.returns-in_err-front-in-Some-clause-compares
returns-in_err-front-in-Some-clause-compares g t c = λ first s path t' is.
    let left =
    left_compares c.in-Some.left c.in-Some.right first s path t' (c.in-Some.ensures.some first s path t' is) (g.S.Shape.crosses c.args.shape.now) _ _ _
    c.compare.ensures.crosses _ (c.cell.ensures first s path t' is) c.in-Crosses.ensures.answer c.in_err-front-in-Some.ensures.compares in
    let one = c.compare.ensures.compares in omega (arith, left, one)

pub returns-in_err-front-in-Some-clause-reads : goal.returns-in_err-front-in-Some-clause-reads
returns-in_err-front-in-Some-clause-reads g t c = λ first s path t' root.
    left_reads c.in-Some.left c.in-Some.right first s path t' (c.in-Some.ensures.some first s path t' root.is) root.cells (g.S.Shape.has c.args.shape.now)
    _ (g.S.Shape.crosses c.args.shape.now) _ _ _
    c.compare.ensures.has c.compare.ensures.crosses c.in_err-front-in-Some.ensures.reads

pub returns-in_err-front-in-Some-clause-shown : goal.returns-in_err-front-in-Some-clause-shown
returns-in_err-front-in-Some-clause-shown g t c = λ first s path t' is.
    left_shown c.args.head.now c.in-Some.left c.in-Some.right first s path t' (c.in-Some.ensures.some first s path t' is) Cost c.from_residual.result _
    c.from_residual.ensures.1 c.in_err-front-in-Some.ensures.shown

pub returns-in_err-front-in-Some-clause-whole : goal.returns-in_err-front-in-Some-clause-whole
returns-in_err-front-in-Some-clause-whole g t c = λ told agrees first s path t' items is holds.
    let k = c.in-Some.ensures.some first s path t' is in
    let j = held (bytes_of (g.F.Pages.files c.args.folder.now (Segment c.args.head.now.id))) c.args.head.now c.in-Some.left c.in-Some.right first s path t' k
    items holds in
    handed_on c.from_residual.result c.in_err-front-in-Some.field-0.0 (λ _. ⊥) c.from_residual.ensures.1
    (c.in_err-front-in-Some.ensures.whole told agrees first s _ k.l j.front_items k.left_is j.front_holds)

pub returns-in_err-front-in-Some-clause-kept : goal.returns-in_err-front-in-Some-clause-kept
returns-in_err-front-in-Some-clause-kept g t c = λ first s path t' root kept.
    let p = err_from_is_err_and c.from_residual.result c.from_residual.ensures.1 in
    reads_failed _ _ _ _ _ _ p.1
    (left_kept c.in-Some.left c.in-Some.right first s path t' (c.in-Some.ensures.some first s path t' root.is) root.cells c.args.head.now _ c.args.cache.now
    _ _ _ (g.S.Shape.has c.args.shape.now) _
    (g.S.Shape.crosses c.args.shape.now) _ c.compare.ensures.has c.compare.ensures.crosses c.in_err-front-in-Some.ensures.kept kept).reads

pub returns-in_err-back-in-Some-clause-tests : goal.returns-in_err-back-in-Some-clause-tests
returns-in_err-back-in-Some-clause-tests g t c = λ first s path t' root.
    let all = both_tests c.in-Some.left c.in-Some.right first s path t' (c.in-Some.ensures.some first s path t' root.is) root.cells
    (g.S.Shape.crosses c.args.shape.now) _ _ (count_of c.args.head.now) _ _ _
    c.compare.ensures.crosses (c.visit.ensures.crosses ∙ c.compare.ensures.crosses) c.visit.ensures.tests c.visit-in-Some.ensures.tests in
    let same = c.compare.ensures.tests in omega (arith, all, same)

pub returns-in_err-back-in-Some-clause-compares : goal.returns-in_err-back-in-Some-clause-compares
returns-in_err-back-in-Some-clause-compares g t c = λ first s path t' is.
    let all = both_compares c.in-Some.left c.in-Some.right first s path t' (c.in-Some.ensures.some first s path t' is) (g.S.Shape.crosses c.args.shape.now)
    _ _ _ _ _ c.compare.ensures.crosses (c.visit.ensures.crosses ∙ c.compare.ensures.crosses) _ (c.cell.ensures first s path t' is)
    c.in-Crosses.ensures.answer c.visit.ensures.compares c.visit-in-Some.ensures.compares in
    let one = c.compare.ensures.compares in omega (arith, all, one)

pub returns-in_err-back-in-Some-clause-reads : goal.returns-in_err-back-in-Some-clause-reads
returns-in_err-back-in-Some-clause-reads g t c = λ first s path t' root.
    both_reads c.in-Some.left c.in-Some.right first s path t' (c.in-Some.ensures.some first s path t' root.is) root.cells _ _ _ _ _ _ _ _ _
    c.compare.ensures.has (c.visit.ensures.has ∙ c.compare.ensures.has) c.compare.ensures.crosses (c.visit.ensures.crosses ∙ c.compare.ensures.crosses)
    c.visit.ensures.reads c.visit-in-Some.ensures.reads

pub returns-in_err-back-in-Some-clause-begins : goal.returns-in_err-back-in-Some-clause-begins
returns-in_err-back-in-Some-clause-begins g t c =
    begins_on c.args.hits.now.items c.visit.new.hits.items c.visit-in-Some.new.hits.items c.visit.ensures.begins c.visit-in-Some.ensures.begins

pub returns-in_ok-back-in-Some-clause-tests : goal.returns-in_ok-back-in-Some-clause-tests
returns-in_ok-back-in-Some-clause-tests g t c = λ first s path t' root.
    let all = both_tests c.in-Some.left c.in-Some.right first s path t' (c.in-Some.ensures.some first s path t' root.is) root.cells
    (g.S.Shape.crosses c.args.shape.now) _ _ (count_of c.args.head.now) _ _ _
    c.compare.ensures.crosses (c.visit.ensures.crosses ∙ c.compare.ensures.crosses) c.visit.ensures.tests c.visit-in-Some.ensures.tests in
    let same = c.compare.ensures.tests in omega (arith, all, same)

pub returns-in_ok-back-in-Some-clause-compares : goal.returns-in_ok-back-in-Some-clause-compares
returns-in_ok-back-in-Some-clause-compares g t c = λ first s path t' is.
    let all = both_compares c.in-Some.left c.in-Some.right first s path t' (c.in-Some.ensures.some first s path t' is) (g.S.Shape.crosses c.args.shape.now)
    _ _ _ _ _ c.compare.ensures.crosses (c.visit.ensures.crosses ∙ c.compare.ensures.crosses) _ (c.cell.ensures first s path t' is)
    c.in-Crosses.ensures.answer c.visit.ensures.compares c.visit-in-Some.ensures.compares in
    let one = c.compare.ensures.compares in omega (arith, all, one)

pub returns-in_ok-back-in-Some-clause-reads : goal.returns-in_ok-back-in-Some-clause-reads
returns-in_ok-back-in-Some-clause-reads g t c = λ first s path t' root.
    both_reads c.in-Some.left c.in-Some.right first s path t' (c.in-Some.ensures.some first s path t' root.is) root.cells _ _ _ _ _ _ _ _ _
    c.compare.ensures.has (c.visit.ensures.has ∙ c.compare.ensures.has) c.compare.ensures.crosses (c.visit.ensures.crosses ∙ c.compare.ensures.crosses)
    c.visit.ensures.reads c.visit-in-Some.ensures.reads

pub returns-in_ok-back-in-Some-clause-begins : goal.returns-in_ok-back-in-Some-clause-begins
returns-in_ok-back-in-Some-clause-begins g t c =
    begins_on c.args.hits.now.items c.visit.new.hits.items c.visit-in-Some.new.hits.items c.visit.ensures.begins c.visit-in-Some.ensures.begins

pub returns-in_err-back-in-Some-clause-shown : goal.returns-in_err-back-in-Some-clause-shown
returns-in_err-back-in-Some-clause-shown g t c = λ first s path t' is.
    right_shown c.args.head.now c.in-Some.left c.in-Some.right first s path t' (c.in-Some.ensures.some first s path t' is) Cost
    c.from_residual-in_err-back-in-Some.result _ c.from_residual-in_err-back-in-Some.ensures.1 c.in_err-back-in-Some.ensures.shown

pub returns-in_err-back-in-Some-clause-whole : goal.returns-in_err-back-in-Some-clause-whole
returns-in_err-back-in-Some-clause-whole g t c = λ told agrees first s path t' items is holds.
    let k = c.in-Some.ensures.some first s path t' is in
    let same = c.visit.ensures.reading.files told in
    let agree = subst (λ f. Agrees f c.visit.new.cache) (sym same) (c.visit.ensures.reading.agrees told agrees) in
    handed_on c.from_residual-in_err-back-in-Some.result c.in_err-back-in-Some.field-0.0 (λ _. ⊥) c.from_residual-in_err-back-in-Some.ensures.1
    (c.in_err-back-in-Some.ensures.whole told agree (first + leaf_count k.l) (right_begin s k.l k.r) _ k.r _ k.right_is
    (held_right c.args.head.now c.in-Some.left c.in-Some.right first s path t' k _ _ items same holds))

pub returns-in_err-back-in-Some-clause-kept : goal.returns-in_err-back-in-Some-clause-kept
returns-in_err-back-in-Some-clause-kept g t c = λ first s path t' root kept.
    let p = err_from_is_err_and c.from_residual-in_err-back-in-Some.result c.from_residual-in_err-back-in-Some.ensures.1 in
    reads_failed _ _ _ _ _ _ p.1
    (both_kept c.in-Some.left c.in-Some.right first s path t' (c.in-Some.ensures.some first s path t' root.is) root.cells c.args.head.now _ _ c.args.cache.now
    _ _ _ _ _
    (g.S.Shape.has c.args.shape.now) _ _ (g.S.Shape.crosses c.args.shape.now) _ _ c.compare.ensures.has (c.visit.ensures.has ∙ c.compare.ensures.has)
    c.compare.ensures.crosses (c.visit.ensures.crosses ∙ c.compare.ensures.crosses) c.in_ok-front-in-Some.ensures.kept c.in_err-back-in-Some.ensures.kept
    kept).reads

pub returns-in_ok-back-in-Some-clause-hits : goal.returns-in_ok-back-in-Some-clause-hits
returns-in_ok-back-in-Some-clause-hits g t c = λ told agrees first s path t' root.
    let same = c.visit.ensures.reading.files told in
    let agree = subst (λ f. Agrees f c.visit.new.cache) (sym same) (c.visit.ensures.reading.agrees told agrees) in
    both_hits c.in-Some.left c.in-Some.right first s path t' (c.in-Some.ensures.some first s path t' root.is) root.cells c.args.head.now
    (g.F.Pages.files c.args.folder.now) _
    (g.S.Shape.has c.args.shape.now) _ _ c.args.live.now _ _ _ same c.compare.ensures.has (c.visit.ensures.has ∙ c.compare.ensures.has)
    (c.in_ok-front-in-Some.ensures.hits told agrees) (c.in_ok-back-in-Some.ensures.hits told agree)

pub returns-in_ok-back-in-Some-clause-kept : goal.returns-in_ok-back-in-Some-clause-kept
returns-in_ok-back-in-Some-clause-kept g t c = λ first s path t' root kept.
    let both = both_kept c.in-Some.left c.in-Some.right first s path t' (c.in-Some.ensures.some first s path t' root.is) root.cells c.args.head.now
    _ _ c.args.cache.now _ _ _ _ _
    (g.S.Shape.has c.args.shape.now) _ _ (g.S.Shape.crosses c.args.shape.now) _ _ c.compare.ensures.has (c.visit.ensures.has ∙ c.compare.ensures.has)
    c.compare.ensures.crosses (c.visit.ensures.crosses ∙ c.compare.ensures.crosses) c.in_ok-front-in-Some.ensures.kept c.in_ok-back-in-Some.ensures.kept kept in
    record { reads = both.reads; kept = both.kept }

pub returns-in_ok-back-in-Some-clause-tested : goal.returns-in_ok-back-in-Some-clause-tested
returns-in_ok-back-in-Some-clause-tested g t c = λ first s path t' root.
    both_tested c.in-Some.left c.in-Some.right first s path t' (c.in-Some.ensures.some first s path t' root.is) root.cells (g.S.Shape.crosses c.args.shape.now)
    _ _ (count_of c.args.head.now) _ _
    c.compare.ensures.crosses (c.visit.ensures.crosses ∙ c.compare.ensures.crosses) c.in_ok-front-in-Some.ensures.tested c.in_ok-back-in-Some.ensures.tested

pub returns-in_ok-back-in-Some-clause-touched : goal.returns-in_ok-back-in-Some-clause-touched
returns-in_ok-back-in-Some-clause-touched g t c = λ first s path t' root.
    both_touched c.in-Some.left c.in-Some.right first s path t' (c.in-Some.ensures.some first s path t' root.is) root.cells (g.S.Shape.has c.args.shape.now)
    _ _ (g.S.Shape.crosses c.args.shape.now) _ _ _ _
    c.compare.ensures.has (c.visit.ensures.has ∙ c.compare.ensures.has) c.compare.ensures.crosses (c.visit.ensures.crosses ∙ c.compare.ensures.crosses)
    c.in_ok-front-in-Some.ensures.touched c.in_ok-back-in-Some.ensures.touched

-- ---- a leaf whose cell is crossed

pub returns-in-None-clause-hits : goal.returns-in-None-clause-hits
returns-in-None-clause-hits g t c = λ told agrees first s path t' root.
    subst (λ h. OnOk c.test_leaf.result
    (Appends c.args.hits.now.items c.test_leaf.new.hits.items
    (AreHits g.row.D (bytes_of (g.F.Pages.files c.args.folder.now (Segment c.args.head.now.id))) c.args.head.now h c.args.live.now first s t')))
    c.compare.ensures.has (c.test_leaf.ensures.hits told agrees first s path t' root.is)

pub returns-in-None-clause-tests : goal.returns-in-None-clause-tests
returns-in-None-clause-tests g t c = λ first s path t' root.
    let few = leaf_tests c.args.node.now (g.S.Shape.has c.args.shape.now) (g.S.Shape.crosses c.args.shape.now) (count_of c.args.head.now) first s path t'
    root.is (search rules) _
    (c.cell.ensures first s path t' root.is) c.in-Crosses.ensures.answer _ _ _
    c.compare.ensures.crosses (c.test_leaf.ensures.tests first s path t' root.is) in
    let same = c.compare.ensures.tests in omega (arith, few, same)

pub returns-in-None-clause-compares : goal.returns-in-None-clause-compares
returns-in-None-clause-compares g t c = λ first s path t' is.
    let some = asked_some (g.S.Shape.crosses c.args.shape.now) path t' in
    let one = c.compare.ensures.compares in
    let same = c.test_leaf.ensures.compares in
    omega (arith, some, one, same)

pub returns-in-None-clause-reads : goal.returns-in-None-clause-reads
returns-in-None-clause-reads g t c = λ first s path t' root.
    let it = leaf_touched c.args.node.now (g.S.Shape.has c.args.shape.now) (g.S.Shape.crosses c.args.shape.now) (count_of c.args.head.now) first s path t'
    root.is (search rules) _
    (c.cell.ensures first s path t' root.is) c.in-Crosses.ensures.answer in
    let most = c.test_leaf.ensures.reads.most in
    omega (arith, it, most)

pub returns-in-None-clause-kept : goal.returns-in-None-clause-kept
returns-in-None-clause-kept g t c = λ first s path t' root kept.
    c.test_leaf.ensures.reads.none first s path t' root.is
    (leaf_kept c.args.node.now (g.S.Shape.has c.args.shape.now) (g.S.Shape.crosses c.args.shape.now) (count_of c.args.head.now) first s path t' root.is
    (search rules) _
    (c.cell.ensures first s path t' root.is) c.in-Crosses.ensures.answer c.args.cache.now
    c.args.head.now kept)

pub returns-in-None-clause-tested : goal.returns-in-None-clause-tested
returns-in-None-clause-tested g t c = λ first s path t' root.
    let all = leaf_tested c.args.node.now (g.S.Shape.has c.args.shape.now) (g.S.Shape.crosses c.args.shape.now) (count_of c.args.head.now) first s path t'
    root.is (search rules) _
    (c.cell.ensures first s path t' root.is) c.in-Crosses.ensures.answer in
    IfOk-weaker c.test_leaf.result _ _ (λ n is. is.tested first s path t' root.is ∙ all) c.test_leaf.ensures.counts

pub returns-in-None-clause-touched : goal.returns-in-None-clause-touched
returns-in-None-clause-touched g t c = λ first s path t' root.
    let all = leaf_touched c.args.node.now (g.S.Shape.has c.args.shape.now) (g.S.Shape.crosses c.args.shape.now) (count_of c.args.head.now) first s path t'
    root.is (search rules) _
    (c.cell.ensures first s path t' root.is) c.in-Crosses.ensures.answer in
    IfOk-weaker c.test_leaf.result _ _ (λ n is. is.touched ∙ all) c.test_leaf.ensures.counts

pub returns-in-None-clause-few_tested : goal.returns-in-None-clause-few_tested
returns-in-None-clause-few_tested g t c = IfOk-weaker c.test_leaf.result _ _ (λ n is. is.few.0) c.test_leaf.ensures.counts

pub returns-in-None-clause-few_touched : goal.returns-in-None-clause-few_touched
returns-in-None-clause-few_touched g t c = IfOk-weaker c.test_leaf.result _ _ (λ n is. is.few.1) c.test_leaf.ensures.counts
