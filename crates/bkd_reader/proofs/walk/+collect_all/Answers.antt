use Rattle.std.proofs.Common.{◌+◌, ◌≡◌, Err, true, sym, subst, arith, rules}
use Rattle.std.proofs.lemmas.Result.{err_from_is_err_and}
use Rattle.std.specs.Prelude.{OnOk}
use Rattle.outer_io.specs.Files.{bytes_of}
use Rattle.outer_io.specs.declared.file_name.FileName.TheVariants.{Segment}
use Rattle.inner_pack.specs.Trees.{leaf_count}
use Rattle.inner_pack.specs.Bodies.{right_begin}
use Rattle.page_cache.specs.Cache.{Agrees}
use Rattle.segment_file.specs.Segments.{HoldsTree}
use Rattle.segment_file.specs.Damages.{IsLeafDamage}
use Rattle.bkd_reader.specs.Hits.{AreHits, Appends}
use Rattle.bkd_reader.proofs.Trees.{handed_on, left_damage, right_damage, held, left_root, right_root, children_all, children_hits}
use Rattle.bkd_reader.specs.Unread.{IsAny}
use Rattle.page_cache.proofs.Unread.{reads_failed, reads_then}
use Rattle.bkd_reader.proofs.Unread.{children_kept, first_kept, kept_on}
use Rattle.bkd_reader.proofs.walk.+collect_all.Goals as goal
use Rattle.segment_file.proofs.Subtrees.{on_ok}

pub returns-in_err-collect_all-in-Some-clause-shown : goal.returns-in_err-collect_all-in-Some-clause-shown
returns-in_err-collect_all-in-Some-clause-shown g t c = λ first s path t' is.
    let k = c.in-Some.ensures.some first s path t' is in
    handed_on c.from_residual.result c.in_err-collect_all-in-Some.field-0.0 (IsLeafDamage g.row.D c.args.head.now first s t') c.from_residual.ensures.1
    (left_damage {T = Unit {0}} (Err c.in_err-collect_all-in-Some.field-0.0) c.args.head.now c.in-Some.left c.in-Some.right first s path t' k
    (c.in_err-collect_all-in-Some.ensures.shown first s _ k.l k.left_is))

pub returns-in_err-collect_all-in-Some-clause-whole : goal.returns-in_err-collect_all-in-Some-clause-whole
returns-in_err-collect_all-in-Some-clause-whole g t c = λ told agrees first s path t' items is holds.
    let k = c.in-Some.ensures.some first s path t' is in
    let j = held (bytes_of (g.F.Pages.files c.args.folder.now (Segment c.args.head.now.id))) c.args.head.now c.in-Some.left c.in-Some.right first s path t' k
    items holds in
    handed_on c.from_residual.result c.in_err-collect_all-in-Some.field-0.0 (λ _. ⊥) c.from_residual.ensures.1
    (c.in_err-collect_all-in-Some.ensures.whole told agrees first s _ k.l j.front_items k.left_is j.front_holds)

pub returns-in_ok-collect_all-in-Some-clause-hits : goal.returns-in_ok-collect_all-in-Some-clause-hits
returns-in_ok-collect_all-in-Some-clause-hits g t c = λ told agrees first s path t' root has all.
    let k = c.in-Some.ensures.some first s path t' root.is in
    let alls = children_all has true c.in-Some.left c.in-Some.right first s path t' k root.cells all in
    let same = c.collect_all.ensures.reading.files told in
    let agree = subst (λ f. Agrees f c.collect_all.new.cache) (sym same) (c.collect_all.ensures.reading.agrees told agrees) in
    let front =
    c.in_ok-collect_all-in-Some.ensures.hits told agrees first s _ k.l (left_root c.in-Some.left c.in-Some.right first s path t' k root.cells) has alls.0 in
    let back = c.collect_all-in-Some.ensures.hits told agree (first + leaf_count k.l) (right_begin s k.l k.r) _ k.r
    (right_root c.in-Some.left c.in-Some.right first s path t' k root.cells) has alls.1 in
    on_ok (Appends c.collect_all.new.hits.items c.collect_all-in-Some.new.hits.items
    (AreHits g.row.D (bytes_of (g.F.Pages.files c.args.folder.now (Segment c.args.head.now.id))) c.args.head.now has c.args.live.now (first + leaf_count k.l)
    (right_begin s k.l k.r) k.r))
    (Appends c.args.hits.now.items c.collect_all-in-Some.new.hits.items
    (AreHits g.row.D (bytes_of (g.F.Pages.files c.args.folder.now (Segment c.args.head.now.id))) c.args.head.now has c.args.live.now first s t'))
    c.collect_all-in-Some.result
    (λ b. children_hits (bytes_of (g.F.Pages.files c.args.folder.now (Segment c.args.head.now.id))) c.args.head.now has c.args.live.now c.in-Some.left
    c.in-Some.right first s path t' k c.args.hits.now.items c.collect_all.new.hits.items c.collect_all-in-Some.new.hits.items front b)
    (subst (λ f. OnOk c.collect_all-in-Some.result
    (Appends c.collect_all.new.hits.items c.collect_all-in-Some.new.hits.items
    (AreHits g.row.D (bytes_of (f (Segment c.args.head.now.id))) c.args.head.now has c.args.live.now (first + leaf_count k.l) (right_begin s k.l k.r) k.r)))
    same back)

pub returns-in_ok-collect_all-in-Some-clause-shown : goal.returns-in_ok-collect_all-in-Some-clause-shown
returns-in_ok-collect_all-in-Some-clause-shown g t c = λ first s path t' is.
    let k = c.in-Some.ensures.some first s path t' is in
    right_damage c.collect_all-in-Some.result c.args.head.now c.in-Some.left c.in-Some.right first s path t' k
    (c.collect_all-in-Some.ensures.shown (first + leaf_count k.l) (right_begin s k.l k.r) _ k.r k.right_is)

pub returns-in_ok-collect_all-in-Some-clause-whole : goal.returns-in_ok-collect_all-in-Some-clause-whole
returns-in_ok-collect_all-in-Some-clause-whole g t c = λ told agrees first s path t' items is holds.
    let k = c.in-Some.ensures.some first s path t' is in
    let same = c.collect_all.ensures.reading.files told in
    let agree = subst (λ f. Agrees f c.collect_all.new.cache) (sym same) (c.collect_all.ensures.reading.agrees told agrees) in
    let j = held (bytes_of (g.F.Pages.files c.args.folder.now (Segment c.args.head.now.id))) c.args.head.now c.in-Some.left c.in-Some.right first s path t' k
    items holds in
    c.collect_all-in-Some.ensures.whole told agree (first + leaf_count k.l) (right_begin s k.l k.r) _ k.r j.back_items k.right_is
    (subst (λ f. HoldsTree g.row.D (bytes_of (f (Segment c.args.head.now.id))) c.args.head.now (first + leaf_count k.l) (right_begin s k.l k.r) k.r
    j.back_items) (sym same) j.back_holds)

pub returns-in-None-clause-hits : goal.returns-in-None-clause-hits
returns-in-None-clause-hits g t c = λ told agrees first s path t' root has all. c.collect_leaf.ensures.hits told agrees first s path t' root.is has all

pub returns-in-None-clause-reads : goal.returns-in-None-clause-reads
returns-in-None-clause-reads g t c =
    let one : c.args.node.now.leaves ≡ 1 = search rules in
    let most = c.collect_leaf.ensures.reads.most in
    omega (arith, one, most)

-- ---- all pages are kept

pub returns-in_err-collect_all-in-Some-clause-kept : goal.returns-in_err-collect_all-in-Some-clause-kept
returns-in_err-collect_all-in-Some-clause-kept g t c = λ first s path t' is kept.
    let k = c.in-Some.ensures.some first s path t' is in
    let each = children_kept c.args.cache.now c.args.head.now IsAny c.in-Some.left c.in-Some.right first s path t' k kept in
    let p = err_from_is_err_and c.from_residual.result c.from_residual.ensures.1 in
    reads_failed _ _ _ _ _ _ p.1 (c.in_err-collect_all-in-Some.ensures.kept first s _ k.l k.left_is each.0).reads

pub returns-in_ok-collect_all-in-Some-clause-kept : goal.returns-in_ok-collect_all-in-Some-clause-kept
returns-in_ok-collect_all-in-Some-clause-kept g t c = λ first s path t' is kept.
    let k = c.in-Some.ensures.some first s path t' is in
    let each = children_kept c.args.cache.now c.args.head.now IsAny c.in-Some.left c.in-Some.right first s path t' k kept in
    let front = c.in_ok-collect_all-in-Some.ensures.kept first s _ k.l k.left_is each.0 in
    reads_then _ _ _ _ _ _ c.collect_all-in-Some.result front.reads front.kept
    (c.collect_all-in-Some.ensures.kept (first + leaf_count k.l) (right_begin s k.l k.r) _ k.r k.right_is
    (kept_on c.args.cache.now c.collect_all.new.cache c.args.head.now IsAny (right_begin s k.l k.r) k.r front.kept each.1))

pub returns-in-None-clause-kept : goal.returns-in-None-clause-kept
returns-in-None-clause-kept g t c = λ first s path t' is kept.
    c.collect_leaf.ensures.reads.none first s path t' is (first_kept c.args.cache.now c.args.head.now s t' kept)
