use Rattle.std.proofs.Common.{◌≤◌, sym, subst, arith}
use Rattle.std.proofs.lemmas.Result.{err_from_is_err_and}
use Rattle.page_cache.specs.declared.cache.PageCache.{PageCache}
use Rattle.page_cache.specs.Cache.{IsKept}
use Rattle.page_cache.specs.Evidence.{IsPageDamage, IsPageDamageOf}
use Rattle.page_cache.proofs.Damages.{fault_weaker, fault_both}
use Rattle.page_cache.specs.FilePages.{IsFilePage}
use Rattle.outer_io.specs.Files.{bytes_of}
use Rattle.outer_io.specs.declared.file_name.FileName.TheVariants.{Segment}
use Rattle.segment_file.specs.Heads.{page_of}
use Rattle.segment_file.specs.Damages.{IsLeafDamage, IsLeafDamageOf}
use Rattle.segment_file.proofs.Leaves.{leaf_from_page, leaf_from_page_of}
use Rattle.segment_file.proofs.leaf.load_leaf.Goals as goal

pub returns-clause-hit : goal.returns-clause-hit
returns-clause-hit g c = λ first s path t at kept.
    let p = c.in-Some.ensures.some first s path t at in
    let here : IsKept c.args.cache.now c.id.result c.page_of.result = rw (c.id.ensures, c.page_of.ensures, p.page) kept in
    let hit = c.in_ok-load.ensures.hit here in
    (hit.0, hit.1, λ i n k. subst (λ (h : PageCache). IsKept h i n) (sym c.note_leaf.ensures) (hit.2 i n k))

pub returns-in_err-load-clause-hit : goal.returns-in_err-load-clause-hit
returns-in_err-load-clause-hit g c = λ first s path t at kept.
    let p = c.in-Some.ensures.some first s path t at in
    let here : IsKept c.args.cache.now c.id.result c.page_of.result = rw (c.id.ensures, c.page_of.ensures, p.page) kept in
    let hit = c.in_err-load.ensures.hit here in
    absurd (let no_ok = hit.0 in cc)

pub returns-in_err-load-clause-whole : goal.returns-in_err-load-clause-whole
returns-in_err-load-clause-whole g c = λ told first s path t at page.
    let p = c.in-Some.ensures.some first s path t at in
    let here : IsFilePage (Segment c.id.result) (bytes_of (g.F.Pages.files c.args.folder.now (Segment c.id.result))) c.page_of.result =
    rw (c.id.ensures, c.page_of.ensures, p.page) page in
    let e = err_from_is_err_and c.from_residual.result c.from_residual.ensures.1 in
    rw (e.1, e.2) (c.in_err-load.ensures.whole told here)

pub returns-in_err-load-clause-shown : goal.returns-in_err-load-clause-shown
returns-in_err-load-clause-shown g c = λ first s path t at.
    let head = c.args.head.now in
    let place = c.in-Some.place in
    let shown = rw (c.id.ensures, c.page_of.ensures) at c.in_err-load.ensures.shown in
    let e = err_from_is_err_and c.from_residual.result c.from_residual.ensures.1 in
    rw (e.1, e.2)
    (fault_weaker c.in_err-load.field-0.0 (IsPageDamage (Segment head.id) (page_of head place.page)) (IsLeafDamage g.row.D head first s t)
    (λ d h. leaf_from_page g.row.D head first s t place d (c.in-Some.ensures.some first s path t at) h) shown)

pub returns-in_err-load-clause-damage : goal.returns-in_err-load-clause-damage
returns-in_err-load-clause-damage g c = λ told.
    let files = g.F.Pages.files c.args.folder.now in
    let name = Segment c.id.result in
    let behind : 1 ≤ c.page_of.result = omega (arith, c.page_of.ensures) in
    let e = err_from_is_err_and c.from_residual.result c.from_residual.ensures.1 in
    rw (e.1, e.2)
    (fault_both c.in_err-load.field-0.0 (IsPageDamage name c.page_of.result) (IsPageDamageOf files c.page_of.result) (IsLeafDamageOf files)
    (λ d. leaf_from_page_of files name c.page_of.result d behind)
    c.in_err-load.ensures.shown (c.in_err-load.ensures.damage told))
