use Rattle.std.specs.Prelude.{IsTrue}
use Rattle.std.proofs.lemmas.Result.{err_from_is_err_and}
use Rattle.outer_io.specs.declared.file_name.FileName.TheVariants.{Segment, Live}
use Rattle.page_cache.proofs.Damages.{fault_weaker}
use Rattle.index_opening.specs.First.{IsFirstIn, IsOfFile, OfHead, OfLive}
use Rattle.index_opening.proofs.opening.open_one.Goals as goal

pub returns-in_err-head-clause-first : goal.returns-in_err-head-clause-first
returns-in_err-head-clause-first g c =
    let files = g.F.Pages.files c.args.folder.now in
    let s = c.args.s in
    let e = err_from_is_err_and c.from_residual.result c.from_residual.ensures.1 in
    rw (e.1, e.2)
    (fault_weaker c.in_err-head.field-0.0 (IsOfFile (Segment s.segment)) (IsFirstIn (IsTrue g.F.Pages.told) files c.args.c.now s) (λ d h. OfHead h)
    c.in_err-head.ensures.of)

pub returns-in_err-live-clause-first : goal.returns-in_err-live-clause-first
returns-in_err-live-clause-first g c =
    let files = g.F.Pages.files c.args.folder.now in
    let s = c.args.s in
    let head = c.in_ok-head.ensures in
    let e = err_from_is_err_and c.from_residual-in_err-live.result c.from_residual-in_err-live.ensures.1 in
    rw (e.1, e.2)
    (fault_weaker c.in_err-live.field-0.0 (IsOfFile (Live s.segment s.generation)) (IsFirstIn (IsTrue g.F.Pages.told) files c.args.c.now s)
    (λ d h. OfLive c.in_ok-head.head head.head head.listed.1 head.listed.2 h) c.in_err-live.ensures.of)
