-- The file's own fault comes first, then its number of columns.
use Rattle.std.proofs.Common.{Err, rules, refl, ap, ◌∙◌}
use Rattle.std.proofs.lemmas.Result.{err_from_is_err_and}
use Rattle.page_cache.specs.declared.faults.PageFault.{PageFault}
use Rattle.load_points.specs.Loaded.{dims_text}
use Rattle.load_points.proofs.Loading.{loads_no_memory, loads_refused}
use Rattle.load_points.proofs.LoadAnswers.{dims_refused, file_refused}
use Rattle.load_points.proofs.refusals.refuse_dims.Goals as goal

pub returns-in_err-put_dims-in-Ok : goal.returns-in_err-put_dims-in-Ok
returns-in_err-put_dims-in-Ok c files faults =
    let p = err_from_is_err_and c.from_residual.result c.from_residual.ensures.1 in
    loads_no_memory _ _ _ _ files faults _ _ _ (p.1 ∙ ap (λ (e : PageFault). Err e) p.2) (λ stored h. h.0)

pub returns-in_ok-put_dims-in-Ok : goal.returns-in_ok-put_dims-in-Ok
returns-in_ok-put_dims-in-Ok c files faults =
    loads_refused _ _ _ _ files faults _ _ (dims_text c.args.dims) c.in_ok-put_dims-in-Ok.ensures (λ stored h. h.0)
    (λ stored h. dims_refused files c.args.dims stored c.args.input.now c.args.columns.now c.in-Ok.ensures.on_ok.0 c.requires.other c.in-Ok.ensures.on_ok.1 h)

pub returns-in-Err-Memory : goal.returns-in-Err-Memory
returns-in-Err-Memory c files faults = loads_no_memory _ _ _ _ files faults _ _ _ refl (λ stored h. h.0)

pub returns-in-Err : goal.returns-in-Err
returns-in-Err c files faults =
    file_refused _ _ _ files faults _ _ c.args.input.now c.args.columns.now c.in-Err.fault c.refuse_file.result (λ stored h. h.0)
    (c.in-Err.ensures.fault (search rules)) (c.refuse_file.ensures files faults)
