-- The fault is told, and nothing changes.
use Rattle.std.proofs.Common.{Err, refl, ap, ◌∙◌}
use Rattle.std.proofs.lemmas.Result.{err_from_is_err_and}
use Rattle.page_cache.specs.declared.faults.PageFault.{PageFault}
use Rattle.load_points.specs.Loaded.{csv_text}
use Rattle.load_points.proofs.Loading.{loads_no_memory, loads_refused}
use Rattle.load_points.proofs.refusals.refuse_file.Goals as goal

pub returns-in_err-put_csv_fault : goal.returns-in_err-put_csv_fault
returns-in_err-put_csv_fault c files faults =
    let p = err_from_is_err_and c.from_residual.result c.from_residual.ensures.1 in
    loads_no_memory _ _ _ _ files faults _ _ _ (p.1 ∙ ap (λ (e : PageFault). Err e) p.2) (λ stored h. h)

pub returns : goal.returns
returns c files faults =
    loads_refused _ _ _ _ files faults _ _ (csv_text c.args.columns.now c.args.fault.now) c.in_ok-put_csv_fault.ensures (λ stored h. h) (λ stored h. refl)
