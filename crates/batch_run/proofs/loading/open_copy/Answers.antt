-- The copy holds what was checked.
use Rattle.std.proofs.Common.{refl, subst, sym}
use Rattle.std.proofs.lemmas.Grind.{merely}
use Rattle.std.proofs.lemmas.Result.{err_from_is_err_and}
use Rattle.outer_io.specs.declared.file_name.FileName.TheVariants.{Commit}
use Rattle.outer_io.specs.Files.{Files, bytes_of}
use Rattle.commit_list.specs.CommitFiles.{IsCommitFile}
use Rattle.stored_index.specs.Stored.{HoldsIndex}
use Rattle.batch_run.proofs.Held.{opened_hold}
use Rattle.batch_run.proofs.Whole.{held_whole, shows_itself}
use Rattle.batch_run.proofs.loading.open_copy.Goals as goal

pub returns-in_err-check_index-clause-whole : goal.returns-in_err-check_index-clause-whole
returns-in_err-check_index-clause-whole g c = λ docs h.
    let e = err_from_is_err_and c.from_residual.result c.from_residual.ensures.1 in
    rw (e.1, e.2) (held_whole _ c.args.c.now docs c.in_err-check_index.field-0.0 h (c.in_err-check_index.ensures.undefined refl c.requires.commit))

pub returns-in_err-check_index-clause-shown : goal.returns-in_err-check_index-clause-shown
returns-in_err-check_index-clause-shown g c =
    let e = err_from_is_err_and c.from_residual.result c.from_residual.ensures.1 in
    rw (e.1, e.2) (shows_itself _ _ c.in_err-check_index.field-0.0 c.in_err-check_index.ensures.evident)

pub returns-in_err-segments-clause-whole : goal.returns-in_err-segments-clause-whole
returns-in_err-segments-clause-whole g c = λ docs h.
    let same = c.in_ok-check_index.ensures.files refl in
    let e = err_from_is_err_and c.from_residual-in_err-segments.result c.from_residual-in_err-segments.ensures.1 in
    rw (e.1, e.2) (held_whole _ c.args.c.now docs c.in_err-segments.field-0.0
    (subst (λ (f : Files). HoldsIndex f c.args.c.now docs) (sym same) h)
    (c.in_err-segments.ensures.undefined refl (subst (λ (f : Files). IsCommitFile (bytes_of (f Commit)) c.args.c.now) (sym same) c.requires.commit)))

pub returns-in_err-segments-clause-shown : goal.returns-in_err-segments-clause-shown
returns-in_err-segments-clause-shown g c =
    let e = err_from_is_err_and c.from_residual-in_err-segments.result c.from_residual-in_err-segments.ensures.1 in
    rw (e.1, e.2) (shows_itself _ _ c.in_err-segments.field-0.0 c.in_err-segments.ensures.evident)

pub invariant_of-result : goal.invariant_of-result
invariant_of-result g c =
    let held = c.in_ok-check_index.ensures.holds refl c.requires.commit in
    record {
      held = merely (
        held.0,
        opened_hold g.row.D _ _ _ c.args.c.now c.in_ok-segments.segments held.0 c.requires.dims
            (c.in_ok-check_index.ensures.files refl) (c.in_ok-segments.ensures.files refl) c.in_ok-segments.ensures.opened held.1,
      );
    }

pub returns-clause-copy : goal.returns-clause-copy
returns-clause-copy g c = record {
  stored = c.in_ok-check_index.ensures.holds refl;
  held = λ docs h.
      opened_hold g.row.D _ _ _ c.args.c.now c.in_ok-segments.segments docs c.requires.dims
      (c.in_ok-check_index.ensures.files refl) (c.in_ok-segments.ensures.files refl) c.in_ok-segments.ensures.opened h;
}
