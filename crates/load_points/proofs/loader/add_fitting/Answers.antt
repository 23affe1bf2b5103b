-- All points are added, and what they leave is committed.
use Rattle.std.proofs.Common.{Err, sym, ap, ◌∙◌, arith}
use Rattle.std.proofs.lemmas.List.{length-map}
use Rattle.std.proofs.lemmas.Result.{err_from_is_err_and}
use Rattle.page_cache.specs.declared.faults.PageFault.{PageFault}
use Rattle.segment_set.specs.AtOnce.{points_in}
use Rattle.point_codec.specs.declared.entries.Entry.{Entry}
use Rattle.point_codec.proofs.Sizes.{entry_fits}
use Rattle.index_core.proofs.Sizes.{session_fits}
use Rattle.load_points.proofs.Loading.{adding_stopped, all_loaded, commit_stopped, loads_no_memory}
use Rattle.load_points.proofs.LoadAnswers.{told_count}
use Rattle.load_points.proofs.loader.add_fitting.Goals as goal

pub next-requires : goal.next-requires
next-requires g c = session_fits g.row.D c.requires.few

pub add_entries-requires-after_bounds : goal.add_entries-requires-after_bounds
add_entries-requires-after_bounds g c κs = λ _. (session_fits g.row.D c.requires.few, (entry_fits g.row.D c.requires.few, (c.requires.numbered, c.requires.fits)))

pub commit-requires-after_bounds : goal.commit-requires-after_bounds
commit-requires-after_bounds g c κs = λ _. session_fits g.row.D c.requires.few

pub returns-in_err-put_loaded : goal.returns-in_err-put_loaded
returns-in_err-put_loaded g c =
    let p = err_from_is_err_and c.from_residual.result c.from_residual.ensures.1 in
    loads_no_memory _ _ _ _ _ _ _ _ _ (p.1 ∙ ap (λ (e : PageFault). Err e) p.2) (λ stored l. l.keeps)

pub returns-in_err-add_entries : goal.returns-in_err-add_entries
returns-in_err-add_entries g c =
    let p = err_from_is_err_and c.from_residual-in_err-add_entries.result c.from_residual-in_err-add_entries.ensures.1 in
    adding_stopped g.row.D _ _ (points_in c.args.entries.now) _ _ _ _ c.in_err-add_entries.field-0.0 _ (p.1 ∙ ap (λ (e : PageFault). Err e) p.2)
    c.in_err-add_entries.ensures

pub returns-in_err-commit : goal.returns-in_err-commit
returns-in_err-commit g c =
    let p = err_from_is_err_and c.from_residual-in_err-commit.result c.from_residual-in_err-commit.ensures.1 in
    let long = length-map c.args.entries.now (λ (q : Entry g.row.D). q.point.c) in
    commit_stopped g.row.D _ (points_in c.args.entries.now) _ _ _ tt _ _ c.in_err-commit.field-0.0 _ (p.1 ∙ ap (λ (e : PageFault). Err e) p.2)
    (omega (arith, c.requires.fits, long)) c.in_ok-add_entries.ensures
    (record {
      seen = c.in_err-commit.ensures.seen;
      stays = c.in_err-commit.ensures.stays;
      durable = c.in_err-commit.ensures.durable;
      done = tt;
      canon = c.in_err-commit.ensures.canon;
      faults = c.in_err-commit.ensures.faults;
    })

pub returns : goal.returns
returns g c =
    let long = length-map c.args.entries.now (λ (q : Entry g.row.D). q.point.c) in
    all_loaded g.row.D _ (points_in c.args.entries.now) _ _ _ tt tt c.next.result _ _ (omega (arith, c.requires.fits, long)) c.next.ensures.value
    (told_count _ _ c.args.count _ _ c.in_ok-put_loaded.ensures (c.requires.counted ∙ sym long)) c.in_ok-add_entries.ensures
    (record {
      seen = c.in_ok-commit.ensures.seen;
      stays = c.in_ok-commit.ensures.stays;
      durable = c.in_ok-commit.ensures.durable;
      done = c.in_ok-commit.ensures.done;
      canon = c.in_ok-commit.ensures.canon;
      faults = c.in_ok-commit.ensures.faults;
    })
