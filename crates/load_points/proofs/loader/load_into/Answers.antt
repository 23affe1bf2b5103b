-- The points of the file are added, or its fault is told.
use Rattle.std.proofs.Common.{Ok, List, length, rules, refl, sym, ap, subst, ◌∙◌, arith}
use Rattle.point_codec.specs.declared.entries.Entry.{Entry}
use Rattle.segment_set.specs.AtOnce.{AreNumbered, points_in}
use Rattle.point_codec.proofs.Sizes.{entry_fits}
use Rattle.index_core.proofs.Sizes.{session_fits}
use Rattle.load_points.proofs.Counted.{loaded_points}
use Rattle.load_points.proofs.Loading.{loads_as, loads_no_memory}
use Rattle.load_points.proofs.LoadAnswers.{file_refused}
use Rattle.load_points.proofs.loader.load_into.Goals as goal

pub add_all-requires-after_bounds : goal.add_all-requires-after_bounds
add_all-requires-after_bounds g c κs = λ _. (
  session_fits g.row.D c.requires.few,
  (
    entry_fits g.row.D c.requires.few,
    (
      c.requires.few,
      λ fits. subst (λ (es : List (Entry g.row.D)). AreNumbered c.args.session.now.set.next es) (sym c.as_mut_slice.ensures.value)
          (subst (λ n. AreNumbered n c.in-Ok.entries.items) c.next.ensures.value
          (c.in-Ok.ensures.numbers (omega (arith, fits, c.next.ensures.most, c.next.ensures.value, ap length c.as_mut_slice.ensures.value)))),
    ),
  ),
)

pub next-requires : goal.next-requires
next-requires g c = session_fits g.row.D c.requires.few

pub returns-in-Ok : goal.returns-in-Ok
returns-in-Ok g c =
    loads_as _ _ _ _ _ _ _ _ _ c.add_all.result (λ trusts. trusts) (λ stored l. l)
    (λ stored l. loaded_points g.row.D stored c.args.input.now c.args.columns.now _ c.requires.named
    (c.in-Ok.ensures.points ∙ ap (λ ps. Ok (points_in ps)) (sym c.as_mut_slice.ensures.value)))
    c.add_all.ensures

pub returns-in-Err-Memory : goal.returns-in-Err-Memory
returns-in-Err-Memory g c = loads_no_memory _ _ _ _ _ _ _ _ _ refl (λ stored l. l.keeps)

pub returns-in-Err : goal.returns-in-Err
returns-in-Err g c =
    file_refused _ _ _ _ _ _ _ c.args.input.now c.args.columns.now c.in-Err.fault c.refuse_file.result (λ stored l. l.keeps)
    (c.in-Err.ensures.fault (search rules)) (c.refuse_file.ensures _ _)
