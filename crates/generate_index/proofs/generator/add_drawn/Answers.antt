-- The documents of all drawn points are added.
use Rattle.std.proofs.Common.{◌≡◌, Err, length, refl, ap, subst, sym, ◌∙◌, lit<, arith}
use Rattle.std.proofs.lemmas.List.{length-map}
use Rattle.std.proofs.lemmas.List.FromFn.{length-map-range_with_len}
use Rattle.std.proofs.lemmas.Result.{err_from_is_err_and}
use Rattle.page_cache.specs.declared.faults.PageFault.{PageFault}
use Rattle.point_codec.specs.declared.entries.Entry.{Entry}
use Rattle.segment_set.specs.AtOnce.{AreNumbered, points_in}
use Rattle.drawn_points.specs.Draws.{point, points}
use Rattle.index_core.proofs.Adding.{adds_memory_as}
use Rattle.generate_index.proofs.Making.{makes_adds}
use Rattle.generate_index.proofs.generator.add_drawn.Given as given
use Rattle.generate_index.proofs.generator.add_drawn.Goals as goal

-- as many entries as documents
count_is : (g : given.Over) (c : goal.After-as_mut_slice g) → length c.as_mut_slice.result.now ≡ c.args.docs
count_is g c =
    let long = length-map c.as_mut_slice.result.now (λ (e : Entry 2). e.point.c) in
    omega (
      arith,
      long,
      ap length (ap points_in c.as_mut_slice.ensures.value ∙ c.in_ok-entries.ensures.points),
      length-map-range_with_len (point c.args.draws.now) 0 c.args.docs,
    )

pub add_entries-requires-after_bounds : goal.add_entries-requires-after_bounds
add_entries-requires-after_bounds g c κs = λ _.
    let none : c.args.session.now.set.next ≡ 0 = omega (arith, c.requires.none, c.next-next.ensures.most) in (
      lit< tt,
      (
        lit< tt,
        (
          subst (AreNumbered c.args.session.now.set.next) (sym c.as_mut_slice.ensures.value)
              (subst (λ n. AreNumbered n c.in_ok-entries.entries.items) (sym none) c.in_ok-entries.ensures.numbers),
          omega (arith, c.requires.none, c.requires.few, count_is g c),
        ),
      ),
    )

pub returns-in_err-entries-clause-makes : goal.returns-in_err-entries-clause-makes
returns-in_err-entries-clause-makes g c =
    let p = err_from_is_err_and c.from_residual.result c.from_residual.ensures.1 in
    makes_adds _ c.args.draws.now c.args.docs (points c.args.draws.now 0 c.args.docs) _ _ _ (c.documents_deleted.ensures.none c.args.draws.now)
    (c.documents_added.ensures.more c.args.draws.now) refl
    (adds_memory_as 2 _ _ _ _ (p.1 ∙ ap (λ (e : PageFault). Err e) p.2))

pub returns-clause-makes : goal.returns-clause-makes
returns-clause-makes g c =
    makes_adds _ c.args.draws.now c.args.docs (points_in c.as_mut_slice.result.now) _ _ _ (c.documents_deleted.ensures.none c.args.draws.now)
    (c.documents_added.ensures.more c.args.draws.now) (ap points_in c.as_mut_slice.ensures.value ∙ c.in_ok-entries.ensures.points)
    c.add_entries.ensures
