use Rattle.std.proofs.Common.{◌≡◌, ◌≢◌, ℕ, length, take, sym, ap, subst, ◌∙◌, arith}
use Rattle.point_codec.specs.Points.{Region}
use Rattle.point_codec.specs.Seen.{region_of}
use Rattle.page_cache.specs.Notes.{HasLeaf, Fits}
use Rattle.page_cache.proofs.note.LeafNote.of.Goals as goal

pub returns : goal.returns
unfolding Fits
returns g c = λ page.
    let lo : take g.row.D c.in_front.result ≡ c.args.cell.now.lo.c =
    ap (λ (n : ℕ). take n c.in_front.result) (sym (ap length c.coordinates.ensures.value ∙ c.coordinates.ensures.long)) ∙ c.in_front.ensures
    ∙ c.coordinates.ensures.value in
    let hi : take g.row.D c.in_front-2.result ≡ c.args.cell.now.hi.c =
    ap (λ (n : ℕ). take n c.in_front-2.result) (sym (ap length c.coordinates-2.ensures.value ∙ c.coordinates-2.ensures.long)) ∙ c.in_front-2.ensures
    ∙ c.coordinates-2.ensures.value in
    let cell : record { lo = take g.row.D c.in_front.result; hi = take g.row.D c.in_front-2.result } ≡ region_of c.args.cell.now = λ i.
    record { lo = lo i; hi = hi i } in
    let some : g.row.D ≢ 0 = omega (arith, c.args.cell.now.lo.low) in (
      λ fits. subst (λ (r : Region). HasLeaf g.row.D page c.args.offset c.args.length c.args.count r) cell (fits some),
      λ has _. subst (λ (r : Region). HasLeaf g.row.D page c.args.offset c.args.length c.args.count r) (sym cell) has,
    )
