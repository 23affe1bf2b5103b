use Rattle.std.proofs.Common.{[], sym, ◌∙◌, arith, append-nil}
use Rattle.inner_pack.specs.Places.{leaf_begin}
use Rattle.inner_pack.specs.Bodies.{place_bytes}
use Rattle.inner_pack.specs.Heads.{spot_of}
use Rattle.inner_pack.proofs.PlaceLemmas.{fitted_fits, fitted_to}
use Rattle.inner_pack.proofs.leaf.table_leaf.Goals as goal

pub returns-in_err-place-clause-only : goal.returns-in_err-place-clause-only
returns-in_err-place-clause-only c n h =
    let e = spot_of c.args.behind in
    absurd (c.in_err-place.ensures.only (record { at = leaf_begin e n; length = n }) []
    (omega (arith, fitted_to e n, c.requires.room)) (omega (arith, fitted_fits e n h.greatest)) (omega (arith, h.greatest))
    (h.told ∙ sym (append-nil (place_bytes (record { at = leaf_begin e n; length = n })))))
