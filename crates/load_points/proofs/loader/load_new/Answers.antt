-- A new index is made, and the file loaded into it.
use Rattle.std.proofs.Common.{◌≤◌, ℕ, zero, suc, refl, sym, subst, arith}
use Rattle.leaf_codec.specs.Leaves.{leaf_limit}
use Rattle.index_core.proofs.Sizes.{session_fits}
use Rattle.load_points.proofs.Loading.{loads_as, loads_no_memory}
use Rattle.load_points.proofs.Opening.{made_loading, made_trusts}
use Rattle.load_points.proofs.LoadAnswers.{none_keeps}
use Rattle.load_points.proofs.loader.load_new.Goals as goal

-- a leaf has room for two entries at least
leaf_fits : (n : ℕ) → 1 ≤ n → n ≤ 8 → 2 ≤ leaf_limit n
leaf_fits zero some few = absurd (omega (arith, some))
leaf_fits (suc zero) some few = omega arith
leaf_fits (suc (suc zero)) some few = omega arith
leaf_fits (suc (suc (suc zero))) some few = omega arith
leaf_fits (suc (suc (suc (suc zero)))) some few = omega arith
leaf_fits (suc (suc (suc (suc (suc zero))))) some few = omega arith
leaf_fits (suc (suc (suc (suc (suc (suc zero)))))) some few = omega arith
leaf_fits (suc (suc (suc (suc (suc (suc (suc zero))))))) some few = omega arith
leaf_fits (suc (suc (suc (suc (suc (suc (suc (suc zero)))))))) some few = omega arith
leaf_fits (suc (suc (suc (suc (suc (suc (suc (suc (suc n))))))))) some few = absurd (omega (arith, few))

pub create-requires : goal.create-requires
create-requires g c = (
  session_fits g.row.D c.requires.few,
  (
    (c.requires.some, c.requires.few),
    (subst (λ n. 2 ≤ n) (sym c.greatest_leaf.ensures) (leaf_fits g.row.D c.requires.some c.requires.few), omega (arith, c.greatest_leaf.ensures)),
  ),
)

pub load_into-requires-after_bounds : goal.load_into-requires-after_bounds
load_into-requires-after_bounds g c κs = λ _. (session_fits g.row.D c.requires.few, (c.requires.some, (c.requires.few, c.requires.named)))

pub returns-in-Ok : goal.returns-in-Ok
returns-in-Ok g c =
    loads_as _ _ _ _ _ _ _ _ _ c.load_into.result (made_trusts g.row.D _ _ (c.in-Ok.ensures.guards _) (c.in-Ok.ensures.faithful _) c.in-Ok.ensures.bare
    (c.in-Ok.ensures.traced _))
    (λ stored h. made_loading g.row.D _ _ _ stored c.greatest_leaf.ensures (c.in-Ok.ensures.seen _) (c.in-Ok.ensures.guards _) c.in-Ok.ensures.bare h)
    (λ stored h. refl) c.load_into.ensures

pub returns-in-Err : goal.returns-in-Err
returns-in-Err g c = loads_no_memory _ _ _ _ _ _ _ _ _ refl (λ stored h. none_keeps (g.F.Pages.files c.args.folder.now) stored h)
