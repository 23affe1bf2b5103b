use Rattle.std.proofs.Common.{sym, subst}
use Rattle.std.proofs.lemmas.Grind.{merely}
use Rattle.std.proofs.Math.Logic.{∥∥₁_elim, ∥∥₁_prop}
use Rattle.page_cache.specs.Keys.{KeptData}
use Rattle.page_cache.specs.Notes.{Fits}
use Rattle.page_cache.proofs.Notes.{fit_set}
use Rattle.page_cache.proofs.kept_page.KeptPage.add.Goals as goal

pub invariant_of-self-inside : goal.invariant_of-self-inside
invariant_of-self-inside c =
    let fits = subst (λ (p : KeptData). Fits c.args.note p.page.value.b) (sym c.self.view_is) c.requires in
    (∥∥₁_elim c.self.inside.fit ∥∥₁_prop (λ fit. merely (fit_set c.self.inside.notes c.slot.result c.args.note c.self.inside.page.value.b fit fits)), tt)
