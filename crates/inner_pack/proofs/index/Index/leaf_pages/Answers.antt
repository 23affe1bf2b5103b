use Rattle.std.proofs.Common.{◌∙◌, ap, sym, subst, inl, inr}
use Rattle.std.proofs.lemmas.Bool.{cases_eq}
use Rattle.std.proofs.lemmas.Grind.{not_there}
use Rattle.point_codec.specs.Seen.{region_of}
use Rattle.inner_pack.specs.Bodies.{Body, HasTree, pages_of}
use Rattle.inner_pack.proofs.OneTree.{one_index}
use Rattle.inner_pack.proofs.index.Index.leaf_pages.Goals as goal

pub returns : goal.returns
returns g c root t h =
    let i = c.self.inside in
    let here = subst (λ (b : Body). HasTree g.row.D b root t) (sym c.self.view_is) h in
    elim (cases_eq i.pages (pages_of t)) [
      | inl same ↦ same
      | inr apart ↦ absurd
          (not_there i.valid
          (λ v. apart (v.pages_are ∙ ap pages_of (one_index g.row.D i.form i.leaves i.bytes.items (region_of i.root) root v.tree t v.spelled here).1)))
    ]
