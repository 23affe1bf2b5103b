use Rattle.std.proofs.Common.{◌≡◌, ◌++◌, ◌∙◌, ℕ, List, map, sym, ap, subst}
use Rattle.std.specs.Prelude.{OnOk}
use Rattle.point_codec.specs.Points.{Item}
use Rattle.leaf_codec.specs.Views.{raw_numbers_of, raw_keys_of}
use Rattle.leaf_codec.proofs.NumbersOut.{docs_said}
use Rattle.leaf_codec.proofs.view.LeafView.push_numbers.Goals as goal

pub push_all-requires : goal.push_all-requires
push_all-requires g c = c.self.inside.readable.numbers

pub returns-clause-ok : goal.returns-clause-ok
returns-clause-ok g c =
    let v = c.self.inside in
    let said = sym (docs_said g.row.D v.numbers.count (raw_numbers_of v.numbers) (raw_keys_of v.parts))
    ∙ ap (λ (xs : List Item). map (λ (x : Item). x.doc) xs) c.self.view_is in
    subst (λ (ns : List ℕ). OnOk c.push_all.result (c.push_all.new.out.items ≡ c.args.out.now.items ++ ns)) said c.push_all.ensures.ok
