use Rattle.std.proofs.Common.{◌≡◌, ◌≢◌, ◌<◌, ◌≤◌, ◌+◌, ℕ, sym, subst, ◌∙◌, arith, rules, cond, ltb}
use Rattle.std.proofs.lemmas.Bool.{lt-ltb, cond-true}
use Rattle.leaf_codec.specs.Views.{raw_keys_of}
use Rattle.leaf_codec.proofs.OrderedKeys.{rank_of}
use Rattle.leaf_codec.proofs.in_order.lie_between.Goals as goal

-- a dimension that doesn't lead isn't the sorted one
other_dimension : (D s d e : ℕ) → d ≡ cond (ltb s D) s 0 → e < D → e ≢ d → e ≢ s
other_dimension D s d e is lt apart same =
    apart (same ∙ sym (is ∙ cond-true (ltb s D) s 0 (lt-ltb s D (omega (arith, same, lt)))))

pub ends_between-requires : goal.ends_between-requires
ends_between-requires g c =
    let up = λ (k : ℕ) (lt : k + 1 < c.args.parts.now.count).
    subst (λ (e : ℕ). rank_of g.row.D (raw_keys_of c.args.parts.now) k e ≤ rank_of g.row.D (raw_keys_of c.args.parts.now) (k + 1) e) (sym c.if-e-d.true)
    (c.requires.rises k lt) in
    (search rules, (c.requires.dims, (c.requires.parts, (c.requires.slots, (c.requires.some, (c.requires.dimension, up))))))

pub rests_between-requires : goal.rests_between-requires
rests_between-requires g c =
    let other = other_dimension g.row.D c.args.parts.now.sorted c.args.d c.args.e c.requires.leading c.requires.dimension c.if-e-d.false in
    (search rules, (c.requires.dims, (c.requires.parts, (c.requires.slots, (c.requires.some, (c.requires.dimension, other))))))
