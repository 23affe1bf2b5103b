-- There is room for a point, since there was one, and it is the one.
use Rattle.std.proofs.Common.{◌≡◌, ℕ, List, [], ◌∷◌, ◌++◌, length, map, ap, ◌∙◌, arith}
use Rattle.std.proofs.lemmas.List.{length-map}
use Rattle.point_codec.specs.declared.coordinates.Point.{Point}
use Rattle.point_codec.proofs.Ordered.{one_point}
use Rattle.point_codec.proofs.coordinates.Points.set_one.Goals as goal

pub push_reserved-requires : goal.push_reserved-requires
push_reserved-requires g c =
    let long : length (map (λ (p : Point g.row.D). p.c) c.self.inside.list.items) ≡ length c.self.inside.list.items = length-map c.self.inside.list.items _ in
    omega (
      arith,
      long,
      c.self.invariant.some,
      c.self.inside.list.ok.0,
      c.self.inside.list.ok.1,
      c.clear.ensures.len,
      c.clear.ensures.capacity,
    )

-- a list that was cleared has what was put into it
alone : {D : ℕ} (point : Point D) (cleared list : List (Point D)) → cleared ≡ [] → list ≡ cleared ++ point ∷ [] → list ≡ point ∷ []
alone {D} point cleared list none more = more ∙ ap (λ (ps : List (Point D)). ps ++ point ∷ []) none

pub invariant_of-self : goal.invariant_of-self
invariant_of-self g c = rw (alone _ _ _ c.clear.ensures.items c.push_reserved.ensures.items) (one_point c.args.point.now.c)

pub returns : goal.returns
returns g c = ap (map (λ (p : Point g.row.D). p.c)) (alone _ _ _ c.clear.ensures.items c.push_reserved.ensures.items)
