use Rattle.std.proofs.Common.{◌≡◌, ◌∙◌, ◌<◌, ◌-ℤ◌, ℕ, ℤ, get_or, pos, ap, subst, rules, to_z, of_z, w32}
use Rattle.std.specs.List.{All}
use Rattle.point_codec.specs.Points.{square}
use Rattle.point_codec.specs.declared.entries.Near.{Near}
use Rattle.leaf_codec.specs.Ascending.{coordinate}
use Rattle.nearest_query.specs.Best.{found_of}
use Rattle.nearest_query.specs.Parted.{gap2}
use Rattle.nearest_query.proofs.LeftOut.{said_of}
use Rattle.nearest_query.proofs.outwards.is_beyond.Goals as goal

pub returns : goal.returns
returns g c = λ yes x is seen best.
    let said = said_of (λ y. c.coordinate.result ≡ coordinate c.args.d y) _ x is c.coordinate.ensures in
    let round : to_z w32 (of_z w32 c.coordinate.result) ≡ c.coordinate.result = search rules in
    let gap : c.from.result ≡ gap2 c.args.d c.args.at.now.c x =
    c.from.ensures ∙ c.squared_gap-gap.ensures ∙ ap (λ (v : ℤ). square (v -ℤ get_or c.args.at.now.c c.args.d (pos 0))) (round ∙ said) in (
      c.ends_before.ensures.full yes,
      subst (λ (n : ℕ). All (λ (a : Near). a.dist2 < n) (found_of c.args.found.now)) gap (c.ends_before.ensures.yes yes seen best),
    )
