use Rattle.std.proofs.Common.{◌<◌, ◌-◌, List, length, get_or, sym, subst}
use Rattle.std.specs.List.{All}
use Rattle.point_codec.specs.declared.entries.Near.{Near}
use Rattle.nearest_query.proofs.Either.{few_is, nearest_few, all_nearer}
use Rattle.nearest_query.proofs.candidates.Candidates.ends_before.Goals as goal

pub returns-clause-yes : goal.returns-clause-yes
returns-clause-yes c = λ yes entries best.
    let few = c.args.self.now.few.items in
    let le = c.if-self-gt-FEW.false in
    let same = c.as_slice.ensures.value in
    subst (All (λ a. a.dist2 < c.args.dist2)) (sym (few_is c.args.self.now le))
    (all_nearer c.args.self.now.many.room c.args.dist2 entries few (nearest_few entries c.args.self.now le best)
    (subst (λ (ns : List Near). 0 < length ns) same (c.end_before.ensures.full yes).1)
    (subst (λ (ns : List Near). (e : Near) → (get_or ns (length ns - 1) e).dist2 < c.args.dist2) same (c.end_before.ensures.yes yes)))
