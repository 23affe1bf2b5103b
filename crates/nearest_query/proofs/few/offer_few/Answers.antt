use Rattle.std.proofs.Common.{◌≡◌, ◌≤◌, ◌<◌, ◌-◌, false, length, get_or, List, subst}
use Rattle.std.specs.Ordering.{is_lt}
use Rattle.point_codec.specs.declared.entries.Near.{Near}
use Rattle.nearest_query.specs.Best.{near_cmp}
use Rattle.nearest_query.proofs.Among.{skip_few}
use Rattle.nearest_query.proofs.few.offer_few.Goals as goal

pub returns-then-is_full_before : goal.returns-then-is_full_before
returns-then-is_full_before c = λ entries some was.
    let said = c.is_full_before.ensures.yes c.if-is_full_before.true in
    let same = c.as_slice.ensures.value in
    skip_few c.args.room entries c.args.nears.now.items c.args.near was
    (subst (λ (ns : List Near). c.args.room ≤ length ns) same said.0)
    (subst (λ (ns : List Near). 0 < length ns) same (c.is_full_before.ensures.some c.if-is_full_before.true))
    (subst (λ (ns : List Near). is_lt (near_cmp c.args.near (get_or ns (length ns - 1) c.args.near)) ≡ false) same said.1)
