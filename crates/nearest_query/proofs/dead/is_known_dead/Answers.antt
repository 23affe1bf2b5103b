use Rattle.nearest_query.proofs.dead.is_known_dead.Goals as goal

pub returns : goal.returns
returns g c told =
    let known = c.is_dead.ensures told in (
      c.if-not-watched.false,
      record {
        place = c.in-Some.place;
        stands = c.in-Some.ensures.some;
        page = known.0;
        known = rw (c.id.ensures, c.page_of.ensures) at known.1;
      },
    )
