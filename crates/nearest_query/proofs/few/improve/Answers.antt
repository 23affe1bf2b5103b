use Rattle.std.proofs.Common.{◌≤◌, ◌<◌, ◌∷◌, subst}
use Rattle.point_codec.specs.declared.entries.Near.{Near}
use Rattle.documents.specs.NearestEntries.{IsNearest}
use Rattle.nearest_query.specs.Best.{IsInsertedAmong}
use Rattle.nearest_query.proofs.Among.{stay_few}
use Rattle.nearest_query.proofs.AmongWays.{improve_few, same_place}
use Rattle.nearest_query.proofs.few.improve.Goals as goal
use Rattle.segment_file.proofs.Subtrees.{on_ok}

pub returns-then-index-near : goal.returns-then-index-near
returns-then-index-near c = λ entries room was e lead.
    stay_few room entries c.args.nears.now.items c.args.near c.args.place was c.requires e
    (subst (λ (y : Near). y.dist2 ≤ c.args.near.dist2)
    (same_place c.args.nears.now.items c.args.place c.index.result.now c.args.near c.requires c.index.ensures) c.if-index-near.true)

pub returns : goal.returns
returns c = λ entries room was e lead.
    on_ok (IsInsertedAmong c.args.near c.remove.new.self.items c.insert_near.new.nears.items)
    (IsNearest room (c.args.near ∷ entries) c.insert_near.new.nears.items) c.insert_near.result
    (λ put. improve_few room entries c.args.nears.now.items c.remove.new.self.items c.insert_near.new.nears.items c.args.near c.args.place was c.requires e
    (subst (λ (y : Near). c.args.near.dist2 < y.dist2)
    (same_place c.args.nears.now.items c.args.place c.index.result.now c.args.near c.requires c.index.ensures) c.if-index-near.false) lead
    c.remove.ensures.by_index.2 put)
    c.insert_near.ensures
