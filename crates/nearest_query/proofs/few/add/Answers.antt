use Rattle.std.proofs.Common.{◌≡◌, ◌<◌, ◌-◌, ◌∷◌, length, take, subst, arith}
use Rattle.documents.specs.NearestEntries.{IsNearest}
use Rattle.nearest_query.specs.Best.{IsInsertedAmong}
use Rattle.nearest_query.proofs.AmongWays.{add_few, replace_few}
use Rattle.nearest_query.proofs.few.add.Goals as goal
use Rattle.segment_file.proofs.Subtrees.{on_ok}

pub returns-then-len-room : goal.returns-then-len-room
returns-then-len-room c = λ entries some was none lead.
    let short : length c.args.nears.now.items < c.args.room = omega (arith, c.if-len-room.true, c.len.ensures, c.args.nears.now.ok.0) in
    on_ok (IsInsertedAmong c.args.near c.args.nears.now.items c.insert_near.new.nears.items)
    (IsNearest c.args.room (c.args.near ∷ entries) c.insert_near.new.nears.items)
    c.insert_near.result
    (λ put. add_few c.args.room entries c.args.nears.now.items c.insert_near.new.nears.items c.args.near some was none short put)
    c.insert_near.ensures

pub returns : goal.returns
returns c = λ entries some was none lead.
    on_ok (IsInsertedAmong c.args.near c.pop.new.self.items c.insert_near-2.new.nears.items)
    (IsNearest c.args.room (c.args.near ∷ entries) c.insert_near-2.new.nears.items)
    c.insert_near-2.result
    (λ put. replace_few c.args.room entries c.args.nears.now.items c.pop.new.self.items c.insert_near-2.new.nears.items c.args.near some was none
    (omega (arith, c.if-len-room.false, c.len.ensures, c.args.nears.now.ok.0)) lead
    (subst (λ n. c.pop.new.self.items ≡ take (n - 1) c.args.nears.now.items) c.args.nears.now.ok.0 c.pop.ensures.rest) put)
    c.insert_near-2.ensures
