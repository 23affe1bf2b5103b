use Rattle.std.proofs.Common.{◌∷◌, ◌<◌, refl, arith}
use Rattle.documents.specs.NearestEntries.{IsNearest}
use Rattle.nearest_query.specs.Best.{AreBest, AreKept}
use Rattle.nearest_query.proofs.Either.{kept_of, best_of, nearest_few, best_few}
use Rattle.nearest_query.proofs.candidates.Candidates.offer.Goals as goal
use Rattle.segment_file.proofs.Subtrees.{on_ok}

pub returns-then-self-gt-FEW-clause-best : goal.returns-then-self-gt-FEW-clause-best
returns-then-self-gt-FEW-clause-best c = λ entries best.
    let more : 64 < c.offer.new.self.room = omega (arith, c.if-self-gt-FEW.true, c.offer.ensures.room) in
    on_ok (AreKept (c.args.near ∷ entries) c.offer.new.self) (AreBest (c.args.near ∷ entries) (record { few = c.args.self.now.few; many = c.offer.new.self }))
    c.offer.result
    (best_of (c.args.near ∷ entries) (record { few = c.args.self.now.few; many = c.offer.new.self }) more)
    (c.offer.ensures.best entries (kept_of entries c.args.self.now c.if-self-gt-FEW.true best))

pub returns-clause-best : goal.returns-clause-best
returns-clause-best c = λ entries best.
    on_ok (IsNearest c.args.self.now.many.room (c.args.near ∷ entries) c.offer_few.new.nears.items)
    (AreBest (c.args.near ∷ entries) (record { few = c.offer_few.new.nears; many = c.args.self.now.many })) c.offer_few.result
    (best_few entries (c.args.near ∷ entries) c.args.self.now (record { few = c.offer_few.new.nears; many = c.args.self.now.many }) c.if-self-gt-FEW.false refl
    best)
    (c.offer_few.ensures entries best.some (nearest_few entries c.args.self.now c.if-self-gt-FEW.false best))
