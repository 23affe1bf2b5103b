use Rattle.std.proofs.Common.{◌≡◌, ◌∙◌, ◌∷◌, [], List, ℤ, ap, refl, subst, sym}
use Rattle.std.specs.Prelude.{OnOk}
use Rattle.point_codec.specs.Points.{dist2}
use Rattle.point_codec.specs.declared.entries.Near.{Near}
use Rattle.live_bits.specs.LiveSet.{is_live}
use Rattle.documents.specs.NearestEntries.{near_of, nears_of}
use Rattle.segment_file.proofs.Subtrees.{on_ok}
use Rattle.nearest_query.specs.Best.{AreAdded, AreBest}
use Rattle.nearest_query.specs.Segments.{live_items}
use Rattle.nearest_query.proofs.Added.{near_read}
use Rattle.nearest_query.proofs.LeftOut.{one_dead, one_far, one_live, said_of}
use Rattle.nearest_query.proofs.outwards.offer_entry.Goals as goal

pub returns-then-ends_before-clause-found : goal.returns-then-ends_before-clause-found
returns-then-ends_before-clause-found g c = λ x is seen best.
    let point = said_of (λ y. c.point.result.c ≡ y.at) _ x is c.point.ensures in
    one_far c.args.at.now.c c.args.live.now c.args.found.now c.dist2-dist2.result x
    (c.dist2-dist2.ensures ∙ ap (λ (p : List ℤ). dist2 p c.args.at.now.c) point)
    (c.ends_before.ensures.full c.if-ends_before.true, c.ends_before.ensures.yes c.if-ends_before.true seen best) seen best

pub returns-then-not-is_live-clause-found : goal.returns-then-not-is_live-clause-found
returns-then-not-is_live-clause-found g c = λ x is seen best.
    let number = said_of (λ y. c.doc-doc.result ≡ y.doc) _ x is c.doc-doc.ensures in
    one_dead c.args.at.now.c c.args.live.now x seen c.args.found.now
    (ap (is_live c.args.live.now) (sym number) ∙ sym c.is_live.ensures ∙ c.if-not-is_live.true) best

pub returns-clause-found : goal.returns-clause-found
returns-clause-found g c = λ x is seen best.
    let number = said_of (λ y. c.doc-doc.result ≡ y.doc) _ x is c.doc-doc.ensures in
    let point = said_of (λ y. c.point.result.c ≡ y.at) _ x is c.point.ensures in
    let near = near_read c.args.at.now.c x c.dist2-dist2.result c.doc-doc.result c.point.result.c c.dist2-dist2.ensures point number in
    let alive = ap (is_live c.args.live.now) (sym number) ∙ sym c.is_live.ensures ∙ c.if-not-is_live.false in
    on_ok (AreBest (near_of c.args.at.now.c x ∷ seen) c.offer.new.self)
    (AreAdded seen (nears_of c.args.at.now.c (live_items c.args.live.now (x ∷ []))) c.offer.new.self) c.offer.result
    (λ b. one_live c.args.at.now.c c.args.live.now x (near_of c.args.at.now.c x) seen c.offer.new.self alive refl b)
    (subst (λ (n : Near). OnOk c.offer.result (AreBest (n ∷ seen) c.offer.new.self)) near (c.offer.ensures.best seen best))
