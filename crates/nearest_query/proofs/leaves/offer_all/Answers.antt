use Rattle.std.proofs.Common.{◌∙◌, ap, sym}
use Rattle.std.proofs.lemmas.List.{take_all}
use Rattle.point_codec.specs.Seen.{items_of}
use Rattle.documents.specs.NearestEntries.{nears_of}
use Rattle.nearest_query.proofs.Added.{added_more, added_same, entries_more, with_dist}
use Rattle.nearest_query.proofs.leaves.offer_all.Goals as goal

pub loop-entry-preserved : goal.loop-entry-preserved
loop-entry-preserved g c = record {
  room = c.in_ok-offer.ensures.room ∙ c.loop-entry.invariant.room;
  found = λ seen best. added_more seen _ _ c.loop-entry.found c.offer.new.self (record { dist2 = c.dist2.result; doc = c.entry-item.result.doc })
      (c.loop-entry.invariant.found seen best) c.in_ok-offer.ensures.best
      (entries_more c.args.at.now.c c.args.entries.now c.loop-entry.entry-index c.entry-item.result _ c.loop-entry-test.true c.entry-item.is
      (with_dist _ _ _ c.dist2.ensures));
}

pub returns-clause-found : goal.returns-clause-found
returns-clause-found g c = λ seen best. added_same seen _ _ c.loop-entry.found (c.loop-entry.invariant.found seen best)
    (ap (λ es. nears_of c.args.at.now.c (items_of es)) (sym (take_all c.loop-entry.entry-index c.args.entries.now c.loop-entry-test.false)))
