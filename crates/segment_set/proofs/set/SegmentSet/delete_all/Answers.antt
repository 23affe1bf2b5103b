-- One number after another is taken out.
use Rattle.std.proofs.Common.{ℕ, List, take, get_or, refl, sym, ap, subst, ◌∙◌}
use Rattle.std.proofs.lemmas.List.{take_more, take_all}
use Rattle.documents.specs.Documents.{Document}
use Rattle.file_names.specs.Names.{NameList, is_named}
use Rattle.segment_set.specs.Sets.{SetData}
use Rattle.segment_set.specs.Seen.{Sees}
use Rattle.segment_set.specs.Kept.{StaysAlone}
use Rattle.segment_set.proofs.Carried.{follows_none, follows_then, stays_none, stays_then}
use Rattle.segment_set.specs.Losing.{KeepsCounts}
use Rattle.segment_set.proofs.Counts.{counts_but, counts_none, counts_then}
use Rattle.segment_set.proofs.Changed.{docs_but, docs_more, docs_none, stays_but}
use Rattle.segment_set.proofs.set.SegmentSet.delete_all.Goals as goal

pub loop-doc-init : goal.loop-doc-init
loop-doc-init g c = record {
  seen = λ files i seen. subst (λ (ds : List Document). Sees g.row.D files c.args.self.now (record i { docs = ds })) (sym (docs_none i.docs)) seen;
  faithful = λ files keeps. keeps;
  stays = stays_none c.args.self.now;
  follows = follows_none c.args.self.now.names c.args.self.now.parts;
  counts = λ E files. counts_none E files c.args.self.now;
  names = refl;
  saved = refl;
}

pub loop-doc-preserved : goal.loop-doc-preserved
loop-doc-preserved g c = record {
  seen = λ files i seen.
      subst (λ (ns : List ℕ). Sees g.row.D files c.delete.new.self (record i { docs = docs_but ns i.docs }))
      (sym (take_more c.args.docs.now c.loop-doc.doc-index 0 c.loop-doc-test.true))
      (subst (λ (ds : List Document). Sees g.row.D files c.delete.new.self (record i { docs = ds }))
      (docs_more (take c.loop-doc.doc-index c.args.docs.now) (get_or c.args.docs.now c.loop-doc.doc-index 0) i.docs)
      (c.delete.ensures.seen files (record i { docs = docs_but (take c.loop-doc.doc-index c.args.docs.now) i.docs }) (c.loop-doc.invariant.seen files i seen)));
  faithful = λ files keeps. c.delete.ensures.faithful files (c.loop-doc.invariant.faithful files keeps);
  stays = stays_then c.args.self.now c.loop-doc.self c.delete.new.self c.loop-doc.invariant.stays
      (subst (StaysAlone c.loop-doc.self) (sym c.delete.ensures.rest) (stays_but (get_or c.args.docs.now c.loop-doc.doc-index 0) c.loop-doc.self));
  follows = follows_then c.args.self.now.names c.loop-doc.self.names c.args.self.now.parts c.loop-doc.self.parts c.delete.new.self.parts
      (λ name named. ap (λ (n : NameList). is_named n.names name) c.loop-doc.invariant.names ∙ named) c.loop-doc.invariant.follows c.delete.ensures.follows;
  counts = λ E files. counts_then E files files files c.args.self.now c.loop-doc.self c.delete.new.self (c.loop-doc.invariant.counts E files)
      (subst (KeepsCounts E files files c.loop-doc.self) (sym c.delete.ensures.rest)
      (counts_but E files (get_or c.args.docs.now c.loop-doc.doc-index 0) c.loop-doc.self));
  names = ap (λ (s : SetData). s.names) c.delete.ensures.rest ∙ c.loop-doc.invariant.names;
  saved = ap (λ (s : SetData). s.saved) c.delete.ensures.rest ∙ c.loop-doc.invariant.saved;
}

pub returns-clause-seen : goal.returns-clause-seen
returns-clause-seen g c files i seen =
    subst (λ (ns : List ℕ). Sees g.row.D files c.loop-doc.self (record i { docs = docs_but ns i.docs }))
    (take_all c.loop-doc.doc-index c.args.docs.now c.loop-doc-test.false) (c.loop-doc.invariant.seen files i seen)

pub returns-clause-faithful : goal.returns-clause-faithful
returns-clause-faithful g c files keeps = c.loop-doc.invariant.faithful files keeps
