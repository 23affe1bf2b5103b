-- A tenth of the documents goes.
use Rattle.std.proofs.Common.{List, length, refl, sym, ap, subst, ◌∙◌, arith}
use Rattle.std.proofs.lemmas.List.FromFn.{length-map-range_with_len}
use Rattle.documents.specs.Documents.{Document}
use Rattle.segment_set.specs.Seen.{Sees}
use Rattle.index_core.proofs.Bringing.{brings_same, brings_then}
use Rattle.drawn_points.specs.Generated.{document, documents, kept_docs}
use Rattle.generate_index.specs.Generates.{drawn_index}
use Rattle.generate_index.proofs.Fewer.{left_is}
use Rattle.generate_index.proofs.generator.delete_tenths.Goals as goal

pub deletes-init : goal.deletes-init
deletes-init c = record {
  made = λ files faults seed before. before;
  live = λ files faults seed before.
      sym (ap length (c.documents_deleted.ensures.none seed c.args.docs) ∙ length-map-range_with_len (document seed) 0 c.args.docs);
  guards = λ files guards. guards;
  faithful = λ files faithful. faithful;
  traced = λ files traced. traced;
  canon = λ files. brings_same 2 files files _ _ refl refl;
  tenth = refl;
}

pub deletes-preserved : goal.deletes-preserved
deletes-preserved c = record {
  made = λ files faults seed before.
      subst (λ (docs : List Document). Sees 2 files c.delete_document-goes.new.self.set (record (drawn_index seed c.args.docs c.args.docs) { docs = docs }))
      (sym (c.documents_deleted.ensures.more seed c.args.docs c.deletes.number c.deletes.invariant.tenth))
      (c.delete_document-goes.ensures.seen files (drawn_index seed c.args.docs c.deletes.number) (c.deletes.invariant.made files faults seed before));
  live = λ files faults seed before.
      let seen = c.deletes.invariant.made files faults seed before in
      c.left-live.ensures
      ∙ left_is c.deletes.number c.deletes.live (kept_docs c.deletes.number (documents seed c.args.docs)) c.delete_document-goes.result seen.docs.ascend
      (c.delete_document-goes.ensures.live files (drawn_index seed c.args.docs c.deletes.number) seen)
      (c.deletes.invariant.live files faults seed before)
      ∙ ap length (sym (c.documents_deleted.ensures.more seed c.args.docs c.deletes.number c.deletes.invariant.tenth));
  guards = λ files guards. c.delete_document-goes.ensures.guards files (c.deletes.invariant.guards files guards);
  faithful = λ files faithful. c.delete_document-goes.ensures.faithful files (c.deletes.invariant.faithful files faithful);
  traced = λ files traced. c.delete_document-goes.ensures.traced files (c.deletes.invariant.traced files traced);
  canon = λ files. brings_then 2 files files files _ _ _ (c.deletes.invariant.canon files) (c.delete_document-goes.ensures.canon files);
  tenth = omega (arith, c.deletes.invariant.tenth);
}

pub returns-clause-made : goal.returns-clause-made
returns-clause-made c files faults seed before =
    subst (λ (docs : List Document). Sees 2 files c.deletes.session.set (record (drawn_index seed c.args.docs c.args.docs) { docs = docs }))
    (c.documents_deleted.ensures.all seed c.args.docs c.deletes.number c.deletes-test.false) (c.deletes.invariant.made files faults seed before)

pub returns-clause-live : goal.returns-clause-live
returns-clause-live c files faults seed before =
    c.deletes.invariant.live files faults seed before ∙ ap length (c.documents_deleted.ensures.all seed c.args.docs c.deletes.number c.deletes-test.false)

pub returns-clause-guards : goal.returns-clause-guards
returns-clause-guards c = c.deletes.invariant.guards

pub returns-clause-faithful : goal.returns-clause-faithful
returns-clause-faithful c = c.deletes.invariant.faithful

pub returns-clause-traced : goal.returns-clause-traced
returns-clause-traced c = c.deletes.invariant.traced

pub returns-clause-canon : goal.returns-clause-canon
returns-clause-canon c = c.deletes.invariant.canon
