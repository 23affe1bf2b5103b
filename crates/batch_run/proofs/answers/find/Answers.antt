-- What a visit of the copy finds are the hits.
use Rattle.std.proofs.Common.{ℕ, ◌++◌, List, [], refl, sym, ap, subst, ◌∙◌, append-nil, arith}
use Rattle.point_codec.specs.Points.{Item}
use Rattle.documents.specs.Documents.{Document}
use Rattle.documents.specs.Entries.{AreDocs}
use Rattle.outer_io.specs.MemFolder.{folder_files}
use Rattle.segment_view.specs.LiveSegments.{live_in_parts}
use Rattle.segment_view.specs.Found.{AreFound}
use Rattle.batch_run.specs.Held.{HoldsDocs}
use Rattle.batch_run.specs.declared.queries.Reply.TheVariants.{Hits}
use Rattle.batch_run.proofs.Replied.{undamaged}
use Rattle.batch_run.proofs.answers.find.Goals as goal
use Rattle.point_codec.proofs.Sizes.{entry_fits}

pub visit-found-requires : goal.visit-found-requires
visit-found-requires g c = (omega arith, entry_fits g.row.D c.len-parts.ensures.dims)

pub of_whole-requires-clause-whole : goal.of_whole-requires-clause-whole
of_whole-requires-clause-whole g c =
    undamaged c.visit-found.result c.requires.held
    (λ (p : (docs : List Document) × HoldsDocs g.row.D (folder_files c.args.pages.now.files.now) c.args.segments.now docs).
    c.visit-found.ensures.whole refl c.requires.agrees p.1.contents p.1.read)

pub returns-clause-reply : goal.returns-clause-reply
returns-clause-reply g c = λ docs h.
    let live : List Item = live_in_parts h.contents c.args.segments.now in
    let found : AreFound (g.S.Shape.has c.args.shape.now) (live ++ []) c.in_ok-found.found.docs.items =
    rw c.in_ok-found.ensures at (c.visit-found.ensures.found refl c.requires.agrees h.contents h.read) in
    let are : AreDocs h.next (live ++ []) docs = subst (λ (xs : List Item). AreDocs h.next xs docs) (sym (append-nil live)) h.are_docs in
    ap (λ (numbers : List ℕ). Hits numbers)
    (c.new.ensures ∙ c.docs_hits.ensures h.next (live ++ []) docs (g.S.Shape.has c.args.shape.now) c.in_ok-found.found.docs.items are found.rises found.each)
