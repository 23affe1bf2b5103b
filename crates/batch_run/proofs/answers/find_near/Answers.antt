-- What is found nearest in the copy are the nearest documents.
use Rattle.std.proofs.Common.{ℕ, ◌++◌, List, [], map, refl, sym, ap, subst, ◌∙◌, append-nil}
use Rattle.point_codec.specs.Points.{Item}
use Rattle.point_codec.specs.declared.entries.Near.{Near}
use Rattle.documents.specs.Documents.{Document}
use Rattle.documents.specs.Entries.{AreDocs}
use Rattle.documents.specs.NearestEntries.{IsNearest, nears_of}
use Rattle.outer_io.specs.MemFolder.{folder_files}
use Rattle.segment_view.specs.LiveSegments.{live_in_parts}
use Rattle.batch_run.specs.Held.{HoldsDocs}
use Rattle.batch_run.specs.Queries.{near_of}
use Rattle.batch_run.specs.declared.queries.Reply.TheVariants as reply
use Rattle.batch_run.proofs.Replied.{nears_again, undamaged}
use Rattle.batch_run.proofs.answers.find_near.Goals as goal

pub of_whole-requires-clause-whole : goal.of_whole-requires-clause-whole
of_whole-requires-clause-whole g c =
    undamaged c.nearest-found.result c.requires.held
    (λ (p : (docs : List Document) × HoldsDocs g.row.D (folder_files c.args.pages.now.files.now) c.args.segments.now docs).
    c.nearest-found.ensures.whole refl c.requires.agrees p.1.contents p.1.read)

pub returns-clause-reply : goal.returns-clause-reply
returns-clause-reply g c = λ docs h.
    let live : List Item = live_in_parts h.contents c.args.segments.now in
    let found : IsNearest c.args.k (nears_of c.args.at.now.c (live ++ [])) c.in_ok-found.found.docs.items =
    (rw c.in_ok-found.ensures at (c.nearest-found.ensures.answer refl c.requires.agrees h.contents h.read)).docs in
    let are : AreDocs h.next (live ++ []) docs = subst (λ (xs : List Item). AreDocs h.next xs docs) (sym (append-nil live)) h.are_docs in
    let same = c.docs_nearest.ensures h.next c.args.k (live ++ []) docs c.args.at.now.c c.in_ok-found.found.docs.items are found in
    ap (λ (nears : List Near). reply.Near nears)
    (c.new.ensures ∙ sym (nears_again c.in_ok-found.found.docs.items) ∙ ap (λ (found : List (ℕ × ℕ)). map near_of found) same)
