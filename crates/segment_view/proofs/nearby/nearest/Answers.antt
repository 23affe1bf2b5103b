use Rattle.std.proofs.Common.{◌++◌, ℕ, List, ap, sym, subst, ◌∙◌, inl, inr, ⊎_elim, rules}
use Rattle.std.specs.Prelude.{All, IfOk}
use Rattle.point_codec.specs.Points.{Item}
use Rattle.point_codec.specs.Seen.{items_of}
use Rattle.live_bits.specs.LiveSet.{LiveSet}
use Rattle.inner_pack.specs.Trees.{IndexTree}
use Rattle.page_cache.specs.Evidence.{OnDamage}
use Rattle.segment_file.specs.Heads.{Head, IsHead}
use Rattle.documents.specs.NearestEntries.{IsNearest, nears_of}
use Rattle.nearest_query.specs.Segments.{AreLeavesKept, AreNearLeaves, AreSegments, HasId, HaveTrees, IsSegmentDamage, bound_of, live_in}
use Rattle.nearest_query.specs.Found.{IsFound}
use Rattle.segment_view.specs.LiveSegments.{heads_of, live_in_parts}
use Rattle.segment_view.proofs.Listing.{hide_these, these_hide, ids_of_these, lives_beside}
use Rattle.segment_view.proofs.Living.{live_listed, read_segments}
use Rattle.segment_view.proofs.Reading.{id_of}
use Rattle.segment_view.proofs.Shown.{parts_shown}
use Rattle.segment_view.proofs.nearby.nearest.Goals as goal

pub returns-clause-answer : goal.returns-clause-answer
returns-clause-answer g c = λ told agrees es read.
    let files = g.F.Pages.files c.args.folder.now in
    let parts = c.args.segments.now in
    let at = c.args.at.now.c in
    let live = ap (λ (hs : List Head). live_in es hs c.lives.result.now) c.heads-2.ensures.value
    ∙ ap (λ (ls : List LiveSet). live_in es (heads_of parts) ls) c.lives.ensures ∙ live_listed es parts in
    subst (λ (hs : List Head). IfOk c.nearest.result (IsFound g.row.D c.args.k at hs (live_in_parts es parts ++ items_of c.args.buffer.now)))
    c.heads-2.ensures.value
    (subst (λ (xs : List Item). IfOk c.nearest.result (IsFound g.row.D c.args.k at c.heads-2.result.now (xs ++ items_of c.args.buffer.now))) live
    (c.nearest.ensures.answer told agrees es (subst (AreSegments g.row.D files es) (sym c.heads-2.ensures.value) (read_segments g.row.D files es parts read))))

pub returns-clause-reads : goal.returns-clause-reads
returns-clause-reads g c = λ told agrees es read found is leaves near.
    let files = g.F.Pages.files c.args.folder.now in
    let parts = c.args.segments.now in
    let at = c.args.at.now.c in
    let live = ap (λ (hs : List Head). live_in es hs c.lives.result.now) c.heads-2.ensures.value
    ∙ ap (λ (ls : List LiveSet). live_in es (heads_of parts) ls) c.lives.ensures ∙ live_listed es parts in
    c.nearest.ensures.reads told agrees es (subst (AreSegments g.row.D files es) (sym c.heads-2.ensures.value) (read_segments g.row.D files es parts read))
    found
    (subst (λ (xs : List Item). IsNearest c.args.k (nears_of at (xs ++ items_of c.args.buffer.now)) found) (sym live) is) leaves
    (subst (λ (hs : List Head). AreNearLeaves g.row.D at (bound_of c.args.k found) hs leaves) (sym c.heads-2.ensures.value) near)

pub nearest-requires : goal.nearest-requires
nearest-requires g c = (
  search rules,
  (
    search rules,
    (
      search rules,
      (
        lives_beside c.args.segments.now c.heads-2.result.now c.lives.result.now c.heads-2.ensures.value c.lives.ensures,
        (
          c.requires.some,
          (
            c.requires.few,
            λ watched. record {
              ascend = ids_of_these c.args.segments.now c.heads-2.result.now c.heads-2.ensures.value c.heads-2.ensures.ascend;
              hides = hide_these g.row.D c.args.cache.now c.args.segments.now c.heads-2.result.now c.lives.result.now c.heads-2.ensures.value
                  c.lives.ensures (c.requires.hides watched);
            },
          ),
        ),
      ),
    ),
  ),
)

pub returns-clause-marks : goal.returns-clause-marks
returns-clause-marks g c = record {
  hides = λ watched.
      these_hide g.row.D c.nearest.new.cache c.args.segments.now c.heads-2.result.now c.lives.result.now c.heads-2.ensures.value c.lives.ensures
      (c.nearest.ensures.marks.hides watched);
  go = c.nearest.ensures.marks.go;
}

pub returns-clause-reading : goal.returns-clause-reading
returns-clause-reading g c = record {
  files = c.nearest.ensures.reading.files;
  agrees = c.nearest.ensures.reading.agrees;
  others = λ id h. ⊎_elim (λ k. inl k) (λ k. inr (id_of c.args.segments.now id (subst (λ (hs : List Head). HasId hs id) c.heads-2.ensures.value k)))
      (c.nearest.ensures.reading.others id h);
  cause = c.nearest.ensures.reading.cause;
}

pub returns-clause-shown : goal.returns-clause-shown
returns-clause-shown g c =
    let parts = c.args.segments.now in
    parts_shown g.row.D parts c.nearest.result c.heads.ensures.ascend (subst (All (λ h. ∥ IsHead g.row.D h ∥₁)) c.heads.ensures.value c.have_trees.ensures)
    (subst (λ (hs : List Head). (trees : ℕ → IndexTree) → HaveTrees g.row.D hs trees → OnDamage c.nearest.result (IsSegmentDamage g.row.D hs trees))
    c.heads-2.ensures.value c.nearest.ensures.shown)

pub returns-clause-whole : goal.returns-clause-whole
returns-clause-whole g c = λ told agrees es read.
    let files = g.F.Pages.files c.args.folder.now in
    c.nearest.ensures.whole told agrees es
    (subst (AreSegments g.row.D files es) (sym c.heads-2.ensures.value) (read_segments g.row.D files es c.args.segments.now read))

pub returns-clause-kept : goal.returns-clause-kept
returns-clause-kept g c = λ trees have kept. c.nearest.ensures.kept trees
    (subst (λ (hs : List Head). HaveTrees g.row.D hs trees) (sym c.heads-2.ensures.value) have)
    (subst (λ (hs : List Head). AreLeavesKept c.args.cache.now hs trees) (sym c.heads-2.ensures.value) kept)
