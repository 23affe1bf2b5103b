-- What is told of a count is that of the documents.
use Rattle.std.proofs.Common.{◌≡◌, ◌+◌, ◌++◌, ℕ, Bool, false, List, [], ◌∷◌, refl, sym, ap, subst, ◌∙◌}
use Rattle.std.proofs.lemmas.List.Elements.{All-head, All-tail}
use Rattle.outer_io.specs.Files.{Files}
use Rattle.point_codec.specs.Points.{Item, Region}
use Rattle.cell_relate.specs.Boxes.{crosses}
use Rattle.inner_pack.specs.Trees.{IndexTree}
use Rattle.inner_pack.specs.Bodies.{HasTree}
use Rattle.inner_pack.proofs.OneTree.{one_index}
use Rattle.segment_file.specs.Segments.{IsSegment}
use Rattle.segment_view.specs.LiveSegments.{AreRead, Contents, IsRead, LiveSegment, live_in_parts}
use Rattle.point_counts.specs.Grids.{IsGrid, Plan, number_in}
use Rattle.point_counts.specs.Costs.{OpensLeaves, is_parted, opened_of}
use Rattle.point_counts.specs.declared.plan.Bucket.{Bucket}
use Rattle.run_status.specs.Told.{IsTold}
use Rattle.count_queries.specs.Texts.{buckets_text, points_text}
use Rattle.count_queries.specs.Counted.{Scope, TellsBuckets, TellsPoints}
use Rattle.count_queries.specs.Counts.{InScope, IsCounting}
use Rattle.count_queries.proofs.Counted.{grid_counted, points_counted}

-- a segment that is read has one tree, so that it is known how many leaves are opened
opened_there : (D : ℕ) (files : Files) (c : Contents) (bounds : Region) (test : Region → Bool) (parts : List LiveSegment) → AreRead D files c parts → (n : ℕ)
    × OpensLeaves D bounds test parts n
unfolding IsSegment
opened_there D files c bounds test [] read = (0, refl)
opened_there D files c bounds test (p ∷ ps) read =
    let here = (All-head (IsRead D files c) p ps read).held in
    let rest = opened_there D files c bounds test ps (All-tail (IsRead D files c) p ps read) in
    let only : (root : Region) (t : IndexTree) → HasTree D p.head.index root t
    → opened_of p bounds test here.tree ≡ opened_of p bounds test t =
    λ root t has. ap (opened_of p bounds test)
    (one_index D p.head.index.form p.head.index.leaves p.head.index.bytes here.root root here.tree t here.has has).1 in
    (opened_of p bounds test here.tree + rest.0, (opened_of p bounds test here.tree, rest.0, only, rest.1, refl))

module _ (D : ℕ) (files : Files) (parts : List LiveSegment) (s : Scope) (before after : List ℕ) (none : List Item) (empty : none ≡ [])
    (e : IsCounting D files parts s)
  where
    opened_in : (bounds : Region) (test : Region → Bool) (n : ℕ) → OpensLeaves D bounds test parts n → OpensLeaves e.index.dims bounds test s.parts n
    opened_in bounds test n opened =
        subst (λ (ps : List LiveSegment). OpensLeaves e.index.dims bounds test ps n) (sym e.parts_are)
        (subst (λ m. OpensLeaves m bounds test parts n) (sym e.dims) opened)

    pub points_told : (bounds : Region) (n : ℕ) → n ≡ number_in bounds (live_in_parts e.contents parts ++ none) → after ≡ before ++ points_text n
        → IsTold (λ t. InScope s (λ i u. TellsPoints i s.parts bounds u) t) before after false
    points_told bounds n is text =
        let leaves = opened_there D files e.contents bounds (crosses bounds) parts e.read in
        record {
          told = record { text = points_text n; refused = 0; touched = leaves.0 };
          tells = (
            e.index,
            e.state,
            record {
              touches = opened_in bounds (crosses bounds) leaves.0 leaves.1;
              text = ap points_text (is ∙ points_counted bounds e.next (live_in_parts e.contents parts) none e.index.docs e.docs empty);
              done = refl;
            },
          );
          text = text;
          refused = refl;
        }

    pub buckets_told : (plan : Plan) (buckets : List Bucket) → IsGrid plan (live_in_parts e.contents parts ++ none) buckets
        → after ≡ before ++ buckets_text buckets
        → IsTold (λ t. InScope s (λ i u. TellsBuckets i s.parts plan u) t) before after false
    buckets_told plan buckets is text =
        let leaves = opened_there D files e.contents plan.bounds (is_parted plan) parts e.read in
        record {
          told = record { text = buckets_text buckets; refused = 0; touched = leaves.0 };
          tells = (
            e.index,
            e.state,
            record {
              buckets = buckets;
              grid = grid_counted plan e.next (live_in_parts e.contents parts) none e.index.docs buckets e.docs empty is;
              touches = opened_in plan.bounds (is_parted plan) leaves.0 leaves.1;
              text = refl;
              done = refl;
            },
          );
          text = text;
          refused = refl;
        }
