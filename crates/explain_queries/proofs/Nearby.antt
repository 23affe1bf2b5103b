-- What is told of a query for the nearest.
use Rattle.std.proofs.Common.{◌≡◌, ◌++◌, ℕ, false, List, length, Option, refl, sym, ap, subst, ◌∙◌, ℤ}
use Rattle.outer_io.specs.Files.{Files}
use Rattle.point_codec.specs.declared.entries.Near.{Near}
use Rattle.documents.specs.Nearest.{found_of, nearest}
use Rattle.documents.specs.NearestEntries.{IsNearest, nears_of}
use Rattle.nearest_query.specs.Segments.{AreNearLeaves, bound_of}
use Rattle.segment_file.specs.Heads.{Head}
use Rattle.segment_view.specs.LiveSegments.{heads_of}
use Rattle.index_model.specs.State.{Index}
use Rattle.segment_set.specs.Sets.{SetData}
use Rattle.segment_set.specs.Seen.{entries_seen}
use Rattle.explain_queries.specs.Explained.{Scope, TellsNear, near_text, reach}
use Rattle.explain_queries.specs.Explains.{InScope, IsExplaining}
use Rattle.run_status.specs.Told.{Told, IsTold}
use Rattle.explain_queries.proofs.Explaining.{Telling, reach_is, some_inj}
use Rattle.explain_queries.proofs.There.{are_nearest, there, there_found}

-- a query's own telling over the index that is looked at
abbrev pub tells_near : (k : ℕ) (at : List ℤ) → Telling
tells_near k at = λ s t. InScope s (λ i u. TellsNear i.dims s.heads i.docs k at u) t

module _ (D k : ℕ) (files : Files) (set : SetData) (at : List ℤ) (s : Scope) (e : IsExplaining D files set s) where
  -- those that are nearest, of the entries that are seen
  abbrev pub nearby : List Near
  nearby = there set.next k (entries_seen e.seen.contents set.parts set.buffer) e.index.docs at e.seen.docs

  pub nearby_is : IsNearest k (nears_of at (entries_seen e.seen.contents set.parts set.buffer)) nearby
  nearby_is = are_nearest set.next k (entries_seen e.seen.contents set.parts set.buffer) e.index.docs at e.seen.docs

  nearby_found : found_of nearby ≡ nearest k at e.index.docs
  nearby_found = there_found set.next k (entries_seen e.seen.contents set.parts set.buffer) e.index.docs at e.seen.docs

  -- the leaves that are as near are those of the set
  pub near_touches : (t : Told) → tells_near k at s t → AreNearLeaves D at (bound_of k nearby) (heads_of set.parts) t.touched
  near_touches t (i, is, tells) =
      let same = some_inj i e.index (sym is ∙ e.state) in
      let bound : reach k (nearest k at i.docs) ≡ bound_of k nearby =
      ap (λ (j : Index). reach k (nearest k at j.docs)) same ∙ ap (reach k) (sym nearby_found) ∙ reach_is k nearby in
      subst (λ (hs : List Head). AreNearLeaves D at (bound_of k nearby) hs t.touched) (sym e.heads)
      (subst (λ (o : Option ℕ). AreNearLeaves D at o s.heads t.touched) bound
      (subst (λ n. AreNearLeaves n at (reach k (nearest k at i.docs)) s.heads t.touched) (ap (λ (j : Index). j.dims) same ∙ e.seen.dims) tells.touches))

  -- it is told as the query answers
  pub near_told : (found : List Near) (touched count : ℕ) (before after : List ℕ)
      → AreNearLeaves D at (bound_of k found) (heads_of set.parts) touched
      → found_of found ≡ nearest k at e.index.docs → count ≡ length (found_of found) → after ≡ before ++ near_text touched count
      → IsTold (tells_near k at s) before after false
  near_told found touched count before after leaves found_is long grew = record {
    told = record { text = near_text touched count; refused = 0; touched = touched };
    tells = (
      e.index,
      e.state,
      record {
        touches = subst (λ n. AreNearLeaves n at (reach k (nearest k at e.index.docs)) s.heads touched) (sym e.seen.dims)
            (subst (λ (hs : List Head). AreNearLeaves D at (reach k (nearest k at e.index.docs)) hs touched) e.heads
            (subst (λ (o : Option ℕ). AreNearLeaves D at o (heads_of set.parts) touched) (sym (reach_is k found) ∙ ap (reach k) found_is) leaves));
        text = ap (near_text touched) (long ∙ ap length found_is);
        done = refl;
      },
    );
    text = grew;
    refused = refl;
  }
