-- What is told of a shape over the index that is looked at.
use Rattle.std.proofs.Common.{◌≡◌, ◌++◌, ℕ, Bool, false, List, length, refl, sym, ap, subst, ◌∙◌, ℤ}
use Rattle.outer_io.specs.Files.{Files}
use Rattle.point_codec.specs.Points.{Region}
use Rattle.documents.specs.Documents.{hits}
use Rattle.segment_file.specs.Heads.{Head}
use Rattle.segment_view.specs.Costs.{AreTested, AreTouched}
use Rattle.segment_view.specs.LiveSegments.{heads_of}
use Rattle.index_model.specs.State.{Index}
use Rattle.segment_set.specs.Sets.{SetData}
use Rattle.explain_queries.specs.Explained.{Scope, TellsShape, shape_text}
use Rattle.explain_queries.specs.Explains.{InScope, IsExplaining}
use Rattle.run_status.specs.Told.{Told, IsTold}
use Rattle.explain_queries.proofs.Explaining.{some_inj, Telling}

-- ---- shapes

-- a shape's own telling over the index that is looked at
abbrev pub tells_shape : (has : List ℤ → Bool) (crosses : Region → Bool) → Telling
tells_shape has crosses = λ s t. InScope s (λ i u. TellsShape i.dims s.heads i.docs has crosses u) t

-- the leaves that it touches are those of the set
pub shape_touches : (D : ℕ) (files : Files) (set : SetData) (has : List ℤ → Bool) (crosses : Region → Bool) (s : Scope) (t : Told) → IsExplaining D files set s
    → tells_shape has crosses s t
    → AreTouched D has crosses (heads_of set.parts) t.touched
shape_touches D files set has crosses s t e (i, is, tells) =
    subst (λ (hs : List Head). AreTouched D has crosses hs t.touched) (sym e.heads)
    (subst (λ n. AreTouched n has crosses s.heads t.touched) (ap (λ (j : Index). j.dims) (some_inj i e.index (sym is ∙ e.state)) ∙ e.seen.dims) tells.touches)

-- it is told as the visit answers
pub shape_told : (D : ℕ) (files : Files) (set : SetData) (has : List ℤ → Bool) (crosses : Region → Bool) (tested touched found : ℕ) (before after : List ℕ)
    (s : Scope) (e : IsExplaining D files set s)
    → AreTested D crosses (heads_of set.parts) tested → AreTouched D has crosses (heads_of set.parts) touched → found ≡ length (hits has e.index.docs)
    → after ≡ before ++ shape_text tested touched found → IsTold (tells_shape has crosses s) before after false
shape_told D files set has crosses tested touched found before after s e tests touches count grew = record {
  told = record { text = shape_text tested touched found; refused = 0; touched = touched };
  tells = (
    e.index,
    e.state,
    record {
      tested = tested;
      tests = subst (λ n. AreTested n crosses s.heads tested) (sym e.seen.dims) (subst (λ (hs : List Head). AreTested D crosses hs tested) e.heads tests);
      touches = subst (λ n. AreTouched n has crosses s.heads touched) (sym e.seen.dims)
          (subst (λ (hs : List Head). AreTouched D has crosses hs touched) e.heads touches);
      text = ap (shape_text tested touched) count;
      done = refl;
    },
  );
  text = grew;
  refused = refl;
}
