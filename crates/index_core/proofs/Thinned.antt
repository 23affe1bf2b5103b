-- A box that deletes leaves each segment where it is, with no number more live.
use Rattle.std.proofs.Common.{◌≡◌, ℕ, List, ap, subst, inl, inr, ⊎_elim}
use Rattle.std.specs.List.{All, Contains}
use Rattle.std.proofs.lemmas.Bool.{both_ways}
use Rattle.std.proofs.lemmas.List.Elements.{All-contains}
use Rattle.outer_io.specs.declared.file_name.FileName.TheVariants.{Segment}
use Rattle.outer_io.specs.Files.{Files}
use Rattle.segment_view.specs.LiveSegments.{LiveSegment}
use Rattle.file_names.specs.Names.{NameList, is_named}
use Rattle.segment_set.specs.Sets.{IsNamed, SetData}
use Rattle.segment_set.specs.Kept.{Follows, StaysButCache}
use Rattle.index_core.specs.Lasting.{Lasts}

-- any number may go
abbrev pub AnyGoes : ℕ → Type 0
AnyGoes number = Unit {0}

-- the segments follow those of before, and no name came
pub thinned_last : (D : ℕ) (f g : Files) (s v t : SetData) → StaysButCache s v → t.names ≡ v.names → Follows v.names v.parts t.parts
    → All (IsNamed t.names) t.parts → g ≡ f → Lasts D AnyGoes f g s t
thinned_last D f g s v t stays names follows named same = record {
  live = λ number live. inr (inr tt);
  parts = λ p there. ⊎_elim
      (λ fresh. absurd (both_ways (is_named v.names.names (Segment p.head.id)) fresh
      (subst (λ (n : NameList). IsNamed n p) names (All-contains (IsNamed t.names) t.parts p named there))))
      (λ (q, here, head, within). inl (record {
        part = q;
        was = subst (λ (ps : List LiveSegment). Contains ps q) (ap (λ (u : SetData). u.parts) stays.is) here;
        head = head;
        within = within;
        file = ap (λ (h : Files). h (Segment q.head.id)) same;
      }))
      (follows.each p there);
}
