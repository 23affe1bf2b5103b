-- Segments whose files are whole, as what merges and flushes write.
use Rattle.std.proofs.Common.{◌≡◌, ℕ, List, refl, sym, ap, subst, inl, inr, ⊎_elim, ◌∙◌}
use Rattle.std.proofs.Math.Logic.{∥∥₁_map}
use Rattle.std.proofs.lemmas.Grind.{merely}
use Rattle.std.specs.List.{Contains}
use Rattle.outer_io.specs.declared.file_name.FileName.{FileName}
use Rattle.outer_io.specs.declared.file_name.FileName.TheVariants.{Segment}
use Rattle.outer_io.specs.Files.{Files}
use Rattle.segment_file.specs.Heads.{Head}
use Rattle.segment_view.specs.LiveSegments.{LiveSegment}
use Rattle.file_names.specs.Names.{NameList}
use Rattle.segment_set.specs.Kept.{AreCanonical, Follows, HasCanonical}
use Rattle.index_opening.specs.Evidence.{HoldsWhole, IsOfPart, MayBeNeeded}
use Rattle.segment_set.proofs.Carried.{canon_file}

-- the file of a canonical tree is whole
pub canonical_whole : (D : ℕ) (files : Files) (head : Head) → HasCanonical D files head → ∥ HoldsWhole files (Segment head.id) ∥₁
canonical_whole D files head canonical =
    ∥∥₁_map canonical (λ c. record { D = D; head = head; items = c.0; file_is = refl; holds = c.1 })

-- a file of a segment of now that may be needed is one of before, as what came since is whole
pub needed_before : (D : ℕ) (f g : Files) (names : NameList) (old new : List LiveSegment) (file : FileName) → Follows names old new → AreCanonical D f names new
    → ((p : LiveSegment) → Contains new p → g (Segment p.head.id) ≡ f (Segment p.head.id)) → IsOfPart new file → ∥ MayBeNeeded (IsOfPart old) g file ∥₁
needed_before D f g names old new file follows canon same (p, there, is) = ⊎_elim
    (λ fresh. ∥∥₁_map (canonical_whole D g p.head (canon_file D f g p.head p.head refl (same p there) (canon p there fresh).canon))
    (λ w. inr (inl (subst (HoldsWhole g) (sym is) w))))
    (λ (q, here, head, within). merely (inr (inr (q, here, is ∙ ap (λ (h : Head). Segment h.id) head))))
    (follows.each p there)
