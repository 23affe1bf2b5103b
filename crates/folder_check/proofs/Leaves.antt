-- One segment more, as the loop over them has it.
use Rattle.std.proofs.Common.{◌≡◌, ℕ, ◌+◌, List, [], ◌∷◌, ◌++◌, Some, take, sym, subst}
use Rattle.std.specs.List.{AllZip, Contains, slice_get}
use Rattle.outer_io.specs.Files.{Files}
use Rattle.page_cache.specs.declared.faults.PageFault.{PageFault}
use Rattle.page_cache.specs.Evidence.{FaultShows}
use Rattle.page_cache.proofs.Damages.{fault_weaker}
use Rattle.segment_view.specs.LiveSegments.{LiveSegment}
use Rattle.segment_view.specs.Damages.{IsPartDamage, IsReadDamage}
use Rattle.segment_view.proofs.Living.{parts_more}
use Rattle.index_opening.proofs.Ordered.{zip_pushed}
use Rattle.folder_check.specs.declared.findings.Finding.{Finding}
use Rattle.folder_check.specs.Found.{IsFinding}

pub found_more : (D : ℕ) (files : Files) (parts : List LiveSegment) (i : ℕ) (p : LiveSegment) (findings more : List Finding) (f : Finding)
    → slice_get parts i ≡ Some p
    → more ≡ findings ++ f ∷ [] → IsFinding D files p f
    → AllZip (IsFinding D files) (take i parts) findings → AllZip (IsFinding D files) (take (i + 1) parts) more
found_more D files parts i p findings more f at is one all =
    subst (AllZip (IsFinding D files) (take (i + 1) parts)) (sym is)
    (subst (λ (ps : List LiveSegment). AllZip (IsFinding D files) ps (findings ++ f ∷ [])) (sym (parts_more parts i p at))
    (zip_pushed (IsFinding D files) (take i parts) findings p f all one))

-- a damage of one segment is one of the list's
pub fault_of_part : (D : ℕ) (parts : List LiveSegment) (p : LiveSegment) (f : PageFault) → Contains parts p → FaultShows (IsReadDamage D p.head) f
    → FaultShows (IsPartDamage D parts) f
fault_of_part D parts p f there = fault_weaker f (IsReadDamage D p.head) (IsPartDamage D parts) (λ d h. (p, there, h))
