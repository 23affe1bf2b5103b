-- What the damage of one merge shows.
use Rattle.std.proofs.Common.{◌≡◌, ℕ, List, [], ◌∷◌, length, Result, refl, arith}
use Rattle.std.specs.List.{sum_by}
use Rattle.std.proofs.lemmas.List.Sums.{sum_by-cons}
use Rattle.point_codec.specs.Points.{Item}
use Rattle.documents.specs.Entries.{is_among}
use Rattle.documents.proofs.Lists.{of_filter}
use Rattle.page_cache.specs.declared.faults.Damage.{Damage}
use Rattle.page_cache.specs.declared.faults.PageFault.{PageFault}
use Rattle.page_cache.specs.Evidence.{OnDamage, NotDamaged}
use Rattle.nearest_query.proofs.Parts.{on_damage}
use Rattle.segment_view.specs.LiveSegments.{LiveSegment, Contents, live_in_parts, parts_among}
use Rattle.segment_view.specs.Damages.{IsPartDamage}
use Rattle.file_names.specs.Names.{NameList}
use Rattle.segment_set.specs.Damages.{IsDoubt, IsMergeDamage, Read}
use Rattle.segment_set.proofs.Grown.{live_parted}
use Rattle.segment_set.proofs.Rearranged.{doubt_more}

-- where no damage is answered anything holds of it
pub whole_shows : {T : Type 0} (P : Damage → Type 0) (r : Result T PageFault) → NotDamaged r → OnDamage r P
whole_shows P r whole = on_damage (λ _. ⊥) P r (λ d h. absurd h) whole

-- a damage of some of the segments is one of them
pub part_shown : (D points_given : ℕ) (names now : NameList) (ids : List ℕ) (parts : List LiveSegment) (d : Damage) → IsPartDamage D (parts_among ids parts) d
    → IsMergeDamage D points_given names now parts d
part_shown D points_given names now ids parts d h = Read h.0 (of_filter (λ (p : LiveSegment). is_among ids p.head.id) parts h.0 h.1).0 h.2

-- what is doubted of the live entries of some of the segments is doubted of those of all
pub doubt_among : (points_given : ℕ) (c : Contents) (ids : List ℕ) (parts : List LiveSegment) (d : Damage)
    → IsDoubt points_given (live_in_parts c (parts_among ids parts)) d
    → IsDoubt points_given (live_in_parts c parts) d
doubt_among points_given c ids parts =
    doubt_more points_given (live_in_parts c parts) (live_in_parts c (parts_among ids parts))
    (omega (arith, counts (live_in_parts c parts), counts (live_in_parts c (parts_among ids parts)), live_parted (λ _. 1) c ids parts))
    (λ f. omega (arith, live_parted f c ids parts))
  where
    counts : (zs : List Item) → sum_by (λ _. 1) zs ≡ length zs
    counts [] = refl
    counts (z ∷ zs) = omega (arith, sum_by-cons (λ (_ : Item). 1) z zs, counts zs)
