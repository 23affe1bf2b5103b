-- The numbers that a visit finds.
use Rattle.std.proofs.Common.{◌≡◌, ℕ, Bool, List, map, sym, ap, subst, ℤ}
use Rattle.std.specs.Prelude.{◌↔◌}
use Rattle.std.specs.List.{Contains, filter}
use Rattle.std.specs.List.Sorted.{IsStrictlyIncreasing}
use Rattle.point_codec.specs.Points.{Item}
use Rattle.live_bits.specs.LiveSet.{LiveSet, is_live}
use Rattle.documents.specs.Entries.{numbers_found}
use Rattle.documents.proofs.Lists.{filter_twice}
use Rattle.bkd_reader.specs.Hits.{hits_in}
use Rattle.segment_view.specs.Found.{AreFound}

-- the hits in ascending order are what was found
pub ordered_found : (test : List ℤ → Bool) (entries : List Item) (hits ordered : List ℕ) → hits ≡ numbers_found test entries → IsStrictlyIncreasing ordered
    → ((n : ℕ) → Contains ordered n ↔ Contains hits n) → AreFound test entries ordered
ordered_found test entries hits ordered is rises each =
    record { rises = rises; each = subst (λ (ms : List ℕ). (n : ℕ) → Contains ordered n ↔ Contains ms n) is each }

-- the hits of a segment are those of its entries with live numbers
pub hits_live : (has : List ℤ → Bool) (live : LiveSet) (items : List Item)
    → hits_in has live items ≡ numbers_found has (filter (λ (x : Item). is_live live x.doc) items)
unfolding hits_in
hits_live has live items = ap (map (λ (x : Item). x.doc)) (sym (filter_twice (λ (x : Item). has x.at) (λ (x : Item). is_live live x.doc) items))
