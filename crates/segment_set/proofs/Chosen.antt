-- What is chosen for a merge.
use Rattle.std.proofs.Common.{◌≡◌, ℕ, ◌≤◌, ◌<◌, Bool, true, false, not, List, [], ◌∷◌, length, map, get_or, Option}
use Rattle.std.proofs.Common.{None, Some, IsNone, IfNone, IfOk, Result, Ok, Err, refl, sym, ap, subst, ◌∙◌, arith}
use Rattle.std.specs.List.{Contains, filter, slice_get}
use Rattle.std.proofs.lemmas.Bool.{not-true}
use Rattle.std.proofs.lemmas.List.{length-map}
use Rattle.std.proofs.lemmas.List.Elements.{All-contains, All-weaker, Contains-get_or}
use Rattle.documents.specs.Entries.{is_among}
use Rattle.documents.proofs.Kept.{among_from, among_to}
use Rattle.documents.proofs.Lists.{of_filter}
use Rattle.merge_policy.specs.Choice.{IsChoice, IsFree, free_count}
use Rattle.segment_view.specs.LiveSegments.{LiveSegment, ids_of, parts_among}
use Rattle.segment_set.specs.Sets.{IsSettled, SetData, pins_of, sizes_of}
use Rattle.segment_set.specs.Merged.{IsApart}
use Rattle.segment_set.proofs.Leveled.{pinned}
use Rattle.segment_set.proofs.Places.{at_position, get_map, two_there}

pub if_none : {T P : Type 0} (o : Option T) → (IsNone o → P) → IfNone o P
if_none None h = h refl
if_none (Some x) h = tt

map_ids : (f : ℕ → Bool) (parts : List LiveSegment) → map f (ids_of parts) ≡ map (λ p. f p.head.id) parts
map_ids f [] = refl
map_ids f (p ∷ ps) = ap (λ (bs : List Bool). f p.head.id ∷ bs) (map_ids f ps)

module _ (inputs : List ℕ) (parts : List LiveSegment) (sizes : List ℕ) (pins : List Bool) (positions ids : List ℕ) (sizes_are : sizes ≡ sizes_of parts)
    (pins_are : pins ≡ pinned inputs parts)
    (choice : IsChoice sizes pins positions) (are : ids ≡ map (λ i. get_or (ids_of parts) i 0) positions) where
  sized : length sizes ≡ length parts
  sized = ap length sizes_are ∙ length-map parts (λ (p : LiveSegment). p.head.entries)

  named : length (ids_of parts) ≡ length parts
  named = length-map parts (λ (p : LiveSegment). p.head.id)

  pub chosen_apart : IsApart ids inputs parts
  chosen_apart = record {
    among = λ id there.
        let at = at_position (ids_of parts) positions id (subst (λ (ns : List ℕ). is_among ns id ≡ true) are there) in
        let free = All-contains (IsFree choice.level sizes pins) positions at.0 choice.chosen.free at.1 in
        subst (λ n. is_among (ids_of parts) n ≡ true) at.2
        (among_from (ids_of parts) (get_or (ids_of parts) at.0 0) (Contains-get_or (ids_of parts) at.0 0 (omega (arith, free.in_range, sized, named))));
    apart = λ id there.
        let at = at_position (ids_of parts) positions id (subst (λ (ns : List ℕ). is_among ns id ≡ true) are there) in
        let free = All-contains (IsFree choice.level sizes pins) positions at.0 choice.chosen.free at.1 in
        subst (λ n. is_among inputs n ≡ false) at.2
        (get_map (is_among inputs) (ids_of parts) at.0 false (omega (arith, free.in_range, sized, named))
        (subst (λ (bs : List Bool). slice_get bs at.0 ≡ Some false) (pins_are ∙ sym (map_ids (is_among inputs) parts)) free.unpinned));
  }

  pub chosen_two : 2 ≤ length (parts_among ids parts)
  chosen_two =
      subst (λ (ns : List ℕ). 2 ≤ length (parts_among ns parts)) (sym are)
      (two_there parts positions (omega (arith, choice.chosen.ten)) choice.chosen.rising
      (All-weaker (IsFree choice.level sizes pins) (λ i. i < length parts) (λ i free. omega (arith, free.in_range, sized)) positions choice.chosen.free))

  pub chosen_ten : (level : ℕ) × (10 ≤ free_count level (sizes_of parts) (pinned inputs parts))
  chosen_ten = (
    choice.level,
    subst (λ (ss : List ℕ). 10 ≤ free_count choice.level ss (pinned inputs parts)) sizes_are
        (subst (λ (bs : List Bool). 10 ≤ free_count choice.level sizes bs) pins_are choice.has_ten),
  )

-- where a level has ten the policy chooses some
pub unsettled : (s t : SetData) → t ≡ s → IsSettled s → (level : ℕ) × (10 ≤ free_count level (sizes_of t.parts) (pins_of t.begun t.parts)) → ⊥
unsettled s t same settled ten =
    let few : free_count ten.0 (sizes_of t.parts) (pins_of t.begun t.parts) < 10 = subst IsSettled (sym same) settled ten.0 in
    omega (arith, few, ten.1)

-- ---- those that are no inputs

pub if_ok : {T E : Type 0} (r : Result T E) (P Q : T → Type 0) → ((x : T) → P x → Q x) → IfOk r P → IfOk r Q
if_ok (Ok x) P Q more p = more x p
if_ok (Err e) P Q more p = tt

pub unpinned_apart : (inputs : List ℕ) (parts : List LiveSegment) (ids : List ℕ) → ids ≡ filter (λ id. not (is_among inputs id)) (ids_of parts)
    → IsApart ids inputs parts
unpinned_apart inputs parts ids are = record {
  among = λ id there. among_from (ids_of parts) id (kept id there).0;
  apart = λ id there. not-true (is_among inputs id) (kept id there).1;
}
  where
    kept : (id : ℕ) → is_among ids id ≡ true → Contains (ids_of parts) id × (not (is_among inputs id) ≡ true)
    kept id there = of_filter (λ n. not (is_among inputs n)) (ids_of parts) id (subst (λ (ns : List ℕ). Contains ns id) are (among_to ids id there))
