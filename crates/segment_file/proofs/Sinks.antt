-- Adding some entries and then others is adding them all.
use Rattle.std.proofs.Common.{◌≡◌, ℕ, Bool, true, false, not, ◌&&◌, ◌||◌, eqb, cond, List, [], ◌∷◌, ◌++◌}
use Rattle.std.proofs.Common.{refl, sym, ap, ◌∙◌, append_assoc}
use Rattle.std.specs.List.{filter, list_any}
use Rattle.std.proofs.lemmas.List.Elements.{filter-append}
use Rattle.std.proofs.lemmas.List.Folds.{list_any-append}
use Rattle.point_codec.specs.Points.{Item}
use Rattle.point_codec.specs.Seen.{items_of}
use Rattle.live_bits.specs.LiveSet.{LiveSet, is_live}
use Rattle.segment_file.specs.declared.sink.LeafSink.{LeafSink}
use Rattle.segment_file.specs.declared.sink.LeafSink.TheVariants.{Entries, Numbers}
use Rattle.segment_file.specs.Sinks.{Adds, set_without_entries}

-- the live ones of these entries
abbrev live_of : LiveSet → List Item → List Item
live_of live items = filter (λ x. is_live live x.doc) items

-- entries put behind a list
appended_both : (old mid new : List Item) (live : LiveSet) (xs ys : List Item) → mid ≡ old ++ live_of live xs → new ≡ mid ++ live_of live ys
    → new ≡ old ++ live_of live (xs ++ ys)
appended_both old mid new live xs ys front back =
    back ∙ ap (λ (z : List Item). z ++ live_of live ys) front
    ∙ append_assoc old (live_of live xs) (live_of live ys)
    ∙ ap (λ (z : List Item). old ++ z) (sym (filter-append (λ (x : Item). is_live live x.doc) xs ys))

-- ---- numbers taken out of a set

filter_twice : (p q r : ℕ → Bool) → ((n : ℕ) → r n ≡ (p n && q n)) → (ns : List ℕ)
    → filter q (filter p ns) ≡ filter r ns
filter_twice p q r both [] = refl
filter_twice p q r both (n ∷ ns) = step (p n) (both n) (filter_twice p q r both ns)
  where
    kept : Bool → List ℕ
    kept b = cond b (n ∷ filter r ns) (filter r ns)

    step : (b : Bool) → r n ≡ (b && q n) → filter q (filter p ns) ≡ filter r ns
        → filter q (cond b (n ∷ filter p ns) (filter p ns)) ≡ kept (r n)
    step true is rest = ap (λ (l : List ℕ). cond (q n) (n ∷ l) l) rest ∙ ap kept (sym is)
    step false is rest = rest ∙ ap kept (sym is)

neither : (a b : Bool) → not (a || b) ≡ (not a && not b)
neither true b = refl
neither false b = refl

-- whether an entry has the number
abbrev has : List Item → ℕ → Bool
has items n = list_any (λ (x : Item). eqb x.doc n) items

-- a set with other numbers
abbrev pub with_live : LiveSet → List ℕ → LiveSet
with_live s live = record s { live = live }

without_both : (xs ys : List Item) (s : LiveSet)
    → set_without_entries ys (set_without_entries xs s) ≡ set_without_entries (xs ++ ys) s
without_both xs ys s =
    ap (with_live s)
    (filter_twice (λ n. not (has xs n)) (λ n. not (has ys n)) (λ n. not (has (xs ++ ys) n))
    (λ n. ap not (list_any-append (λ (x : Item). eqb x.doc n) xs ys) ∙ neither (has xs n) (has ys n)) s.live)

pub cleared_both : (old mid new : LiveSet) (xs ys : List Item) → mid ≡ set_without_entries xs old → new ≡ set_without_entries ys mid
    → new ≡ set_without_entries (xs ++ ys) old
cleared_both old mid new xs ys front back = back ∙ ap (set_without_entries ys) front ∙ without_both xs ys old

-- ---- either sink

pub adds_in_turn : {D : ℕ} (old mid new : LeafSink D) (live : LiveSet) (xs ys : List Item) → Adds old live xs mid → Adds mid live ys new
    → Adds old live (xs ++ ys) new
adds_in_turn (Entries a) (Entries b) (Entries c) live xs ys front back =
    appended_both (items_of a.items) (items_of b.items) (items_of c.items) live xs ys front back
adds_in_turn (Entries a) (Entries b) (Numbers c) live xs ys front back = absurd back
adds_in_turn (Entries a) (Numbers b) new live xs ys front back = absurd front
adds_in_turn (Numbers a) (Entries b) new live xs ys front back = absurd front
adds_in_turn (Numbers a) (Numbers b) (Entries c) live xs ys front back = absurd back
adds_in_turn (Numbers a) (Numbers b) (Numbers c) live xs ys front back = cleared_both a b c xs ys front back
