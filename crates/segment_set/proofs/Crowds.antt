-- A number that too many of the live entries of segments have.
use Rattle.std.proofs.Common.{◌≡◌, ℕ, ◌+◌, ◌≤◌, Bool, true, false, ◌&&◌, eqb, cond, List, [], ◌∷◌, filter, ⊎_elim, refl, sym, ap, subst, ◌∙◌, inl, inr, arith}
use Rattle.std.specs.List.{Contains, count_by}
use Rattle.std.proofs.Math.Logic.{∥∥₁_elim}
use Rattle.std.proofs.Props.{props}
use Rattle.std.proofs.lemmas.Bool.{both_ways, eqb-true}
use Rattle.std.proofs.lemmas.List.Sums.{sum_by-append, sum_by-cons}
use Rattle.outer_io.specs.declared.file_name.FileName.TheVariants.{Segment}
use Rattle.outer_io.specs.Files.{Files, bytes_of}
use Rattle.point_codec.specs.Points.{Item}
use Rattle.leaf_codec.specs.LeafOrder.{same_item}
use Rattle.live_bits.specs.LiveSet.{LiveSet, is_live}
use Rattle.segment_file.specs.Heads.{Head}
use Rattle.segment_file.specs.Segments.{IsSegment}
use Rattle.documents.proofs.Lists.{cons_head, cons_tail, of_filter}
use Rattle.documents.specs.Entries.{is_among}
use Rattle.stored_index.specs.Segments.{places}
use Rattle.segment_view.specs.LiveSegments.{LiveSegment, lives_of, parts_among}
use Rattle.segment_view.specs.Held.{IsHeld, AreHeld}
use Rattle.document_checks.specs.Crowded.{IsCrowded}
use Rattle.file_names.specs.Names.{NameList}
use Rattle.segment_set.specs.Sets.{AreAlone}
use Rattle.segment_set.specs.Kept.{AreCanonical, Follows, HasCanonical, IsSubset}
use Rattle.index_opening.specs.Evidence.{CrowdsPart, IsCrowdedIn}
use Rattle.segment_set.proofs.OneList.{entries_once}
use Rattle.segment_set.proofs.Carried.{canon_file}
use Rattle.segment_set.proofs.Counted.{crowded_whole, crowded_within}
use Rattle.segment_set.proofs.Replaced.{one_if, parted, place_in, places_in}

-- the test is passed by entries of the number alone
abbrev IsOf : ℕ → (Item → Bool) → Type 0
IsOf number q = (y : Item) → q y ≡ true → y.doc ≡ number

same_doc : (x y : Item) → same_item x y ≡ true → x.doc ≡ y.doc
same_doc x y e = eqb-true x.doc y.doc (left_of _ _ e)
  where
    left_of : (a b : Bool) → (a && b) ≡ true → a ≡ true
    left_of true b h = refl
    left_of false b h = h

-- what is crowded where one list stands behind another, of which one has no entry of the number, is so in the other
crowded_part : (number : ℕ) (xs ys : List Item) → ((q : Item → Bool) → IsOf number q → count_by q xs ≤ count_by q ys) → IsCrowded number xs
    → IsCrowded number ys
crowded_part number xs ys more (inl many) = inl (omega (arith, many, more (λ y. eqb y.doc number) (λ y e. eqb-true y.doc number e)))
crowded_part number xs ys more (inr (x, is, twice)) = inr (x, is, omega (arith, twice, more (same_item x) (λ y e. sym (same_doc x y e) ∙ is)))

none_live : (number : ℕ) (q : Item → Bool) → IsOf number q → (live : LiveSet) → is_live live number ≡ false → (xs : List Item)
    → count_by q (filter (λ x. is_live live x.doc) xs) ≤ 0
none_live number q of live dead [] = omega arith
none_live number q of live dead (x ∷ xs) = by (is_live live x.doc) refl (q x) refl (none_live number q of live dead xs)
  where
    rest : List Item
    rest = filter (λ y. is_live live y.doc) xs

    by : (b : Bool) → is_live live x.doc ≡ b → (c : Bool) → q x ≡ c → count_by q rest ≤ 0 → count_by q (cond b (x ∷ rest) rest) ≤ 0
    by true here true e none = absurd (both_ways (is_live live number) dead (ap (is_live live) (sym (of x e)) ∙ here))
    by true here false e none = omega (arith, none, sum_by-cons (λ y. cond (q y) 1 0) x rest, ap one_if e)
    by false here c e none = none

held_none : (D : ℕ) (files : Files) (number : ℕ) (q : Item → Bool) → IsOf number q → (p : LiveSegment) (items : List Item) → is_live p.live number ≡ false
    → IsHeld D files p items → count_by q items ≤ 0
held_none D files number q of p items dead (inl none) = omega (arith, ap (count_by q) none.1)
held_none D files number q of p items dead (inr (entries, held, is)) = omega (arith, ap (count_by q) is, none_live number q of p.live dead entries)

places_cons : (number : ℕ) (p : LiveSegment) (ps : List LiveSegment)
    → places number (lives_of (p ∷ ps)) ≡ one_if (is_live p.live number) + places number (lives_of ps)
places_cons number p ps = sum_by-cons (λ (t : LiveSet). cond (is_live t number) 1 0) p.live (lives_of ps)

all_none : (D : ℕ) (files : Files) (number : ℕ) (q : Item → Bool) → IsOf number q → (parts : List LiveSegment) (items : List Item)
    → places number (lives_of parts) ≤ 0
    → AreHeld D files parts items → count_by q items ≤ 0
all_none D files number q of [] items none held = omega (arith, ap (count_by q) held)
all_none D files number q of (p ∷ ps) items none held = by (is_live p.live number) refl (all_none D files number q of ps held.back_items)
  where
    by : (b : Bool) → is_live p.live number ≡ b → (places number (lives_of ps) ≤ 0 → AreHeld D files ps held.back_items → count_by q held.back_items ≤ 0)
        → count_by q items ≤ 0
    by true e rest = absurd (omega (arith, none, places_cons number p ps, ap one_if e))
    by false e rest = omega (
      arith,
      ap (count_by q) held.joined,
      sum_by-append (λ y. cond (q y) 1 0) held.front_items held.back_items,
      held_none D files number q of p held.front_items e held.front_holds,
      rest (omega (arith, none, places_cons number p ps)) held.back_holds,
    )

-- it is crowded in one of them, as it is live in one alone
held_crowd : (D : ℕ) (files : Files) (p : LiveSegment) (number : ℕ) (items : List Item) → IsHeld D files p items → IsCrowded number items
    → CrowdsPart D files p number
held_crowd D files p number items (inl none) crowd = absurd (nothing (subst (IsCrowded number) none.1 crowd))
  where
    nothing : IsCrowded number [] → ⊥
    nothing (inl many) = omega (arith, many)
    nothing (inr (x, is, twice)) = omega (arith, twice)
held_crowd D files p number items (inr (entries, held, is)) crowd = record { items = entries; held = held; crowded = subst (IsCrowded number) is crowd }

pub held_crowded : (D : ℕ) (files : Files) (number : ℕ) (parts : List LiveSegment) (items : List Item) → places number (lives_of parts) ≤ 1
    → AreHeld D files parts items → IsCrowded number items → IsCrowdedIn D files parts number
held_crowded D files number [] items alone held crowd = absurd (nothing (subst (IsCrowded number) held crowd))
  where
    nothing : IsCrowded number [] → ⊥
    nothing (inl many) = omega (arith, many)
    nothing (inr (x, is, twice)) = omega (arith, twice)
held_crowded D files number (p ∷ ps) items alone held crowd = by (is_live p.live number) refl (held_crowded D files number ps held.back_items)
  where
    split : (q : Item → Bool) → count_by q items ≡ count_by q held.front_items + count_by q held.back_items
    split q = ap (count_by q) held.joined ∙ sum_by-append (λ y. cond (q y) 1 0) held.front_items held.back_items

    by : (b : Bool) → is_live p.live number ≡ b
        → (places number (lives_of ps) ≤ 1 → AreHeld D files ps held.back_items → IsCrowded number held.back_items → IsCrowdedIn D files ps number)
        → IsCrowdedIn D files (p ∷ ps) number
    by true e rest = (
      p,
      cons_head p ps,
      held_crowd D files p number held.front_items held.front_holds
          (crowded_part number items held.front_items
          (λ q of. omega
          (arith, split q, all_none D files number q of ps held.back_items (omega (arith, alone, places_cons number p ps, ap one_if e)) held.back_holds))
          crowd),
    )
    by false e rest =
        let behind = rest (omega (arith, alone, places_cons number p ps)) held.back_holds
        (crowded_part number items held.back_items (λ q of. omega (arith, split q, held_none D files number q of p held.front_items e held.front_holds))
        crowd) in
        (behind.0, cons_tail p ps behind.0 behind.1, behind.2)

-- of segments that were gathered
pub among_crowded : (D : ℕ) (files : Files) (ids : List ℕ) (parts : List LiveSegment) (items : List Item) (number : ℕ) → AreAlone parts
    → AreHeld D files (parts_among ids parts) items → IsCrowded number items
    → IsCrowdedIn D files parts number
among_crowded D files ids parts items number alone held crowd =
    let some = parts_among ids parts in
    let found = held_crowded D files number some items
    (omega (arith, alone number, places_in number some, places_in number parts, parted (place_in number) ids parts)) held crowd in
    (found.0, (of_filter (λ (p : LiveSegment). is_among ids p.head.id) parts found.0 found.1).0, found.2)

-- ---- segments whose entries are such as documents have

pub none_crowded : (D : ℕ) (files : Files) (p : LiveSegment) (number : ℕ) → HasCanonical D files p.head → CrowdsPart D files p number → ⊥
none_crowded D files p number canonical crowd = ∥∥₁_elim canonical (hlevel props)
    (λ c. c.3 number
    (subst (IsCrowded number) (entries_once D (bytes_of (files (Segment p.head.id))) p.head crowd.items c.0 crowd.held c.1)
    (crowded_whole number (λ x. is_live p.live x.doc) crowd.items crowd.crowded)))

-- a crowd of the numbers that are live in a segment is one of those that were
pub crowd_before : (D : ℕ) (files : Files) (p q : LiveSegment) (number : ℕ) → p.head ≡ q.head → IsSubset p.live q.live → CrowdsPart D files p number
    → CrowdsPart D files q number
crowd_before D files p q number head within crowd = record {
  items = crowd.items;
  held = subst (λ (h : Head). IsSegment D (bytes_of (files (Segment h.id))) h crowd.items) head crowd.held;
  crowded = crowded_within number (λ x. is_live p.live x.doc) (λ x. is_live q.live x.doc) (λ x is. within.live x.doc is) crowd.items crowd.crowded;
}

-- so it is of a segment of before, as those that came since have none
pub crowded_before : (D : ℕ) (f g : Files) (names : NameList) (old new : List LiveSegment) (number : ℕ) → Follows names old new → AreCanonical D f names new
    → ((p : LiveSegment) → Contains new p → g (Segment p.head.id) ≡ f (Segment p.head.id)) → IsCrowdedIn D g new number → IsCrowdedIn D g old number
crowded_before D f g names old new number follows canon same (p, there, crowd) = ⊎_elim
    (λ fresh. absurd (none_crowded D g p number (canon_file D f g p.head p.head refl (same p there) (canon p there fresh).canon) crowd))
    (λ (q, here, head, within). (q, here, crowd_before D g p q number head within crowd))
    (follows.each p there)
