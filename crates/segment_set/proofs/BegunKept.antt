-- What a begun merge has built takes over what is live in its inputs, through calls on the set.
use Rattle.std.proofs.Common.{◌≡◌, ℕ, Bool, true, false, not, ◌&&◌, eqb, List, Option, None, Some, refl, sym, ap, subst, ◌∙◌, inl, inr, ⊎_elim}
use Rattle.std.proofs.Math.Logic.{∥∥₁_map}
use Rattle.std.specs.List.{Contains}
use Rattle.outer_io.specs.declared.file_name.FileName.TheVariants.{Segment}
use Rattle.outer_io.specs.Files.{Files}
use Rattle.live_bits.specs.LiveSet.{is_live, live_set_without}
use Rattle.live_bits.proofs.LiveNumbers.{is_live-without}
use Rattle.documents.specs.Entries.{is_among}
use Rattle.documents.proofs.Lists.{in_map, of_filter}
use Rattle.segment_view.specs.LiveSegments.{LiveSegment, cleared_parts, has_live, parts_among}
use Rattle.segment_view.proofs.Living.{any_cleared}
use Rattle.segment_build.specs.NewSegments.{NewSegmentData}
use Rattle.segment_set.specs.Sets.{BegunMerge, SetData, begun_but, built_but, set_but}
use Rattle.segment_set.specs.Losing.{HasNoEntry, HoldsNoMore, KeepsBegun, TakesOver, is_built_live}
use Rattle.segment_set.proofs.Lossless.{no_entry_alike}
use Rattle.segment_set.proofs.SomeHeld.{no_more_alike, no_more_cleared}
use Rattle.segment_set.proofs.Well.{among_cleared, left_of}

-- whose inputs stay, with their files
pub begun_alike : (D : ℕ) (f g : Files) (s t : SetData) → t.begun ≡ s.begun
    → ((b : BegunMerge) → s.begun ≡ Some b → parts_among b.inputs t.parts ≡ parts_among b.inputs s.parts)
    → ((p : LiveSegment) → Contains s.parts p → g (Segment p.head.id) ≡ f (Segment p.head.id)) → KeepsBegun D f s → KeepsBegun D g t
begun_alike D f g s t same stay files keeps b is =
    let was : s.begun ≡ Some b = sym same ∙ is in
    let alike : (p : LiveSegment) → Contains (parts_among b.inputs s.parts) p → g (Segment p.head.id) ≡ f (Segment p.head.id) =
    λ p there. files p (of_filter (λ (q : LiveSegment). is_among b.inputs q.head.id) s.parts p there).0 in
    let takes = keeps b was in
    record {
      numbers = λ number live. ⊎_elim inl
          (λ none. inr (∥∥₁_map none (λ h. subst (λ (ps : List LiveSegment). HasNoEntry D g ps number) (sym (stay b was))
          (no_entry_alike D f g (parts_among b.inputs s.parts) number alike h))))
          (takes.numbers number (sym (ap (has_live number) (stay b was)) ∙ live));
      entries = λ n built. ∥∥₁_map (takes.entries n built) (λ h. subst (λ (ps : List LiveSegment). HoldsNoMore D g ps n) (sym (stay b was))
          (no_more_alike D f g (parts_among b.inputs s.parts) n alike h));
    }

pub begun_none : (D : ℕ) (files : Files) (t : SetData) → t.begun ≡ None → KeepsBegun D files t
begun_none D files t none b is = let never : None ≡ Some b = sym none ∙ is in absurd cc

-- ---- without a document

both_true : (a b : Bool) → a ≡ true → b ≡ true → (a && b) ≡ true
both_true a b p q = ap (λ x. x && b) p ∙ q

right_of : (a b : Bool) → (a && b) ≡ true → b ≡ true
right_of true b e = e
right_of false b e = absurd cc

built_without : (number m : ℕ) (built : Option NewSegmentData) → not (eqb m number) ≡ true → is_built_live m built ≡ true
    → is_built_live m (built_but number built) ≡ true
built_without number m None other live = live
built_without number m (Some n) other live = is_live-without n.live number m ∙ both_true (is_live n.live m) (not (eqb m number)) live other

no_entry_cleared : (D : ℕ) (files : Files) (number m : ℕ) (parts : List LiveSegment) → not (eqb m number) ≡ true → HasNoEntry D files parts m
    → HasNoEntry D files (cleared_parts number parts) m
no_entry_cleared D files number m parts other h = record {
  part = record h.part { live = live_set_without number h.part.live };
  there = in_map (λ (q : LiveSegment). record q { live = live_set_without number q.live }) parts h.part h.there;
  live = is_live-without h.part.live number m ∙ both_true (is_live h.part.live m) (not (eqb m number)) h.live other;
  items = h.items;
  held = h.held;
  none = h.none;
}

some_is : (m n : NewSegmentData) → Some m ≡ Some n → m ≡ n
some_is m n h = cc

more_without : (D : ℕ) (files : Files) (number : ℕ) (inputs : List LiveSegment) (built : Option NewSegmentData)
    → ((n : NewSegmentData) → built ≡ Some n → ∥ HoldsNoMore D files inputs n ∥₁)
    → (n : NewSegmentData) → built_but number built ≡ Some n → ∥ HoldsNoMore D files (cleared_parts number inputs) n ∥₁
more_without D files number inputs None known n is = absurd cc
more_without D files number inputs (Some m) known n is = ∥∥₁_map (known m refl) (λ h.
    subst (HoldsNoMore D files (cleared_parts number inputs)) (some_is (record m { live = live_set_without number m.live }) n is)
    (no_more_cleared D files number inputs m h))

pub begun_without : (D : ℕ) (files : Files) (number : ℕ) (s : SetData) → KeepsBegun D files s → KeepsBegun D files (set_but number s)
begun_without D files number s keeps c is = by s.begun refl is
  where
    without : (ids : List ℕ) (built : Option NewSegmentData) → TakesOver D files (parts_among ids s.parts) built
        → TakesOver D files (parts_among ids (cleared_parts number s.parts)) (built_but number built)
    without ids built known = record {
      numbers = λ m live.
          let same = among_cleared number ids s.parts in
          let both : (has_live m (parts_among ids s.parts) && not (eqb m number)) ≡ true =
          sym (any_cleared number m (parts_among ids s.parts)) ∙ sym (ap (has_live m) same) ∙ live in
          let other = right_of (has_live m (parts_among ids s.parts)) (not (eqb m number)) both in
          ⊎_elim (λ here. inl (built_without number m built other here))
          (λ none. inr (∥∥₁_map none (λ h. subst (λ (ps : List LiveSegment). HasNoEntry D files ps m) (sym same)
          (no_entry_cleared D files number m (parts_among ids s.parts) other h))))
          (known.numbers m (left_of (has_live m (parts_among ids s.parts)) (not (eqb m number)) both));
      entries = λ n built_is. subst (λ (ps : List LiveSegment). ∥ HoldsNoMore D files ps n ∥₁) (sym (among_cleared number ids s.parts))
          (more_without D files number (parts_among ids s.parts) built known.entries n built_is);
    }

    by : (o : Option BegunMerge) → s.begun ≡ o → begun_but number o ≡ Some c
        → TakesOver D files (parts_among c.inputs (cleared_parts number s.parts)) c.built
    by None e h = absurd cc
    by (Some b) e h =
        let same : record b { built = built_but number b.built } ≡ c = cc in
        subst (λ (x : BegunMerge). TakesOver D files (parts_among x.inputs (cleared_parts number s.parts)) x.built) same
        (without b.inputs b.built (keeps b e))
