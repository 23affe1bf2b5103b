-- What is read of segments once another has taken the place of some.
use Rattle.std.proofs.Common.{◌≡◌, ℕ, ◌+◌, true, false, List, [], ◌∷◌, Option, None, Some, refl, sym, ap, subst, ◌∙◌, arith}
use Rattle.std.specs.List.{All, filter, sum_by}
use Rattle.std.proofs.lemmas.Bool.{eq-eqb, false_from_ne_true, ne_eqb, true≢false}
use Rattle.std.proofs.lemmas.List.Sums.{sum_by-append}
use Rattle.outer_io.specs.declared.file_name.FileName.{FileName}
use Rattle.outer_io.specs.declared.file_name.FileName.TheVariants.{Segment}
use Rattle.outer_io.specs.Files.{Files, bytes_of}
use Rattle.point_codec.specs.Points.{Item}
use Rattle.live_bits.specs.LiveSet.{is_live}
use Rattle.documents.specs.Entries.{has_entry, is_among}
use Rattle.documents.proofs.Kept.{among_to}
use Rattle.segment_file.specs.Segments.{IsSegment}
use Rattle.segment_view.specs.LiveSegments.{LiveSegment, Contents, IsRead, AreRead, ids_of, live_in_parts, parts_among, parts_but}
use Rattle.segment_view.proofs.Living.{live_one, parted_totals, placed_totals, read_placed}
use Rattle.segment_build.specs.NewSegments.{NewSegmentData}
use Rattle.file_names.specs.Names.{NameList, is_named}
use Rattle.segment_set.specs.Sets.{IsNamed}
use Rattle.segment_set.specs.Merges.{HoldsLive, MakesLive, part_at, Swaps, Replaces}
use Rattle.segment_set.proofs.Replaced.{all_but}
use Rattle.segment_set.proofs.Standing.{IsAlike, with_entries, alike_read, alike_live, ids_named}

at_new : (c : Contents) (id : ℕ) (items : List Item) → with_entries c id items id ≡ items
at_new c id items = rw (eq-eqb id id refl) refl

at_other : (c : Contents) (id n : ℕ) (items : List Item) → (n ≡ id → ⊥) → with_entries c id items n ≡ c n
at_other c id n items other = rw (ne_eqb n id other) refl

-- a segment that is named isn't one whose name is free
pub named_apart : (names : List FileName) (a b : ℕ) → is_named names (Segment a) ≡ true → is_named names (Segment b) ≡ false → a ≡ b → ⊥
named_apart names a b named free same = true≢false (sym named ∙ ap (λ (n : ℕ). is_named names (Segment n)) same ∙ free)

-- The segments are read with these contents, which are as before at named ids; and their live entries are those of before, but that those of
-- the segments of these ids gave way to the new ones.
pub record Grown (D : ℕ) (old_files new_files : Files) (names : NameList) (c : Contents) (ids : List ℕ) (entries : List Item)
    (old new : List LiveSegment) : Type 0 where
  pub after : Contents
  pub alike : IsAlike names old_files new_files c after
  pub now : AreRead D new_files after new
  pub totals : (f : Item → ℕ)
      → sum_by f (live_in_parts after new) + sum_by f (live_in_parts c (parts_among ids old)) ≡ sum_by f entries + sum_by f (live_in_parts c old)

pub live_parted : (f : Item → ℕ) (c : Contents) (ids : List ℕ) (parts : List LiveSegment)
    → sum_by f (live_in_parts c (parts_among ids parts)) + sum_by f (live_in_parts c (parts_but ids parts)) ≡ sum_by f (live_in_parts c parts)
live_parted f c ids parts =
    sym (sum_by-append f (live_in_parts c (parts_among ids parts)) (live_in_parts c (parts_but ids parts))) ∙ sym (parted_totals c ids parts f)

grown_none : (D : ℕ) (files new : Files) (names : NameList) (c : Contents) (ids : List ℕ) (entries : List Item) (old parts : List LiveSegment)
    → ((m : FileName) → is_named names.names m ≡ true → new m ≡ files m) → All (IsNamed names) old → AreRead D files c old
    → entries ≡ [] → parts ≡ parts_but ids old → Grown D files new names c ids entries old parts
grown_none D files new names c ids entries old parts kept named reads none is = record {
  after = c;
  alike = same;
  now = subst (AreRead D new c) (sym is) (all_but (IsRead D new c) ids old (alike_read D names files new c c old same named reads));
  totals = λ f.
      let total : sum_by f (live_in_parts c parts) ≡ sum_by f (live_in_parts c (parts_but ids old)) = ap (λ ps. sum_by f (live_in_parts c ps)) is in
      let nothing : sum_by f entries ≡ 0 = ap (sum_by f) none in
      omega (arith, live_parted f c ids old, total, nothing);
}
  where
    same : IsAlike names files new c c
    same = record { files = λ id is. kept (Segment id) is; entries = λ id is. refl }

grown_some : (D : ℕ) (told : Type 0) (files new : Files) (names after : NameList) (c : Contents) (ids : List ℕ) (entries : List Item) (n : NewSegmentData)
    (old parts : List LiveSegment)
    → ((m : FileName) → is_named names.names m ≡ true → new m ≡ files m) → All (IsNamed names) old → AreRead D files c old
    → told → HoldsLive D entries n → Swaps D told names after new ids n old parts → Grown D files new names c ids entries old parts
grown_some D told files new names after c ids entries n old parts kept named reads is_told live put = record {
  after = d;
  alike = same;
  now = read_placed D new d p (parts_but ids old) parts put.placed here
      (all_but (IsRead D new d) ids old (alike_read D names files new c d old same named reads));
  totals = λ f.
      let placed =
      placed_totals d p (parts_but ids old) parts put.placed f ∙ sum_by-append f (live_in_parts d (parts_but ids old)) (live_in_parts d (p ∷ [])) in
      let mine : sum_by f (live_in_parts d (p ∷ [])) ≡ sum_by f entries =
      ap (sum_by f) (live_one d p) ∙ ap (λ (es : List Item). sum_by f (filter (λ (x : Item). is_live n.live x.doc) es)) (at_new c put.id live.items)
      ∙ live.same f in
      let others : sum_by f (live_in_parts d (parts_but ids old)) ≡ sum_by f (live_in_parts c (parts_but ids old)) =
      ap (sum_by f) (alike_live names files new c d (parts_but ids old) same (all_but (IsNamed names) ids old named)) in
      omega (arith, live_parted f c ids old, placed, mine, others);
}
  where
    p : LiveSegment
    p = part_at put.id n

    d : Contents
    d = with_entries c put.id live.items

    same : IsAlike names files new c d
    same = record {
      files = λ id is. kept (Segment id) is;
      entries = λ id is. at_other c put.id id live.items (named_apart names.names id put.id is put.fresh);
    }

    here : IsRead D new d p
    here = record {
      held = subst (λ (es : List Item). IsSegment D (bytes_of (new (Segment put.id))) p.head es) (sym (at_new c put.id live.items))
          (put.written is_told live.items live.has);
      found = λ number is. subst (λ (es : List Item). has_entry number es ≡ true) (sym (at_new c put.id live.items)) (live.found number is);
    }

-- what was built of entries took the place of segments
pub grown : (D : ℕ) (told : Type 0) (files new : Files) (names after : NameList) (c : Contents) (ids : List ℕ) (entries : List Item)
    (built : Option NewSegmentData) (old parts : List LiveSegment)
    → ((m : FileName) → is_named names.names m ≡ true → new m ≡ files m) → All (IsNamed names) old → AreRead D files c old
    → told → MakesLive D entries built → Replaces D told names after new ids built old parts → Grown D files new names c ids entries old parts
grown D told files new names after c ids entries None old parts kept named reads is_told makes replaces =
    grown_none D files new names c ids entries old parts kept named reads makes replaces
grown D told files new names after c ids entries (Some n) old parts kept named reads is_told makes replaces =
    grown_some D told files new names after c ids entries n old parts kept named reads is_told makes replaces

-- a free id is that of none of the segments
pub fresh_apart : (names : NameList) (parts : List LiveSegment) (id : ℕ) → All (IsNamed names) parts → is_named names.names (Segment id) ≡ false
    → is_among (ids_of parts) id ≡ false
fresh_apart names parts id named free =
    false_from_ne_true (is_among (ids_of parts) id) (λ there. true≢false (sym (ids_named names parts named id (among_to (ids_of parts) id there)) ∙ free))
