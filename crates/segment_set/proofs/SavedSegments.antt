-- A segment that is saved stays so, and the names of live bits.
use Rattle.std.proofs.Common.{◌≡◌, ℕ, zero, suc, ◌≤◌, ◌<◌, Bool, true, false, get_or, List, [], ◌∷◌}
use Rattle.std.proofs.Common.{◌++◌, length, take, Some, refl, sym, ap, subst, ◌∙◌, ◌⊎◌, inl, inr, arith}
use Rattle.std.specs.List.{All, AllPairs, AllZip, Contains, slice_get}
use Rattle.std.specs.List.Sorted.{IsStrictlyIncreasing}
use Rattle.std.proofs.lemmas.Bool.{both_ways, false_from_ne_true}
use Rattle.std.proofs.lemmas.Option.{get_or_from_slice_get, slice_get_within}
use Rattle.std.proofs.lemmas.List.Kept.{AllPairs-from_increasing}
use Rattle.std.proofs.lemmas.List.Elements.{All-contains, All-contains_itself, All-cons, All-head, All-nil}
use Rattle.std.proofs.lemmas.List.Elements.{All-tail, Contains-append_left, Contains-append_right}
use Rattle.outer_io.specs.declared.file_name.FileName.{FileName}
use Rattle.outer_io.specs.declared.file_name.FileName.TheVariants.{Live}
use Rattle.outer_io.specs.Files.{Files, bytes_of}
use Rattle.live_bits.specs.LiveSet.{LiveSet}
use Rattle.documents.specs.Entries.{is_among}
use Rattle.documents.proofs.Kept.{among_to}
use Rattle.documents.proofs.Lists.{cons_head, in_map, of_map, pairs_head, pairs_tail}
use Rattle.commit_list.specs.declared.listed.Listed.{Listed}
use Rattle.commit_list.specs.Commits.{IsListed}
use Rattle.segment_file.specs.LiveFiles.{IsLiveFile}
use Rattle.stored_index.proofs.Pairwise.{zip_moved}
use Rattle.segment_view.specs.LiveSegments.{LiveSegment, ids_of}
use Rattle.file_names.specs.Names.{NameList, IsNextGeneration, is_named}
use Rattle.file_names.proofs.Listed.{others_stay}
use Rattle.segment_set.specs.Kept.{KeepsNamed}
use Rattle.segment_set.specs.Saved.{HasNoLine, IsAnew, IsLineOf, IsSaved}
use Rattle.segment_set.proofs.Replaced.{id_of_part}
use Rattle.segment_set.proofs.Carried.{unnamed_before}
use Rattle.index_opening.proofs.Ordered.{zip_pushed}

-- ---- pairs

pub zip_length : {A B : Type 0} (R : A → B → Type 0) (xs : List A) (ys : List B) → AllZip R xs ys → length xs ≡ length ys
zip_length R [] [] p = refl
zip_length R [] (y ∷ ys) p = absurd p
zip_length R (x ∷ xs) [] p = absurd p
zip_length R (x ∷ xs) (y ∷ ys) p = omega (arith, zip_length R xs ys p.1)

pub zip_left : {A B : Type 0} (R : A → B → Type 0) (P : A → Type 0) (xs : List A) (ys : List B) → ((x : A) (y : B) → R x y → P x) → AllZip R xs ys → All P xs
zip_left R P [] [] more p = All-nil P
zip_left R P [] (y ∷ ys) more p = absurd p
zip_left R P (x ∷ xs) [] more p = absurd p
zip_left R P (x ∷ xs) (y ∷ ys) more p = All-cons P x xs (more x y p.0) (zip_left R P xs ys more p.1)

-- a fact of each on the right, beside the pairs
pub zip_beside : {A B : Type 0} (R S : A → B → Type 0) (P : B → Type 0) (xs : List A) (ys : List B) → ((x : A) (y : B) → R x y → P y → S x y) → All P ys
    → AllZip R xs ys → AllZip S xs ys
zip_beside R S P [] [] more all p = tt
zip_beside R S P [] (y ∷ ys) more all p = absurd p
zip_beside R S P (x ∷ xs) [] more all p = absurd p
zip_beside R S P (x ∷ xs) (y ∷ ys) more all p = (more x y p.0 (All-head P y ys all), zip_beside R S P xs ys more (All-tail P y ys all) p.1)

pub take_whole : {X : Type 0} (xs : List X) (i : ℕ) → length xs ≤ i → take i xs ≡ xs
take_whole [] zero le = refl
take_whole [] (suc i) le = refl
take_whole (x ∷ xs) zero le = absurd (omega (arith, le))
take_whole (x ∷ xs) (suc i) le = ap (λ ys. x ∷ ys) (take_whole xs i (omega (arith, le)))

pub parts_before : (parts : List LiveSegment) (i : ℕ) (d : LiveSegment) → AllPairs (λ (m n : ℕ). m < n) (ids_of parts) → i < length parts
    → All (λ (q : LiveSegment). q.head.id < (get_or parts i d).head.id) (take i parts)
parts_before [] i d up lt = absurd (omega (arith, lt))
parts_before (p ∷ ps) zero d up lt = All-nil (λ (q : LiveSegment). q.head.id < p.head.id)
parts_before (p ∷ ps) (suc i) d up lt =
    let less : i < length ps = omega (arith, lt) in
    All-cons (λ (q : LiveSegment). q.head.id < (get_or ps i d).head.id) p (take i ps)
    (pairs_head (λ (m n : ℕ). m < n) p.head.id (ids_of ps) up (get_or ps i d).head.id
    (in_map (λ (q : LiveSegment). q.head.id) ps (get_or ps i d) (All-contains_itself ps i d less)))
    (parts_before ps i d (pairs_tail (λ (m n : ℕ). m < n) p.head.id (ids_of ps) up) less)

-- ---- a segment that is saved stays so

pub line_kept : (mid after : NameList) (l : Listed) (p : LiveSegment) → ((m : FileName) → is_named mid.names m ≡ true → is_named after.names m ≡ true)
    → IsLineOf mid l p → IsLineOf after l p
line_kept mid after l p more line =
    record { segment = line.segment; entries = line.entries; live = line.live; named = more (Live l.segment l.generation) line.named }

-- what is written stays so
anew_kept : (told : Type 0) (before mid after : NameList) (f g : Files) (l : Listed) (live : LiveSet) → KeepsNamed told mid after f g
    → is_named mid.names (Live l.segment l.generation) ≡ true → IsAnew told before f l live → IsAnew told before g l live
anew_kept told before mid after f g l live keeps named anew = record {
  fresh = anew.fresh;
  rule = anew.rule;
  written = λ t.
      subst (λ b. IsLiveFile l.segment l.generation (bytes_of b) live) (sym (keeps.files t (Live l.segment l.generation) named)) (anew.written t);
}

pub saved_kept : (told : Type 0) (last : List Listed) (before mid after : NameList) (f g : Files) (l : Listed) (p : LiveSegment)
    → KeepsNamed told mid after f g
    → after.next_segment ≡ mid.next_segment
    → IsSaved told last before mid f l p → IsSaved told last before after g l p
saved_kept told last before mid after f g l p keeps next is = record {
  line = line_kept mid after l p keeps.more is.line;
  may = subst (λ n. IsListed n l) (sym next) is.may;
  set = is.set;
  how = by is.how;
}
  where
    by : (Contains last l × IsLineOf before l p) ⊎ (HasNoLine before last p × IsAnew told before f l p.live)
        → (Contains last l × IsLineOf before l p) ⊎ (HasNoLine before last p × IsAnew told before g l p.live)
    by (inl h) = inl h
    by (inr h) = inr (h.0, anew_kept told before mid after f g l p.live keeps is.line.named h.1)

-- since a time when the list had fewer names, but no fewer of this segment's live bits
module _ (told : Type 0) (last : List Listed) (first before : NameList) (p : LiveSegment)
    (more : (m : FileName) → is_named first.names m ≡ true → is_named before.names m ≡ true)
    (same : (n : ℕ) → is_named before.names (Live p.head.id n) ≡ is_named first.names (Live p.head.id n)) where
  -- of a line of the segment
  like : (l : Listed) → l.segment ≡ p.head.id → (n : ℕ) → is_named before.names (Live l.segment n) ≡ is_named first.names (Live l.segment n)
  like l is n = subst (λ (id : ℕ). is_named before.names (Live id n) ≡ is_named first.names (Live id n)) (sym is) (same n)

  line_since : (l : Listed) → IsLineOf before l p → IsLineOf first l p
  line_since l line = record {
    segment = line.segment;
    entries = line.entries;
    live = line.live;
    named = sym (like l line.segment l.generation) ∙ line.named;
  }

  anew_since : (files : Files) (l : Listed) → l.segment ≡ p.head.id → IsAnew told before files l p.live → IsAnew told first files l p.live
  anew_since files l is anew = record {
    fresh = unnamed_before first.names before.names (Live l.segment l.generation) (more (Live l.segment l.generation)) anew.fresh;
    rule = subst (λ (taken : ℕ → Bool). IsNextGeneration taken l.generation) (λ i n. like l is n i) anew.rule;
    written = anew.written;
  }

  pub saved_since : (after : NameList) (files : Files) (l : Listed) → IsSaved told last before after files l p → IsSaved told last first after files l p
  saved_since after files l is = record { line = is.line; may = is.may; set = is.set; how = by is.how }
    where
      by : (Contains last l × IsLineOf before l p) ⊎ (HasNoLine before last p × IsAnew told before files l p.live)
          → (Contains last l × IsLineOf first l p) ⊎ (HasNoLine first last p × IsAnew told first files l p.live)
      by (inl h) = inl (h.0, line_since l h.1)
      by (inr h) = inr (λ m there line. h.0 m there (line_kept first before m p more line), anew_since files l is.line.segment h.1)

pub all_saved_kept : (told : Type 0) (last : List Listed) (before mid after : NameList) (f g : Files) (listed : List Listed) (parts : List LiveSegment)
    → KeepsNamed told mid after f g
    → after.next_segment ≡ mid.next_segment
    → AllZip (IsSaved told last before mid f) listed parts → AllZip (IsSaved told last before after g) listed parts
all_saved_kept told last before mid after f g listed parts keeps next =
    zip_moved (IsSaved told last before mid f) (IsSaved told last before after g) listed parts
    (λ l p there. saved_kept told last before mid after f g l p keeps next)

-- one segment more is saved behind the others
pub saved_more : (told : Type 0) (last : List Listed) (before mid after : NameList) (f g : Files) (listed : List Listed) (parts more : List LiveSegment)
    (l : Listed) (p : LiveSegment)
    → KeepsNamed told mid after f g
    → ((m : FileName) → is_named before.names m ≡ true → is_named mid.names m ≡ true)
    → ((n : ℕ) → is_named mid.names (Live p.head.id n) ≡ is_named before.names (Live p.head.id n))
    → after.next_segment ≡ mid.next_segment → more ≡ parts ++ p ∷ []
    → AllZip (IsSaved told last before mid f) listed parts → IsSaved told last mid after g l p
    → AllZip (IsSaved told last before after g) (listed ++ l ∷ []) more
saved_more told last before mid after f g listed parts more l p keeps earlier same next is all one =
    subst (AllZip (IsSaved told last before after g) (listed ++ l ∷ [])) (sym is)
    (zip_pushed (IsSaved told last before after g) listed parts l p (all_saved_kept told last before mid after f g listed parts keeps next all)
    (saved_since told last before mid p earlier same after g l one))

-- ---- names of live bits, one segment after another

-- an id that is none of the segments and not that of one more
pub later_among : (parts : List LiveSegment) (p : LiveSegment) (id : ℕ) → is_among (ids_of (parts ++ p ∷ [])) id ≡ false
    → (is_among (ids_of parts) id ≡ false) × (id ≡ p.head.id → ⊥)
later_among parts p id none = (
  false_from_ne_true (is_among (ids_of parts) id) (λ among.
      let found = of_map (λ (q : LiveSegment). q.head.id) parts id (among_to (ids_of parts) id among) in
      both_ways (is_among (ids_of (parts ++ p ∷ [])) id) none
      (subst (λ (n : ℕ). is_among (ids_of (parts ++ p ∷ [])) n ≡ true) found.2
      (id_of_part (parts ++ p ∷ []) found.0 (Contains-append_left parts (p ∷ []) found.0 found.1)))),
  λ same. both_ways (is_among (ids_of (parts ++ p ∷ [])) id) none
      (subst (λ (n : ℕ). is_among (ids_of (parts ++ p ∷ [])) n ≡ true) (sym same)
      (id_of_part (parts ++ p ∷ []) p (Contains-append_right parts (p ∷ []) p (cons_head p [])))),
)

-- a name joined of the live bits of another segment
pub other_live : (names : List FileName) (segment generation id n : ℕ) → (id ≡ segment → ⊥)
    → is_named (names ++ Live segment generation ∷ []) (Live id n) ≡ is_named names (Live id n)
other_live names segment generation id n other = others_stay names (Live segment generation) (Live id n) (λ e. other (live_id id n segment generation e))
  where
    live_id : (a m b k : ℕ) → Live a m ≡ Live b k → a ≡ b
    live_id a m b k e = cc

-- the next segment's id is none of those before
pub later_id : (parts : List LiveSegment) (i : ℕ) (p : LiveSegment) → IsStrictlyIncreasing (ids_of parts) → slice_get parts i ≡ Some p
    → is_among (ids_of (take i parts)) p.head.id ≡ false
later_id parts i p up at = false_from_ne_true (is_among (ids_of (take i parts)) p.head.id) (λ among.
    let found = of_map (λ (q : LiveSegment). q.head.id) (take i parts) p.head.id (among_to (ids_of (take i parts)) p.head.id among) in
    omega (arith, found.2, All-contains (λ (q : LiveSegment). q.head.id < p.head.id) (take i parts) found.0 less found.1))
  where
    less : All (λ (q : LiveSegment). q.head.id < p.head.id) (take i parts)
    less =
        subst (λ (r : LiveSegment). All (λ (q : LiveSegment). q.head.id < r.head.id) (take i parts)) (get_or_from_slice_get parts i p p at)
        (parts_before parts i p (AllPairs-from_increasing (ids_of parts) up) (slice_get_within parts i p at))
