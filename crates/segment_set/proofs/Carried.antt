-- What calls leave as it is, one call after another.
use Rattle.std.proofs.Common.{◌≡◌, ◌≢◌, ℕ, Bool, true, false, ◌&&◌, List, [], ◌∷◌, ◌++◌, refl, sym, ap, subst, ◌∙◌, ◌⊎◌, inl, inr, ⊎_elim}
use Rattle.std.specs.List.{All, Contains, filter}
use Rattle.std.proofs.lemmas.Bool.{both_ways}
use Rattle.std.proofs.lemmas.List.Elements.{All-contains, Contains-append_cases, Contains-append_left, Contains-append_right}
use Rattle.outer_io.specs.declared.file_name.FileName.{FileName}
use Rattle.outer_io.specs.declared.file_name.FileName.TheVariants.{Commit, Segment}
use Rattle.outer_io.specs.Files.{Files, SameBut, bytes_of}
use Rattle.point_codec.specs.Points.{Item}
use Rattle.live_bits.specs.LiveSet.{LiveSet, live_set_without}
use Rattle.live_bits.proofs.LiveNumbers.{is_live-without}
use Rattle.documents.proofs.Lists.{cons_cases, of_filter, of_map}
use Rattle.segment_file.specs.Heads.{Head}
use Rattle.segment_file.specs.Segments.{IsSegment}
use Rattle.document_checks.specs.Crowded.{AreUncrowded}
use Rattle.segment_build.specs.NewSegments.{IsCanonical}
use Rattle.segment_view.specs.LiveSegments.{LiveSegment, IsPlaced, cleared_parts}
use Rattle.file_names.specs.Names.{NameList, is_named}
use Rattle.file_names.proofs.Listed.{is_named-apart, joins, others_stay, stays}
use Rattle.segment_set.specs.Given.{AreNext, IsNextName}
use Rattle.segment_set.specs.Sets.{SetData, IsNamed}
use Rattle.segment_set.specs.Kept.{KeepsNamed, StaysAlone, StaysButCache, IsSubset, Follows, HasCanonical, FindsLive, IsCanonicalPart, AreCanonical}

-- ---- names and files

-- a name that a longer list doesn't have is none of a list that it has
pub unnamed_before : (before now : List FileName) (m : FileName) → (is_named before m ≡ true → is_named now m ≡ true) → is_named now m ≡ false
    → is_named before m ≡ false
unnamed_before before now m more none = by (is_named before m) refl
  where
    by : (b : Bool) → is_named before m ≡ b → b ≡ false
    by true e = sym (more e) ∙ none
    by false e = refl

-- names that joined one after another, and others after them
pub next_then : (a b c : NameList) (ms ns : List FileName) → AreNext a ms b → AreNext b ns c → AreNext a (ms ++ ns) c
next_then a b c [] ns first second = subst (λ (n : NameList). AreNext n ns c) first second
next_then a b c (m ∷ ms) ns first second = (first.0, first.1, next_then first.0 b c ms ns first.2 second)

pub keeps_none : (told : Type 0) (names : NameList) (files : Files) → KeepsNamed told names names files files
keeps_none told names files = record { given = ([], refl); more = λ m h. h; files = λ t m h. refl; others = λ t m h. refl; own = refl; commit = λ t. refl }

pub keeps_then : (told : Type 0) (a b c : NameList) (f g h : Files) → KeepsNamed told a b f g → KeepsNamed told b c g h → KeepsNamed told a c f h
keeps_then told a b c f g h first second = record {
  given = (first.given.0 ++ second.given.0, next_then a b c first.given.0 second.given.0 first.given.1 second.given.1);
  more = λ m named. second.more m (first.more m named);
  files = λ t m named. second.files t m (first.more m named) ∙ first.files t m named;
  others = λ t m none. second.others t m none ∙ first.others t m (unnamed_before b.names c.names m (second.more m) none);
  own = second.own ∙ first.own;
  commit = λ t. second.commit t ∙ first.commit t;
}

-- a call that only reads
pub keeps_calm : (told : Type 0) (old new : NameList) (before after : Files) → new ≡ old → (told → after ≡ before) → KeepsNamed told old new before after
keeps_calm told old new before after names files = record {
  given = ([], names);
  more = λ m named. ap (λ (n : NameList). is_named n.names m) names ∙ named;
  files = λ t m named. ap (λ (f : Files). f m) (files t);
  others = λ t m none. ap (λ (f : Files). f m) (files t);
  own = ap (λ (n : NameList). is_named n.names Commit) names;
  commit = λ t. ap (λ (f : Files). f Commit) (files t);
}

-- a file that was written under a name that joined the list for it
pub keeps_written : (told : Type 0) (old new : NameList) (before after : Files) (name : FileName) → IsNextName old name new → new.names ≡ old.names ++ name ∷ []
    → is_named old.names name ≡ false → name ≢ Commit
    → (told → SameBut name before after) → KeepsNamed told old new before after
keeps_written told old new before after name next joined fresh other same = record {
  given = (name ∷ [], (new, next, refl));
  more = λ m named. ap (λ (ns : List FileName). is_named ns m) joined ∙ stays old.names name m named;
  files = λ t m named. same t m (is_named-apart old.names m name named fresh);
  others = λ t m none. same t m
      (λ e. both_ways (is_named new.names m) none (ap (is_named new.names) e ∙ ap (λ (ns : List FileName). is_named ns name) joined ∙ joins old.names name));
  own = ap (λ (ns : List FileName). is_named ns Commit) joined ∙ others_stay old.names name Commit (λ e. other (sym e));
  commit = λ t. same t Commit (λ e. other (sym e));
}

-- ---- the set alone

pub stays_none : (s : SetData) → StaysAlone s s
stays_none s = record { leaf_size = refl; next = refl; points_given = refl; snapshots = refl; begun = refl; live = λ n h. h }

pub stays_then : (a b c : SetData) → StaysAlone a b → StaysAlone b c → StaysAlone a c
stays_then a b c first second = record {
  leaf_size = second.leaf_size ∙ first.leaf_size;
  next = second.next ∙ first.next;
  points_given = second.points_given ∙ first.points_given;
  snapshots = second.snapshots ∙ first.snapshots;
  begun = second.begun ∙ first.begun;
  live = λ n h. first.live n (second.live n h);
}

-- of a call that changes the cache alone
pub stays_cached : (s t : SetData) → StaysButCache s t → StaysAlone s t
stays_cached s t rest =
    subst (StaysAlone s) (sym rest.is) (record { leaf_size = refl; next = refl; points_given = refl; snapshots = refl; begun = refl; live = λ n h. h })

-- ---- the segments

pub within_itself : (s : LiveSet) → IsSubset s s
within_itself s = record { base = refl; span = refl; live = λ n h. h }

pub within_then : (a b c : LiveSet) → IsSubset a b → IsSubset b c → IsSubset a c
within_then a b c first second = record { base = first.base ∙ second.base; span = first.span ∙ second.span; live = λ n h. second.live n (first.live n h) }

left_true : (a b : Bool) → (a && b) ≡ true → a ≡ true
left_true true b e = refl
left_true false b e = e

pub within_cleared : (number : ℕ) (s : LiveSet) → IsSubset (live_set_without number s) s
within_cleared number s = record { base = refl; span = refl; live = λ n h. left_true _ _ (sym (is_live-without s number n) ∙ h) }

pub follows_none : (names : NameList) (parts : List LiveSegment) → Follows names parts parts
follows_none names parts = record { each = λ p there. inr (p, there, refl, within_itself p.live) }

pub follows_same : (names : NameList) (old new : List LiveSegment) → new ≡ old → Follows names old new
follows_same names old new same = subst (Follows names old) (sym same) (follows_none names old)

pub follows_cached : (s t : SetData) → StaysButCache s t → Follows s.names s.parts t.parts
follows_cached s t rest = follows_same s.names s.parts t.parts (ap (λ (u : SetData). u.parts) rest.is)

pub follows_then : (m n : NameList) (a b c : List LiveSegment) → ((name : FileName) → is_named m.names name ≡ true → is_named n.names name ≡ true)
    → Follows m a b
    → Follows n b c → Follows m a c
follows_then m n a b c more first second =
    record {
      each = λ p there.
          ⊎_elim (λ fresh. inl (unnamed_before m.names n.names (Segment p.head.id) (more (Segment p.head.id)) fresh)) (λ r. through p r) (second.each p there);
    }
  where
    through : (p : LiveSegment) → (q : LiveSegment) × Contains b q × (p.head ≡ q.head) × IsSubset p.live q.live
        → (is_named m.names (Segment p.head.id) ≡ false) ⊎ ((q : LiveSegment) × Contains a q × (p.head ≡ q.head) × IsSubset p.live q.live)
    through p (q, there, head, within) = ⊎_elim
        (λ fresh. inl (ap (λ (h : Head). is_named m.names (Segment h.id)) head ∙ fresh))
        (λ (o, here, same, inside). inr (o, here, head ∙ same, within_then p.live q.live o.live within inside))
        (first.each q there)

pub follows_filter : (names : NameList) (keep : LiveSegment → Bool) (parts : List LiveSegment) → Follows names parts (filter keep parts)
follows_filter names keep parts = record { each = λ p there. inr (p, (of_filter keep parts p there).0, refl, within_itself p.live) }

pub follows_cleared : (names : NameList) (number : ℕ) (parts : List LiveSegment) → Follows names parts (cleared_parts number parts)
follows_cleared names number parts = record {
  each = λ p there. let r = of_map (λ (q : LiveSegment). record q { live = live_set_without number q.live }) parts p there in
      inr (
        r.0,
        r.1,
        sym (ap (λ (q : LiveSegment). q.head) r.2),
        subst (λ (s : LiveSet). IsSubset s r.0.live) (ap (λ (q : LiveSegment). q.live) r.2) (within_cleared number r.0.live),
      );
}

-- which segments are there after one came: that one, or one of those before
pub placed_cases : {P : Type 0} (p : LiveSegment) (old new : List LiveSegment) → IsPlaced p old new → (q : LiveSegment) → Contains new q → (p ≡ q → P)
    → (Contains old q → P) → P
placed_cases p old new put q there itself other =
    ⊎_elim (λ h. other (subst (λ (ps : List LiveSegment). Contains ps q) (sym put.before) (Contains-append_left put.front put.back q h)))
    (λ h. ⊎_elim itself (λ r. other (subst (λ (ps : List LiveSegment). Contains ps q) (sym put.before) (Contains-append_right put.front put.back q r)))
    (cons_cases p put.back q h))
    (Contains-append_cases put.front (p ∷ put.back) q (subst (λ (ps : List LiveSegment). Contains ps q) put.after there))

pub follows_placed : (names : NameList) (p : LiveSegment) (before old new : List LiveSegment) → IsPlaced p old new
    → is_named names.names (Segment p.head.id) ≡ false
    → Follows names before old → Follows names before new
follows_placed names p before old new put fresh others = record {
  each = λ q there.
      placed_cases p old new put q there (λ e. inl (ap (λ (r : LiveSegment). is_named names.names (Segment r.head.id)) (sym e) ∙ fresh)) (λ h. others.each q h);
}

-- ---- canonical segments

pub canon_named : (D : ℕ) (files : Files) (names : NameList) (parts : List LiveSegment) → All (IsNamed names) parts → AreCanonical D files names parts
canon_named D files names parts all p there fresh =
    absurd (both_ways (is_named names.names (Segment p.head.id)) fresh (All-contains (IsNamed names) parts p all there))

pub canon_file : (D : ℕ) (before after : Files) (g h : Head) → h ≡ g → after (Segment g.id) ≡ before (Segment g.id) → HasCanonical D before g
    → HasCanonical D after h
canon_file D before after g h same file has =
    subst (HasCanonical D after) (sym same)
    (subst (λ b. ∥ ((items : List Item) × IsSegment D (bytes_of b) g items × IsCanonical D g items × AreUncrowded items) ∥₁) (sym file) has)

pub finds_file : (D : ℕ) (before after : Files) (p q : LiveSegment) → p.head ≡ q.head → IsSubset p.live q.live
    → after (Segment q.head.id) ≡ before (Segment q.head.id) → FindsLive D before q → FindsLive D after p
finds_file D before after p q same within file finds number live items held =
    finds number (within.live number live) items
    (subst (λ b. IsSegment D (bytes_of b) q.head items) file
    (subst (λ (h : Head). IsSegment D (bytes_of (after (Segment h.id))) h items) same held))

pub part_file : (D : ℕ) (before after : Files) (p q : LiveSegment) → p.head ≡ q.head → IsSubset p.live q.live
    → after (Segment q.head.id) ≡ before (Segment q.head.id) → IsCanonicalPart D before q → IsCanonicalPart D after p
part_file D before after p q same within file is =
    record { canon = canon_file D before after q.head p.head same file is.canon; found = finds_file D before after p q same within file is.found }

-- segments that were canonical, and another call
pub canon_then : (D : ℕ) (told : Type 0) (m n k : NameList) (f g : Files) (b c : List LiveSegment) → told → KeepsNamed told n k f g
    → ((name : FileName) → is_named m.names name ≡ true → is_named n.names name ≡ true)
    → All (IsNamed n) b → AreCanonical D f m b → Follows n b c → AreCanonical D g n c → AreCanonical D g m c
canon_then D told m n k f g b c t keeps more named first follows second p there fresh = ⊎_elim (second p there) (λ r. through r) (follows.each p there)
  where
    through : (q : LiveSegment) × Contains b q × (p.head ≡ q.head) × IsSubset p.live q.live → IsCanonicalPart D g p
    through (q, here, head, within) =
        part_file D f g p q head within (keeps.files t (Segment q.head.id) (All-contains (IsNamed n) b q named here))
        (first q here (ap (λ (h : Head). is_named m.names (Segment h.id)) (sym head) ∙ fresh))

pub canon_placed : (D : ℕ) (files : Files) (names : NameList) (p : LiveSegment) (old new : List LiveSegment) → IsPlaced p old new → IsCanonicalPart D files p
    → AreCanonical D files names old → AreCanonical D files names new
canon_placed D files names p old new put has others q there fresh =
    placed_cases p old new put q there (λ e. subst (IsCanonicalPart D files) e has) (λ h. others q h fresh)

pub canon_filter : (D : ℕ) (files : Files) (names : NameList) (keep : LiveSegment → Bool) (parts : List LiveSegment) → AreCanonical D files names parts
    → AreCanonical D files names (filter keep parts)
canon_filter D files names keep parts all p there fresh = all p (of_filter keep parts p there).0 fresh
