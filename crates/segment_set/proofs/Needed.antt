-- Which files views and commits need.
use Rattle.std.proofs.Common.{◌≡◌, ℕ, ◌↔◌, inl, inr, ⊎_elim, Bool, true, false, ◌||◌, List, [], ◌∷◌, refl, sym, ap, subst, ◌∙◌}
use Rattle.std.specs.List.{Contains, list_any}
use Rattle.std.proofs.lemmas.Bool.{both_ways}
use Rattle.outer_io.specs.declared.file_name.FileName.{FileName}
use Rattle.outer_io.specs.declared.file_name.FileName.TheVariants.{Commit, CommitNew, Live, Segment}
use Rattle.documents.specs.Entries.{is_among}
use Rattle.documents.proofs.Kept.{among_from, among_to}
use Rattle.documents.proofs.Lists.{cons_cases, cons_head, cons_tail, in_map, nil_none, of_map}
use Rattle.commit_list.specs.Commits.{CommitData}
use Rattle.stored_index.specs.Kept.{ListsFile}
use Rattle.segment_view.specs.LiveSegments.{LiveSegment, ids_of}
use Rattle.segment_set.specs.Sets.{NamedView, SetData}
use Rattle.segment_set.specs.Kept.{IsNeeded, StaysButFiles, ViewNeeds}
use Rattle.segment_set.specs.Swept.{IsInView, IsUnneeded, shows_file}

-- ---- which files a view needs

pub any_found : {X : Type 0} (p : X → Bool) (xs : List X) → list_any p xs ≡ true → (x : X) × Contains xs x × (p x ≡ true)
any_found p [] e = absurd (both_ways false refl e)
any_found {X} p (x ∷ xs) e = by (p x) refl (any_found p xs)
  where
    right_of : (a b : Bool) → (a || b) ≡ true → a ≡ false → b ≡ true
    right_of true b h none = absurd (both_ways true none refl)
    right_of false b h none = h

    by : (b : Bool) → p x ≡ b → (list_any p xs ≡ true → (y : X) × Contains xs y × (p y ≡ true)) → (y : X) × Contains (x ∷ xs) y × (p y ≡ true)
    by true is rest = (x, cons_head x xs, is)
    by false is rest = let found = rest (right_of (p x) (list_any p xs) e is) in (found.0, cons_tail x xs found.0 found.1, found.2)

or_left : (a b : Bool) → a ≡ true → (a || b) ≡ true
or_left true b e = refl
or_left false b e = absurd (both_ways false refl e)

or_right : (a b : Bool) → b ≡ true → (a || b) ≡ true
or_right true b e = refl
or_right false b e = e

or_cases : {P : Type 0} (a b : Bool) → (a || b) ≡ true → (a ≡ true → P) → (b ≡ true → P) → P
or_cases true b e left right = left refl
or_cases false b e left right = right e

pub found_any : {X : Type 0} (p : X → Bool) (xs : List X) (x : X) → Contains xs x → p x ≡ true → list_any p xs ≡ true
found_any p [] x there is = nil_none x _ there
found_any p (y ∷ ys) x there is =
    ⊎_elim (λ e. or_left (p y) (list_any p ys) (ap p e ∙ is)) (λ later. or_right (p y) (list_any p ys) (found_any p ys x later is)) (cons_cases y ys x there)

among_needs : (parts : List LiveSegment) (id : ℕ) → is_among (ids_of parts) id ≡ true → ViewNeeds parts (Segment id)
among_needs parts id among = let r = of_map (λ (p : LiveSegment). p.head.id) parts id (among_to (ids_of parts) id among) in (r.0, r.1, ap Segment (sym r.2))

needs_among : (parts : List LiveSegment) (id : ℕ) → ViewNeeds parts (Segment id) → is_among (ids_of parts) id ≡ true
needs_among parts id (p, there, is) =
    among_from (ids_of parts) id (subst (Contains (ids_of parts)) (same p is) (in_map (λ (q : LiveSegment). q.head.id) parts p there))
  where
    same : (q : LiveSegment) → Segment id ≡ Segment q.head.id → q.head.id ≡ id
    same q e = cc

shown_by : (s : SetData) (id : ℕ) → shows_file s (Segment id) ≡ true → IsInView s (Segment id)
shown_by s id e = or_cases (is_among (ids_of s.parts) id) (list_any (λ (v : NamedView). is_among (ids_of v.parts) id) s.snapshots) e
    (λ now. inl (among_needs s.parts id now))
    (λ kept.
    let found = any_found (λ (v : NamedView). is_among (ids_of v.parts) id) s.snapshots kept in
    inr (found.0, found.1, among_needs found.0.parts id found.2))

shown_has : (s : SetData) (id : ℕ) → IsInView s (Segment id) → shows_file s (Segment id) ≡ true
shown_has s id shown = ⊎_elim
    (λ now. or_left (is_among (ids_of s.parts) id) (list_any (λ (v : NamedView). is_among (ids_of v.parts) id) s.snapshots) (needs_among s.parts id now))
    (λ (v, there, need). or_right (is_among (ids_of s.parts) id) (list_any (λ (w : NamedView). is_among (ids_of w.parts) id) s.snapshots)
    (found_any (λ (w : NamedView). is_among (ids_of w.parts) id) s.snapshots v there (needs_among v.parts id need)))
    shown

-- only files of segments are needed by views
pub shown_segment : {P : Type 0} (s : SetData) (name : FileName) → IsInView s name → ((id : ℕ) → name ≡ Segment id → P) → P
shown_segment s name shown here = ⊎_elim (λ (p, there, is). here p.head.id is) (λ (v, kept, need). here need.0.head.id need.2) shown

pub file_shown : (s : SetData) (name : FileName) → shows_file s name ≡ true → IsInView s name
file_shown s (Segment id) e = shown_by s id e
file_shown s (Live segment generation) e = absurd cc
file_shown s Commit e = absurd cc
file_shown s CommitNew e = absurd cc

file_not_shown : (s : SetData) (name : FileName) → shows_file s name ≡ false → IsInView s name → ⊥
file_not_shown s (Segment id) e shown = both_ways (shows_file s (Segment id)) e (shown_has s id shown)
file_not_shown s (Live segment generation) e shown = shown_segment s (Live segment generation) shown (λ id is. cc)
file_not_shown s Commit e shown = shown_segment s Commit shown (λ id is. cc)
file_not_shown s CommitNew e shown = shown_segment s CommitNew shown (λ id is. cc)

-- the commit lists the file, or doesn't
pub unneeded_unlisted : (s : SetData) (c : CommitData) (name : FileName) (r : Bool) → (r ≡ true) ↔ ListsFile c name → shows_file s name ≡ false
    → r ≡ false → IsUnneeded s c name
unneeded_unlisted s c name r lists hidden e = record {
  shown = file_not_shown s name hidden;
  listed = λ listed. both_ways r e (lists.1 listed);
}

pub not_needed : (s : SetData) (c : CommitData) (name : FileName) → IsUnneeded s c name → IsNeeded s c name → ⊥
not_needed s c name un need = ⊎_elim (λ listed. un.listed listed) (λ shown. un.shown shown) need

-- ---- sets that differ in names and cache alone need the same

pub needed_still : (s t : SetData) (c : CommitData) (m : FileName) → StaysButFiles s t → IsNeeded s c m → IsNeeded t c m
needed_still s t c m rest need = subst (λ (u : SetData). IsNeeded u c m) (sym rest.is) need

pub needed_before : (s t : SetData) (c : CommitData) (m : FileName) → StaysButFiles s t → IsNeeded t c m → IsNeeded s c m
needed_before s t c m rest need = subst (λ (u : SetData). IsNeeded u c m) rest.is need
