-- What a query looks at, and what it finds.
use Rattle.std.proofs.Common.{◌≡◌, ℕ, ℤ, Bool, true, false, cond, ◌||◌, List, [], ◌∷◌, Option, Some}
use Rattle.std.proofs.Common.{None, Result, Ok, Err, IfOk, IsTrue, ⊎_elim, refl, sym, ap, subst, ◌∙◌}
use Rattle.std.specs.List.{All, AllZip, Contains}
use Rattle.std.specs.Option.{option_map}
use Rattle.std.specs.Str.{bytes_eq}
use Rattle.std.proofs.lemmas.List.Elements.{All-head, All-nil, All-tail}
use Rattle.outer_io.specs.Files.{Files}
use Rattle.point_codec.specs.Points.{Item}
use Rattle.point_codec.specs.declared.entries.Near.{Near}
use Rattle.documents.specs.Documents.{Document, hits}
use Rattle.documents.specs.Entries.{AreDocs}
use Rattle.documents.specs.Nearest.{found_of, nearest}
use Rattle.documents.specs.NearestEntries.{IsNearest, nears_of}
use Rattle.documents.proofs.HitNumbers.{hits_are}
use Rattle.documents.proofs.NearestDocs.{nearest_are}
use Rattle.page_cache.specs.declared.cache.PageCache.{PageCache}
use Rattle.page_cache.specs.Cache.{Agrees}
use Rattle.index_model.specs.State.{Index, Snapshot, snapshot_of, viewed_docs}
use Rattle.segment_view.specs.Calm.{IsCalm}
use Rattle.segment_view.specs.LiveSegments.{AreRead, Contents, LiveSegment, ids_of}
use Rattle.segment_view.specs.Found.{AreFound}
use Rattle.segment_set.specs.Sets.{IsNamed, IsWell, NamedView, SetData, buffer_in, has_name, parts_at, parts_in, view_of, viewed_buffer, viewed_parts}
use Rattle.segment_set.specs.Seen.{Sees, ShowsSnapshot, StandsOver, entries_seen}
use Rattle.segment_set.proofs.Standing.{ids_named, sees_like}
use Rattle.segment_set.proofs.Well.{well_cache}
use Rattle.page_cache.specs.Cache.{MarksGo}
use Rattle.segment_view.specs.Unhidden.{HidesNoneOf}
use Rattle.segment_set.proofs.Unhidden.{unhidden_still}

-- ---- the segments of a view

-- what holds of the segments of each snapshot holds of those of one
find_kept : (P : List LiveSegment → Type 0) → P [] → (name : List ℕ) (views : List NamedView) → All (λ v. P v.parts) views → P (parts_in (view_of name views))
find_kept P none name [] all = none
find_kept P none name (v ∷ vs) all = by (bytes_eq v.name name) (find_kept P none name vs (All-tail (λ w. P w.parts) v vs all))
  where
    by : (b : Bool) → P (parts_in (view_of name vs)) → P (parts_in (cond b (Some v) (view_of name vs)))
    by true rest = All-head (λ w. P w.parts) v vs all
    by false rest = rest

pub viewed_all : (P : List LiveSegment → Type 0) → P [] → (view : Option (List ℕ)) (s : SetData) → P s.parts → All (λ v. P v.parts) s.snapshots
    → P (viewed_parts view s)
viewed_all P none None s now kept = now
viewed_all P none (Some name) s now kept = find_kept P none name s.snapshots kept

pub viewed_named : (D : ℕ) (view : Option (List ℕ)) (s : SetData) → IsWell D s → All (IsNamed s.names) (viewed_parts view s)
viewed_named D view s well = viewed_all (All (IsNamed s.names)) (All-nil (IsNamed s.names)) view s well.named well.kept

pub viewed_read : (D : ℕ) (files : Files) (c : Contents) (view : Option (List ℕ)) (s : SetData) → StandsOver D files c s
    → AreRead D files c (viewed_parts view s)
viewed_read D files c view s stands = viewed_all (AreRead D files c) (All-nil _) view s stands.now stands.kept

-- ---- the documents of a view

some_is : {X : Type 0} (x y : X) → Some x ≡ Some y → x ≡ y
some_is x y e = cc

find_docs : (c : Contents) (next : ℕ) (name : List ℕ) (views : List NamedView) (ts : List Snapshot) (docs : List Document)
    → AllZip (ShowsSnapshot c next) views ts
    → option_map (λ (t : Snapshot). t.docs) (snapshot_of name ts) ≡ Some docs
    → AreDocs next (entries_seen c (parts_in (view_of name views)) (buffer_in (view_of name views))) docs
find_docs c next name [] [] docs shown is = absurd (none is)
  where
    none : None ≡ Some docs → ⊥
    none e = cc
find_docs c next name [] (t ∷ ts) docs shown is = absurd shown
find_docs c next name (v ∷ vs) [] docs shown is = absurd shown
find_docs c next name (v ∷ vs) (t ∷ ts) docs shown is =
    by (bytes_eq v.name name) (bytes_eq t.name name) (ap (λ n. bytes_eq n name) shown.0.name) is (find_docs c next name vs ts docs shown.1)
  where
    by : (a b : Bool) → a ≡ b → option_map (λ (u : Snapshot). u.docs) (cond b (Some t) (snapshot_of name ts)) ≡ Some docs
        → (option_map (λ (u : Snapshot). u.docs) (snapshot_of name ts) ≡ Some docs
        → AreDocs next (entries_seen c (parts_in (view_of name vs)) (buffer_in (view_of name vs))) docs)
        → AreDocs next (entries_seen c (parts_in (cond a (Some v) (view_of name vs))) (buffer_in (cond a (Some v) (view_of name vs)))) docs
    by true true e here rest = subst (AreDocs next (entries_seen c v.parts v.buffer)) (some_is t.docs docs here) shown.0.docs
    by true false e here rest = absurd cc
    by false true e here rest = absurd cc
    by false false e here rest = rest here

-- the entries that a view shows are those of its documents
pub viewed_are_docs : (D : ℕ) (files : Files) (s : SetData) (i : Index) (view : Option (List ℕ)) (docs : List Document) → (seen : Sees D files s i)
    → viewed_docs view i ≡ Some docs
    → AreDocs s.next (entries_seen seen.contents (viewed_parts view s) (viewed_buffer view s)) docs
viewed_are_docs D files s i None docs seen is = subst (AreDocs s.next (entries_seen seen.contents s.parts s.buffer)) (some_is i.docs docs is) seen.docs
viewed_are_docs D files s i (Some name) docs seen is = find_docs seen.contents s.next name s.snapshots i.snapshots docs seen.snapshots is

-- ---- answers

pub on_ok : {T E : Type 0} (P Q : T → Type 0) → ((v : T) → P v → Q v) → (r : Result T E) → IfOk r P → IfOk r Q
on_ok P Q h (Ok v) p = h v p
on_ok P Q h (Err e) p = tt

pub found_hits : (D : ℕ) (files : Files) (s : SetData) (i : Index) (view : Option (List ℕ)) (test : List ℤ → Bool) (docs : List Document) (found : List ℕ)
    → (seen : Sees D files s i)
    → viewed_docs view i ≡ Some docs → AreFound test (entries_seen seen.contents (viewed_parts view s) (viewed_buffer view s)) found → found ≡ hits test docs
found_hits D files s i view test docs found seen is are =
    hits_are s.next (entries_seen seen.contents (viewed_parts view s) (viewed_buffer view s)) docs test found (viewed_are_docs D files s i view docs seen is)
    are.rises are.each

pub found_nearest : (D : ℕ) (files : Files) (s : SetData) (i : Index) (view : Option (List ℕ)) (k : ℕ) (at : List ℤ) (docs : List Document) (found : List Near)
    → (seen : Sees D files s i)
    → viewed_docs view i ≡ Some docs → IsNearest k (nears_of at (entries_seen seen.contents (viewed_parts view s) (viewed_buffer view s))) found
    → found_of found ≡ nearest k at docs
found_nearest D files s i view k at docs found seen is are =
    nearest_are s.next k (entries_seen seen.contents (viewed_parts view s) (viewed_buffer view s)) docs at found (viewed_are_docs D files s i view docs seen is)
    are

-- the set with another cache that agrees is seen as before
pub sees_cache : (D : ℕ) (files : Files) (s : SetData) (i : Index) (cache : PageCache) → Agrees files cache → Sees D files s i
    → Sees D files (record s { cache = cache }) i
sees_cache D files s i cache agrees seen =
    sees_like D files s (record s { cache = cache }) i (record { leaf_size = refl; next = refl; points_given = refl; snapshots = refl }) refl refl refl agrees
    seen

-- no snapshot has the name where none is found
pub none_named : (name : List ℕ) (views : List NamedView) → view_of name views ≡ None → has_name name views ≡ false
none_named name [] none = refl
none_named name (v ∷ vs) none = by (bytes_eq v.name name) none (none_named name vs)
  where
    by : (b : Bool) → cond b (Some v) (view_of name vs) ≡ None → (view_of name vs ≡ None → has_name name vs ≡ false) → (b || has_name name vs) ≡ false
    by true e rest = absurd cc
    by false e rest = rest e

-- ---- a call that looks at a view and keeps pages of its segments alone. `s` is the set as its fields have it, `t` as the caller sees it

pub looked_well : (D : ℕ) (told : Bool) (f g : Files) (s : SetData) (view : Option (List ℕ)) (segments : List LiveSegment) (cache : PageCache) → IsWell D s
    → segments ≡ viewed_parts view s
    → IsCalm told f g s.cache cache (ids_of segments) → All (HidesNoneOf D cache) s.parts → IsWell D (record s { cache = cache })
looked_well D told f g s view segments cache well is calm unhidden = well_cache D s cache well (λ id kept.
    ⊎_elim (well.cached id)
    (λ h. ids_named s.names (viewed_parts view s) (viewed_named D view s well) id (subst (λ (ps : List LiveSegment). Contains (ids_of ps) id) is h))
    (calm.others id kept)) unhidden

-- what the cache knows to be dead after a call that watches over the segments of now, and over those of no snapshot
pub looked_unhidden : (D : ℕ) (watched : Bool) (s : SetData) (view : Option (List ℕ)) (segments : List LiveSegment) (cache : PageCache)
    → segments ≡ viewed_parts view s → (IsTrue watched → view ≡ None) → (IsTrue watched → All (HidesNoneOf D cache) segments)
    → (watched ≡ false → MarksGo s.cache cache) → All (HidesNoneOf D s.cache) s.parts → All (HidesNoneOf D cache) s.parts
looked_unhidden D true s view segments cache is now hides go before =
    subst (All (HidesNoneOf D cache)) (is ∙ ap (λ (v : Option (List ℕ)). viewed_parts v s) (now refl)) (hides refl)
looked_unhidden D false s view segments cache is now hides go before = unhidden_still D s.cache cache s.parts (go refl) before

-- the segments of the view of now hide none, where those of the set do not
pub unhidden_in : (D : ℕ) (cache : PageCache) (parts : List LiveSegment) (views : List NamedView) (view : Option (List ℕ)) (segments : List LiveSegment)
    → segments ≡ parts_at view parts views → view ≡ None → All (HidesNoneOf D cache) parts → All (HidesNoneOf D cache) segments
unhidden_in D cache parts views view segments is now before =
    subst (All (HidesNoneOf D cache)) (sym (is ∙ ap (λ (v : Option (List ℕ)). parts_at v parts views) now)) before

pub looked_agrees : (D : ℕ) (told : Bool) (f g : Files) (s t : SetData) (ids : List ℕ) (cache : PageCache) (i : Index) → s ≡ t
    → IsCalm told f g s.cache cache ids → IsTrue told → Sees D f t i → Agrees f cache
looked_agrees D told f g s t ids cache i same calm told_is seen = calm.agrees told_is (subst (λ (u : SetData). Agrees f u.cache) (sym same) seen.stands.agrees)

pub looked_sees : (D : ℕ) (told : Bool) (f g : Files) (s t : SetData) (ids : List ℕ) (cache : PageCache) → s ≡ t → IsCalm told f g s.cache cache ids
    → IsTrue told → (i : Index) → Sees D f t i → Sees D g (record s { cache = cache }) i
looked_sees D told f g s t ids cache same calm told_is i seen =
    subst (λ (h : Files). Sees D h (record s { cache = cache }) i) (sym (calm.files told_is))
    (sees_cache D f s i cache (looked_agrees D told f g s t ids cache i same calm told_is seen) (subst (λ (u : SetData). Sees D f u i) (sym same) seen))

-- the view as the caller sees it
pub looked_parts : (s t : SetData) (view : Option (List ℕ)) (segments : List LiveSegment) → s ≡ t → segments ≡ viewed_parts view s
    → segments ≡ viewed_parts view t
looked_parts s t view segments same is = is ∙ ap (viewed_parts view) same

pub looked_buffer : (s t : SetData) (view : Option (List ℕ)) (buffer : List Item) → s ≡ t → buffer ≡ viewed_buffer view s → buffer ≡ viewed_buffer view t
looked_buffer s t view buffer same is = is ∙ ap (viewed_buffer view) same

pub looked_read : (D : ℕ) (files : Files) (t : SetData) (i : Index) (view : Option (List ℕ)) (segments : List LiveSegment) → segments ≡ viewed_parts view t
    → (seen : Sees D files t i) → AreRead D files seen.contents segments
looked_read D files t i view segments is seen = subst (AreRead D files seen.contents) (sym is) (viewed_read D files seen.contents view t seen.stands)

pub looked_found : {T E : Type 0} (items : T → List ℕ) (D : ℕ) (files : Files) (t : SetData) (i : Index) (view : Option (List ℕ)) (segments : List LiveSegment)
    (buffer : List Item) (test : List ℤ → Bool) (docs : List Document)
    → segments ≡ viewed_parts view t → buffer ≡ viewed_buffer view t → (seen : Sees D files t i) → viewed_docs view i ≡ Some docs
    → (r : Result T E) → IfOk r (λ v. AreFound test (entries_seen seen.contents segments buffer) (items v)) → IfOk r (λ v. items v ≡ hits test docs)
looked_found items D files t i view segments buffer test docs parts_are buffer_is seen is r found =
    on_ok (λ v. AreFound test (entries_seen seen.contents segments buffer) (items v)) (λ v. items v ≡ hits test docs)
    (λ v are. found_hits D files t i view test docs (items v) seen is
    (subst (λ (ps : List LiveSegment). AreFound test (entries_seen seen.contents ps (viewed_buffer view t)) (items v)) parts_are
    (subst (λ (xs : List Item). AreFound test (entries_seen seen.contents segments xs) (items v)) buffer_is are)))
    r found

pub looked_nearest : {T E : Type 0} (items : T → List Near) (D : ℕ) (files : Files) (t : SetData) (i : Index) (view : Option (List ℕ))
    (segments : List LiveSegment)
    (buffer : List Item) (k : ℕ) (at : List ℤ) (docs : List Document)
    → segments ≡ viewed_parts view t → buffer ≡ viewed_buffer view t → (seen : Sees D files t i) → viewed_docs view i ≡ Some docs
    → (r : Result T E) → IfOk r (λ v. IsNearest k (nears_of at (entries_seen seen.contents segments buffer)) (items v))
    → IfOk r (λ v. found_of (items v) ≡ nearest k at docs)
looked_nearest items D files t i view segments buffer k at docs parts_are buffer_is seen is r found =
    on_ok (λ v. IsNearest k (nears_of at (entries_seen seen.contents segments buffer)) (items v)) (λ v. found_of (items v) ≡ nearest k at docs)
    (λ v are. found_nearest D files t i view k at docs (items v) seen is
    (subst (λ (ps : List LiveSegment). IsNearest k (nears_of at (entries_seen seen.contents ps (viewed_buffer view t))) (items v)) parts_are
    (subst (λ (xs : List Item). IsNearest k (nears_of at (entries_seen seen.contents segments xs)) (items v)) buffer_is are)))
    r found
