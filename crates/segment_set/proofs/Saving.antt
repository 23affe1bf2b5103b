-- What is saved of a set.
use Rattle.std.proofs.Common.{◌≡◌, ℕ, true, false, cond, List, Option, is_some, Result, Ok, Err, sym, ap, subst, ◌∙◌, ◌⊎◌, inl, inr}
use Rattle.std.specs.Prelude.{IfOk, OnOk}
use Rattle.std.specs.List.{All, AllZip, Contains, list_any}
use Rattle.outer_io.specs.declared.file_name.FileName.{FileName}
use Rattle.outer_io.specs.declared.file_name.FileName.TheVariants.{Commit, Live, Segment}
use Rattle.outer_io.specs.Files.{Files, bytes_of}
use Rattle.point_codec.specs.Points.{Item}
use Rattle.live_bits.specs.LiveSet.{is_live}
use Rattle.documents.specs.Entries.{has_entry}
use Rattle.page_cache.specs.declared.cache.PageCache.{PageCache}
use Rattle.page_cache.specs.Cache.{Agrees, KeepsFile}
use Rattle.page_cache.specs.declared.faults.Damage.{Damage}
use Rattle.page_cache.specs.declared.faults.PageFault.{PageFault}
use Rattle.outer_io.specs.declared.faults.WriteFault.{WriteFault}
use Rattle.outer_io.specs.declared.faults.WriteFault.TheVariants as write
use Rattle.page_cache.specs.Causes.{HasPageCause, page_fault}
pub use Rattle.page_cache.proofs.Causes.{done_cause}
use Rattle.page_cache.specs.Evidence.{FaultShows, NotDamaged, OnDamage}
use Rattle.page_cache.proofs.Damages.{on_damage_weaker}
use Rattle.commit_list.specs.declared.listed.Listed.{Listed}
use Rattle.commit_list.specs.Commits.{CommitData}
use Rattle.segment_file.specs.LiveFiles.{IsLiveFile}
use Rattle.stored_index.proofs.Pairwise.{zip_moved}
use Rattle.index_model.specs.State.{Index}
use Rattle.segment_view.specs.LiveSegments.{LiveSegment}
use Rattle.file_names.specs.Names.{NameList, is_named}
use Rattle.segment_set.specs.Sets.{IsNamed, IsWell, SetData}
use Rattle.segment_set.specs.Seen.{Sees}
use Rattle.segment_set.specs.Kept.{AreCanonical, KeepsNamed, StaysAlone}
use Rattle.segment_set.specs.Saved.{HasNoLine, IsAnew, IsLastOrFresh, IsLastOrNext, IsLineOf, IsSaved, KeepsLine, StaysButSaved}
use Rattle.segment_set.proofs.Carried.{canon_named, canon_then, follows_none, unnamed_before}
use Rattle.segment_set.proofs.Standing.{sees_alike, sees_like}
use Rattle.segment_set.proofs.Covered.{IsListedAs}
use Rattle.segment_set.proofs.SavedSegments.{zip_left}
use Rattle.segment_view.specs.Unhidden.{HidesNoneOf}

-- ---- what every set keeps to, with other names

pub well_other : (D : ℕ) (s : SetData) (names : NameList) (cache : PageCache) (saved : Option CommitData) → IsWell D s → All (IsNamed names) s.parts
    → All (λ v. All (IsNamed names) v.parts) s.snapshots
    → is_named names.names Commit ≡ false → ((id : ℕ) → KeepsFile cache id → is_named names.names (Segment id) ≡ true) → All (HidesNoneOf D cache) s.parts
    → IsWell D (record s { names = names; cache = cache; saved = saved })
well_other D s names cache saved well named kept own cached unhidden = record {
  some_dims = well.some_dims;
  few_dims = well.few_dims;
  least_leaf = well.least_leaf;
  greatest_leaf = well.greatest_leaf;
  numbered = well.numbered;
  most_given = well.most_given;
  spread = well.spread;
  room = well.room;
  ordered = well.ordered;
  once = well.once;
  sixteen = well.sixteen;
  few = well.few;
  leaf_size = well.leaf_size;
  live_fits = well.live_fits;
  named = named;
  kept = kept;
  own = own;
  few_snapshots = well.few_snapshots;
  rooms = well.rooms;
  inputs = well.inputs;
  few_inputs = well.few_inputs;
  built = well.built;
  cached = cached;
  unhidden = unhidden;
}

-- a set stays well formed where its list has more names
pub well_names : (D : ℕ) (told : Type 0) (before after : Files) (s : SetData) (names : NameList) (saved : Option CommitData) → IsWell D s
    → KeepsNamed told s.names names before after
    → IsWell D (record s { names = names; saved = saved })
well_names D told before after s names saved well keeps =
    well_other D s names s.cache saved well
    (λ k p lt. keeps.more _ (well.named k p lt))
    (λ k v lt j p jt. keeps.more _ (well.kept k v lt j p jt))
    (keeps.own ∙ well.own)
    (λ id kept. keeps.more (Segment id) (well.cached id kept)) well.unhidden

-- ---- answers

pub ok_always : {T E : Type 0} (r : Result T E) (P : Type 0) → P → OnOk r P
ok_always (Ok x) P p = p
ok_always (Err e) P p = tt

pub if_ok_both : {T E : Type 0} (r : Result T E) (P Q R : T → Type 0) → ((x : T) → P x → Q x → R x) → IfOk r P → IfOk r Q → IfOk r R
if_ok_both (Ok x) P Q R more p q = more x p q
if_ok_both (Err e) P Q R more p q = tt

-- ---- the set alone

pub well_saved : (D : ℕ) (told : Type 0) (before after : Files) (s t : SetData) → IsWell D s → KeepsNamed told s.names t.names before after → StaysButSaved s t
    → IsWell D t
well_saved D told before after s t well keeps rest = subst (IsWell D) (sym is) (well_names D told before after s t.names t.saved well keeps)
  where
    is : t ≡ record s { names = t.names; saved = t.saved }
    is = λ i. record {
      leaf_size = rest.leaf_size i;
      next = rest.next i;
      points_given = rest.points_given i;
      names = t.names;
      parts = rest.parts i;
      buffer = rest.buffer i;
      snapshots = rest.snapshots i;
      begun = rest.begun i;
      cache = rest.cache i;
      saved = t.saved;
    }

pub but_saved : (s v : SetData) → v ≡ s → (names : NameList) (saved : Option CommitData) → StaysButSaved s (record v { names = names; saved = saved })
but_saved s v same names saved = record {
  leaf_size = ap (λ (u : SetData). u.leaf_size) same;
  next = ap (λ (u : SetData). u.next) same;
  points_given = ap (λ (u : SetData). u.points_given) same;
  parts = ap (λ (u : SetData). u.parts) same;
  buffer = ap (λ (u : SetData). u.buffer) same;
  snapshots = ap (λ (u : SetData). u.snapshots) same;
  begun = ap (λ (u : SetData). u.begun) same;
  cache = ap (λ (u : SetData). u.cache) same;
}

-- what is seen stays where only names join, files are written under them, and a commit is kept
pub sees_saved : (D : ℕ) (told : Type 0) (before after : Files) (s t : SetData) (i : Index) → told → IsWell D s → KeepsNamed told s.names t.names before after
    → StaysButSaved s t → Sees D before s i → Sees D after t i
sees_saved D told before after s t i to well keeps rest seen =
    let there = sees_alike D before after s i well told to t.names keeps seen in
    sees_like D after s t i (record { leaf_size = rest.leaf_size; next = rest.next; points_given = rest.points_given; snapshots = rest.snapshots })
    rest.parts rest.buffer
    rest.begun
    (subst (Agrees after) (sym rest.cache) there.stands.agrees) there

pub stays_saved : (s t : SetData) → StaysButSaved s t → StaysAlone s t
stays_saved s t rest = record {
  leaf_size = rest.leaf_size;
  next = rest.next;
  points_given = rest.points_given;
  snapshots = rest.snapshots;
  begun = ap is_some rest.begun;
  live = λ number live.
      subst (λ (xs : List Item). cond (list_any (λ (p : LiveSegment). is_live p.live number) s.parts) true (has_entry number xs) ≡ true) rest.buffer
      (subst (λ (ps : List LiveSegment). cond (list_any (λ (p : LiveSegment). is_live p.live number) ps) true (has_entry number t.buffer) ≡ true) rest.parts
      live);
}

-- the segments are the same, so those whose files weren't named before are canonical still
pub canon_saved : (D : ℕ) (told : Type 0) (first : NameList) (before after : Files) (s t : SetData) → told → IsWell D s
    → KeepsNamed told s.names t.names before after → ((m : FileName) → is_named first.names m ≡ true → is_named s.names.names m ≡ true)
    → StaysButSaved s t → AreCanonical D before first s.parts → AreCanonical D after first t.parts
canon_saved D told first before after s t to well keeps more rest canon =
    subst (AreCanonical D after first) (sym rest.parts)
    (canon_then D told first s.names t.names before after s.parts s.parts to keeps more well.named canon (follows_none s.names s.parts)
    (canon_named D after s.names s.parts well.named))

-- what is known of each line that is listed
module _ (told : Type 0) (last : List Listed) (before after : NameList) (files : Files) (listed : List Listed) (parts : List LiveSegment)
    (all : AllZip (IsSaved told last before after files) listed parts) where
  pub all_fresh : (first : NameList) → ((m : FileName) → is_named first.names m ≡ true → is_named before.names m ≡ true)
      → All (IsLastOrFresh first last) listed
  all_fresh first more = zip_left (IsSaved told last before after files) (IsLastOrFresh first last) listed parts (λ l p saved. by l p saved.how) all
    where
      by : (l : Listed) (p : LiveSegment) → (Contains last l × IsLineOf before l p) ⊎ (HasNoLine before last p × IsAnew told before files l p.live)
          → IsLastOrFresh first last l
      by l p (inl h) = inl h.0
      by l p (inr h) = inr (unnamed_before first.names before.names (Live l.segment l.generation) (more (Live l.segment l.generation)) h.1.fresh)

  pub all_kept : (first : NameList) → ((m : FileName) → is_named first.names m ≡ true → is_named before.names m ≡ true)
      → All (KeepsLine first last) listed
  all_kept first more =
      zip_left (IsSaved told last before after files) (KeepsLine first last) listed parts (λ l p saved. by l p saved.line saved.how) all
    where
      by : (l : Listed) (p : LiveSegment) → IsLineOf after l p
          → (Contains last l × IsLineOf before l p) ⊎ (HasNoLine before last p × IsAnew told before files l p.live)
          → KeepsLine first last l
      by l p line (inl h) = λ m there same named. h.0
      by l p line (inr h) = λ m there same named. absurd (h.0 m there (record {
        segment = same.0 ∙ line.segment;
        entries = same.1 ∙ line.entries;
        live = same.2 ∙ line.live;
        named = more (Live m.segment m.generation) named;
      }))

  pub all_next : All (IsLastOrNext before last) listed
  all_next = zip_left (IsSaved told last before after files) (IsLastOrNext before last) listed parts (λ l p saved. by l p saved.how) all
    where
      by : (l : Listed) (p : LiveSegment) → (Contains last l × IsLineOf before l p) ⊎ (HasNoLine before last p × IsAnew told before files l p.live)
          → IsLastOrNext before last l
      by l p (inl h) = inl h.0
      by l p (inr h) = inr h.1.rule

-- the files of live bits hold what is live
pub all_written : (files : Files) (listed : List Listed) (parts others : List LiveSegment) → others ≡ parts
    → AllZip (IsListedAs files) listed parts
    → AllZip (λ (l : Listed) (p : LiveSegment). IsLiveFile l.segment l.generation (bytes_of (files (Live l.segment l.generation))) p.live) listed others
all_written files listed parts others same all =
    subst (AllZip (λ (l : Listed) (p : LiveSegment). IsLiveFile l.segment l.generation (bytes_of (files (Live l.segment l.generation))) p.live) listed)
    (sym same)
    (zip_moved (IsListedAs files)
    (λ (l : Listed) (p : LiveSegment). IsLiveFile l.segment l.generation (bytes_of (files (Live l.segment l.generation))) p.live) listed parts
    (λ l p there is. is.file) all)

-- ---- what an error says

pub seg_whole : (f : WriteFault) → FaultShows (λ _. ⊥) (page_fault f)
seg_whole write.Failed = tt
seg_whole write.Memory = tt

-- a call after one that is done
pub cause_after : {T : Type 0} (before mid now : ℕ) (r : Result T PageFault) → mid ≡ before → HasPageCause mid now r → HasPageCause before now r
cause_after before mid now r same cause = subst (λ n. HasPageCause n now r) same cause

-- a call that answers no damage may say of it what it likes
pub no_damage : {T : Type 0} (r : Result T PageFault) (P : Damage → Type 0) → NotDamaged r → OnDamage r P
no_damage r P none = on_damage_weaker r (λ _. ⊥) P (λ d h. absurd h) none
