-- What is left in the folder by a commit, by a sweep, and by a session that is closed.
use Rattle.std.proofs.Common.{◌≡◌, ℕ, Bool, true, false, List, map, length, Option, None, Some}
use Rattle.std.proofs.Common.{Result, Ok, Err, refl, sym, ap, subst, ◌∙◌, ◌⊎◌, inl, inr, ⊎_elim}
use Rattle.std.specs.List.{All, Contains}
use Rattle.std.proofs.lemmas.Bool.{both_ways}
use Rattle.outer_io.specs.declared.file_name.FileName.{FileName}
use Rattle.outer_io.specs.declared.file_name.FileName.TheVariants.{Commit, CommitNew, Live, Segment}
use Rattle.outer_io.specs.Files.{Files, SameButTwo}
use Rattle.documents.proofs.Lists.{in_map, nil_none, of_map}
use Rattle.page_cache.specs.declared.faults.PageFault.{PageFault}
use Rattle.commit_list.specs.declared.listed.Listed.{Listed}
use Rattle.commit_list.specs.Commits.{CommitData}
use Rattle.stored_index.specs.Kept.{ListsFile, SameKept}
use Rattle.stored_index.proofs.KeptFiles.{kept_after}
use Rattle.segment_view.specs.LiveSegments.{LiveSegment, ids_of}
use Rattle.file_names.specs.Names.{NameList, is_named}
use Rattle.segment_set.specs.Sets.{IsNamed, NamedView, SetData}
use Rattle.segment_set.specs.Kept.{IsAsCommitted, IsNeeded, KeepsNamed, StaysButFiles, ViewNeeds}
use Rattle.segment_set.proofs.Carried.{follows_same, keeps_calm}
use Rattle.segment_set.proofs.Standing.{ids_named}
use Rattle.index_core.specs.Sessions.{Guards, IsLast, IsStill, IsUnchanged, ListsOnlyNamed, SessionData}
use Rattle.index_core.specs.Closed.{IsInCommit, IsTracked, NamesOnlyListed}
use Rattle.index_core.specs.Light.{KeepsLevels}
use Rattle.index_core.specs.Steps.{KeepsOver, SaysCommit}
use Rattle.index_core.proofs.Guarding.{grows_like, guards_after, moved_says, names_listed}
use Rattle.index_core.proofs.Committing.{says_still, some_same}
use Rattle.segment_set.proofs.Snapped.{set_rested}

-- ---- each file has a name in the list, or is as it was

-- where no name leaves the list, and the file is as it was unless the list has its name
pub tracked_by : (f g : Files) (before now : NameList) (m : FileName) → (is_named before.names m ≡ true → is_named now.names m ≡ true)
    → (is_named now.names m ≡ false → g m ≡ f m) → IsTracked f g before now m
tracked_by f g before now m stays same = by (is_named now.names m) refl (is_named before.names m) refl
  where
    by : (b : Bool) → is_named now.names m ≡ b → (d : Bool) → is_named before.names m ≡ d → IsTracked f g before now m
    by true there d was = inr (inr (inl there))
    by false none true was = absurd (both_ways (is_named now.names m) none (stays was))
    by false none false was = inr (inr (inr (was, same none)))

pub tracked_same : (f g : Files) (before now : NameList) (m : FileName) → now ≡ before → g ≡ f → IsTracked f g before now m
tracked_same f g before now m names same = tracked_by f g before now m (λ e. ap (λ (n : NameList). is_named n.names m) names ∙ e)
    (λ none. ap (λ (h : Files). h m) same)

-- by a call on the set that only adds names
pub tracked_named : (told : Type 0) (f g : Files) (before now : NameList) (m : FileName) → told → KeepsNamed told before now f g → IsTracked f g before now m
tracked_named told f g before now m is_told keeps = tracked_by f g before now m (keeps.more m) (keeps.others is_told m)

-- a name is tracked over a commit that is written
pub tracked_written : (f g : Files) (before now : NameList) (m : FileName) → now ≡ before → SameButTwo CommitNew Commit f g → g CommitNew ≡ None
    → IsTracked f g before now m
tracked_written f g before now Commit names others gone = inr (inl refl)
tracked_written f g before now CommitNew names others gone = inl gone
tracked_written f g before now (Segment id) names others gone =
    tracked_by f g before now (Segment id) (λ e. ap (λ (n : NameList). is_named n.names (Segment id)) names ∙ e)
    (λ none. others (Segment id) (λ e. cc) (λ e. cc))
tracked_written f g before now (Live segment generation) names others gone =
    tracked_by f g before now (Live segment generation) (λ e. ap (λ (n : NameList). is_named n.names (Live segment generation)) names ∙ e)
    (λ none. others (Live segment generation) (λ e. cc) (λ e. cc))

-- and over a sweep that removes what it takes out
pub tracked_swept : (f g : Files) (before now : NameList) (m : FileName) → (is_named before.names m ≡ false → g m ≡ f m)
    → (is_named before.names m ≡ true → is_named now.names m ≡ false → g m ≡ None)
    → IsTracked f g before now m
tracked_swept f g before now m others left = by (is_named now.names m) refl (is_named before.names m) refl
  where
    by : (b : Bool) → is_named now.names m ≡ b → (d : Bool) → is_named before.names m ≡ d → IsTracked f g before now m
    by true there d was = inr (inr (inl there))
    by false none true was = inl (left was none)
    by false none false was = inr (inr (inr (was, others was)))

-- and over two calls, one after the other
pub tracked_then : (f g h : Files) (a b c : NameList) (m : FileName) → IsTracked f g a b m → IsTracked g h b c m → IsTracked f h a c m
tracked_then f g h a b c m first second = ⊎_elim inl
    (λ rest. ⊎_elim (λ e. inr (inl e))
    (λ last. ⊎_elim (λ there. inr (inr (inl there)))
    (λ (none, same). ⊎_elim (λ gone. inl (same ∙ gone))
    (λ more. ⊎_elim (λ e. inr (inl e))
    (λ end. ⊎_elim (λ there. absurd (both_ways (is_named b.names m) none there)) (λ (was, still). inr (inr (inr (was, same ∙ still)))) end)
    more)
    first)
    last)
    rest)
    second

-- by a save, a commit and a sweep
pub tracked_commit : (told : Type 0) (f saved written swept : Files) (a b c d : NameList) (m : FileName) → told → KeepsNamed told a b f saved → c ≡ b
    → SameButTwo CommitNew Commit saved written → written CommitNew ≡ None → IsTracked written swept c d m → IsTracked f swept a d m
tracked_commit told f saved written swept a b c d m is_told keeps names others gone last = tracked_then f written swept a c d m
    (tracked_then f saved written a b c m (tracked_named told f saved a b m is_told keeps) (tracked_written saved written b c m names others gone)) last

-- where nothing changed but the kept pages
pub names_still : (told : Type 0) (f g : Files) (s t : SessionData) → IsStill told f g s t → NamesOnlyListed s → NamesOnlyListed t
names_still told f g s t still listed m there =
    let (c, is, lists) = listed m (ap (λ (u : SetData). is_named u.names.names m) (sym still.set.is) ∙ there) in (c, still.commit ∙ is, lists)

-- ---- a sweep

-- where each name is one of a listed file, no file is changed
pub idle_sweep : (f g : Files) (s : SessionData) (c : CommitData) → s.commit ≡ Some c → ((m : FileName) → IsNeeded s.set c m → g m ≡ f m)
    → ((m : FileName) → is_named s.set.names.names m ≡ false → g m ≡ f m)
    → NamesOnlyListed s → g ≡ f
idle_sweep f g s c is needed others listed = λ j m. each m j
  where
    each : (m : FileName) → g m ≡ f m
    each m = by (is_named s.set.names.names m) refl
      where
        lists : IsInCommit s m → ListsFile c m
        lists (d, here, inside) = subst (λ (e : CommitData). ListsFile e m) (let same : d ≡ c = cc in same) inside

        by : (b : Bool) → is_named s.set.names.names m ≡ b → g m ≡ f m
        by true there = needed m (inl (lists (listed m there)))
        by false none = others m none

-- ---- a set anew

-- it keeps the list of names of the set whose place it takes
abbrev pub renamed : SetData → SetData → SetData
renamed s t = record t { names = s.names }

last_renamed : (files : Files) (s t : SetData) (commit : Option CommitData) → IsLast files t commit → IsLast files (renamed s t) commit
last_renamed files s t None last = last
last_renamed files s t (Some c) last = record { says = last.says; covers = last.covers }

pub guards_renamed : (D : ℕ) (files : Files) (s : SessionData) (t : SetData) → Guards D files s → Guards D files (record s { set = t })
    → Guards D files (record s { set = renamed s.set t })
guards_renamed D files s t before guards = record {
  set = ⊎_elim inl
      (λ (h : ListsOnlyNamed D files t). inr (record {
        commit = h.commit;
        says = h.says;
        dims = h.dims;
        leaf_size = h.leaf_size;
        next = h.next;
        points_given = h.points_given;
        named = names_listed D files s.set h.commit before.set h.says;
      }))
      guards.set;
  last = λ done. last_renamed files s.set t s.commit (guards.last done);
}

-- its segments are those of before, so the list has their files
pub renew_named : (s t : SetData) (c : CommitData) → All (IsNamed s.names) s.parts → IsAsCommitted s c
    → ((m : FileName) → is_named t.names.names m ≡ true → ListsFile c m)
    → (id : ℕ) → is_named t.names.names (Segment id) ≡ true → is_named s.names.names (Segment id) ≡ true
renew_named s t c named same lists id there =
    let (l, inside, is) = lists (Segment id) there in
    ids_named s.names s.parts named id (subst (λ (ids : List ℕ). Contains ids id) (sym same.ids)
    (subst (Contains (map (λ (m : Listed). m.segment) c.listed)) is (in_map (λ (m : Listed). m.segment) c.listed l inside)))

-- ---- what a session holds goes

pub guards_eased : (D : ℕ) (told : Type 0) (f : Files) (s : SessionData) (t : SetData) → told → t ≡ set_rested s.set → Guards D f s
    → Guards D f (record s { set = t })
guards_eased D told f s t is_told is guards = guards_after D told f f s (record s { set = t }) is_told refl refl
    (keeps_calm told s.set.names t.names f f (ap (λ (u : SetData). u.names) is) (λ _. refl))
    (follows_same s.set.names s.set.parts t.parts (ap (λ (u : SetData). u.parts) is))
    (grows_like s.set t (set_rested s.set) is refl refl refl) guards

-- what is in the list stays
pub names_eased : (s : SessionData) (t : SetData) → t ≡ set_rested s.set → NamesOnlyListed s → NamesOnlyListed (record s { set = t })
names_eased s t is listed m there = listed m (ap (λ (u : SetData). is_named u.names.names m) (sym is) ∙ there)

pub as_same : (s t : SetData) (c : CommitData) → t.next ≡ s.next → t.points_given ≡ s.points_given → t.parts ≡ s.parts → t.buffer ≡ s.buffer → IsAsCommitted s c
    → IsAsCommitted t c
as_same s t c next points_given parts buffer same = record {
  next = next ∙ same.next;
  points_given = points_given ∙ same.points_given;
  ids = ap ids_of parts ∙ same.ids;
  counts = ap (map (λ (p : LiveSegment). length p.live.live)) parts ∙ same.counts;
  empty = buffer ∙ same.empty;
}

-- a set without snapshots that was swept, of a session since whose commit nothing changed
module _ (s : SessionData) (t : SetData) (new : SessionData) (eased : t ≡ set_rested s.set) (rest : StaysButFiles t new.set) (commit : new.commit ≡ s.commit)
    (unchanged : IsUnchanged s) where
  pub unchanged_closed : new.refused ≡ false → IsUnchanged new
  unchanged_closed done = record {
    commit = unchanged.commit;
    is = commit ∙ unchanged.is;
    done = done;
    same = as_same s.set new.set unchanged.commit
        (ap (λ (u : SetData). u.next) rest.is ∙ ap (λ (u : SetData). u.next) eased)
        (ap (λ (u : SetData). u.points_given) rest.is ∙ ap (λ (u : SetData). u.points_given) eased)
        (ap (λ (u : SetData). u.parts) rest.is ∙ ap (λ (u : SetData). u.parts) eased)
        (ap (λ (u : SetData). u.buffer) rest.is ∙ ap (λ (u : SetData). u.buffer) eased) unchanged.same;
  }

  -- a segment of now is one that the commit lists
  part_listed : (m : FileName) (c : CommitData) → c ≡ unchanged.commit → ViewNeeds t.parts m → ListsFile c m
  part_listed m c same (p, there, is) =
      let inside = subst (λ (ps : List LiveSegment). Contains ps p) (ap (λ (u : SetData). u.parts) eased) there in
      let (l, here, at) = of_map (λ (k : Listed). k.segment) unchanged.commit.listed p.head.id
      (subst (λ (ids : List ℕ). Contains ids p.head.id) unchanged.same.ids (in_map (λ (q : LiveSegment). q.head.id) s.set.parts p inside)) in
      subst (ListsFile c) (sym is) (l, subst (λ (d : CommitData). Contains d.listed l) (sym same) here, at)

  pub only_listed : ((m : FileName) → is_named new.set.names.names m ≡ true → (c : CommitData) × (s.commit ≡ Some c) × IsNeeded t c m) → NamesOnlyListed new
  only_listed needed m there =
      let (c, is, need) = needed m there in
      let same : c ≡ unchanged.commit = some_same c unchanged.commit (sym is ∙ unchanged.is) in (
        c,
        commit ∙ is,
        ⊎_elim (λ lists. lists)
            (λ shown. ⊎_elim (part_listed m c same) (λ (v, kept, need). nil_none v _
            (subst (λ (vs : List NamedView). Contains vs v) (ap (λ (u : SetData). u.snapshots) eased) kept)) shown) need,
      )

-- ---- what is kept

-- by a sweep after a commit, whatever it answers
pub keeps_either : {T : Type 0} (f g : Files) (s : SessionData) (r : Result T PageFault) → SaysCommit g s.commit → SameKept f g ⊎ SaysCommit g s.set.saved
    → KeepsOver true f g s r
keeps_either f g s (Ok x) says flight = says
keeps_either f g s (Err fault) says flight = flight

pub flight_then : (f g h : Files) (a b : Option CommitData) → b ≡ a → SameKept g h → SameKept f g ⊎ SaysCommit g a → SameKept f h ⊎ SaysCommit h b
flight_then f g h a b same kept flight = ⊎_elim (λ first. inl (kept_after f g h first kept)) (λ says. inr (says_still g h a b kept same says)) flight

pub levels_then : (f g h : Files) → SameKept g h → KeepsLevels f g → KeepsLevels f h
levels_then f g h kept levels = ⊎_elim (λ same. inl (kept.commit ∙ same)) (λ (c, says, few). inr (c, moved_says g h c kept.commit says, few)) levels
