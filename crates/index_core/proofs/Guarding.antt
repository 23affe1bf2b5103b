-- What a session guards stays so, through calls on its set and a commit.
use Rattle.std.proofs.Common.{◌≡◌, ◌<◌, ◌≤◌, ◌+◌, ℕ, Bool, true, false, List, [], ◌∷◌, length, Option, None, Some, Result, Ok, Err, OnOk, OnErr, refl, sym, ap}
use Rattle.std.proofs.Common.{subst, ◌∙◌, ◌⊎◌, inl, inr, ⊎_elim, arith}
use Rattle.std.specs.List.{AllPairs, AllZip, Contains}
use Rattle.std.proofs.lemmas.Bool.{both_ways}
use Rattle.std.proofs.lemmas.List.Kept.{AllPairs-from_increasing}
use Rattle.outer_io.specs.declared.file_name.FileName.{FileName}
use Rattle.outer_io.specs.declared.file_name.FileName.TheVariants.{Commit, CommitNew, Segment, Live}
use Rattle.outer_io.specs.Files.{Files, bytes_of, SameButTwo}
use Rattle.documents.proofs.Lists.{cons_cases, in_map, nil_none, pairs_head, pairs_tail}
use Rattle.commit_list.specs.declared.listed.Listed.{Listed}
use Rattle.commit_list.specs.Commits.{CommitData, IsCommit, ids_of}
use Rattle.commit_list.specs.CommitFiles.{IsCommitFile}
use Rattle.commit_list.proofs.CommitPages.{file_there, one_file}
use Rattle.segment_file.specs.Heads.{Head}
use Rattle.segment_file.specs.LiveFiles.{IsLiveFile}
use Rattle.stored_index.specs.Kept.{ListsFile, SameKept}
use Rattle.stored_index.proofs.KeptFiles.{kept_named, kept_none, never_commits}
use Rattle.stored_index.proofs.Pairwise.{partner_of}
use Rattle.segment_view.specs.LiveSegments.{LiveSegment}
use Rattle.file_names.specs.Names.{NameList, is_named}
use Rattle.segment_set.specs.Sets.{SetData}
use Rattle.segment_set.specs.Kept.{Follows, IsCommitOf, KeepsNamed, StaysAlone}
use Rattle.segment_set.specs.Saved.{AreCovering, CoversPart}
use Rattle.segment_set.proofs.Carried.{within_itself}
use Rattle.segment_set.proofs.Covered.{IsListedAs, part_after}
use Rattle.index_core.specs.Sessions.{Guards, GuardsSet, IsLast, SessionData, last_lines}

-- ---- lists

pub cons_first : {A : Type 0} {x y : A} {xs ys : List A} → x ∷ xs ≡ y ∷ ys → x ≡ y
cons_first e = cc

pub cons_rest : {A : Type 0} {x y : A} {xs ys : List A} → x ∷ xs ≡ y ∷ ys → xs ≡ ys
cons_rest e = cc

-- ---- what the Commit file says

pub moved_says : (old new : Files) (c : CommitData) → new Commit ≡ old Commit → IsCommitFile (bytes_of (old Commit)) c → IsCommitFile (bytes_of (new Commit)) c
moved_says old new c same says = subst (λ (b : Option (List ℕ)). IsCommitFile (bytes_of b) c) (sym same) says

pub says_some : (files : Files) (c : CommitData) → files Commit ≡ None → IsCommitFile (bytes_of (files Commit)) c → ⊥
says_some files c none says = let there = (file_there (files Commit) c says).0 in cc

-- what the file's commit lists is named
pub names_listed : (D : ℕ) (files : Files) (s : SetData) (c : CommitData) → GuardsSet D files s → IsCommitFile (bytes_of (files Commit)) c → (m : FileName)
    → ListsFile c m → is_named s.names.names m ≡ true
names_listed D files s c guards says m lists = ⊎_elim
    (λ none. absurd (says_some files c none says))
    (λ h. h.named m (subst (λ (d : CommitData). ListsFile d m) (one_file (bytes_of (files Commit)) c h.commit says h.says) lists))
    guards

-- ---- through calls on the set

-- the leaf size is the same, and no number that was given is taken back
pub record Grows (s t : SetData) : Type 0 where
  pub leaf_size : t.leaf_size ≡ s.leaf_size
  pub next : s.next ≤ t.next
  pub points_given : s.points_given ≤ t.points_given

pub grows_same : (s t : SetData) → t.leaf_size ≡ s.leaf_size → t.next ≡ s.next → t.points_given ≡ s.points_given → Grows s t
grows_same s t leaf_size next points_given = record { leaf_size = leaf_size; next = omega (arith, next); points_given = omega (arith, points_given) }

pub grows_alone : (s t : SetData) → StaysAlone s t → Grows s t
grows_alone s t stays = grows_same s t stays.leaf_size stays.next stays.points_given

-- the whole set is another but for what has no part in it
pub grows_like : (s t u : SetData) → t ≡ u → u.leaf_size ≡ s.leaf_size → u.next ≡ s.next → u.points_given ≡ s.points_given → Grows s t
grows_like s t u is leaf_size next points_given = subst (Grows s) (sym is) (grows_same s u leaf_size next points_given)

-- documents were added, or after a fault none
pub grows_added : {T E : Type 0} (s t : SetData) (count points : ℕ) (r : Result T E) → t.leaf_size ≡ s.leaf_size
    → OnOk r ((t.next ≡ s.next + count) × (t.points_given ≡ s.points_given + points)) → OnErr r (StaysAlone s t) → Grows s t
grows_added s t count points (Ok x) leaf_size points_given stays =
    record { leaf_size = leaf_size; next = omega (arith, points_given.0); points_given = omega (arith, points_given.1) }
grows_added s t count points (Err e) leaf_size points_given stays = grows_alone s t stays

pub set_after : (D : ℕ) (told : Type 0) (f g : Files) (s t : SetData) → told → KeepsNamed told s.names t.names f g → Grows s t → GuardsSet D f s
    → GuardsSet D g t
set_after D told f g s t is_told keeps grows guards = ⊎_elim
    (λ none. inl (keeps.commit is_told ∙ none))
    (λ h. inr (record {
      commit = h.commit;
      says = moved_says f g h.commit (keeps.commit is_told) h.says;
      dims = h.dims;
      leaf_size = h.leaf_size ∙ sym grows.leaf_size;
      next = omega (arith, h.next, grows.next);
      points_given = omega (arith, h.points_given, grows.points_given);
      named = λ m lists. keeps.more m (h.named m lists);
    }))
    guards

-- of a set that is seen as before
pub set_alone : (D : ℕ) (told : Type 0) (f g : Files) (s t : SetData) → told → KeepsNamed told s.names t.names f g → StaysAlone s t → GuardsSet D f s
    → GuardsSet D g t
set_alone D told f g s t is_told keeps stays guards = set_after D told f g s t is_told keeps (grows_alone s t stays) guards

pub last_after : (D : ℕ) (told : Type 0) (f g : Files) (s t : SetData) (commit : Option CommitData) → told → KeepsNamed told s.names t.names f g
    → Follows s.names s.parts t.parts → GuardsSet D f s
    → IsLast f s commit → IsLast g t commit
last_after D told f g s t None is_told keeps follows guards last = keeps.commit is_told ∙ last
last_after D told f g s t (Some c) is_told keeps follows guards last = record {
  says = moved_says f g c (keeps.commit is_told) last.says;
  covers = λ l p inside there same. ⊎_elim
      (λ fresh. absurd (both_ways (is_named s.names.names (Segment p.head.id)) fresh
      (subst (λ n. is_named s.names.names (Segment n) ≡ true) same (names_listed D f s c guards last.says (Segment l.segment) (l, inside, refl)))))
      (λ (q, here, head, within). part_after f g l p q
      (keeps.files is_told (Live l.segment l.generation) (names_listed D f s c guards last.says (Live l.segment l.generation) (l, inside, refl, refl)))
      head within (last.covers l q inside here (same ∙ ap (λ (h : Head). h.id) head)))
      (follows.each p there);
}

pub guards_after : (D : ℕ) (told : Type 0) (f g : Files) (s t : SessionData) → told → t.commit ≡ s.commit → t.refused ≡ s.refused
    → KeepsNamed told s.set.names t.set.names f g
    → Follows s.set.names s.set.parts t.set.parts → Grows s.set t.set → Guards D f s → Guards D g t
guards_after D told f g s t is_told commit refused keeps follows grows guards = record {
  set = set_after D told f g s.set t.set is_told keeps grows guards.set;
  last = λ done.
      subst (IsLast g t.set) (sym commit) (last_after D told f g s.set t.set s.commit is_told keeps follows guards.set (guards.last (sym refused ∙ done)));
}

pub kept_after_calls : (D : ℕ) (told : Type 0) (f g : Files) (s : SetData) (names : NameList) → told → KeepsNamed told s.names names f g → GuardsSet D f s
    → SameKept f g
kept_after_calls D told f g s names is_told keeps guards = ⊎_elim
    (λ none. kept_none f g none (keeps.commit is_told ∙ none))
    (λ h. kept_named f g (is_named s.names.names) (keeps.commit is_told) (λ c says. names_listed D f s c (inr h) says) (keeps.files is_told))
    guards

-- by a call on the set of the session that the code opened
pub kept_opened : (D : ℕ) (told : Type 0) (f g : Files) (s u : SessionData) (names : NameList) → u ≡ s → KeepsNamed told u.set.names names f g → told
    → Guards D f s → SameKept f g
kept_opened D told f g s u names opened keeps is_told guards =
    kept_after_calls D told f g u.set names is_told keeps (subst (Guards D f) (sym opened) guards).set

-- ---- what the last commit lists

-- its lines cover the segments of now, where none was refused since; else there are none
pub covered : (D : ℕ) (f : Files) (s : SessionData) (lines : List Listed) → lines ≡ last_lines s.refused s.commit → Guards D f s → AreCovering f lines s.set
covered D f s lines are guards = subst (λ (ls : List Listed). AreCovering f ls s.set) (sym are) (by s.refused s.commit guards.last)
  where
    by : (refused : Bool) (commit : Option CommitData) → (refused ≡ false → IsLast f s.set commit) → AreCovering f (last_lines refused commit) s.set
    by true commit last = record { named = λ l inside. nil_none l _ inside; covers = λ l p inside there same. nil_none l _ inside }
    by false None last = record { named = λ l inside. nil_none l _ inside; covers = λ l p inside there same. nil_none l _ inside }
    by false (Some c) last = record {
      named = λ l inside. (
        names_listed D f s.set c guards.set (last refl).says (Segment l.segment) (l, inside, refl),
        names_listed D f s.set c guards.set (last refl).says (Live l.segment l.generation) (l, inside, refl, refl),
      );
      covers = (last refl).covers;
    }

-- of the session that the code opened
pub covered_opened : (D : ℕ) (f : Files) (s u : SessionData) (lines : List Listed) → u ≡ s → lines ≡ last_lines u.refused u.commit → Guards D f s
    → AreCovering f lines u.set
covered_opened D f s u lines opened are guards = covered D f u lines are (subst (Guards D f) (sym opened) guards)

-- ---- a commit that lists the segments of now

abbrev Rise : List ℕ → Type 0
Rise ids = AllPairs (λ (a b : ℕ). a < b) ids

-- ids that rise are those of one listed segment each
one_listed : (listed : List Listed) (l m : Listed) → Rise (ids_of listed) → Contains listed l → Contains listed m → l.segment ≡ m.segment → l ≡ m
one_listed [] l m up h k same = nil_none l _ h
one_listed (x ∷ xs) l m up h k same = ⊎_elim
    (λ here. ⊎_elim
    (λ there. sym here ∙ there)
    (λ later. let lt = first m later in absurd (omega (arith, lt, ap (λ (z : Listed). z.segment) here, same)))
    (cons_cases x xs m k))
    (λ after. ⊎_elim
    (λ there. let lt = first l after in absurd (omega (arith, lt, ap (λ (z : Listed). z.segment) there, same)))
    (λ later. one_listed xs l m (pairs_tail (λ (a b : ℕ). a < b) x.segment (ids_of xs) up) after later same)
    (cons_cases x xs m k))
    (cons_cases x xs l h)
  where
    first : (y : Listed) → Contains xs y → x.segment < y.segment
    first y there = pairs_head (λ (a b : ℕ). a < b) x.segment (ids_of xs) up y.segment (in_map (λ (s : Listed). s.segment) xs y there)

-- each listed segment stands beside the segment of its id
beside : (R : Listed → LiveSegment → Type 0) (c : CommitData) (parts : List LiveSegment) → IsCommit c
    → ((l : Listed) (p : LiveSegment) → R l p → l.segment ≡ p.head.id)
    → AllZip R c.listed parts
    → (l : Listed) (p : LiveSegment) → Contains c.listed l → Contains parts p → l.segment ≡ p.head.id → R l p
beside R c parts rules ids all l p inside there same =
    let m = partner_of R c.listed parts all p there in
    subst (λ (k : Listed). R k p)
    (one_listed c.listed m.0 l (AllPairs-from_increasing (ids_of c.listed) rules.segments.rising) m.1 inside (ids m.0 p m.2 ∙ sym same)) m.2

pub covers_all : (files : Files) (c : CommitData) (parts : List LiveSegment) → IsCommitFile (bytes_of (files Commit)) c
    → AllZip (IsListedAs files) c.listed parts
    → (l : Listed) (p : LiveSegment) → Contains c.listed l → Contains parts p → l.segment ≡ p.head.id → CoversPart files l p
covers_all files c parts says all l p inside there same =
    let is = beside (IsListedAs files) c parts (says.spells.commit) (λ m q h. h.segment) all l p inside there same in
    record { entries = is.entries; live = p.live; file = is.file; count = sym is.count; covers = within_itself p.live }

-- two facts of each pair
pub zip_both : {A B : Type 0} (R S T : A → B → Type 0) (xs : List A) (ys : List B) → ((x : A) (y : B) → R x y → S x y → T x y) → AllZip R xs ys → AllZip S xs ys
    → AllZip T xs ys
zip_both R S T [] [] both p q = tt
zip_both R S T [] (y ∷ ys) both p q = absurd p
zip_both R S T (x ∷ xs) [] both p q = absurd p
zip_both R S T (x ∷ xs) (y ∷ ys) both p q = (both x y p.0 q.0, zip_both R S T xs ys both p.1 q.1)

-- ---- a commit

-- the Commit file says one that was saved of the set
pub set_written : (D : ℕ) (files : Files) (s : SetData) (c : CommitData) → IsCommitOf D s c → IsCommitFile (bytes_of (files Commit)) c → GuardsSet D files s
set_written D files s c of says = inr (record {
  commit = c;
  says = says;
  dims = of.dims;
  leaf_size = of.leaf_size;
  next = omega (arith, of.next);
  points_given = omega (arith, of.points_given);
  named = of.named;
})

-- all files but the two of commits are as they were
pub listed_still : (f g : Files) (c : CommitData) (m : FileName) → SameButTwo CommitNew Commit f g → ListsFile c m → g m ≡ f m
listed_still f g c m others lists = let apart = never_commits c m lists in others m apart.1 apart.0

pub guards_written : (D : ℕ) (f g : Files) (s : SetData) (c : CommitData) → IsCommitOf D s c
    → AllZip (λ (l : Listed) (p : LiveSegment). IsLiveFile l.segment l.generation (bytes_of (f (Live l.segment l.generation))) p.live) c.listed s.parts
    → SameButTwo CommitNew Commit f g → IsCommitFile (bytes_of (g Commit)) c → Guards D g (record { set = s; commit = Some c; refused = false })
guards_written D f g s c of lives others says = record {
  set = set_written D g s c of says;
  last = λ done. record {
    says = says;
    covers = covers_all g c s.parts says
        (zip_both (λ (l : Listed) (p : LiveSegment). (l.segment ≡ p.head.id) × (l.entries ≡ p.head.entries) × (l.live ≡ length p.live.live))
        (λ (l : Listed) (p : LiveSegment). IsLiveFile l.segment l.generation (bytes_of (f (Live l.segment l.generation))) p.live)
        (IsListedAs g) c.listed s.parts
        (λ l p same file. record {
          segment = same.0;
          entries = same.1;
          count = same.2;
          file = subst (λ (b : Option (List ℕ)). IsLiveFile l.segment l.generation (bytes_of b) p.live)
              (sym (others (Live l.segment l.generation) (λ e. cc) (λ e. cc))) file;
        })
        of.lists lives);
  };
}

-- one that was refused: whichever of the two is there, the set guards it
pub guards_refused : (D : ℕ) (f g : Files) (s : SessionData) (c : CommitData) → s.refused ≡ true → IsCommitOf D s.set c → GuardsSet D f s.set
    → (g Commit ≡ f Commit) ⊎ IsCommitFile (bytes_of (g Commit)) c → Guards D g s
guards_refused D f g s c refused of guards which = record {
  set = ⊎_elim
      (λ same. ⊎_elim
      (λ none. inl (same ∙ none))
      (λ h. inr (record {
        commit = h.commit;
        says = moved_says f g h.commit same h.says;
        dims = h.dims;
        leaf_size = h.leaf_size;
        next = h.next;
        points_given = h.points_given;
        named = h.named;
      }))
      guards)
      (λ says. set_written D g s.set c of says)
      which;
  last = λ done. absurd (both_ways s.refused done refused);
}

-- of the session that the code opened
pub guards_done : (D : ℕ) (f g : Files) (s u : SessionData) (c : CommitData) → u ≡ s → IsCommitOf D s.set c
    → AllZip (λ (l : Listed) (p : LiveSegment). IsLiveFile l.segment l.generation (bytes_of (f (Live l.segment l.generation))) p.live) c.listed s.set.parts
    → SameButTwo CommitNew Commit f g → IsCommitFile (bytes_of (g Commit)) c → Guards D g (record { set = u.set; commit = Some c; refused = false })
guards_done D f g s u c same of lives others says =
    subst (λ (v : SessionData). Guards D g (record { set = v.set; commit = Some c; refused = false })) (sym same)
    (guards_written D f g s.set c of lives others says)

pub guards_undone : (D : ℕ) (f g : Files) (s u : SessionData) (c : CommitData) → u ≡ s → IsCommitOf D s.set c → GuardsSet D f s.set
    → (g Commit ≡ f Commit) ⊎ IsCommitFile (bytes_of (g Commit)) c
    → Guards D g (record { set = u.set; commit = u.commit; refused = true })
guards_undone D f g s u c same of guards which =
    subst (λ (v : SessionData). Guards D g (record { set = v.set; commit = v.commit; refused = true })) (sym same)
    (guards_refused D f g (record { set = s.set; commit = s.commit; refused = true }) c refl of guards which)
