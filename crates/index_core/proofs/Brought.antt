-- Each listed file stays whole: through a commit, what keeps all, and one call after another.
use Rattle.std.proofs.Common.{◌≡◌, ℕ, List, [], ◌∷◌, length, Option, Some, refl, sym, ap, subst, ◌∙◌, ◌⊎◌, inl, inr, ⊎_elim, arith}
use Rattle.std.specs.List.{AllZip, Contains}
use Rattle.outer_io.specs.declared.file_name.FileName.TheVariants.{Commit, CommitNew, Live, Segment}
use Rattle.outer_io.specs.Files.{Files, SameButTwo, bytes_of}
use Rattle.documents.proofs.Lists.{cons_cases, cons_head, cons_tail, nil_none}
use Rattle.commit_list.specs.declared.listed.Listed.{Listed}
use Rattle.commit_list.specs.Commits.{CommitData}
use Rattle.commit_list.specs.CommitFiles.{IsCommitFile}
use Rattle.commit_list.proofs.CommitPages.{one_file}
use Rattle.segment_file.specs.LiveFiles.{IsLiveFile}
use Rattle.stored_index.specs.Kept.{SameKept}
use Rattle.stored_index.proofs.KeptFiles.{kept_after, kept_itself, still_says}
use Rattle.segment_view.specs.LiveSegments.{LiveSegment}
use Rattle.segment_set.specs.Sets.{SetData}
use Rattle.segment_set.specs.Kept.{IsCommitOf}
use Rattle.segment_set.proofs.Carried.{canon_file}
use Rattle.segment_set.proofs.Covered.{IsListedAs}
use Rattle.index_core.specs.Brought.{BringsCommit, IsBuilt, IsWhole, KeepsCommit, WasListed}
use Rattle.index_core.specs.Sessions.{AreTraced, GuardsSet, IsListedWith, ListsOnlyNamed}
use Rattle.index_core.specs.Steps.{SaysCommit}
use Rattle.index_core.proofs.Committing.{some_same}
use Rattle.index_core.proofs.Guarding.{says_some, zip_both}

-- ---- a commit that was written

-- each element has a partner
partner_for : {A B : Type 0} (R : A → B → Type 0) (ks : List A) (xs : List B) → AllZip R ks xs → (k : A) → Contains ks k → (x : B) × Contains xs x × R k x
partner_for R [] xs p k h = nil_none k _ h
partner_for R (y ∷ ys) [] p k h = absurd p
partner_for {A} {B} R (y ∷ ys) (x ∷ xs) p k h = elim (cons_cases y ys k h) [
  | inl here ↦ (x, cons_head x xs, subst (λ (z : A). R z x) here p.0)
  | inr later ↦ let found = partner_for R ys xs p.1 k later in (found.0, cons_tail x xs found.0 found.1, found.2)
]

-- a segment of the set that was saved, of which it is known where it comes from
whole_of : (D : ℕ) (f g : Files) (parts : List LiveSegment) → SameButTwo CommitNew Commit f g → AreTraced D f parts → (l : Listed) (p : LiveSegment)
    → Contains parts p
    → IsListedAs g l p → IsWhole D f g l
whole_of D f g parts others traced l p there is = record {
  segment = ⊎_elim
      (λ (h : IsListedWith D f p). inl (record {
        commit = h.commit;
        says = h.says;
        was = h.listed;
        there = h.there;
        segment = h.is ∙ sym is.segment;
        entries = h.covers.entries ∙ sym is.entries;
        file = others (Segment l.segment) (λ e. cc) (λ e. cc);
      }))
      (λ canonical. inr (record {
        head = p.head;
        segment = sym is.segment;
        entries = sym is.entries;
        canon = canon_file D f g p.head p.head refl (others (Segment p.head.id) (λ e. cc) (λ e. cc)) canonical;
      }))
      (traced p there);
  live = p.live;
  file = is.file;
  count = sym is.count;
}

-- the Commit file says the one that the set saved
pub brings_commit : (D : ℕ) (f g : Files) (s : SetData) (c : CommitData) → IsCommitOf D s c
    → AllZip (λ (l : Listed) (p : LiveSegment). IsLiveFile l.segment l.generation (bytes_of (f (Live l.segment l.generation))) p.live) c.listed s.parts
    → SameButTwo CommitNew Commit f g → IsCommitFile (bytes_of (g Commit)) c → GuardsSet D f s → AreTraced D f s.parts → BringsCommit f g
brings_commit D f g s c of lives others says guards traced = record {
  commit = c;
  says = says;
  later = λ b before. ⊎_elim
      (λ none. absurd (says_some f b none before))
      (λ (h : ListsOnlyNamed D f s).
      let is = one_file (bytes_of (f Commit)) b h.commit before h.says in
      record {
        dims = ap (λ (d : CommitData). d.dims) is ∙ h.dims ∙ sym of.dims;
        leaf_size = ap (λ (d : CommitData). d.leaf_size) is ∙ h.leaf_size ∙ sym of.leaf_size;
        next = omega (arith, ap (λ (d : CommitData). d.next) is, h.next, of.next);
        points_given = omega (arith, ap (λ (d : CommitData). d.points_given) is, h.points_given, of.points_given);
      })
      guards;
  whole = λ l inside.
      let (p, there, is) = partner_for (IsListedAs g) c.listed s.parts all l inside in
      subst (λ (n : ℕ). IsWhole n f g l) (sym of.dims) (whole_of D f g s.parts others traced l p there is);
}
  where
    all : AllZip (IsListedAs g) c.listed s.parts
    all = zip_both (λ (l : Listed) (p : LiveSegment). (l.segment ≡ p.head.id) × (l.entries ≡ p.head.entries) × (l.live ≡ length p.live.live))
        (λ (l : Listed) (p : LiveSegment). IsLiveFile l.segment l.generation (bytes_of (f (Live l.segment l.generation))) p.live)
        (IsListedAs g) c.listed s.parts
        (λ l p same file. record {
          segment = same.0;
          entries = same.1;
          count = same.2;
          file = subst (λ (b : Option (List ℕ)). IsLiveFile l.segment l.generation (bytes_of b) p.live)
              (sym (others (Live l.segment l.generation) (λ e. cc) (λ e. cc))) file;
        })
        of.lists lives

-- it says that one, or all is kept
pub keeps_flight : (D : ℕ) (f g : Files) (s : SetData) (c : CommitData) (saved : Option CommitData) → saved ≡ Some c → IsCommitOf D s c
    → AllZip (λ (l : Listed) (p : LiveSegment). IsLiveFile l.segment l.generation (bytes_of (f (Live l.segment l.generation))) p.live) c.listed s.parts
    → SameButTwo CommitNew Commit f g → GuardsSet D f s → AreTraced D f s.parts → SameKept f g ⊎ SaysCommit g saved → KeepsCommit f g
keeps_flight D f g s c saved is of lives others guards traced which = ⊎_elim inl
    (λ (d, same, says). inr (brings_commit D f g s c of lives others
    (subst (λ (e : CommitData). IsCommitFile (bytes_of (g Commit)) e) (some_same d c (sym same ∙ is)) says) guards traced))
    which

-- ---- one call after another

-- what is kept stays whole
still_whole : (D : ℕ) (f g h : Files) (l : Listed) → h (Segment l.segment) ≡ g (Segment l.segment)
    → h (Live l.segment l.generation) ≡ g (Live l.segment l.generation) → IsWhole D f g l → IsWhole D f h l
still_whole D f g h l segment live whole = record {
  segment = ⊎_elim
      (λ (w : WasListed f g l). inl (record {
        commit = w.commit;
        says = w.says;
        was = w.was;
        there = w.there;
        segment = w.segment;
        entries = w.entries;
        file = segment ∙ w.file;
      }))
      (λ (b : IsBuilt D g l). inr (record {
        head = b.head;
        segment = b.segment;
        entries = b.entries;
        canon = canon_file D g h b.head b.head refl (subst (λ (n : ℕ). h (Segment n) ≡ g (Segment n)) (sym b.segment) segment) b.canon;
      }))
      whole.segment;
  live = whole.live;
  file = subst (λ (b : Option (List ℕ)). IsLiveFile l.segment l.generation (bytes_of b) whole.live) (sym live) whole.file;
  count = whole.count;
}

brings_then_kept : (f g h : Files) → BringsCommit f g → SameKept g h → BringsCommit f h
brings_then_kept f g h first then = record {
  commit = first.commit;
  says = still_says g h first.commit then first.says;
  later = first.later;
  whole = λ l inside.
      still_whole first.commit.dims f g h l (then.listed first.commit first.says (Segment l.segment) (l, inside, refl))
      (then.listed first.commit first.says (Live l.segment l.generation) (l, inside, refl, refl)) (first.whole l inside);
}

-- what the Commit file says it said before
said_before : (f g : Files) (c : CommitData) → SameKept f g → IsCommitFile (bytes_of (g Commit)) c → IsCommitFile (bytes_of (f Commit)) c
said_before f g c same says = subst (λ (b : Option (List ℕ)). IsCommitFile (bytes_of b) c) same.commit says

-- a segment that was listed in between was listed before, or built since
was_before : (D : ℕ) (f g h : Files) (l : Listed) → KeepsCommit f g
    → ((c : CommitData) → IsCommitFile (bytes_of (g Commit)) c → c.dims ≡ D) → WasListed g h l → WasListed f h l ⊎ IsBuilt D h l
was_before D f g h l first dims w = ⊎_elim
    (λ (kept : SameKept f g).
    let says = said_before f g w.commit kept w.says in
    inl (record {
      commit = w.commit;
      says = says;
      was = w.was;
      there = w.there;
      segment = w.segment;
      entries = w.entries;
      file = w.file ∙ kept.listed w.commit says (Segment l.segment) (w.was, w.there, w.segment);
    }))
    (λ (brings : BringsCommit f g).
    let same : brings.commit ≡ w.commit = one_file (bytes_of (g Commit)) brings.commit w.commit brings.says w.says in
    let whole = brings.whole w.was (subst (λ (c : CommitData). Contains c.listed w.was) (sym same) w.there) in
    from_whole (subst (λ (n : ℕ). IsWhole n f g w.was) (dims brings.commit brings.says) whole))
    first
  where
    from_whole : IsWhole D f g w.was → WasListed f h l ⊎ IsBuilt D h l
    from_whole whole = ⊎_elim
        (λ (v : WasListed f g w.was). inl (record {
          commit = v.commit;
          says = v.says;
          was = v.was;
          there = v.there;
          segment = v.segment ∙ w.segment;
          entries = v.entries ∙ w.entries;
          file = w.file ∙ subst (λ (n : ℕ). g (Segment n) ≡ f (Segment n)) w.segment v.file;
        }))
        (λ (b : IsBuilt D g w.was). inr (record {
          head = b.head;
          segment = b.segment ∙ w.segment;
          entries = b.entries ∙ w.entries;
          canon = canon_file D g h b.head b.head refl
              (subst (λ (n : ℕ). h (Segment n) ≡ g (Segment n)) (sym (b.segment ∙ w.segment)) w.file) b.canon;
        }))
        whole.segment

keeps_then_brings : (f g h : Files) → KeepsCommit f g → BringsCommit g h → BringsCommit f h
keeps_then_brings f g h first then = record {
  commit = then.commit;
  says = then.says;
  later = λ c says. ⊎_elim
      (λ (kept : SameKept f g). then.later c (still_says f g c kept says))
      (λ (brings : BringsCommit f g).
      let one = brings.later c says in
      let two = then.later brings.commit brings.says in
      record {
        dims = one.dims ∙ two.dims;
        leaf_size = one.leaf_size ∙ two.leaf_size;
        next = omega (arith, one.next, two.next);
        points_given = omega (arith, one.points_given, two.points_given);
      })
      first;
  whole = λ l inside.
      let whole = then.whole l inside in
      record {
        segment = ⊎_elim (was_before then.commit.dims f g h l first (λ c says. (then.later c says).dims)) inr whole.segment;
        live = whole.live;
        file = whole.file;
        count = whole.count;
      };
}

pub commit_then : (f g h : Files) → KeepsCommit f g → KeepsCommit g h → KeepsCommit f h
commit_then f g h first then = ⊎_elim
    (λ (kept : SameKept g h). ⊎_elim (λ same. inl (kept_after f g h same kept)) (λ brings. inr (brings_then_kept f g h brings kept)) first)
    (λ (brings : BringsCommit g h). inr (keeps_then_brings f g h first brings))
    then

-- what keeps all before it, and behind it
pub commit_after : (f g h : Files) → SameKept f g → KeepsCommit g h → KeepsCommit f h
commit_after f g h first then = commit_then f g h (inl first) then

pub commit_swept : (f g h : Files) → KeepsCommit f g → SameKept g h → KeepsCommit f h
commit_swept f g h first then = commit_then f g h first (inl then)

pub commit_itself : (files : Files) → KeepsCommit files files
commit_itself files = inl (kept_itself files)

pub commit_equal : (old new : Files) → new ≡ old → KeepsCommit old new
commit_equal old new same = subst (KeepsCommit old) (sym same) (commit_itself old)
