-- The segments of a session are carried from one call to the next, those of its snapshots too; and which of their files a damage names.
use Rattle.std.proofs.Common.{◌≡◌, ℕ, Bool, List, [], ◌∷◌, ◌++◌, filter, map, Option, Result, refl, sym, ap, subst, ◌∙◌, ◌⊎◌, inl, inr, ⊎_elim}
use Rattle.std.proofs.Math.Logic.{∥∥₁_elim, ∥∥₁_map, ∥∥₁_prop}
use Rattle.std.proofs.lemmas.Grind.{merely}
use Rattle.std.specs.List.{All, Contains}
use Rattle.std.proofs.lemmas.List.Elements.{All-contains, All-contains_itself, All-weaker, Contains-append_cases}
use Rattle.outer_io.specs.declared.file_name.FileName.{FileName}
use Rattle.outer_io.specs.declared.file_name.FileName.TheVariants.{Commit, CommitNew, Segment}
use Rattle.outer_io.specs.Files.{Files, SameButTwo, bytes_of}
use Rattle.documents.proofs.Lists.{cons_cases, in_map, nil_none, of_filter, of_map}
use Rattle.page_cache.specs.declared.faults.PageFault.{PageFault}
use Rattle.page_cache.specs.Evidence.{OnDamage}
use Rattle.commit_list.specs.declared.listed.Listed.{Listed}
use Rattle.commit_list.specs.Commits.{CommitData}
use Rattle.commit_list.specs.CommitFiles.{IsCommitFile}
use Rattle.stored_index.specs.Kept.{SameKept}
use Rattle.segment_file.specs.Heads.{Head}
use Rattle.segment_file.specs.Segments.{IsSegment}
use Rattle.segment_view.specs.LiveSegments.{LiveSegment, ids_of}
use Rattle.segment_set.specs.Sets.{IsNamed, IsWell, NamedView, SetData, viewed_parts}
use Rattle.segment_set.specs.Kept.{AreCanonical, Follows, IsAsCommitted, IsAtRest, KeepsNamed, StaysButFiles}
use Rattle.segment_set.proofs.Viewed.{viewed_all}
use Rattle.segment_set.proofs.WholeFiles.{canonical_whole}
use Rattle.index_opening.specs.Evidence.{HoldsWhole, IsEvidentOf, IsOfListed, IsOfPart, IsOfEntries, MayBeNeeded}
use Rattle.index_opening.proofs.Evident.{on_evident_named}
use Rattle.index_core.specs.Carried.{AreOfListed, Carries, IsEvidentOver, IsFileOf, IsOfSet}
use Rattle.index_core.specs.Effects.{BringsCanonical, IsOfBefore}
use Rattle.index_core.specs.Sessions.{SessionData, StaysTrue}
use Rattle.index_core.proofs.Bringing.{brings_written}
use Rattle.index_core.proofs.SetGuards.{bare_parts}

-- ---- files

-- a file that is as it was is as whole
pub whole_still : (f g : Files) (file : FileName) → g file ≡ f file → HoldsWhole f file → HoldsWhole g file
whole_still f g file same w = record {
  D = w.D;
  head = w.head;
  items = w.items;
  file_is = w.file_is;
  holds = subst (λ b. IsSegment w.D (bytes_of b) w.head w.items) (sym same) w.holds;
}

-- ---- the snapshots

-- each segment of a snapshot of now is one of before, or of a snapshot of then, with its file as it was
abbrev pub ViewsStay : (f g : Files) → (s t : SetData) → Type 0
ViewsStay f g s t = (v : NamedView) → Contains t.snapshots v → (p : LiveSegment) → Contains v.parts p → IsFileOf f g s (Segment p.head.id)

view_file : (f g : Files) (s : SetData) (v : NamedView) (p : LiveSegment) → Contains s.snapshots v → Contains v.parts p
    → g (Segment p.head.id) ≡ f (Segment p.head.id) → IsFileOf f g s (Segment p.head.id)
view_file f g s v p there inside same = record { part = p; there = inr (v, there, inside); is = refl; same = same }

-- the same ones, and no named file changed
pub views_named : (D : ℕ) (told : Type 0) (f g : Files) (s t : SetData) → told → KeepsNamed told s.names t.names f g → IsWell D s → t.snapshots ≡ s.snapshots
    → ViewsStay f g s t
views_named D told f g s t is_told keeps well same v there p inside =
    let was = subst (λ (vs : List NamedView). Contains vs v) same there in
    view_file f g s v p was inside (keeps.files is_told (Segment p.head.id)
    (All-contains (IsNamed s.names) v.parts p (All-contains (λ (u : NamedView). All (IsNamed s.names) u.parts) s.snapshots v well.kept was) inside))

-- the same ones, and no file changed
pub views_same : (f g : Files) (s t : SetData) → g ≡ f → t.snapshots ≡ s.snapshots → ViewsStay f g s t
views_same f g s t files same v there p inside =
    view_file f g s v p (subst (λ (vs : List NamedView). Contains vs v) same there) inside (ap (λ (h : Files). h (Segment p.head.id)) files)

-- some of them
pub views_fewer : (files : Files) (keep : NamedView → Bool) (s t : SetData) → t.snapshots ≡ filter keep s.snapshots → ViewsStay files files s t
views_fewer files keep s t same v there p inside =
    view_file files files s v p (of_filter keep s.snapshots v (subst (λ (vs : List NamedView). Contains vs v) same there)).0 inside refl

-- and one of what is there now
pub views_more : (files : Files) (name : List ℕ) (s t : SetData)
    → t.snapshots ≡ s.snapshots ++ record { name = name; parts = s.parts; buffer = s.buffer } ∷ [] → ViewsStay files files s t
views_more files name s t same v there p inside = ⊎_elim
    (λ was. view_file files files s v p was inside refl)
    (λ last. ⊎_elim
    (λ is. record { part = p; there = inl (subst (λ (u : NamedView). Contains u.parts p) (sym is) inside); is = refl; same = refl })
    (λ none. nil_none v _ none)
    (cons_cases (record { name = name; parts = s.parts; buffer = s.buffer }) [] v last))
    (Contains-append_cases s.snapshots (record { name = name; parts = s.parts; buffer = s.buffer } ∷ []) v
    (subst (λ (vs : List NamedView). Contains vs v) same there))

-- ---- all segments

pub carries_by : (D : ℕ) (f g : Files) (s t : SetData) → BringsCanonical D f g s.parts t.parts → ViewsStay f g s t → Carries f g s t
carries_by D f g s t brings views p (inl there) = ⊎_elim
    (λ (o : IsOfBefore f g s.parts p).
    merely (inl (record { part = o.part; there = inl o.was; is = ap (λ (h : Head). Segment h.id) (sym o.head); same = o.file })))
    (λ canonical. ∥∥₁_map (canonical_whole D g p.head canonical) inr)
    (brings p there)
carries_by D f g s t brings views p (inr (v, there, inside)) = merely (inl (views v there p inside))

-- each has its file as it was
pub carries_still : (f g : Files) (s t : SetData) → t.parts ≡ s.parts → t.snapshots ≡ s.snapshots
    → ((p : LiveSegment) → IsOfSet s p → g (Segment p.head.id) ≡ f (Segment p.head.id)) → Carries f g s t
carries_still f g s t parts snapshots same p (inl there) =
    let was : IsOfSet s p = inl (subst (λ (ps : List LiveSegment). Contains ps p) parts there) in
    merely (inl (record { part = p; there = was; is = refl; same = same p was }))
carries_still f g s t parts snapshots same p (inr (v, there, inside)) =
    let was : IsOfSet s p = inr (v, subst (λ (vs : List NamedView). Contains vs v) snapshots there, inside) in
    merely (inl (record { part = p; there = was; is = refl; same = same p was }))

pub carries_itself : (files : Files) (s : SetData) → Carries files files s s
carries_itself files s = carries_still files files s s refl refl (λ p there. refl)

pub stays_itself : (D : ℕ) (told : Type 0) (files : Files) (s : SessionData) → StaysTrue D told files files s s
stays_itself D told files s = record {
  guards = λ t guards. guards;
  faithful = λ t faithful. faithful;
  traced = λ t trusts. trusts.traced;
  carries = λ t. carries_itself files s.set;
}

pub carries_two : (f g : Files) (s t : SetData) → SameButTwo CommitNew Commit f g → t ≡ s → Carries f g s t
carries_two f g s t others same =
    carries_still f g s t (ap (λ (u : SetData). u.parts) same) (ap (λ (u : SetData). u.snapshots) same)
    (λ p there. others (Segment p.head.id) (λ e. cc) (λ e. cc))

pub carries_then : (f g h : Files) (s t u : SetData) → Carries f g s t → Carries g h t u → Carries f h s u
carries_then f g h s t u first second p there = ∥∥₁_elim (second p there) ∥∥₁_prop (λ which. ⊎_elim through (λ whole. merely (inr whole)) which)
  where
    through : IsFileOf g h t (Segment p.head.id) → ∥ (IsFileOf f h s (Segment p.head.id) ⊎ HoldsWhole h (Segment p.head.id)) ∥₁
    through o = ∥∥₁_map (first o.part o.there) (λ which. ⊎_elim
        (λ (i : IsFileOf f g s (Segment o.part.head.id)). inl (record {
          part = i.part;
          there = i.there;
          is = o.is ∙ i.is;
          same = o.same ∙ subst (λ (n : FileName). g n ≡ f n) (sym o.is) i.same;
        }))
        (λ whole. inr (whole_still g h (Segment p.head.id) o.same (subst (HoldsWhole g) (sym o.is) whole)))
        which)

-- and then the commit was written, and what it doesn't need swept away
pub carries_flown : (f g h : Files) (s t u : SetData) → Carries f g s t → SameButTwo CommitNew Commit g h → u ≡ t → Carries f h s u
carries_flown f g h s t u before others same = carries_then f g h s t u before (carries_two g h t u others same)

pub carries_swept : (f g h : Files) (s t u : SetData) → Carries f g s t → StaysButFiles t u
    → ((p : LiveSegment) → IsOfSet t p → h (Segment p.head.id) ≡ g (Segment p.head.id)) → Carries f h s u
carries_swept f g h s t u before rest same = carries_then f g h s t u before
    (carries_still g h t u (ap (λ (v : SetData). v.parts) rest.is) (ap (λ (v : SetData). v.snapshots) rest.is) same)

-- a call on the set that writes segments under new names alone, of the session that the code opened
pub carries_written : (D : ℕ) (told : Type 0) (f g : Files) (s u : SessionData) (t : SetData) → u ≡ s → told → KeepsNamed told u.set.names t.names f g
    → Follows u.set.names u.set.parts t.parts → AreCanonical D g u.set.names t.parts → IsWell D s.set → t.snapshots ≡ u.set.snapshots → Carries f g s.set t
carries_written D told f g s u t opened is_told keeps follows canon well same = subst (λ (v : SessionData). Carries f g v.set t) opened
    (carries_by D f g u.set t (brings_written D told f g u.set.names t.names u.set.parts t.parts is_told keeps follows canon)
    (views_named D told f g u.set t is_told keeps (subst (λ (v : SessionData). IsWell D v.set) (sym opened) well) same))

-- a set anew over the same files, whose segments have the same ids
pub carries_anew : (files : Files) (s t : SetData) (c : CommitData) → IsAsCommitted s c → ids_of t.parts ≡ map (λ (l : Listed). l.segment) c.listed
    → t.snapshots ≡ [] → Carries files files s t
carries_anew files s t c same ids none p (inl there) =
    let was = of_map (λ (q : LiveSegment). q.head.id) s.parts p.head.id (subst (λ (ns : List ℕ). Contains ns p.head.id) (ids ∙ sym same.ids)
    (in_map (λ (q : LiveSegment). q.head.id) t.parts p there)) in
    merely (inl (record { part = was.0; there = inl was.1; is = ap (λ (n : ℕ). Segment n) (sym was.2); same = refl }))
carries_anew files s t c same ids none p (inr (v, there, inside)) = nil_none v _ (subst (λ (vs : List NamedView). Contains vs v) none there)

-- ---- what a damage shows

-- a segment of a view is one of the session
pub of_view : (view : Option (List ℕ)) (s : SetData) (p : LiveSegment) → Contains (viewed_parts view s) p → IsOfSet s p
of_view view s p = viewed_all (λ (ps : List LiveSegment). Contains ps p → IsOfSet s p) (λ there. nil_none p (IsOfSet s p) there) view s inl
    (All-weaker (Contains s.snapshots) (λ (v : NamedView). Contains v.parts p → IsOfSet s p) (λ v there inside. inr (v, there, inside)) s.snapshots
    (All-contains_itself s.snapshots))

-- a damage that a query of a view shows, which changes no file
pub view_shows : {X : Type 0} (S T : Type 0) (f g : Files) (view : Option (List ℕ)) (s : SetData) (r : Result X PageFault) → (T → S) → (T → g ≡ f)
    → OnDamage r (IsEvidentOf (viewed_parts view s) S g) → OnDamage r (IsEvidentOver f s T g)
view_shows S T f g view s r back same = on_evident_named (IsOfPart (viewed_parts view s)) (IsFileOf f g s) (IsOfEntries g) S T g r back
    (λ t file (p, there, is).
    merely (inr (inr (record { part = p; there = of_view view s p there; is = is; same = ap (λ (h : Files). h file) (same t) }))))

-- a file of a session between two calls is one of the session at the begin, or whole
pub file_carried : (f g h : Files) (s t : SetData) → Carries f g s t → (file : FileName) → IsFileOf g h t file → ∥ MayBeNeeded (IsFileOf f h s) h file ∥₁
file_carried f g h s t carries file o = ∥∥₁_map (carries o.part o.there) (λ which. ⊎_elim
    (λ (i : IsFileOf f g s (Segment o.part.head.id)). inr (inr (record {
      part = i.part;
      there = i.there;
      is = o.is ∙ i.is;
      same = o.same ∙ subst (λ (n : FileName). g n ≡ f n) (sym o.is) i.same;
    })))
    (λ whole. inr (inl (whole_still g h file o.same (subst (HoldsWhole g) (sym o.is) whole))))
    which)

-- ---- of a session that was opened

-- the commit lists all its segments
pub attached_listed : (files : Files) (t : SetData) (c : CommitData) → IsCommitFile (bytes_of (files Commit)) c → IsAtRest t c → AreOfListed files t
attached_listed files t c says rest p (inl there) =
    let l = of_map (λ (l : Listed). l.segment) c.listed p.head.id (subst (λ (ns : List ℕ). Contains ns p.head.id) rest.as_committed.ids
    (in_map (λ (q : LiveSegment). q.head.id) t.parts p there)) in
    record { commit = c; says = says; listed = l.0; there = l.1; is = inl (ap (λ (n : ℕ). Segment n) (sym l.2)) }
attached_listed files t c says rest p (inr (v, there, inside)) = nil_none v _ (subst (λ (vs : List NamedView). Contains vs v) rest.snapshots there)

-- a session without a segment
pub bare_listed : (files : Files) (t : SetData) → t.names ≡ record { names = []; next_segment = 0 } → All (IsNamed t.names) t.parts
    → All (λ (v : NamedView). All (IsNamed t.names) v.parts) t.snapshots → AreOfListed files t
bare_listed files t empty named kept p (inl there) =
    nil_none p _ (subst (λ (ps : List LiveSegment). Contains ps p) (bare_parts t.names t.parts empty named) there)
bare_listed files t empty named kept p (inr (v, there, inside)) = nil_none p _ (subst (λ (ps : List LiveSegment). Contains ps p)
    (bare_parts t.names v.parts empty (All-contains (λ (u : NamedView). All (IsNamed t.names) u.parts) t.snapshots v kept there)) inside)

-- what a damage of its segments names, the commit of then lists
pub listed_file : (f g : Files) (s : SetData) → AreOfListed f s → (file : FileName) → IsFileOf f g s file → IsOfListed f file
listed_file f g s listed file o = subst (IsOfListed f) (sym o.is) (listed o.part o.there)

-- the commit lists it still, where all that is kept is the same
pub listed_kept : (f g : Files) (file : FileName) → SameKept f g → IsOfListed f file → IsOfListed g file
listed_kept f g file kept l = record {
  commit = l.commit;
  says = subst (λ b. IsCommitFile (bytes_of b) l.commit) (sym kept.commit) l.says;
  listed = l.listed;
  there = l.there;
  is = l.is;
}
