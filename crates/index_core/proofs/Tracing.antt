-- Where the segments of a session come from, through calls on its set, a commit, a sweep and attaching; and what a crowd in one of them shows.
use Rattle.std.proofs.Common.{◌≡◌, ◌≤◌, ℕ, true, List, length, Result, refl, sym, ap, subst, ◌∙◌, ◌⊎◌}
use Rattle.std.proofs.Common.{inl, inr, ⊎_elim, arith}
use Rattle.std.proofs.Math.Logic.{∥∥₁_map}
use Rattle.std.proofs.lemmas.Bool.{both_ways}
use Rattle.std.proofs.lemmas.Grind.{merely}
use Rattle.std.specs.List.{All, Contains}
use Rattle.std.proofs.lemmas.List.Elements.{All-contains}
use Rattle.outer_io.specs.declared.file_name.FileName.{FileName}
use Rattle.outer_io.specs.declared.file_name.FileName.TheVariants.{Commit, Segment, Live}
use Rattle.outer_io.specs.Files.{Files}
use Rattle.live_bits.specs.LiveSet.{live_set_without}
use Rattle.documents.proofs.Lists.{of_map}
use Rattle.page_cache.specs.declared.faults.PageFault.{PageFault}
use Rattle.page_cache.specs.Evidence.{OnDamage}
use Rattle.segment_file.specs.Heads.{Head}
use Rattle.segment_view.specs.LiveSegments.{LiveSegment, cleared_parts, live_segment}
use Rattle.file_names.specs.Names.{NameList, is_named}
use Rattle.segment_set.specs.Sets.{IsNamed, IsWell, SetData, set_but}
use Rattle.segment_set.specs.Damages.{IsEvidentIn, IsOfParts}
use Rattle.segment_set.specs.Effects.{Rewrites}
use Rattle.segment_set.specs.Losing.{KeepsCounts}
use Rattle.segment_set.specs.Kept.{AreCanonical, Follows, IsSubset, KeepsNamed, StaysAlone, StaysButCache}
use Rattle.index_opening.specs.Evidence.{CrowdsPart, HoldsWhole, InSegment, IsCrowdedIn, IsEvident, IsEvidentOf, IsExcess, IsOfEntries, IsOfPart}
use Rattle.index_opening.specs.Evidence.{IsTwice, MayBeNeeded}
use Rattle.segment_set.specs.Faithful.{IsFaithful}
use Rattle.segment_set.proofs.Carried.{canon_file, within_cleared, within_itself}
use Rattle.segment_set.proofs.Covered.{part_after}
use Rattle.segment_set.proofs.Counts.{counts_but}
use Rattle.segment_set.proofs.Crowds.{crowd_before, none_crowded}
use Rattle.segment_set.proofs.WholeFiles.{canonical_whole}
use Rattle.index_opening.proofs.Evident.{on_evident_by, on_evident_named}
use Rattle.index_core.specs.Sessions.{AreTraced, GuardsSet, IsListedWith, IsSetTraced, IsTraced, SessionData, Trusts}
use Rattle.index_core.proofs.Accounting.{accounted_after, excess_stays, parts_entries}
use Rattle.index_core.specs.Effects.{BringsCanonical, IsOfBefore}
use Rattle.index_core.proofs.Bringing.{brings_written}
use Rattle.index_core.proofs.Guarding.{moved_says, names_listed}

-- ---- a crowd

-- by a segment that the commit lists, with at least what is live in it now
listed_twice : (D : ℕ) (files : Files) (p : LiveSegment) (doc : ℕ) → IsListedWith D files p → CrowdsPart D files p doc → IsTwice files doc
listed_twice D files p doc l crowd = InSegment l.commit l.says l.listed l.there (live_segment p.head l.covers.live) (sym l.is) l.covers.file
    (subst (λ n. CrowdsPart n files (live_segment p.head l.covers.live) doc) (sym l.dims)
    (crowd_before D files p (live_segment p.head l.covers.live) doc refl l.covers.covers crowd))

-- no other segment has one
pub crowded_listed : (D : ℕ) (files : Files) (parts : List LiveSegment) (doc : ℕ) → AreTraced D files parts → IsCrowdedIn D files parts doc → IsTwice files doc
crowded_listed D files parts doc traced (p, there, crowd) =
    ⊎_elim (λ l. listed_twice D files p doc l crowd) (λ canonical. absurd (none_crowded D files p doc canonical crowd)) (traced p there)

-- a segment that is traced is one that the commit lists, or whole
needed_traced : (D : ℕ) (files : Files) (parts : List LiveSegment) (file : FileName) → AreTraced D files parts → IsOfPart parts file
    → ∥ MayBeNeeded (λ _. ⊥) files file ∥₁
needed_traced D files parts file traced (p, there, is) = ⊎_elim
    (λ (l : IsListedWith D files p). merely (inl (inr (record {
      commit = l.commit;
      says = l.says;
      listed = l.listed;
      there = l.there;
      is = inl (is ∙ ap (λ (n : ℕ). Segment n) (sym l.is));
    }))))
    (λ canonical. ∥∥₁_map (canonical_whole D files p.head canonical) (λ w. inr (inl (subst (HoldsWhole files) (sym is) w))))
    (traced p there)

-- so a damage that a search of a session's segments shows is evident
pub parts_shows : {X : Type 0} (D : ℕ) (told : Type 0) (f g : Files) (s : SessionData) (r : Result X PageFault) → (told → g ≡ f)
    → OnDamage r (IsEvidentOf s.set.parts (told × IsFaithful D f s.set) g) → OnDamage r (IsEvident (told × Trusts D f s) g)
parts_shows D told f g s r same = on_evident_named (IsOfPart s.set.parts) (λ _. ⊥) (IsOfEntries g) (told × IsFaithful D f s.set) (told × Trusts D f s) g r
    (λ (is_told, trusts). (is_told, trusts.faithful))
    (λ (is_told, trusts) file of.
    needed_traced D g s.set.parts file (subst (λ (h : Files). AreTraced D h s.set.parts) (sym (same is_told)) trusts.traced.parts) of)

-- the damage is evident of a merge of segments of the set
abbrev pub OnMerge : {X : Type 0} (D : ℕ) (told : Type 0) (f g : Files) → SetData → Result X PageFault → Type 0
OnMerge D told f g s r = OnDamage r (IsEvidentIn D f s.parts (length s.buffer) s.points_given (told × IsFaithful D f s) g)

-- a damage that is evident by the set's segments of before is so by those that the commit lists
pub crowd_shows : {X : Type 0} (D : ℕ) (told : Type 0) (f g : Files) (s : SessionData) (r : Result X PageFault)
    → (told → Trusts D f s → AreTraced D g s.set.parts)
    → (told → Trusts D f s → (said found : ℕ) → IsExcess f said found → IsExcess g said found)
    → OnMerge D told f g s.set r → OnDamage r (IsEvident (told × Trusts D f s) g)
crowd_shows D told f g s r traced stays = on_evident_by (IsOfPart s.set.parts) (λ _. ⊥)
    (IsOfParts D f g s.set.parts (length s.set.buffer) s.set.points_given) (IsOfEntries g) (told × IsFaithful D f s.set) (told × Trusts D f s) g r
    (λ (is_told, trusts). (is_told, trusts.faithful))
    (λ (is_told, trusts) file of. needed_traced D g s.set.parts file (traced is_told trusts) of)
    (λ (is_told, trusts) d shown. parts_entries D f g s.set trusts.traced.entries (stays is_told trusts)
    (λ doc crowd. crowded_listed D g s.set.parts doc (traced is_told trusts) crowd) d shown)

-- ---- through calls on the set

-- the commit, its file of live bits and the head stay, and no more is live
pub listed_after : (D : ℕ) (f g : Files) (p q : LiveSegment) → g Commit ≡ f Commit → p.head ≡ q.head → IsSubset p.live q.live → (h : IsListedWith D f q)
    → g (Live h.listed.segment h.listed.generation) ≡ f (Live h.listed.segment h.listed.generation) → IsListedWith D g p
listed_after D f g p q same head within h live = record {
  commit = h.commit;
  says = moved_says f g h.commit same h.says;
  dims = h.dims;
  listed = h.listed;
  there = h.there;
  is = h.is ∙ ap (λ (x : Head). x.id) (sym head);
  covers = part_after f g h.listed p q live head within h.covers;
}

-- a segment that the commit lists is named, and so is its file of live bits
segment_named : (D : ℕ) (f : Files) (s : SetData) (p : LiveSegment) → GuardsSet D f s → IsListedWith D f p → is_named s.names.names (Segment p.head.id) ≡ true
segment_named D f s p guards h =
    subst (λ n. is_named s.names.names (Segment n) ≡ true) h.is (names_listed D f s h.commit guards h.says (Segment h.listed.segment) (h.listed, h.there, refl))

live_stays : (D : ℕ) (told : Type 0) (f g : Files) (s : SetData) (names : NameList) (p : LiveSegment) → told → KeepsNamed told s.names names f g
    → GuardsSet D f s
    → (h : IsListedWith D f p)
    → g (Live h.listed.segment h.listed.generation) ≡ f (Live h.listed.segment h.listed.generation)
live_stays D told f g s names p is_told keeps guards h =
    keeps.files is_told (Live h.listed.segment h.listed.generation)
    (names_listed D f s h.commit guards h.says (Live h.listed.segment h.listed.generation) (h.listed, h.there, refl, refl))

-- the segments of before, in the files of now
pub traced_before : (D : ℕ) (told : Type 0) (f g : Files) (s : SetData) (names : NameList) → told → KeepsNamed told s.names names f g → GuardsSet D f s
    → All (IsNamed s.names) s.parts
    → AreTraced D f s.parts → AreTraced D g s.parts
traced_before D told f g s names is_told keeps guards named traced p there = ⊎_elim
    (λ h. inl (listed_after D f g p p (keeps.commit is_told) refl (within_itself p.live) h (live_stays D told f g s names p is_told keeps guards h)))
    (λ canonical.
    inr (canon_file D f g p.head p.head refl (keeps.files is_told (Segment p.head.id) (All-contains (IsNamed s.names) s.parts p named there)) canonical))
    (traced p there)

-- the segments of now are traced where those of before were
pub traced_after : (D : ℕ) (told : Type 0) (f g : Files) (s t : SetData) → told → KeepsNamed told s.names t.names f g → Follows s.names s.parts t.parts
    → BringsCanonical D f g s.parts t.parts → GuardsSet D f s
    → AreTraced D f s.parts → AreTraced D g t.parts
traced_after D told f g s t is_told keeps follows brings guards traced p there = ⊎_elim
    (λ (o : IsOfBefore f g s.parts p). ⊎_elim
    (λ fresh. ⊎_elim
    (λ h. absurd (both_ways (is_named s.names.names (Segment p.head.id)) fresh
    (subst (λ (x : Head). is_named s.names.names (Segment x.id) ≡ true) o.head (segment_named D f s o.part guards h))))
    (λ canonical.
    inr (canon_file D f g o.part.head p.head (sym o.head) (subst (λ (x : Head). g (Segment x.id) ≡ f (Segment x.id)) (sym o.head) o.file) canonical))
    (traced o.part o.was))
    (λ (q, here, head, within). ⊎_elim
    (λ h. inl (listed_after D f g p q (keeps.commit is_told) head within h (live_stays D told f g s t.names q is_told keeps guards h)))
    (λ canonical. inr (canon_file D f g q.head p.head head (subst (λ (x : Head). g (Segment x.id) ≡ f (Segment x.id)) head o.file) canonical))
    (traced q here))
    (follows.each p there))
    inr
    (brings p there)

-- an excess of the commit is so through a call that keeps what is named
pub excess_kept : (D : ℕ) (told : Type 0) (f g : Files) (s : SetData) (names : NameList) → told → KeepsNamed told s.names names f g → GuardsSet D f s
    → (said found : ℕ) → IsExcess f said found → IsExcess g said found
excess_kept D told f g s names is_told keeps guards =
    excess_stays f g (keeps.commit is_told) (λ c says m lists. keeps.files is_told m (names_listed D f s c guards says m lists))

-- of a session, by what the call on its set says
pub traced_by : (D : ℕ) (told : Type 0) (f g : Files) (s : SessionData) (t : SetData) → told → KeepsNamed told s.set.names t.names f g
    → Follows s.set.names s.set.parts t.parts → AreCanonical D g s.set.names t.parts → s.set.points_given ≤ t.points_given
    → (IsFaithful D f s.set → KeepsCounts D f g s.set t) → Trusts D f s → IsSetTraced D g t
traced_by D told f g s t is_told keeps follows canon grows counts trusts = record {
  parts = traced_after D told f g s.set t is_told keeps follows
      (brings_written D told f g s.set.names t.names s.set.parts t.parts is_told keeps follows canon) trusts.guards.set trusts.traced.parts;
  entries = accounted_after D f g s.set t (excess_kept D told f g s.set t.names is_told keeps trusts.guards.set) grows (counts trusts.faithful)
      trusts.traced.entries;
}

-- and so of the session that the code opened, whose set was written anew
pub traced_written_by : (D : ℕ) (told : Type 0) (f g : Files) (s u : SessionData) (t : SetData) → u ≡ s → told → Rewrites D told f g u.set t
    → StaysAlone u.set t → IsWell D s.set → Trusts D f s → IsSetTraced D g t
traced_written_by D told f g s u t opened is_told rewrites stays well trusts =
    traced_by D told f g u t is_told rewrites.kept rewrites.follows (rewrites.canon is_told) (omega (arith, stays.points_given))
    (rewrites.counts is_told (subst (λ (v : SessionData). IsWell D v.set) (sym opened) well)) (subst (Trusts D f) (sym opened) trusts)

-- a damage of a call that may merge
pub traced_shows : {X : Type 0} (D : ℕ) (told : Type 0) (f g : Files) (s : SessionData) (names : NameList) (r : Result X PageFault)
    → KeepsNamed told s.set.names names f g → All (IsNamed s.set.names) s.set.parts
    → OnMerge D told f g s.set r → OnDamage r (IsEvident (told × Trusts D f s) g)
traced_shows D told f g s names r keeps named = crowd_shows D told f g s r
    (λ is_told trusts. traced_before D told f g s.set names is_told keeps trusts.guards.set named trusts.traced.parts)
    (λ is_told trusts. excess_kept D told f g s.set names is_told keeps trusts.guards.set)

-- of the session that the code opened
pub opened_shows : {X : Type 0} (D : ℕ) (told : Type 0) (f g : Files) (s u : SessionData) (names : NameList) (r : Result X PageFault) → u ≡ s
    → KeepsNamed told u.set.names names f g → All (IsNamed s.set.names) s.set.parts
    → OnMerge D told f g u.set r → OnDamage r (IsEvident (told × Trusts D f s) g)
opened_shows D told f g s u names r opened keeps named evident = subst (λ (v : SessionData). OnDamage r (IsEvident (told × Trusts D f v) g)) opened
    (traced_shows D told f g u names r keeps (subst (λ (v : SessionData). All (IsNamed v.set.names) v.set.parts) (sym opened) named) evident)

-- and of one that changes no file
pub calm_shows : {X : Type 0} (D : ℕ) (told : Type 0) (f g : Files) (s : SessionData) (r : Result X PageFault) → (told → g ≡ f)
    → OnMerge D told f g s.set r → OnDamage r (IsEvident (told × Trusts D f s) g)
calm_shows D told f g s r same = crowd_shows D told f g s r
    (λ is_told trusts. subst (λ (h : Files). AreTraced D h s.set.parts) (sym (same is_told)) trusts.traced.parts)
    (λ is_told trusts said found. subst (λ (h : Files). IsExcess h said found) (sym (same is_told)))

-- of a call that only read, which changed nothing but the kept pages
pub traced_read : (D : ℕ) (f g : Files) (s t : SetData) → StaysButCache s t → g ≡ f → IsSetTraced D f s → IsSetTraced D g t
traced_read D f g s t rest same traced = subst (λ (h : Files). IsSetTraced D h t) (sym same)
    (subst (IsSetTraced D f) (sym rest.is) (record { parts = traced.parts; entries = traced.entries }))

-- the same segments without a number
parts_cleared : (D : ℕ) (files : Files) (number : ℕ) (s t : List LiveSegment) → t ≡ cleared_parts number s → AreTraced D files s → AreTraced D files t
parts_cleared D files number s t is traced p there =
    let r = of_map (λ (q : LiveSegment). record q { live = live_set_without number q.live }) s p (subst (λ (ps : List LiveSegment). Contains ps p) is there) in
    subst (IsTraced D files) r.2 (⊎_elim
    (λ h. inl (listed_after D files files (record r.0 { live = live_set_without number r.0.live }) r.0 refl refl (within_cleared number r.0.live) h refl))
    inr
    (traced r.0 r.1))

pub traced_cleared : (D : ℕ) (files : Files) (number : ℕ) (s t : SetData) → t ≡ set_but number s → IsSetTraced D files s → IsSetTraced D files t
traced_cleared D files number s t is traced = record {
  parts = parts_cleared D files number s.parts t.parts (ap (λ (u : SetData). u.parts) is) traced.parts;
  entries = accounted_after D files files s t (λ said found e. e) (omega (arith, ap (λ (u : SetData). u.points_given) is))
      (subst (KeepsCounts D files files s) (sym is) (counts_but D files number s)) traced.entries;
}
