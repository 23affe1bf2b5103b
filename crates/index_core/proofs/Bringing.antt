-- Which segments calls bring: those of before, and canonical ones.
use Rattle.std.proofs.Common.{◌≡◌, ℕ, Bool, true, false, List, refl, sym, ap, subst, ◌∙◌, ◌⊎◌, inl, inr, ⊎_elim}
use Rattle.std.specs.List.{All, Contains}
use Rattle.std.proofs.lemmas.Bool.{both_ways}
use Rattle.std.proofs.lemmas.List.Elements.{All-contains}
use Rattle.outer_io.specs.declared.file_name.FileName.TheVariants.{Commit, CommitNew, Segment}
use Rattle.outer_io.specs.Files.{Files, SameButTwo, bytes_of}
use Rattle.documents.proofs.Lists.{in_map, of_map}
use Rattle.live_bits.specs.LiveSet.{live_set_without}
use Rattle.index_model.specs.State.{Index}
use Rattle.segment_file.specs.Heads.{Head}
use Rattle.segment_file.specs.Segments.{IsHeadOf}
use Rattle.segment_file.proofs.Unique.{head_of_segment, one_head}
use Rattle.segment_view.specs.LiveSegments.{IsRead, LiveSegment, cleared_parts, ids_of}
use Rattle.file_names.specs.Names.{NameList, is_named}
use Rattle.segment_set.specs.Sets.{IsNamed, SetData}
use Rattle.segment_set.specs.Seen.{Sees}
use Rattle.segment_set.specs.Kept.{AreCanonical, Follows, HasCanonical, KeepsNamed}
use Rattle.segment_set.proofs.Carried.{canon_file, canon_named, keeps_calm}
use Rattle.index_core.specs.Effects.{BringsCanonical, IsOfBefore}
use Rattle.index_core.specs.Sessions.{SessionData}

-- the same segments, each with its file as it was
pub brings_still : (D : ℕ) (f g : Files) (s t : List LiveSegment) → ((p : LiveSegment) → Contains s p → g (Segment p.head.id) ≡ f (Segment p.head.id)) → t ≡ s
    → BringsCanonical D f g s t
brings_still D f g s t files same p there =
    let was = subst (λ (ps : List LiveSegment). Contains ps p) same there in
    inl (record { part = p; was = was; head = refl; file = files p was })

pub brings_same : (D : ℕ) (f g : Files) (s t : List LiveSegment) → g ≡ f → t ≡ s → BringsCanonical D f g s t
brings_same D f g s t files same = brings_still D f g s t (λ p there. ap (λ (h : Files). h (Segment p.head.id)) files) same

-- where all files but the two of commits are as they were
pub brings_two : (D : ℕ) (f g : Files) (s t : List LiveSegment) → SameButTwo CommitNew Commit f g → t ≡ s → BringsCanonical D f g s t
brings_two D f g s t others same = brings_still D f g s t (λ p there. others (Segment p.head.id) (λ e. cc) (λ e. cc)) same

-- the same segments without a number
pub brings_cleared : (D : ℕ) (files : Files) (number : ℕ) (s t : List LiveSegment) → t ≡ cleared_parts number s → BringsCanonical D files files s t
brings_cleared D files number s t is p there =
    let r = of_map (λ (q : LiveSegment). record q { live = live_set_without number q.live }) s p (subst (λ (ps : List LiveSegment). Contains ps p) is there) in
    inl (record { part = r.0; was = r.1; head = ap (λ (q : LiveSegment). q.head) r.2; file = refl })

-- a call on the set that writes segments under new names alone
pub brings_written : (D : ℕ) (told : Type 0) (f g : Files) (m n : NameList) (s t : List LiveSegment) → told → KeepsNamed told m n f g → Follows m s t
    → AreCanonical D g m t → BringsCanonical D f g s t
brings_written D told f g m n s t is_told keeps follows canon p there = by (is_named m.names (Segment p.head.id)) refl
  where
    by : (b : Bool) → is_named m.names (Segment p.head.id) ≡ b → IsOfBefore f g s p ⊎ HasCanonical D g p.head
    by false fresh = inr (canon p there fresh).canon
    by true named = ⊎_elim
        (λ fresh. absurd (both_ways (is_named m.names (Segment p.head.id)) fresh named))
        (λ (q, here, head, within). inl (record { part = q; was = here; head = sym head; file = keeps.files is_told (Segment p.head.id) named }))
        (follows.each p there)

-- of the session that the code opened
pub brings_opened : (D : ℕ) (told : Type 0) (f g : Files) (s u : SessionData) (t : SetData) → u ≡ s → told → KeepsNamed told u.set.names t.names f g
    → Follows u.set.names u.set.parts t.parts → AreCanonical D g u.set.names t.parts → BringsCanonical D f g s.set.parts t.parts
brings_opened D told f g s u t opened is_told keeps follows canon = subst (λ (v : SessionData). BringsCanonical D f g v.set.parts t.parts) opened
    (brings_written D told f g u.set.names t.names u.set.parts t.parts is_told keeps follows canon)

-- one that gives no name
pub brings_named : (D : ℕ) (told : Type 0) (f g : Files) (m n : NameList) (s t : List LiveSegment) → told → (told → g ≡ f) → n ≡ m → Follows m s t
    → All (IsNamed n) t
    → BringsCanonical D f g s t
brings_named D told f g m n s t is_told files names follows named =
    brings_written D told f g m n s t is_told (keeps_calm told m n f g names files) follows
    (canon_named D g m t (subst (λ (l : NameList). All (IsNamed l) t) names named))

-- what two calls bring in turn, they bring together
pub brings_then : (D : ℕ) (f g h : Files) (s t u : List LiveSegment) → BringsCanonical D f g s t → BringsCanonical D g h t u → BringsCanonical D f h s u
brings_then D f g h s t u first second p there = ⊎_elim (λ r. through r) inr (second p there)
  where
    through : IsOfBefore g h t p → IsOfBefore f h s p ⊎ HasCanonical D h p.head
    through r = ⊎_elim
        (λ (o : IsOfBefore f g s r.part). inl (record {
          part = o.part;
          was = o.was;
          head = o.head ∙ r.head;
          file = r.file ∙ subst (λ (x : Head). g (Segment x.id) ≡ f (Segment x.id)) r.head o.file;
        }))
        (λ canon. inr (canon_file D g h r.part.head p.head (sym r.head) (subst (λ (x : Head). h (Segment x.id) ≡ g (Segment x.id)) (sym r.head) r.file) canon))
        (first r.part r.was)

-- sets that stand over the same files have the same head of each id
pub brings_anew : (D : ℕ) (files : Files) (s t : SetData) (i j : Index) → Sees D files s i → Sees D files t j → ids_of t.parts ≡ ids_of s.parts
    → BringsCanonical D files files s.parts t.parts
brings_anew D files s t i j old new ids p there = inl (record {
  part = r.0;
  was = r.1;
  head = one_head D (bytes_of (files (Segment p.head.id))) r.0.head p.head r.2
      (subst (λ n. IsHeadOf D (bytes_of (files (Segment n))) r.0.head) r.2
      (head_of_segment D _ r.0.head _ (All-contains (IsRead D files old.contents) s.parts r.0 old.stands.now r.1).held))
      (head_of_segment D _ p.head _ (All-contains (IsRead D files new.contents) t.parts p new.stands.now there).held);
  file = refl;
})
  where
    r : (q : LiveSegment) × Contains s.parts q × (q.head.id ≡ p.head.id)
    r = of_map (λ (q : LiveSegment). q.head.id) s.parts p.head.id
        (subst (λ (ns : List ℕ). Contains ns p.head.id) ids (in_map (λ (q : LiveSegment). q.head.id) t.parts p there))
