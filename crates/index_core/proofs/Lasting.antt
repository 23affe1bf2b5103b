-- No document goes that a call doesn't take out.
use Rattle.std.proofs.Common.{◌≡◌, ℕ, Bool, true, false, not, ◌&&◌, cond, eqb, List, Result, Ok, Err, OnErr, refl, sym, ap, subst, ◌∙◌, ◌⊎◌, inl, inr, ⊎_elim}
use Rattle.std.specs.List.{Contains}
use Rattle.std.proofs.lemmas.Bool.{eqb-true}
use Rattle.std.proofs.lemmas.List.Elements.{All-contains}
use Rattle.outer_io.specs.declared.file_name.FileName.TheVariants.{Commit, CommitNew, Segment}
use Rattle.outer_io.specs.Files.{Files, SameButTwo}
use Rattle.point_codec.specs.Points.{Item}
use Rattle.page_cache.specs.declared.faults.PageFault.{PageFault}
use Rattle.live_bits.specs.LiveSet.{live_set_without}
use Rattle.documents.specs.Entries.{has_entry}
use Rattle.documents.proofs.Lists.{of_map}
use Rattle.index_model.specs.declared.session.Applied.{Applied}
use Rattle.index_model.specs.declared.session.Applied.TheVariants as applied
use Rattle.segment_file.specs.Heads.{Head}
use Rattle.segment_view.specs.LiveSegments.{LiveSegment, has_live}
use Rattle.segment_set.specs.Sets.{IsNamed, IsWell, NamedView, SetData, is_live_in, set_but}
use Rattle.segment_set.specs.Kept.{AreCanonical, FindsLive, Follows, IsSubset, KeepsNamed, StaysButCache, StaysButFiles}
use Rattle.segment_set.specs.Losing.{HasNoEntry, IsLossless}
use Rattle.segment_set.specs.Faithful.{IsFaithful}
use Rattle.segment_set.specs.Merged.{Rearranges}
use Rattle.segment_set.specs.Effects.{Rewrites}
use Rattle.segment_set.proofs.Carried.{finds_file, within_cleared, within_itself}
use Rattle.segment_set.proofs.Well.{live_but}
use Rattle.index_core.specs.Sessions.{IsStill, SessionData}
use Rattle.index_core.specs.Effects.{HasBegun, OnDone, OnRefused}
use Rattle.index_core.specs.Lasting.{Lasts, WasThere}

-- no number goes
abbrev pub NoneGoes : ℕ → Type 0
NoneGoes number = ⊥

-- ---- segments and buffer stay, with the files

module _ (D : ℕ) (Goes : ℕ → Type 0) (f g : Files) (s t : SetData) where
  pub lasts_like : t.parts ≡ s.parts → t.buffer ≡ s.buffer
      → ((p : LiveSegment) → Contains s.parts p → g (Segment p.head.id) ≡ f (Segment p.head.id)) → Lasts D Goes f g s t
  lasts_like parts buffer files = record {
    live = λ number live. inl (ap (λ (ps : List LiveSegment). cond (has_live number ps) true (has_entry number t.buffer)) parts
        ∙ ap (λ (es : List Item). cond (has_live number s.parts) true (has_entry number es)) buffer ∙ live);
    parts = λ p there.
        let was = subst (λ (ps : List LiveSegment). Contains ps p) parts there in
        inl (record { part = p; was = was; head = refl; within = within_itself p.live; file = files p was });
  }

  pub lasts_cache : StaysButCache s t → g ≡ f → Lasts D Goes f g s t
  lasts_cache stays same = lasts_like (ap (λ (u : SetData). u.parts) stays.is) (ap (λ (u : SetData). u.buffer) stays.is)
      (λ p there. ap (λ (h : Files). h (Segment p.head.id)) same)

pub lasts_itself : (D : ℕ) (Goes : ℕ → Type 0) (f : Files) (s : SetData) → Lasts D Goes f f s s
lasts_itself D Goes f s = lasts_like D Goes f f s s refl refl (λ p there. refl)

pub lasts_still : (D : ℕ) (told : Type 0) (f g : Files) (s t : SessionData) → IsStill told f g s t → told → Lasts D NoneGoes f g s.set t.set
lasts_still D told f g s t still is_told = lasts_cache D NoneGoes f g s.set t.set still.set (still.files is_told)

-- of the session that the code opened
pub lasts_seen : (D : ℕ) (told : Type 0) (f g : Files) (s u : SessionData) (t : SetData) → u ≡ s
    → (told → IsFaithful D f u.set → Lasts D NoneGoes f g u.set t) → told → IsFaithful D f s.set → Lasts D NoneGoes f g s.set t
lasts_seen D told f g s u t same lasts = subst (λ (v : SessionData). told → IsFaithful D f v.set → Lasts D NoneGoes f g v.set t) same lasts

-- ---- what is written

module _ (D : ℕ) (told : Type 0) (f g : Files) (s t : SetData) where
  lasts_lossless : told → KeepsNamed told s.names t.names f g → Follows s.names s.parts t.parts → AreCanonical D g s.names t.parts → IsLossless D f s t
      → IsWell D s → Lasts D NoneGoes f g s t
  lasts_lossless is_told kept follows canon lossless well = record {
    live = λ number live. ⊎_elim inl (λ none. inr (inl none)) (lossless number live);
    parts = λ p there. ⊎_elim
        (λ fresh. inr (canon p there fresh).found)
        (λ (q, here, head, within). inl (record {
          part = q;
          was = here;
          head = head;
          within = within;
          file = kept.files is_told (Segment q.head.id) (All-contains (IsNamed s.names) s.parts q well.named here);
        }))
        (follows.each p there);
  }

  pub moves_last : IsWell D s → Rearranges D told f g s t → told → IsFaithful D f s → Lasts D NoneGoes f g s t
  moves_last well m is_told faithful = lasts_lossless is_told m.kept m.follows (m.canon is_told) (m.loses is_told well faithful.heads) well

  pub writes_last : IsWell D s → Rewrites D told f g s t → told → IsFaithful D f s → Lasts D NoneGoes f g s t
  writes_last well m is_told faithful = lasts_lossless is_told m.kept m.follows (m.canon is_told) (m.loses is_told well faithful) well

-- and then segments and buffer stay, with the files
pub lasts_then_like : (D : ℕ) (Goes : ℕ → Type 0) (f g h : Files) (s t u : SetData) → u.parts ≡ t.parts → u.buffer ≡ t.buffer
    → ((p : LiveSegment) → Contains t.parts p → h (Segment p.head.id) ≡ g (Segment p.head.id)) → Lasts D Goes f g s t → Lasts D Goes f h s u
lasts_then_like D Goes f g h s t u parts buffer files lasts = record {
  live = λ number live. ⊎_elim
      (λ here. inl (ap (λ (ps : List LiveSegment). cond (has_live number ps) true (has_entry number u.buffer)) parts
      ∙ ap (λ (es : List Item). cond (has_live number t.parts) true (has_entry number es)) buffer ∙ here))
      inr
      (lasts.live number live);
  parts = λ p there. through p (subst (λ (ps : List LiveSegment). Contains ps p) parts there);
}
  where
    through : (p : LiveSegment) → Contains t.parts p → WasThere f h s.parts p ⊎ FindsLive D h p
    through p there = ⊎_elim
        (λ (w : WasThere f g s.parts p). inl (record {
          part = w.part;
          was = w.was;
          head = w.head;
          within = w.within;
          file = subst (λ (x : Head). h (Segment x.id) ≡ g (Segment x.id)) w.head (files p there) ∙ w.file;
        }))
        (λ finds. inr (finds_file D g h p p refl (within_itself p.live) (files p there) finds))
        (lasts.parts p there)

-- ---- single requests

-- a document was deleted, or nothing changed
pub deletes_last : (D doc : ℕ) (f : Files) (s t : SetData) → t ≡ set_but doc s → Lasts D (λ number. number ≡ doc) f f s t
deletes_last D doc f s t is = subst (Lasts D (λ number. number ≡ doc) f f s) (sym is) (record {
  live = λ number live. by number live (eqb number doc) refl;
  parts = λ p there.
      let r = of_map (λ (q : LiveSegment). record q { live = live_set_without doc q.live }) s.parts p there in
      inl (record {
        part = r.0;
        was = r.1;
        head = sym (ap (λ (q : LiveSegment). q.head) r.2);
        within = subst (λ (q : LiveSegment). IsSubset q.live r.0.live) r.2 (within_cleared doc r.0.live);
        file = refl;
      });
})
  where
    by : (number : ℕ) → is_live_in s number ≡ true → (b : Bool) → eqb number doc ≡ b
        → (is_live_in (set_but doc s) number ≡ true) ⊎ (∥ HasNoEntry D f s.parts number ∥₁ ⊎ (number ≡ doc))
    by number live true e = inr (inr (eqb-true number doc e))
    by number live false e = inl (live_but doc number s ∙ ap (λ b. b && not (eqb number doc)) live ∙ ap not e)

-- snapshots come and go, or nothing changes
pub views_last : (D : ℕ) (f : Files) (s t : SessionData) (r : Result Applied PageFault) (views : List NamedView)
    → OnDone r (t.set ≡ record s.set { snapshots = views })
    → OnRefused r (IsStill (Unit {0}) f f s t) → OnErr r (t ≡ s) → Lasts D NoneGoes f f s.set t.set
views_last D f s t (Ok applied.Done) views done still same =
    lasts_like D NoneGoes f f s.set t.set (ap (λ (u : SetData). u.parts) done) (ap (λ (u : SetData). u.buffer) done) (λ p there. refl)
views_last D f s t (Ok (applied.Refused why)) views done still same = lasts_cache D NoneGoes f f s.set t.set still.set refl
views_last D f s t (Err fault) views done still same =
    subst (λ (u : SessionData). Lasts D NoneGoes f f s.set u.set) (sym same) (lasts_itself D NoneGoes f s.set)

-- a merge is begun, or nothing changes
pub begun_lasts : (D : ℕ) (told : Type 0) (f g : Files) (positions : List ℕ) (s t : SessionData) (r : Result Applied PageFault)
    → OnDone r (HasBegun D told f positions s.set t.set)
    → OnRefused r (IsStill told f g s t) → OnErr r (StaysButCache s.set t.set) → (told → g ≡ f) → told → Lasts D NoneGoes f g s.set t.set
begun_lasts D told f g positions s t (Ok applied.Done) begins still same files is_told =
    lasts_like D NoneGoes f g s.set t.set (ap (λ (u : SetData). u.parts) begins.rest.is) (ap (λ (u : SetData). u.buffer) begins.rest.is)
    (λ p there. ap (λ (h : Files). h (Segment p.head.id)) (files is_told))
begun_lasts D told f g positions s t (Ok (applied.Refused why)) begins still same files is_told = lasts_still D told f g s t still is_told
begun_lasts D told f g positions s t (Err fault) begins still same files is_told = lasts_cache D NoneGoes f g s.set t.set same (files is_told)

-- ---- a commit

module _ (D : ℕ) (told : Type 0) (old saved : Files) (s u : SessionData) (t : SetData) (opened : u ≡ s) (well : IsWell D s.set)
    (writes : Rewrites D told old saved u.set t) where
  pub loses_opened : told → IsFaithful D old u.set → IsLossless D old u.set t
  loses_opened is_told = writes.loses is_told (subst (λ (v : SessionData). IsWell D v.set) (sym opened) well)

  -- the set was saved
  pub saved_last : told → IsFaithful D old s.set → Lasts D NoneGoes old saved s.set t
  saved_last = lasts_seen D told old saved s u t opened
      (writes_last D told old saved u.set t (subst (λ (v : SessionData). IsWell D v.set) (sym opened) well) writes)

-- and the commit written
pub written_last : (D : ℕ) (told : Type 0) (old saved written : Files) (s u : SessionData) (t w : SetData) → u ≡ s → IsWell D s.set
    → Rewrites D told old saved u.set t → w ≡ t → (told → SameButTwo CommitNew Commit saved written) → told → IsFaithful D old s.set
    → Lasts D NoneGoes old written s.set w
written_last D told old saved written s u t w opened well writes same others is_told faithful =
    lasts_then_like D NoneGoes old saved written s.set t w (ap (λ (v : SetData). v.parts) same) (ap (λ (v : SetData). v.buffer) same)
    (λ p there. others is_told (Segment p.head.id) (λ e. cc) (λ e. cc)) (saved_last D told old saved s u t opened well writes is_told faithful)

-- and what nobody needs swept away
pub swept_last : (D : ℕ) (told : Type 0) (old written swept : Files) (s : SetData) (w v : SetData) (Known : Type 0) → StaysButFiles w v
    → (told → (p : LiveSegment) → Contains w.parts p → swept (Segment p.head.id) ≡ written (Segment p.head.id))
    → (told → Known → Lasts D NoneGoes old written s w) → told → Known → Lasts D NoneGoes old swept s v
swept_last D told old written swept s w v Known rest files lasts is_told known =
    lasts_then_like D NoneGoes old written swept s w v (ap (λ (x : SetData). x.parts) rest.is) (ap (λ (x : SetData). x.buffer) rest.is) (files is_told)
    (lasts is_told known)
