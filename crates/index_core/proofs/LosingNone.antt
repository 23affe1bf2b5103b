-- That no document goes says the same of calls one after another, and of what a folder's commit keeps live.
use Rattle.std.proofs.Common.{◌≡◌, ℕ, Bool, true, false, cond, List, Option, None, refl, sym, subst, ◌∙◌, ◌⊎◌, inl, inr, ⊎_elim}
use Rattle.std.proofs.Math.Logic.{∥∥₁_map}
use Rattle.std.specs.List.{Contains}
use Rattle.std.proofs.lemmas.Bool.{both_ways}
use Rattle.outer_io.specs.declared.file_name.FileName.TheVariants.{Commit, Live, Segment}
use Rattle.outer_io.specs.Files.{Files, bytes_of}
use Rattle.point_codec.specs.Points.{Item}
use Rattle.live_bits.specs.LiveSet.{is_live}
use Rattle.documents.specs.Entries.{has_entry}
use Rattle.segment_file.specs.Heads.{Head}
use Rattle.segment_file.specs.LiveFiles.{IsLiveFile}
use Rattle.segment_file.specs.Segments.{IsSegment}
use Rattle.segment_view.specs.LiveSegments.{LiveSegment, has_live}
use Rattle.stored_index.specs.Kept.{SameKept}
use Rattle.stored_index.proofs.KeptFiles.{kept_after, still_says}
use Rattle.segment_set.specs.Sets.{SetData, is_live_in}
use Rattle.segment_set.specs.Kept.{FindsLive, IsSubset}
use Rattle.segment_set.specs.Losing.{HasNoEntry}
use Rattle.segment_set.specs.Faithful.{IsFaithful}
use Rattle.segment_set.proofs.Carried.{finds_file}
use Rattle.segment_set.proofs.Needed.{any_found}
use Rattle.index_core.specs.Brought.{KeepsOwn}
use Rattle.index_core.specs.KeptLive.{FindsKept, IsKeptLive, KeepsLive, KeepsSet}
use Rattle.index_core.specs.Lasting.{Lasts, LosesNone, WasThere}
use Rattle.index_core.proofs.Guarding.{says_some}
use Rattle.index_core.proofs.Lasting.{NoneGoes, lasts_itself}
use Rattle.index_core.proofs.Undone.{kept_equal}

-- ---- one call after another

within_then : (a b c : LiveSegment) → IsSubset a.live b.live → IsSubset b.live c.live → IsSubset a.live c.live
within_then a b c first then = record {
  base = first.base ∙ then.base;
  span = first.span ∙ then.span;
  live = λ number live. then.live number (first.live number live);
}

-- what has no entry after a call had none before it
no_entry_back : (D : ℕ) (f g : Files) (parts : List LiveSegment) (p : LiveSegment) (number : ℕ) → is_live p.live number ≡ true → (items : List Item)
    → IsSegment D (bytes_of (g (Segment p.head.id))) p.head items → has_entry number items ≡ false
    → WasThere f g parts p ⊎ FindsLive D g p → HasNoEntry D f parts number
no_entry_back D f g parts p number live items held none (inl w) = record {
  part = w.part;
  there = w.was;
  live = w.within.live number live;
  items = items;
  held = subst (λ (b : Option (List ℕ)). IsSegment D (bytes_of b) w.part.head items) w.file
      (subst (λ (h : Head). IsSegment D (bytes_of (g (Segment h.id))) h items) w.head held);
  none = none;
}
no_entry_back D f g parts p number live items held none (inr finds) = absurd (both_ways (has_entry number items) none (finds number live items held))

module _ (D : ℕ) (Goes : ℕ → Type 0) (f g : Files) (s t : SetData) (lasts : Lasts D Goes f g s t) where
  pub no_entry_then : (number : ℕ) → HasNoEntry D g t.parts number → HasNoEntry D f s.parts number
  no_entry_then number h = no_entry_back D f g s.parts h.part number h.live h.items h.held h.none (lasts.parts h.part h.there)

  was_then : (Q : ℕ → Type 0) (h : Files) (u : SetData) → Lasts D Q g h t u → (p : LiveSegment) → Contains u.parts p
      → WasThere f h s.parts p ⊎ FindsLive D h p
  was_then Q h u then p there = ⊎_elim
      (λ (w : WasThere g h t.parts p). ⊎_elim
      (λ (v : WasThere f g s.parts w.part). inl (record {
        part = v.part;
        was = v.was;
        head = w.head ∙ v.head;
        within = within_then p w.part v.part w.within v.within;
        file = subst (λ (x : Head). h (Segment x.id) ≡ g (Segment x.id)) v.head w.file ∙ v.file;
      }))
      (λ finds. inr (finds_file D g h p w.part w.head w.within w.file finds))
      (lasts.parts w.part w.was))
      inr
      (then.parts p there)

  pub lasts_then : (Q G : ℕ → Type 0) (h : Files) (u : SetData) → ((number : ℕ) → Goes number → G number)
      → ((number : ℕ) → Q number → G number) → Lasts D Q g h t u → Lasts D G f h s u
  lasts_then Q G h u wide also then = record {
    live = λ number live. ⊎_elim
        (λ here. ⊎_elim inl
        (λ lost. inr (⊎_elim (λ none. inl (∥∥₁_map none (no_entry_then number))) (λ goes. inr (also number goes)) lost))
        (then.live number here))
        (λ lost. inr (⊎_elim inl (λ goes. inr (wide number goes)) lost))
        (lasts.live number live);
    parts = was_then Q h u then;
  }

-- ---- what is kept

pub live_alike : (f g : Files) (number : ℕ) → SameKept f g → IsKeptLive f number → IsKeptLive g number
live_alike f g number same h = record {
  commit = h.commit;
  says = still_says f g h.commit same h.says;
  listed = h.listed;
  there = h.there;
  live = h.live;
  file = subst (λ (b : Option (List ℕ)). IsLiveFile h.listed.segment h.listed.generation (bytes_of b) h.live)
      (sym (same.listed h.commit h.says (Live h.listed.segment h.listed.generation) (h.listed, h.there, refl, refl)))
      h.file;
  is = h.is;
}

-- of the commit in flight
pub own_keeps : (D : ℕ) (told : Type 0) (f g : Files) (s : SetData) → IsFaithful D f s → KeepsOwn D told f g s → KeepsSet D NoneGoes f g s
own_keeps D told f g s faithful (inl same) = inl same
own_keeps D told f g s faithful (inr (c, says, after)) = inr (λ number live. ⊎_elim
    (λ here.
    let found = any_found (λ (p : LiveSegment). is_live p.live number) after.flushed.set.parts (in_parts number here) in
    let listed = after.lives found.0 found.1 in
    inl (record {
      commit = c;
      says = says;
      listed = listed.listed;
      there = listed.there;
      live = found.0.live;
      file = listed.file;
      is = found.2;
    }))
    (λ none. inr (inl none))
    (after.loses faithful number live))
  where
    of_both : (b : Bool) → cond b true false ≡ true → b ≡ true
    of_both true e = refl
    of_both false e = e

    in_parts : (number : ℕ) → is_live_in after.flushed.set number ≡ true → has_live number after.flushed.set.parts ≡ true
    in_parts number here = of_both (has_live number after.flushed.set.parts)
        (subst (λ (items : List Item). cond (has_live number after.flushed.set.parts) true (has_entry number items) ≡ true) after.is.empty here)

-- one call after another
pub kept_then : (D : ℕ) (P Q G : ℕ → Type 0) (f g h : Files) (s t : SetData) → ((number : ℕ) → P number → G number)
    → ((number : ℕ) → Q number → G number) → Lasts D P f g s t → KeepsSet D P f g s → KeepsSet D Q g h t → KeepsSet D G f h s
kept_then D P Q G f g h s t wide also lasts (inl same) (inl still) = inl (kept_after f g h same still)
kept_then D P Q G f g h s t wide also lasts (inr has) (inl still) = inr (λ number live. ⊎_elim
    (λ kept. inl (live_alike g h number still kept))
    (λ lost. inr (⊎_elim inl (λ goes. inr (wide number goes)) lost))
    (has number live))
kept_then D P Q G f g h s t wide also lasts before (inr has) = inr (λ number live. ⊎_elim
    (λ here. ⊎_elim inl
    (λ lost. inr (⊎_elim (λ none. inl (∥∥₁_map none (no_entry_then D P f g s t lasts number))) (λ goes. inr (also number goes)) lost))
    (has number here))
    (λ lost. inr (⊎_elim inl (λ goes. inr (wide number goes)) lost))
    (lasts.live number live))

pub loses_then : (D : ℕ) (P Q G : ℕ → Type 0) (f g h : Files) (s t u : SetData) → ((number : ℕ) → P number → G number)
    → ((number : ℕ) → Q number → G number) → LosesNone D P f g s t → LosesNone D Q g h t u → LosesNone D G f h s u
loses_then D P Q G f g h s t u wide also first then = record {
  lasts = lasts_then D P f g s t first.lasts Q G h u wide also then.lasts;
  kept = kept_then D P Q G f g h s t wide also first.lasts first.kept then.kept;
}

pub loses_itself : (D : ℕ) (Goes : ℕ → Type 0) (f : Files) (s : SetData) → LosesNone D Goes f f s s
loses_itself D Goes f s = record { lasts = lasts_itself D Goes f s; kept = inl (kept_equal f f refl) }

-- ---- over the folder alone

-- of a session that found what is kept
pub found_keeps : (D : ℕ) (Goes : ℕ → Type 0) (f g : Files) (s : SetData) → FindsKept D f s → KeepsSet D Goes f g s → KeepsLive Goes f g
found_keeps D Goes f g s finds (inl same) number kept = inl (live_alike f g number same kept)
found_keeps D Goes f g s finds (inr has) number kept = ⊎_elim inl
    (λ lost. inr (⊎_elim (λ none. inl (∥∥₁_map none (finds.lost number))) inr lost))
    (has number (finds.live number kept))

pub keeps_same : (Goes : ℕ → Type 0) (f g : Files) → SameKept f g → KeepsLive Goes f g
keeps_same Goes f g same number kept = inl (live_alike f g number same kept)

-- a folder without a commit keeps nothing
pub keeps_none : (Goes : ℕ → Type 0) (f g : Files) → f Commit ≡ None → KeepsLive Goes f g
keeps_none Goes f g none number kept = absurd (says_some f kept.commit none kept.says)

pub keeps_wider : (P Q : ℕ → Type 0) (f g : Files) → ((number : ℕ) → P number → Q number) → KeepsLive P f g → KeepsLive Q f g
keeps_wider P Q f g wide keeps number kept = ⊎_elim inl (λ lost. inr (⊎_elim inl (λ goes. inr (wide number goes)) lost)) (keeps number kept)
