-- Entries that were added at once, of the set as the code has it: `was` is the one that was opened.
use Rattle.std.proofs.Common.{◌≡◌, ℕ, ◌+◌, ◌≤◌, ◌<◌, ◌^◌, ℤ, List, length}
use Rattle.std.proofs.Common.{◌⊎◌, ⊎_elim, refl, sym, ap, subst, ◌∙◌, arith}
use Rattle.std.proofs.lemmas.List.{length-map}
use Rattle.std.proofs.lemmas.List.Elements.{All-contains}
use Rattle.outer_io.specs.Files.{Files}
use Rattle.outer_io.specs.declared.file_name.FileName.TheVariants.{Segment}
use Rattle.point_codec.specs.Points.{Item}
use Rattle.point_codec.specs.Seen.{items_of}
use Rattle.point_codec.specs.declared.entries.Entry.{Entry}
use Rattle.page_cache.proofs.Agreement.{agrees_other}
use Rattle.segment_view.specs.LiveSegments.{LiveSegment}
use Rattle.file_names.specs.Names.{NameList}
use Rattle.segment_set.specs.Sets.{IsNamed, IsWell, SetData}
use Rattle.segment_set.specs.Kept.{IsAsBefore, KeepsNamed, StaysAlone}
use Rattle.segment_set.specs.Merges.{IsBufferWritten}
use Rattle.segment_set.specs.AtOnce.{AreNumbered, WritesEntries, points_in}
use Rattle.segment_set.specs.Settles.{SetMoment, moment}
use Rattle.segment_set.specs.Effects.{AddsAlone, Rewrites}
use Rattle.segment_set.specs.Merged.{Rearranges}
use Rattle.segment_set.specs.Faithful.{IsFaithful}
use Rattle.segment_set.proofs.Counts.{counts_then}
use Rattle.segment_set.proofs.Faithful.{faithful_rearranged}
use Rattle.segment_set.proofs.Fresh.{items_length}
use Rattle.segment_set.proofs.Lossless.{lossless_then}
use Rattle.segment_set.proofs.Rearranged.{rearranges_after}
use Rattle.segment_set.proofs.Steps.{IsAfter}
use Rattle.segment_set.proofs.Carried.{canon_then, follows_then, keeps_then}
use Rattle.segment_set.proofs.Shows.{rewrites_of}
use Rattle.segment_set.proofs.WrittenBuffer.{refused_after}
use Rattle.segment_set.proofs.Loaded.{AreWaiting, IsLoaded, items_numbered, loaded_after, waiting_loaded}

-- what a write of the entries leaves, where it is done
pub loaded_as : {D : ℕ} (told : Type 0) (files new_files : Files) (es : List (Entry D)) (was s : SetData) → was ≡ s → IsWell D was → length s.parts < 200
    → AreNumbered s.next es → s.points_given + length es ≤ 2 ^ 24 → (names : NameList) (parts : List LiveSegment) (next : ℕ) → next ≡ was.next + length es
    → KeepsNamed told was.names names files new_files
    → IsBufferWritten D told was.leaf_size was.names names new_files (items_of es) was.parts parts
    → IsLoaded D told files new_files (points_in es) s
    (record was { names = names; parts = parts; next = next; points_given = was.points_given + length es })
loaded_as {D} told files new_files es was s view well few numbered given names parts next is kept written =
    subst (λ (u : SetData). IsLoaded D told files new_files points u (record was {
      names = names;
      parts = parts;
      next = next;
      points_given = was.points_given + length es;
    })) view
    (subst (λ (n : ℕ × ℕ). IsLoaded D told files new_files points was (record was { names = names; parts = parts; next = n.0; points_given = n.1 })) same
    (loaded_after D told files new_files points was well names parts (subst (λ (u : SetData). length u.parts < 200) (sym view) few) fits kept
    (subst (λ (xs : List Item). IsBufferWritten D told was.leaf_size was.names names new_files xs was.parts parts) (items_numbered was.next es numbers)
    written)))
  where
    points : List (List ℤ)
    points = points_in es

    long : length points ≡ length es
    long = length-map es (λ (e : Entry D). e.point.c)

    same : ◌≡◌ {A = ℕ × ℕ} (was.next + length points, was.points_given + length points) (next, was.points_given + length es)
    same = λ i. (both i, ap (λ n. was.points_given + n) long i)
      where
        both : was.next + length points ≡ next
        both = omega (arith, long, is)

    fits : was.points_given + length points ≤ 2 ^ 24
    fits = omega (arith, given, long, ap (λ (u : SetData). u.points_given) view)

    numbers : AreNumbered was.next es
    numbers = subst (λ (u : SetData). AreNumbered u.next es) (sym view) numbered

-- and what the segment is built of
pub waiting_as : {D : ℕ} (es : List (Entry D)) (was s : SetData) → was ≡ s → IsWell D was → AreNumbered s.next es → s.points_given + length es ≤ 2 ^ 24
    → AreWaiting (items_of es)
waiting_as {D} es was s view well numbered given =
    subst AreWaiting (sym (items_numbered was.next es (subst (λ (u : SetData). AreNumbered u.next es) (sym view) numbered)))
    (waiting_loaded D (points_in es) was
    (omega (arith, given, length-map es (λ (e : Entry D). e.point.c), ap (λ (u : SetData). u.points_given) view)) well)

-- a refusal leaves the set, but that files may have been named
pub unloaded_as : {D : ℕ} (told : Type 0) (files new_files : Files) (was s : SetData) → was ≡ s → IsWell D was → (names : NameList) (parts : List LiveSegment)
    → parts ≡ was.parts → KeepsNamed told was.names names files new_files
    → IsAfter D told files new_files s (record was { names = names; parts = parts })
unloaded_as {D} told files new_files was s view well names parts same kept =
    subst (λ (u : SetData). IsAfter D told files new_files u (record was { names = names; parts = parts })) view
    (subst (λ (ps : List LiveSegment). IsAfter D told files new_files was (record was { names = names; parts = ps })) (sym same)
    (refused_after D told files new_files well names kept))

pub unloaded_writes : {D : ℕ} (told : Type 0) (files new_files : Files) (was s : SetData) → was ≡ s → IsWell D was → (names : NameList)
    (parts : List LiveSegment) → parts ≡ was.parts → KeepsNamed told was.names names files new_files
    → Rewrites D told files new_files s (record was { names = names; parts = parts })
unloaded_writes {D} told files new_files was s view well names parts same kept =
    subst (λ (u : SetData). Rewrites D told files new_files u (record was { names = names; parts = parts })) view
    (rewrites_of D told files new_files was (record was { names = names; parts = parts }) moves
    (λ t faithful. faithful_rearranged D told files new_files was (record was { names = names; parts = parts }) well moves t
    (agrees_other files new_files was.cache (λ id keeps. kept.files t (Segment id) (well.cached id keeps))) faithful))
  where
    moves : Rearranges D told files new_files was (record was { names = names; parts = parts })
    moves = rearranges_after D told files new_files {s = was} names parts was.buffer was.cache kept
        (unloaded_as told files new_files was was refl well names parts same kept)

-- ---- merges, and then the entries

pub rewrites_then : (D : ℕ) (told : Type 0) (f g h : Files) (a b c : SetData) → IsWell D b → Rearranges D told f g a b
    → (told → IsFaithful D f a → IsFaithful D g b) → Rewrites D told g h b c → Rewrites D told f h a c
rewrites_then D told f g h a b c well first stays second = record {
  kept = keeps_then told a.names b.names c.names f g h first.kept second.kept;
  follows = follows_then a.names b.names a.parts b.parts c.parts first.kept.more first.follows second.follows;
  canon = λ t.
      canon_then D told a.names b.names c.names g h b.parts c.parts t second.kept first.kept.more well.named (first.canon t) second.follows (second.canon t);
  faithful = λ t faithful. second.faithful t (stays t faithful);
  loses = λ t before faithful. lossless_then D f g a.names a b c
      (λ p there. first.kept.files t (Segment p.head.id) (All-contains (IsNamed a.names) a.parts p before.named there)) first.follows (first.canon t)
      (first.loses t before faithful.heads) (second.loses t well (stays t faithful));
  counts = λ t before faithful. counts_then D f g h a b c (first.counts t before faithful.heads) (second.counts t well (stays t faithful));
}

-- of the set before the merges
pub given_written : {D : ℕ} {told : Type 0} (es : List (Entry D)) (s : SetData) (mid new : SetMoment) → mid.set.next ≡ s.next
    → mid.set.points_given ≡ s.points_given → WritesEntries D told (items_of es) mid new
    → (new.set.next ≡ s.next + length es) × (new.set.points_given ≡ s.points_given + length es)
given_written es s mid new next given w =
    let long = items_length es in (
      omega (arith, ap (λ (u : SetData). u.next) w.rest, long, next),
      omega (arith, ap (λ (u : SetData). u.points_given) w.rest, long, given),
    )

pub stays_before : (s t : SetData) → IsAsBefore s t → StaysAlone s t
stays_before s t before = subst (StaysAlone s) (sym before.is)
    (record { leaf_size = refl; next = refl; points_given = refl; snapshots = refl; begun = refl; live = λ number live. live })

pub alone_written : {D : ℕ} {told : Type 0} (items : List Item) (s : SetData) (mid new : SetMoment) → AddsAlone s mid.set
    → WritesEntries D told items mid new ⊎ IsAsBefore mid.set new.set → AddsAlone s new.set
alone_written {D = D} {told = told} items s mid new alone how = record {
  saved = kept (λ (u : SetData). u.saved) (λ w. ap (λ (u : SetData). u.saved) w.rest) (λ b. ap (λ (u : SetData). u.saved) b.is) ∙ alone.saved;
  begun = kept (λ (u : SetData). u.begun) (λ w. ap (λ (u : SetData). u.begun) w.rest) (λ b. ap (λ (u : SetData). u.begun) b.is) ∙ alone.begun;
  snapshots = kept (λ (u : SetData). u.snapshots) (λ w. ap (λ (u : SetData). u.snapshots) w.rest) (λ b. ap (λ (u : SetData). u.snapshots) b.is)
      ∙ alone.snapshots;
  leaf_size = kept (λ (u : SetData). u.leaf_size) (λ w. ap (λ (u : SetData). u.leaf_size) w.rest) (λ b. ap (λ (u : SetData). u.leaf_size) b.is)
      ∙ alone.leaf_size;
}
  where
    kept : {X : Type 0} (f : SetData → X) → (WritesEntries D told items mid new → f new.set ≡ f mid.set) → (IsAsBefore mid.set new.set → f new.set ≡ f mid.set)
        → f new.set ≡ f mid.set
    kept f written before = ⊎_elim written before how

-- the entries as the code has them: what the call writes is a segment of them
pub writes_as : {D : ℕ} (told : Type 0) (files new_files : Files) (es : List (Entry D)) (was s : SetData) → was ≡ s → (names : NameList)
    (parts : List LiveSegment) (next : ℕ) (buffer : List Item) → next ≡ was.next + length es → buffer ≡ was.buffer
    → IsBufferWritten D told was.leaf_size was.names names new_files (items_of es) was.parts parts
    → WritesEntries D told (items_of es) (moment files s)
    (moment new_files (record was { names = names; parts = parts; next = next; points_given = was.points_given + length es; buffer = buffer }))
writes_as {D} told files new_files es was s view names parts next buffer is waits written =
    subst (λ (u : SetData). WritesEntries D told (items_of es) (moment files u)
    (moment new_files (record was { names = names; parts = parts; next = next; points_given = was.points_given + length es; buffer = buffer }))) view
    (record { written = written; rest = λ i. record was { names = names; parts = parts; next = nexts i; points_given = given i; buffer = waits i } })
  where
    nexts : next ≡ was.next + length (items_of es)
    nexts = is ∙ ap (λ n. was.next + n) (sym (items_length es))

    given : was.points_given + length es ≡ was.points_given + length (items_of es)
    given = ap (λ n. was.points_given + n) (sym (items_length es))
