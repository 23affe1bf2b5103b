-- Merges of the policy, one after another, and a set that a fault left as it was.
use Rattle.std.proofs.Common.{◌≡◌, ℕ, List, [], ◌∷◌, ◌++◌, map, get_or, refl, subst, inl, ◌∙◌}
use Rattle.outer_io.specs.Files.{Files}
use Rattle.point_codec.specs.Points.{Item}
use Rattle.page_cache.specs.declared.cache.PageCache.{PageCache}
use Rattle.merge_policy.specs.Choice.{IsChoice}
use Rattle.segment_view.specs.LiveSegments.{LiveSegment, ids_of}
use Rattle.file_names.specs.Names.{NameList}
use Rattle.segment_set.specs.Sets.{SetData, pins_of, sizes_of}
use Rattle.segment_set.specs.Kept.{IsAsBefore, StaysButParts}
use Rattle.segment_set.specs.Merges.{IsMerged, IsBufferWritten}
use Rattle.segment_set.specs.Settles.{SetMoment, moment, MergesChoice, MergesChoices, Settles, WritesBuffer, Flushes, IsLeft}
use Rattle.segment_set.proofs.Moved.{moved}

-- ---- the set alone

pub before_itself : (s : SetData) → IsAsBefore s s
before_itself s = record { is = refl }

pub before_same : (s t : SetData) → t ≡ s → IsAsBefore s t
before_same s t same = subst (λ (u : SetData). IsAsBefore u t) same (before_itself t)

-- after a refusal the set is told by its fields
pub before_moved : (s was : SetData) → was ≡ s → (names : NameList) (parts : List LiveSegment) (buffer : List Item) (cache : PageCache) → parts ≡ was.parts
    → buffer ≡ was.buffer
    → IsAsBefore s (moved was names parts buffer was.begun cache)
before_moved s was view names parts buffer cache p b =
    subst (λ (u : SetData). IsAsBefore u (moved was names parts buffer was.begun cache)) view (record { is = λ i. moved was names (p i) (b i) was.begun cache })

pub but_parts : (s was : SetData) → was ≡ s → (names : NameList) (parts : List LiveSegment) (cache : PageCache)
    → StaysButParts s (moved was names parts was.buffer was.begun cache)
but_parts s was view names parts cache = subst (λ (u : SetData). StaysButParts u (moved was names parts was.buffer was.begun cache)) view (record { is = refl })

-- ---- merges

choices_one : (D : ℕ) (told : Type 0) (old : SetMoment) (spots : List SetMoment) (mid new : SetMoment) → MergesChoices D told old spots mid
    → MergesChoice D told mid new
    → MergesChoices D told old (spots ++ new ∷ []) new
choices_one D told old [] mid new done one = (subst (λ (s : SetMoment). MergesChoice D told s new) done one, refl)
choices_one D told old (s ∷ spots) mid new done one = (done.0, choices_one D told s spots mid new done.1 one)

pub settles_none : (D : ℕ) (told : Type 0) (s : SetMoment) → Settles D told s s
settles_none D told s = record { spots = []; merges = refl }

pub settles_one : (D : ℕ) (told : Type 0) (old mid new : SetMoment) → Settles D told old mid → MergesChoice D told mid new → Settles D told old new
settles_one D told old mid new done one = record { spots = done.spots ++ new ∷ []; merges = choices_one D told old done.spots mid new done.merges one }

-- a merge of the segments that were chosen
pub merges_chosen : (D : ℕ) (told : Type 0) (old new : SetMoment) (ids these : List ℕ) → these ≡ ids
    → (positions : List ℕ) × IsChoice (sizes_of old.set.parts) (pins_of old.set.begun old.set.parts) positions
    × (ids ≡ map (λ i. get_or (ids_of old.set.parts) i 0) positions)
    → IsMerged D told old.set.leaf_size old.set.names new.set.names old.files new.files these old.set.parts new.set.parts
    → StaysButParts old.set new.set → MergesChoice D told old new
merges_chosen D told old new ids these same chosen merged rest = record {
  positions = chosen.0;
  choice = chosen.1;
  merges = record {
    merged = subst (λ (ns : List ℕ). IsMerged D told old.set.leaf_size old.set.names new.set.names old.files new.files ns old.set.parts new.set.parts)
        (same ∙ chosen.2) merged;
    rest = rest;
  };
}

-- ---- flushes

pub flushes_settled : (D : ℕ) (told : Type 0) (old new : SetMoment) → Settles D told old new → Flushes D told old new
flushes_settled D told old new done = record { mid = new; settles = done; writes = inl refl }

pub flushes_none : (D : ℕ) (told : Type 0) (s : SetMoment) → Flushes D told s s
flushes_none D told s = flushes_settled D told s s (settles_none D told s)

pub left_settled : (D : ℕ) (told : Type 0) (old : SetMoment) (t : SetData) → IsLeft (Settles D told old) t → IsLeft (Flushes D told old) t
left_settled D told old t left = (left.0, flushes_settled D told old left.0 left.1, left.2)

-- what waited went to a segment, where the set is told by its fields
pub writes_moved : (D : ℕ) (told : Type 0) (files new_files : Files) (s was : SetData) → was ≡ s
    → (names : NameList) (parts : List LiveSegment) (buffer : List Item)
    → IsBufferWritten D told was.leaf_size was.names names new_files was.buffer was.parts parts → buffer ≡ []
    → WritesBuffer D told (moment files s) (moment new_files (moved was names parts buffer was.begun was.cache))
writes_moved D told files new_files s was view names parts buffer written none =
    subst (λ (u : SetData). WritesBuffer D told (moment files u) (moment new_files (moved was names parts buffer was.begun was.cache))) view
    (record { written = written; rest = λ i. moved was names parts (none i) was.begun was.cache })
