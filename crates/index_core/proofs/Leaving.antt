-- What a begun or an ended merge leaves, by what the call on the set answered.
use Rattle.std.proofs.Common.{◌≡◌, ℕ, true, false, List, None, Some, Option, Result, Ok, Err, OnOk, subst, not}
use Rattle.std.specs.List.{All, Contains}
use Rattle.std.proofs.lemmas.Bool.{both_ways, false_from_ne_true, not-true}
use Rattle.std.proofs.lemmas.List.Elements.{All-contains}
use Rattle.outer_io.specs.declared.file_name.FileName.{FileName}
use Rattle.outer_io.specs.declared.file_name.FileName.TheVariants.{Segment}
use Rattle.documents.specs.Entries.{is_among}
use Rattle.documents.proofs.Kept.{among_to}
use Rattle.documents.proofs.Lists.{of_filter}
use Rattle.outer_io.specs.Files.{Files}
use Rattle.segment_view.specs.LiveSegments.{LiveSegment, ids_of, parts_but}
use Rattle.segment_build.specs.NewSegments.{NewSegmentData}
use Rattle.file_names.specs.Names.{NameList, is_named}
use Rattle.segment_set.specs.declared.faults.BeginFault.{BeginFault}
use Rattle.segment_set.specs.declared.faults.BeginFault.TheVariants as begin
use Rattle.segment_set.specs.declared.faults.EndFault.{EndFault}
use Rattle.segment_set.specs.declared.faults.EndFault.TheVariants as end
use Rattle.segment_set.specs.Sets.{BegunMerge, IsWell, SetData, inputs_of}
use Rattle.segment_set.specs.Merges.{Collects, Swaps, Replaces, living}
use Rattle.segment_set.proofs.Carried.{placed_cases}
use Rattle.segment_set.proofs.Standing.{ids_named}
use Rattle.segment_set.specs.Kept.{AreCanonical, StaysButMerge}
use Rattle.segment_set.specs.Merged.{IsEnded, chosen_ids}
use Rattle.page_cache.specs.declared.faults.PageFault.{PageFault}
use Rattle.index_model.specs.declared.session.Applied.{Applied}
use Rattle.index_model.specs.declared.session.Applied.TheVariants as applied
use Rattle.index_core.specs.Replies.{begin_answer, end_answer}
use Rattle.index_core.specs.Effects.{HasBegun, HasEnded, OnDone}

pub begin_leaves : {T : Type 0} (D : ℕ) (told : Type 0) (files : Files) (positions : List ℕ) (s t : SetData) (r : Result T BeginFault)
    → OnOk r ((b : BegunMerge) × (t.begun ≡ Some b) × (b.inputs ≡ chosen_ids positions (ids_of s.parts)))
    → OnOk r ((b : BegunMerge) → t.begun ≡ Some b → Collects D s.leaf_size told files s.parts b) → StaysButMerge s t
    → OnDone (begin_answer r) (HasBegun D told files positions s t)
begin_leaves D told files positions s t (Ok x) inputs built rest = record { inputs = inputs; built = built; rest = rest }
begin_leaves D told files positions s t (Err begin.Begun) inputs built rest = tt
begin_leaves D told files positions s t (Err begin.Failed) inputs built rest = tt
begin_leaves D told files positions s t (Err (begin.Damaged d)) inputs built rest = tt
begin_leaves D told files positions s t (Err begin.Memory) inputs built rest = tt

-- what went is gone: the one that came has a name that was free, and those that went are named
not_again : (names : NameList) (ids : List ℕ) (id : ℕ) → ((n : ℕ) → Contains ids n → is_named names.names (Segment n) ≡ true)
    → is_named names.names (Segment id) ≡ false → is_among ids id ≡ false
not_again names ids id named fresh =
    false_from_ne_true (is_among ids id) (λ there. both_ways (is_named names.names (Segment id)) fresh (named id (among_to ids id there)))

not_but : (ids : List ℕ) (parts : List LiveSegment) (p : LiveSegment) → Contains (parts_but ids parts) p → is_among ids p.head.id ≡ false
not_but ids parts p there = not-true (is_among ids p.head.id) (of_filter (λ (q : LiveSegment). not (is_among ids q.head.id)) parts p there).1

put_gone : (D : ℕ) (told : Type 0) (before after : NameList) (files : Files) (ids : List ℕ) (n : NewSegmentData) (old new : List LiveSegment)
    → ((id : ℕ) → Contains ids id → is_named before.names (Segment id) ≡ true)
    → Swaps D told before after files ids n old new → (p : LiveSegment) → Contains new p → is_among ids p.head.id ≡ false
put_gone D told before after files ids n old new named put p there =
    placed_cases _ (parts_but ids old) new put.placed p there
    (λ e. subst (λ (q : LiveSegment). is_among ids q.head.id ≡ false) e (not_again before ids put.id named put.fresh))
    (λ h. not_but ids old p h)

pub gone_by : (D : ℕ) (told : Type 0) (before after : NameList) (files : Files) (ids : List ℕ) (built : Option NewSegmentData) (old new : List LiveSegment)
    → ((id : ℕ) → Contains ids id → is_named before.names (Segment id) ≡ true)
    → Replaces D told before after files ids built old new → (p : LiveSegment) → Contains new p → is_among ids p.head.id ≡ false
gone_by D told before after files ids None old new named is p there = not_but ids old p (subst (λ (ps : List LiveSegment). Contains ps p) is there)
gone_by D told before after files ids (Some n) old new named put p there = put_gone D told before after files ids n old new named put p there

-- the inputs of a begun merge are named
inputs_named : (D : ℕ) (s : SetData) → IsWell D s → (b : BegunMerge) → s.begun ≡ Some b → (id : ℕ) → Contains b.inputs id
    → is_named s.names.names (Segment id) ≡ true
inputs_named D s well b is id there =
    let among = All-contains (λ n. is_among (ids_of s.parts) n ≡ true) b.inputs id
    (subst (λ o. All (λ n. is_among (ids_of s.parts) n ≡ true) (inputs_of o)) is well.inputs) there in
    ids_named s.names s.parts well.named id (among_to (ids_of s.parts) id among)

pub end_leaves : {T : Type 0} (D : ℕ) (told : Type 0) (files : Files) (s t : SetData) (r : Result T EndFault) → IsWell D s → OnOk r (t.begun ≡ None)
    → ((b : BegunMerge) → s.begun ≡ Some b → OnOk r (IsEnded b s.parts t.parts))
    → ((b : BegunMerge) → s.begun ≡ Some b → OnOk r (Replaces D told s.names t.names files b.inputs (living b.built) s.parts t.parts))
    → ((m : FileName) → is_named s.names.names m ≡ true → is_named t.names.names m ≡ true)
    → t.buffer ≡ s.buffer → (told → AreCanonical D files s.names t.parts) → OnDone (end_answer r) (HasEnded D told files s t)
end_leaves D told files s t (Ok x) well ended parts replaced named buffer canon = record {
  ended = ended;
  parts = parts;
  gone = λ b is p there. gone_by D told s.names t.names files b.inputs (living b.built) s.parts t.parts (inputs_named D s well b is) (replaced b is) p there;
  named = named;
  buffer = buffer;
  canon = canon;
}
end_leaves D told files s t (Err end.NotBegun) well ended parts replaced named buffer canon = tt
end_leaves D told files s t (Err end.Failed) well ended parts replaced named buffer canon = tt
end_leaves D told files s t (Err (end.Damaged d)) well ended parts replaced named buffer canon = tt
end_leaves D told files s t (Err end.Memory) well ended parts replaced named buffer canon = tt

-- a command that isn't said to leave anything
pub leaves_any : (r : Result Applied PageFault) → OnDone r (Unit {0})
leaves_any (Ok applied.Done) = tt
leaves_any (Ok (applied.Refused why)) = tt
leaves_any (Err fault) = tt
