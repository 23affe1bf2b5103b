use Rattle.std.proofs.Common.{◌≡◌, ℕ, ◌≤◌, Bool, true, false, All, IsTrue, List, length, Option, refl, sym, subst, ◌∙◌, inl, inr}
use Rattle.std.proofs.lemmas.Bool.{both_ways}
use Rattle.std.proofs.lemmas.List.Elements.{All-contains}
use Rattle.outer_io.specs.declared.file_name.FileName.TheVariants.{Segment}
use Rattle.documents.specs.Entries.{is_among}
use Rattle.documents.proofs.Kept.{among_to}
use Rattle.file_names.specs.Names.{is_named}
use Rattle.segment_set.specs.Sets.{BegunMerge, IsWell, SetData, inputs_of}
use Rattle.segment_set.specs.Merged.{IsTidy, IsWhole, free_ids}
use Rattle.segment_set.specs.Merges.{IsMerged}
use Rattle.segment_set.proofs.Settled.{before_itself}
use Rattle.segment_set.proofs.Standing.{ids_named}
use Rattle.std.proofs.lemmas.Result.{on_ok_weaker}
use Rattle.segment_set.proofs.Lively.{AllLive, merged_lives, settled_lives}
use Rattle.segment_set.proofs.Rearranged.{rearranges_none}
use Rattle.segment_set.proofs.Wholes.{IsOne, merged_one, settled_one, tidy_from, tidy_to}
use Rattle.segment_set.proofs.Refused.{at_error, memory_caused, memory_damage, never_ok}
use Rattle.segment_set.proofs.Saving.{done_cause}
use Rattle.segment_view.specs.LiveSegments.{ids_of, parts_among, parts_but}
use Rattle.segment_set.proofs.Shows.{shows_none}
use Rattle.segment_set.proofs.set.SegmentSet.merge_all.Goals as goal

pub returns-clause-moves : goal.returns-clause-moves
returns-clause-moves g c = c.merge.ensures.moves

pub returns-in_err-ids-clause-buffer : goal.returns-in_err-ids-clause-buffer
returns-in_err-ids-clause-buffer g c = refl

pub returns-in_err-ids-clause-cache : goal.returns-in_err-ids-clause-cache
returns-in_err-ids-clause-cache g c = refl

pub returns-then-is_settled-clause-cache : goal.returns-then-is_settled-clause-cache
returns-then-is_settled-clause-cache g c = refl

pub returns-clause-cache : goal.returns-clause-cache
returns-clause-cache g c = c.merge.ensures.cache

pub returns-in_err-ids-clause-moves : goal.returns-in_err-ids-clause-moves
returns-in_err-ids-clause-moves g c =
    rearranges_none g.row.D (IsTrue g.F.Pages.told) (g.F.Pages.files c.args.folder.now) c.args.self.now c.unpinned.ensures.well.named

pub returns-then-is_settled-clause-buffer : goal.returns-then-is_settled-clause-buffer
returns-then-is_settled-clause-buffer g c = refl

pub returns-then-is_settled-clause-moves : goal.returns-then-is_settled-clause-moves
returns-then-is_settled-clause-moves g c =
    rearranges_none g.row.D (IsTrue g.F.Pages.told) (g.F.Pages.files c.args.folder.now) c.args.self.now c.unpinned.ensures.well.named

pub returns-in_err-ids-clause-cause : goal.returns-in_err-ids-clause-cause
returns-in_err-ids-clause-cause g c =
    memory_caused (g.F.Pages.faults c.args.folder.now) (g.F.Pages.faults c.args.folder.now) c.from_residual.result c.from_residual.ensures.1 refl

pub returns-then-is_settled-clause-cause : goal.returns-then-is_settled-clause-cause
returns-then-is_settled-clause-cause g c =
    done_cause (g.F.Pages.faults c.args.folder.now) (g.F.Pages.faults c.args.folder.now) _ refl

pub returns-clause-buffer : goal.returns-clause-buffer
returns-clause-buffer g c = c.merge.ensures.buffer

pub returns-clause-cause : goal.returns-clause-cause
returns-clause-cause g c = c.merge.ensures.cause

pub returns-in_err-ids-clause-faithful : goal.returns-in_err-ids-clause-faithful
returns-in_err-ids-clause-faithful g c = λ told faithful. faithful

pub returns-in_err-ids-clause-damaged : goal.returns-in_err-ids-clause-damaged
returns-in_err-ids-clause-damaged g c =
    shows_none g.row.D (IsTrue g.F.Pages.told) (g.F.Pages.files c.args.folder.now) (g.F.Pages.files c.args.folder.now) c.args.self.now _
    _ (λ P. memory_damage P c.from_residual.result c.from_residual.ensures.1)

pub returns-then-is_settled-clause-faithful : goal.returns-then-is_settled-clause-faithful
returns-then-is_settled-clause-faithful g c = λ told faithful. faithful

pub returns-then-is_settled-clause-damaged : goal.returns-then-is_settled-clause-damaged
returns-then-is_settled-clause-damaged g c =
    shows_none g.row.D (IsTrue g.F.Pages.told) (g.F.Pages.files c.args.folder.now) (g.F.Pages.files c.args.folder.now) c.args.self.now _ _ (λ P. tt)

pub returns-clause-faithful : goal.returns-clause-faithful
returns-clause-faithful g c = c.merge.ensures.faithful

pub returns-clause-damaged : goal.returns-clause-damaged
returns-clause-damaged g c = c.merge.ensures.damaged

-- ---- the segments that are no inputs

named : (D : ℕ) (s : SetData) → IsWell D s → (id : ℕ) → is_among (inputs_of s.begun) id ≡ true → is_named s.names.names (Segment id) ≡ true
named D s well id there =
    ids_named s.names s.parts well.named id
    (among_to (ids_of s.parts) id
    (All-contains (λ n. is_among (ids_of s.parts) n ≡ true) (inputs_of s.begun) id well.inputs (among_to (inputs_of s.begun) id there)))

-- merging all would have changed something
untidy : (s : SetData) (ids : List ℕ) (settled : Bool) → ids ≡ free_ids s → settled ≡ false
    → ((length ids ≤ 1) × All IsWhole (parts_among ids s.parts) → settled ≡ true) → IsTidy s → ⊥
untidy s ids settled are not_so whole tidy = both_ways settled not_so (whole (tidy_from (inputs_of s.begun) ids s.parts are tidy))

pub returns-in_err-ids-clause-one : goal.returns-in_err-ids-clause-one
returns-in_err-ids-clause-one g c = never_ok _ c.from_residual.result c.from_residual.ensures.1 _

pub returns-in_err-ids-clause-all_live : goal.returns-in_err-ids-clause-all_live
returns-in_err-ids-clause-all_live g c = λ told i sees. never_ok _ c.from_residual.result c.from_residual.ensures.1 _

pub returns-in_err-ids-clause-merged : goal.returns-in_err-ids-clause-merged
returns-in_err-ids-clause-merged g c = never_ok _ c.from_residual.result c.from_residual.ensures.1 _

pub returns-in_err-ids-clause-still : goal.returns-in_err-ids-clause-still
returns-in_err-ids-clause-still g c = λ tidy. (refl, refl)

pub returns-in_err-ids-clause-unwritten : goal.returns-in_err-ids-clause-unwritten
returns-in_err-ids-clause-unwritten g c = λ told tidy. refl

pub returns-in_err-ids-clause-refused : goal.returns-in_err-ids-clause-refused
returns-in_err-ids-clause-refused g c = at_error _ c.from_residual.result c.from_residual.ensures.1 _ (before_itself c.args.self.now)

pub returns-then-is_settled-clause-one : goal.returns-then-is_settled-clause-one
returns-then-is_settled-clause-one g c =
    let s = c.args.self.now in
    let whole = c.is_settled.ensures.0 c.if-is_settled.true in
    settled_one (inputs_of s.begun) c.as_slice.result.now s.parts (c.as_slice.ensures.value ∙ c.in_ok-ids.ensures.all) whole.0 whole.1

pub returns-then-is_settled-clause-all_live : goal.returns-then-is_settled-clause-all_live
returns-then-is_settled-clause-all_live g c = λ told i sees contents stands.
    let s = c.args.self.now in
    let whole = c.is_settled.ensures.0 c.if-is_settled.true in
    settled_lives g.row.D (g.F.Pages.files c.args.folder.now) contents (inputs_of s.begun) c.as_slice.result.now s.parts
    (c.as_slice.ensures.value ∙ c.in_ok-ids.ensures.all) whole.1 stands.now

pub returns-then-is_settled-clause-merged : goal.returns-then-is_settled-clause-merged
returns-then-is_settled-clause-merged g c =
    let s = c.args.self.now in
    inl (tidy_to (inputs_of s.begun) c.as_slice.result.now s.parts (c.as_slice.ensures.value ∙ c.in_ok-ids.ensures.all)
    (c.is_settled.ensures.0 c.if-is_settled.true))

pub returns-then-is_settled-clause-still : goal.returns-then-is_settled-clause-still
returns-then-is_settled-clause-still g c = λ tidy. (refl, refl)

pub returns-then-is_settled-clause-unwritten : goal.returns-then-is_settled-clause-unwritten
returns-then-is_settled-clause-unwritten g c = λ told tidy. refl

pub returns-then-is_settled-clause-refused : goal.returns-then-is_settled-clause-refused
returns-then-is_settled-clause-refused g c = tt

pub returns-clause-one : goal.returns-clause-one
returns-clause-one g c = on_ok_weaker c.merge.result
    (λ m.
    let s = c.args.self.now in
    let t = c.merge.new.self in
    subst (λ (b : Option BegunMerge). IsOne (parts_but (inputs_of b) t.parts)) (sym c.merge.ensures.moves.begun)
    (merged_one g.row.D (IsTrue g.F.Pages.told) s.leaf_size s.names t.names (g.F.Pages.files c.args.folder.now) (g.F.Pages.files c.merge.new.folder)
    (inputs_of s.begun) c.as_slice-2.result.now s.parts t.parts (c.as_slice-2.ensures.value ∙ c.in_ok-ids.ensures.all) (named g.row.D s c.unpinned.ensures.well)
    m)) c.merge.ensures.merged

pub returns-clause-all_live : goal.returns-clause-all_live
returns-clause-all_live g c = λ told i sees. on_ok_weaker c.merge.result
    (λ m contents stands.
    let s = c.args.self.now in
    let t = c.merge.new.self in
    subst (λ (b : Option BegunMerge). AllLive contents (parts_but (inputs_of b) t.parts)) (sym c.merge.ensures.moves.begun)
    (merged_lives g.row.D (IsTrue g.F.Pages.told) s.leaf_size s.names t.names (g.F.Pages.files c.args.folder.now) (g.F.Pages.files c.merge.new.folder)
    (inputs_of s.begun) c.as_slice-2.result.now s.parts t.parts contents told (c.as_slice-2.ensures.value ∙ c.in_ok-ids.ensures.all)
    (named g.row.D s c.unpinned.ensures.well) m stands.now))
    c.merge.ensures.merged

pub returns-clause-merged : goal.returns-clause-merged
returns-clause-merged g c = on_ok_weaker c.merge.result
    (λ m.
    let s = c.args.self.now in
    let t = c.merge.new.self in
    inr (record {
      merged = subst
          (λ (ns : List ℕ). IsMerged g.row.D (IsTrue g.F.Pages.told) s.leaf_size s.names t.names (g.F.Pages.files c.args.folder.now)
          (g.F.Pages.files c.merge.new.folder) ns s.parts t.parts) (c.as_slice-2.ensures.value ∙ c.in_ok-ids.ensures.all) m;
      rest = c.merge.ensures.rest;
    })) c.merge.ensures.merged

pub returns-clause-still : goal.returns-clause-still
returns-clause-still g c = λ tidy.
    absurd (untidy c.args.self.now c.as_slice.result.now c.is_settled.result (c.as_slice.ensures.value ∙ c.in_ok-ids.ensures.all) c.if-is_settled.false
    c.is_settled.ensures.1 tidy)

pub returns-clause-unwritten : goal.returns-clause-unwritten
returns-clause-unwritten g c = λ told tidy.
    absurd (untidy c.args.self.now c.as_slice.result.now c.is_settled.result (c.as_slice.ensures.value ∙ c.in_ok-ids.ensures.all) c.if-is_settled.false
    c.is_settled.ensures.1 tidy)

pub returns-clause-refused : goal.returns-clause-refused
returns-clause-refused g c = c.merge.ensures.refused
