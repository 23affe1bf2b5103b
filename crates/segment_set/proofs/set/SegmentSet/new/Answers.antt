-- A set without documents keeps to its rules, and is seen as a new index.
use Rattle.std.proofs.Common.{◌≡◌, refl, sym, ap, subst, ◌∙◌}
use Rattle.outer_io.specs.declared.file_name.FileName.TheVariants.{Commit}
use Rattle.index_model.specs.State.{new_index}
use Rattle.file_names.specs.Names.{NameList, is_named}
use Rattle.file_names.proofs.Listed.{is_named-none}
use Rattle.segment_set.specs.Sets.{IsWell, SetData}
use Rattle.segment_set.specs.Seen.{Sees}
use Rattle.segment_set.specs.Faithful.{IsFaithful}
use Rattle.segment_set.proofs.Empty.{empty_is, empty_set, sees_empty, well_empty}
use Rattle.segment_set.proofs.Viewing.{faithful_empty}
use Rattle.segment_set.proofs.Refused.{never_value}
use Rattle.segment_set.proofs.set.SegmentSet.new.Given as given
use Rattle.segment_set.proofs.set.SegmentSet.new.Goals as goal

fields : (g : given.Over) (c : goal.In_ok-new g)
    → record (empty_set c.args.leaf_size c.new.result c.in_ok-new.field-0)
    { next = c.new-3.result.next; parts = c.new-2.result; buffer = c.new-3.result.items; snapshots = c.new-4.result.items }
    ≡ empty_set c.args.leaf_size c.new.result c.in_ok-new.field-0
fields g c = empty_is _ _ _ _ _ _ _ c.new-3.ensures.next c.new-2.ensures c.new-3.ensures.items c.new-4.ensures.items

pub invariant_of-result : goal.invariant_of-result
invariant_of-result g c =
    subst (IsWell g.row.D) (sym (fields g c))
    (well_empty g.row.D c.args.leaf_size c.new.result c.in_ok-new.field-0 c.requires.dims.0 c.requires.dims.1 c.requires.least_leaf c.requires.greatest_leaf
    c.in_ok-new.ensures.empty
    (ap (λ (n : NameList). is_named n.names Commit) c.new.ensures ∙ is_named-none Commit))

pub returns-clause-seen : goal.returns-clause-seen
returns-clause-seen g c files =
    subst (λ (s : SetData). Sees g.row.D files s (new_index g.row.D c.args.leaf_size)) (sym (fields g c))
    (sees_empty g.row.D c.args.leaf_size c.new.result c.in_ok-new.field-0 files (c.in_ok-new.ensures.agrees files))

pub returns-clause-faithful : goal.returns-clause-faithful
returns-clause-faithful g c files =
    subst (IsFaithful g.row.D files) (sym (fields g c))
    (faithful_empty g.row.D c.args.leaf_size c.new.result c.in_ok-new.field-0 files (c.in_ok-new.ensures.agrees files))

pub new-requires : goal.new-requires
new-requires g c = tt

pub returns-in_err-new-clause-seen : goal.returns-in_err-new-clause-seen
returns-in_err-new-clause-seen g c = never_value _ c.from_residual.result c.from_residual.ensures.1 _

pub returns-in_err-new-clause-faithful : goal.returns-in_err-new-clause-faithful
returns-in_err-new-clause-faithful g c = never_value _ c.from_residual.result c.from_residual.ensures.1 _

pub returns-in_err-new-clause-unsaved : goal.returns-in_err-new-clause-unsaved
returns-in_err-new-clause-unsaved g c = never_value _ c.from_residual.result c.from_residual.ensures.1 _

pub returns-in_err-new-clause-names : goal.returns-in_err-new-clause-names
returns-in_err-new-clause-names g c = never_value _ c.from_residual.result c.from_residual.ensures.1 _

pub returns-in_err-new-clause-room : goal.returns-in_err-new-clause-room
returns-in_err-new-clause-room g c = never_value _ c.from_residual.result c.from_residual.ensures.1 _

pub returns-clause-unsaved : goal.returns-clause-unsaved
returns-clause-unsaved g c = refl

pub returns-clause-names : goal.returns-clause-names
returns-clause-names g c = c.new.ensures

pub returns-clause-room : goal.returns-clause-room
returns-clause-room g c = c.in_ok-new.ensures.room
