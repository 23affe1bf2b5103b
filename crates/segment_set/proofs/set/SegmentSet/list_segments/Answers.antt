use Rattle.std.proofs.Common.{◌∙◌, List, Some, lit<, refl, sym, ap, subst, arith}
use Rattle.std.specs.Prelude.{IsTrue}
use Rattle.std.specs.List.{AllZip}
use Rattle.commit_list.specs.declared.listed.Listed.{Listed}
use Rattle.commit_list.specs.Commits.{CommitData, IsCommit}
use Rattle.segment_set.specs.Sets.{IsWell, SetData}
use Rattle.segment_set.specs.Kept.{IsCommitOf, KeepsNamed}
use Rattle.segment_set.specs.Saved.{IsSaved}
use Rattle.segment_set.specs.Faithful.{IsFaithful}
use Rattle.segment_set.proofs.Saving.{but_saved, done_cause, well_names}
use Rattle.segment_set.proofs.SavedCommit.{IsLine, commit_of_set, is_commit, saved_lines}
use Rattle.segment_set.proofs.Faithful.{faithful_saved}
use Rattle.segment_set.proofs.Refused.{at_error, memory_caused, memory_damage, never_value, same_cause, same_damage}
use Rattle.segment_set.proofs.Settled.{before_moved}
use Rattle.segment_set.proofs.set.SegmentSet.list_segments.Goals as goal

pub invariant_of-self : goal.invariant_of-self
invariant_of-self g c =
    well_names g.row.D (IsTrue g.F.Pages.told) (g.F.Pages.files c.args.folder.now) (g.F.Pages.files c.list_lives.new.folder) _ c.list_lives.new.names
    c.self.inside.saved c.self.invariant c.list_lives.ensures.kept

pub invariant_of-self-in_err-again : goal.invariant_of-self-in_err-again
invariant_of-self-in_err-again g c =
    well_names g.row.D (IsTrue g.F.Pages.told) (g.F.Pages.files c.args.folder.now) (g.F.Pages.files c.list_lives.new.folder) _ c.list_lives.new.names
    c.self.inside.saved c.self.invariant c.list_lives.ensures.kept

pub invariant_of-self-2 : goal.invariant_of-self-2
invariant_of-self-2 g c =
    well_names g.row.D (IsTrue g.F.Pages.told) (g.F.Pages.files c.args.folder.now) (g.F.Pages.files c.list_lives.new.folder) _ c.list_lives.new.names
    (Some c.new-kept.result) c.self.invariant c.list_lives.ensures.kept

pub returns-in_err-listed-clause-rest : goal.returns-in_err-listed-clause-rest
returns-in_err-listed-clause-rest g c = but_saved c.args.self.now _ c.self.view_is c.list_lives.new.names c.self.inside.saved

pub returns-in_err-listed-clause-kept : goal.returns-in_err-listed-clause-kept
returns-in_err-listed-clause-kept g c =
    subst (λ (u : SetData). KeepsNamed (IsTrue g.F.Pages.told) u.names c.list_lives.new.names (g.F.Pages.files c.args.folder.now)
    (g.F.Pages.files c.list_lives.new.folder)) c.self.view_is c.list_lives.ensures.kept

pub returns-in_err-listed-clause-well : goal.returns-in_err-listed-clause-well
returns-in_err-listed-clause-well g c = subst (IsWell g.row.D) c.self.view_is c.self.invariant

pub returns-in_err-again-clause-rest : goal.returns-in_err-again-clause-rest
returns-in_err-again-clause-rest g c = but_saved c.args.self.now _ c.self.view_is c.list_lives.new.names c.self.inside.saved

pub returns-in_err-again-clause-kept : goal.returns-in_err-again-clause-kept
returns-in_err-again-clause-kept g c =
    subst (λ (u : SetData). KeepsNamed (IsTrue g.F.Pages.told) u.names c.list_lives.new.names (g.F.Pages.files c.args.folder.now)
    (g.F.Pages.files c.list_lives.new.folder)) c.self.view_is c.list_lives.ensures.kept

pub returns-in_err-again-clause-well : goal.returns-in_err-again-clause-well
returns-in_err-again-clause-well g c = subst (IsWell g.row.D) c.self.view_is c.self.invariant

pub new-kept-requires : goal.new-kept-requires
new-kept-requires g c =
    subst (λ n.
    IsCommit (record {
      dims = g.row.D;
      leaf_size = c.self.inside.leaf_size;
      next = n;
      points_given = c.self.inside.points_given;
      next_segment = c.next_segment-next_segment.result;
      listed = c.in_ok-again.again.items;
    })) (sym c.next-next.ensures)
    (is_commit g.row.D _ c.next_segment-next_segment.result c.in_ok-again.again.items c.self.invariant c.heads.ensures.ascend
    (subst (λ (ls : List Listed). AllZip (IsLine c.next_segment-next_segment.result) ls c.self.inside.segments)
    (sym (c.in_ok-again.ensures.items ∙ c.as_slice.ensures.value))
    (saved_lines (IsTrue g.F.Pages.told) c.args.last.now c.self.inside.names c.list_lives.new.names (g.F.Pages.files c.list_lives.new.folder)
    c.next_segment-next_segment.result c.in_ok-listed.listed.items c.self.inside.segments
    c.next_segment-next_segment.ensures.value c.in_ok-listed.ensures.listed)))

pub new-requires : goal.new-requires
new-requires g c =
    subst (λ n.
    IsCommit (record {
      dims = g.row.D;
      leaf_size = c.self.inside.leaf_size;
      next = n;
      points_given = c.self.inside.points_given;
      next_segment = c.next_segment-next_segment.result;
      listed = c.in_ok-listed.listed.items;
    })) (sym c.next-next.ensures)
    (is_commit g.row.D _ c.next_segment-next_segment.result c.in_ok-listed.listed.items c.self.invariant c.heads.ensures.ascend
    (saved_lines (IsTrue g.F.Pages.told) c.args.last.now c.self.inside.names c.list_lives.new.names (g.F.Pages.files c.list_lives.new.folder)
    c.next_segment-next_segment.result c.in_ok-listed.listed.items c.self.inside.segments
    c.next_segment-next_segment.ensures.value c.in_ok-listed.ensures.listed))

pub returns-clause-rest : goal.returns-clause-rest
returns-clause-rest g c = but_saved c.args.self.now _ c.self.view_is c.list_lives.new.names (Some c.new-kept.result)

pub returns-clause-kept : goal.returns-clause-kept
returns-clause-kept g c =
    subst (λ (u : SetData). KeepsNamed (IsTrue g.F.Pages.told) u.names c.list_lives.new.names (g.F.Pages.files c.args.folder.now)
    (g.F.Pages.files c.list_lives.new.folder)) c.self.view_is c.list_lives.ensures.kept

pub returns-clause-well : goal.returns-clause-well
returns-clause-well g c = subst (IsWell g.row.D) c.self.view_is c.self.invariant

pub returns-clause-saved : goal.returns-clause-saved
returns-clause-saved g c =
    let k = c.new.result in
    ap Some
    (c.new-kept.ensures
    ∙ ap (λ (ls : List Listed).
    record {
      dims = g.row.D;
      leaf_size = c.self.inside.leaf_size;
      next = c.next-next.result;
      points_given = c.self.inside.points_given;
      next_segment = c.next_segment-next_segment.result;
      listed = ls;
    }) (c.in_ok-again.ensures.items ∙ c.as_slice.ensures.value)
    ∙ sym c.new.ensures)

pub returns-clause-commit : goal.returns-clause-commit
returns-clause-commit g c =
    subst (IsCommitOf g.row.D _)
    (sym (c.new.ensures
    ∙ ap (λ n.
    record {
      dims = g.row.D;
      leaf_size = c.self.inside.leaf_size;
      next = n;
      points_given = c.self.inside.points_given;
      next_segment = c.next_segment-next_segment.result;
      listed = c.in_ok-listed.listed.items;
    }) c.next-next.ensures))
    (commit_of_set g.row.D (IsTrue g.F.Pages.told) c.args.last.now c.self.inside.names (g.F.Pages.files c.list_lives.new.folder)
    _ c.next_segment-next_segment.result
    c.in_ok-listed.listed.items c.next_segment-next_segment.ensures.value
    (well_names g.row.D (IsTrue g.F.Pages.told) (g.F.Pages.files c.args.folder.now) (g.F.Pages.files c.list_lives.new.folder) _ c.list_lives.new.names
    (Some c.new-kept.result) c.self.invariant c.list_lives.ensures.kept)
    c.in_ok-listed.ensures.listed)

pub returns-clause-listed : goal.returns-clause-listed
returns-clause-listed g c =
    subst (λ (ls : List Listed).
    AllZip (IsSaved (IsTrue g.F.Pages.told) c.args.last.now c.args.self.now.names c.list_lives.new.names (g.F.Pages.files c.list_lives.new.folder)) ls
    c.args.self.now.parts)
    (sym (ap (λ (k : CommitData). k.listed) c.new.ensures))
    (subst (λ (u : SetData). AllZip (IsSaved (IsTrue g.F.Pages.told) c.args.last.now u.names c.list_lives.new.names (g.F.Pages.files c.list_lives.new.folder))
    c.in_ok-listed.listed.items u.parts) c.self.view_is c.in_ok-listed.ensures.listed)

pub returns-in_err-listed-clause-reads : goal.returns-in_err-listed-clause-reads
returns-in_err-listed-clause-reads g c = c.list_lives.ensures.reads

pub returns-in_err-again-clause-reads : goal.returns-in_err-again-clause-reads
returns-in_err-again-clause-reads g c = c.list_lives.ensures.reads

pub returns-clause-reads : goal.returns-clause-reads
returns-clause-reads g c = c.list_lives.ensures.reads

pub returns-in_err-listed-clause-faithful : goal.returns-in_err-listed-clause-faithful
returns-in_err-listed-clause-faithful g c = λ told faithful.
    faithful_saved g.row.D (IsTrue g.F.Pages.told) (g.F.Pages.files c.args.folder.now) (g.F.Pages.files c.list_lives.new.folder) _ c.list_lives.new.names
    c.self.inside.saved c.self.invariant c.list_lives.ensures.kept told
    (subst (IsFaithful g.row.D (g.F.Pages.files c.args.folder.now)) (sym c.self.view_is) faithful)

pub returns-in_err-again-clause-faithful : goal.returns-in_err-again-clause-faithful
returns-in_err-again-clause-faithful g c = λ told faithful.
    faithful_saved g.row.D (IsTrue g.F.Pages.told) (g.F.Pages.files c.args.folder.now) (g.F.Pages.files c.list_lives.new.folder) _ c.list_lives.new.names
    c.self.inside.saved c.self.invariant c.list_lives.ensures.kept told
    (subst (IsFaithful g.row.D (g.F.Pages.files c.args.folder.now)) (sym c.self.view_is) faithful)

pub returns-clause-faithful : goal.returns-clause-faithful
returns-clause-faithful g c = λ told faithful.
    faithful_saved g.row.D (IsTrue g.F.Pages.told) (g.F.Pages.files c.args.folder.now) (g.F.Pages.files c.list_lives.new.folder) _ c.list_lives.new.names
    (Some c.new-kept.result) c.self.invariant c.list_lives.ensures.kept told
    (subst (IsFaithful g.row.D (g.F.Pages.files c.args.folder.now)) (sym c.self.view_is) faithful)

pub returns-in_err-listed-clause-refused : goal.returns-in_err-listed-clause-refused
returns-in_err-listed-clause-refused g c =
    at_error _ c.from_residual.result c.from_residual.ensures.1
    _ (before_moved c.args.self.now _ c.self.view_is c.list_lives.new.names c.self.inside.segments _ c.self.inside.cache refl refl)

pub returns-in_err-again-clause-refused : goal.returns-in_err-again-clause-refused
returns-in_err-again-clause-refused g c =
    at_error _ c.from_residual-in_err-again.result c.from_residual-in_err-again.ensures.1
    _ (before_moved c.args.self.now _ c.self.view_is c.list_lives.new.names c.self.inside.segments _ c.self.inside.cache refl refl)

pub returns-clause-refused : goal.returns-clause-refused
returns-clause-refused g c = tt

pub returns-in_err-listed-clause-saved : goal.returns-in_err-listed-clause-saved
returns-in_err-listed-clause-saved g c = never_value _ c.from_residual.result c.from_residual.ensures.1 _

pub returns-in_err-listed-clause-commit : goal.returns-in_err-listed-clause-commit
returns-in_err-listed-clause-commit g c = never_value _ c.from_residual.result c.from_residual.ensures.1 _

pub returns-in_err-listed-clause-listed : goal.returns-in_err-listed-clause-listed
returns-in_err-listed-clause-listed g c = never_value _ c.from_residual.result c.from_residual.ensures.1 _

pub returns-in_err-again-clause-saved : goal.returns-in_err-again-clause-saved
returns-in_err-again-clause-saved g c = never_value _ c.from_residual-in_err-again.result c.from_residual-in_err-again.ensures.1 _

pub returns-in_err-again-clause-commit : goal.returns-in_err-again-clause-commit
returns-in_err-again-clause-commit g c = never_value _ c.from_residual-in_err-again.result c.from_residual-in_err-again.ensures.1 _

pub returns-in_err-again-clause-listed : goal.returns-in_err-again-clause-listed
returns-in_err-again-clause-listed g c = never_value _ c.from_residual-in_err-again.result c.from_residual-in_err-again.ensures.1 _

pub returns-in_err-listed-clause-cause : goal.returns-in_err-listed-clause-cause
returns-in_err-listed-clause-cause g c =
    same_cause (g.F.Pages.faults c.args.folder.now) (g.F.Pages.faults c.list_lives.new.folder) c.in_err-listed.field-0.0
    c.from_residual.result c.from_residual.ensures.1 c.in_err-listed.ensures.cause

pub returns-in_err-again-clause-cause : goal.returns-in_err-again-clause-cause
returns-in_err-again-clause-cause g c =
    memory_caused (g.F.Pages.faults c.args.folder.now) (g.F.Pages.faults c.list_lives.new.folder)
    c.from_residual-in_err-again.result c.from_residual-in_err-again.ensures.1
    c.in_ok-listed.ensures.cause.on_ok

pub returns-clause-cause : goal.returns-clause-cause
returns-clause-cause g c = done_cause (g.F.Pages.faults c.args.folder.now) (g.F.Pages.faults c.list_lives.new.folder) _ c.in_ok-listed.ensures.cause.on_ok

pub returns-in_err-listed-clause-whole : goal.returns-in_err-listed-clause-whole
returns-in_err-listed-clause-whole g c =
    same_damage (λ _. ⊥) c.in_err-listed.field-0.0 c.from_residual.result c.from_residual.ensures.1 c.in_err-listed.ensures.whole

pub returns-in_err-again-clause-whole : goal.returns-in_err-again-clause-whole
returns-in_err-again-clause-whole g c = memory_damage (λ _. ⊥) c.from_residual-in_err-again.result c.from_residual-in_err-again.ensures.1

pub returns-clause-whole : goal.returns-clause-whole
returns-clause-whole g c = tt

pub list_lives-requires : goal.list_lives-requires
list_lives-requires g c = (lit< tt, (c.self.invariant.named, (c.heads.ensures.ascend, c.self.invariant.live_fits)))

pub next-next-requires : goal.next-next-requires
next-next-requires g c = lit< tt

pub overflow_cast-new : goal.overflow_cast-new
overflow_cast-new g c = omega (arith, c.self.invariant.few_dims)

pub overflow_cast-new-2 : goal.overflow_cast-new-2
overflow_cast-new-2 g c = omega (arith, c.self.invariant.few_dims)
