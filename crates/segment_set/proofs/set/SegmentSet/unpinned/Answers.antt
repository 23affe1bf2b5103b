use Rattle.std.proofs.Common.{◌≡◌, ℕ, List, not, subst}
use Rattle.std.specs.Prelude.{IfOk}
use Rattle.std.specs.List.{filter}
use Rattle.documents.specs.Entries.{is_among}
use Rattle.segment_view.specs.LiveSegments.{ids_of}
use Rattle.segment_set.specs.Sets.{IsWell, SetData, inputs_of}
use Rattle.segment_set.specs.Merged.{IsApart}
use Rattle.segment_set.proofs.Chosen.{if_ok, unpinned_apart}
use Rattle.segment_set.proofs.set.SegmentSet.unpinned.Goals as goal

pub returns-clause-apart : goal.returns-clause-apart
returns-clause-apart g c =
    subst (λ (s : SetData). IfOk c.unpinned.result (λ ids. IsApart ids.items (inputs_of s.begun) s.parts)) c.self.view_is
    (subst (λ (inputs : List ℕ). IfOk c.unpinned.result (λ ids. IsApart ids.items inputs c.self.inside.segments)) c.inputs_of.ensures
    (if_ok c.unpinned.result (λ v. v.items ≡ filter (λ id. not (is_among c.inputs_of.result.now id)) (ids_of c.self.inside.segments))
    (λ v. IsApart v.items c.inputs_of.result.now c.self.inside.segments)
    (λ v is. unpinned_apart c.inputs_of.result.now c.self.inside.segments v.items is) c.unpinned.ensures))

pub returns-clause-all : goal.returns-clause-all
returns-clause-all g c =
    subst (λ (s : SetData). IfOk c.unpinned.result (λ ids. ids.items ≡ filter (λ id. not (is_among (inputs_of s.begun) id)) (ids_of s.parts))) c.self.view_is
    (subst (λ (inputs : List ℕ). IfOk c.unpinned.result (λ ids. ids.items ≡ filter (λ id. not (is_among inputs id)) (ids_of c.self.inside.segments)))
    c.inputs_of.ensures c.unpinned.ensures)

pub returns-clause-well : goal.returns-clause-well
returns-clause-well g c = subst (IsWell g.row.D) c.self.view_is c.self.invariant
