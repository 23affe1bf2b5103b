use Rattle.std.proofs.Common.{◌≡◌, Some, None, position, sym, refl, rules}
use Rattle.outer_io.specs.FileMap.{is_named}
use Rattle.outer_io.proofs.FileLists.{files_in-set_same, files_in-set_more, files_in-set_other, files_in-absent}
use Rattle.outer_io.proofs.Parts.{on_err}
use Rattle.outer_io.proofs.file_map.FileMap.extend.Goals as goal
use Rattle.outer_io.proofs.file_map.FileMap.extend.Goals.{In-Some}

found : (c : In-Some) → position (is_named c.args.n.now) c.args.self.now.entries.items ≡ Some c.in-Some.i
found c = rw (← c.deref.ensures.value) (sym c.in-Some.ensures)

pub returns-in_err-extend_from_slice-in-Some-clause-others :
    goal.returns-in_err-extend_from_slice-in-Some-clause-others
returns-in_err-extend_from_slice-in-Some-clause-others c other h =
    files_in-set_other c.args.n.now _ c.in-Some.i c.index_mut-entry.result.now
    _ (found (goal.at.returns-in_err-extend_from_slice-in-Some-clause-others c).In-Some) c.index_mut-entry.ensures.value refl other h

pub returns-in_err-extend_from_slice-in-Some-clause-memory :
    goal.returns-in_err-extend_from_slice-in-Some-clause-memory
returns-in_err-extend_from_slice-in-Some-clause-memory c =
    on_err c.from_residual.result
    (files_in-set_same c.args.n.now _ c.in-Some.i c.index_mut-entry.result.now
    _ (found (goal.at.returns-in_err-extend_from_slice-in-Some-clause-memory c).In-Some) c.index_mut-entry.ensures.value refl
    c.in_err-extend_from_slice-in-Some.ensures.items)

pub returns-in_ok-extend_from_slice-in-Some-clause-extended :
    goal.returns-in_ok-extend_from_slice-in-Some-clause-extended
returns-in_ok-extend_from_slice-in-Some-clause-extended c =
    files_in-set_more c.args.n.now _ c.in-Some.i c.index_mut-entry.result.now
    _ (found (goal.at.returns-in_ok-extend_from_slice-in-Some-clause-extended c).In-Some) c.index_mut-entry.ensures.value refl c.args.b.now
    c.in_ok-extend_from_slice-in-Some.ensures.items

pub returns-in_ok-extend_from_slice-in-Some-clause-others :
    goal.returns-in_ok-extend_from_slice-in-Some-clause-others
returns-in_ok-extend_from_slice-in-Some-clause-others c other h =
    files_in-set_other c.args.n.now _ c.in-Some.i c.index_mut-entry.result.now
    _ (found (goal.at.returns-in_ok-extend_from_slice-in-Some-clause-others c).In-Some) c.index_mut-entry.ensures.value refl other h

pub returns-in-None-clause-extended : goal.returns-in-None-clause-extended
returns-in-None-clause-extended c =
    let absent : position (is_named c.args.n.now) c.args.self.now.entries.items ≡ None = rw (← c.deref.ensures.value) (sym c.in-None.ensures) in
    rw (files_in-absent c.args.n.now c.args.self.now.entries.items absent) (search rules)
