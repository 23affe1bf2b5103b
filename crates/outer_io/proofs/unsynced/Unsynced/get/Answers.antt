use Rattle.std.proofs.Common.{◌≡◌, Some, None, position, sym}
use Rattle.outer_io.specs.OpenFiles.{is_opened}
use Rattle.outer_io.proofs.OpenLists.{file_under-at, file_under-absent}
use Rattle.outer_io.proofs.unsynced.Unsynced.get.Goals as goal

pub returns-in-Some : goal.returns-in-Some
returns-in-Some g c =
    let found : position (is_opened c.args.n.now) c.args.self.now.files.items ≡ Some c.in-Some.place = rw (← c.deref.ensures.value) (sym c.in-Some.ensures) in
    rw (c.index_mut.ensures.value) (sym (file_under-at c.args.n.now c.args.self.now.files.items c.in-Some.place c.index_mut.result.now found))

pub returns-in-None : goal.returns-in-None
returns-in-None g c =
    let absent : position (is_opened c.args.n.now) c.args.self.now.files.items ≡ None = rw (← c.deref.ensures.value) (sym c.in-None.ensures) in
    sym (file_under-absent c.args.n.now c.args.self.now.files.items absent)
