use Rattle.std.proofs.Common.{◌<◌, length, rules}
use Rattle.std.proofs.lemmas.List.Elements.{All-contains_itself}
use Rattle.outer_io.proofs.OpenLists.{moved_to_front}
use Rattle.outer_io.proofs.open_files.OpenFiles.put_first.Goals as goal

pub returns-then-place-gt0-clause-kept : goal.returns-then-place-gt0-clause-kept
returns-then-place-gt0-clause-kept g c =
    let within : c.args.place < length c.args.self.now.files.items = search rules in
    rw (c.insert.ensures.items, c.unwrap.ensures)
    (moved_to_front c.args.self.now.files.items c.remove-opened.new.self.items c.args.place c.remove-opened.result within c.remove-opened.ensures.value
    c.remove-opened.ensures.items)

pub returns-else-place-gt0-clause-kept : goal.returns-else-place-gt0-clause-kept
returns-else-place-gt0-clause-kept g c = All-contains_itself c.args.self.now.files.items
