use Rattle.std.proofs.Common.{IsTrue}
use Rattle.folder_check.proofs.OpenedParts.{parts_opened}
use Rattle.folder_check.proofs.informing.open_parts.Goals as goal

pub returns-clause-parts : goal.returns-clause-parts
returns-clause-parts g c = λ told.
    parts_opened (IsTrue g.F.Pages.told) (g.F.Pages.files c.args.folder.now) c.args.c.now c.in_ok-_segments._segments told c.in_ok-_segments.ensures.opened
