use Rattle.folder_check.proofs.Whole.{live_fits}
use Rattle.folder_check.proofs.checking.stored_entries.Goals as goal

pub live_documents-requires : goal.live_documents-requires
live_documents-requires g c = live_fits c.args.c.now c.listed.result.now c.listed.ensures.commit c.listed.ensures.value
