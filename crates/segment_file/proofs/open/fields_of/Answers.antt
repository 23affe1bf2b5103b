use Rattle.segment_file.proofs.HeadReads.{no_fields}
use Rattle.segment_file.proofs.open.fields_of.Goals as goal

pub no_head-requires : goal.no_head-requires
no_head-requires c = no_fields c.args.payload.now c.requires c.in-None.ensures.none
