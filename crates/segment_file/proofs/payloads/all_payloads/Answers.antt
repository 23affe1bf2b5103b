use Rattle.std.proofs.Common.{◌∙◌}
use Rattle.outer_io.specs.Files.{bytes_of}
use Rattle.segment_file.proofs.FirstPayloads.{first_payload_is, with_rest}
use Rattle.segment_file.proofs.payloads.all_payloads.Goals as goal

pub returns-clause-payloads : goal.returns-clause-payloads
returns-clause-payloads g c = λ told first.
    let files = g.F.Pages.files c.args.folder.now in
    with_rest (bytes_of (files c.args.name.now)) c.payload.result.now c.in_ok-rest.rest.items c.in_ok-joined.field-0.items c.args.pages c.requires.some
    (c.payload.ensures.bytes ∙ first_payload_is files c.args.first.now c.args.name.now c.requires.name first) (c.in_ok-rest.ensures.payloads told)
    (rw (← c.as_slice.ensures.value) c.in_ok-joined.ensures.items)
