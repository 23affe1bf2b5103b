use Rattle.std.proofs.Common.{◌∙◌, arith}
use Rattle.line_source.proofs.Cuts.{kept_more, then_ok}
use Rattle.line_source.proofs.reader.append.Goals as goal

pub returns-clause-appended : goal.returns-clause-appended
returns-clause-appended c =
    then_ok c.extend_from_slice.result _ _ _ _ c.extend_from_slice.ensures.items
    (kept_more c.args.line.now.items c.args.part.now _ c.len.result (c.len.ensures ∙ c.args.line.now.ok.0)
    (omega (arith, c.len.ensures, c.args.line.now.ok.0, c.requires)) (omega (arith, c.min-count.ensures)))
