use Rattle.std.proofs.Common.{◌∙◌}
use Rattle.folder_check.proofs.OpenedParts.{one_more}
use Rattle.folder_check.proofs.informing.listed_bytes.Goals as goal

pub loop-s-preserved : goal.loop-s-preserved
loop-s-preserved g c =
    let was = c.loop-s.invariant in
    let one = c.in_ok-more.ensures in
    record {
      files = λ told. one.files told ∙ was.files told;
      reads = one.reads ∙ was.reads;
      faults = one.cause.on_ok ∙ was.faults;
      bytes = λ told. one_more (g.F.Pages.files c.args.folder.now) (g.F.Pages.files c.loop-s.folder) c.args.listed.now c.loop-s.s-index _ c.loop-s.bytes
          c.in_ok-more.more c.saturating_add-bytes.result (was.files told) c.loop-s-test.true (was.bytes told) (one.bytes told)
          c.saturating_add-bytes.ensures;
    }
