use Rattle.std.proofs.Common.{arith}
use Rattle.std.proofs.lemmas.Result.{IfOk-weaker}
use Rattle.segment_file.specs.LiveFiles.{IsLiveFile}
use Rattle.segment_file.proofs.LiveReads.{body_short}
use Rattle.segment_file.proofs.live.live_pages.Goals as goal

pub pages_of-requires : goal.pages_of-requires
pages_of-requires c =
    let short = body_short c.args.id c.args.generation c.args.live.now c.in_ok-body.body c.in_ok-body.ensures in
    rw c.as_slice.ensures (omega arith)

pub returns : goal.returns
unfolding IsLiveFile
returns c =
    IfOk-weaker c.pages_of.result _ _
    (λ v file. record { body = c.in_ok-body.body; set = c.in_ok-body.ensures; file = rw (← c.as_slice.ensures) file })
    c.pages_of.ensures
