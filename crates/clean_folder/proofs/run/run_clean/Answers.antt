use Rattle.std.proofs.Common.{IsTrue}
use Rattle.clean_folder.proofs.Ending.{sent_clean}
use Rattle.clean_folder.proofs.run.run_clean.Goals as goal

pub returns-in-Ok-clause-ends : goal.returns-in-Ok-clause-ends
returns-in-Ok-clause-ends g c = λ told.
    rw c.status_of.ensures
    (sent_clean (IsTrue g.K.Sink.told) c.args.names.now (g.F.Pages.files c.args.folder.now) (g.F.Pages.files c.cleaned.new.folder)
    (g.K.Sink.written c.args.out.now) (g.K.Sink.written c.send.new.out) c.in-Ok.told.text.items c.as_slice.result.now c.in-Ok.told.refused c.send.result
    (c.in-Ok.ensures.cleaned told) c.as_slice.ensures.value c.send.ensures.known c.send.ensures.text c.send.ensures.cause)
