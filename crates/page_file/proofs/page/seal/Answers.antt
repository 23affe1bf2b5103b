use Rattle.page_file.proofs.Pages.{sealed_payload}
use Rattle.page_file.proofs.page.seal.Goals as goal

pub returns-clause-payload : goal.returns-clause-payload
returns-clause-payload c =
    sealed_payload c.args.payload.now c.put_at.new.out c.seal_in_place.new.page c.requires c.put_at.ensures c.seal_in_place.ensures.payload
