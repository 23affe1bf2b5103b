use Rattle.std.proofs.Common.{ap, ◌∙◌, List, ℕ}
use Rattle.page_file.specs.Page.{page_digest}
use Rattle.page_file.proofs.Pages.{sealed_page}
use Rattle.page_file.proofs.page.seal_in_place.Goals as goal

pub returns : goal.returns
returns c =
    let made =
    sealed_page c.args.kind c.args.file c.args.number c.args.page.now c.put_at.new.out c.digest_of-digest.result c.requires c.digest_of-digest.ensures.len
    (c.digest_of-digest.ensures.value ∙ ap (λ (x : List ℕ). page_digest c.args.kind c.args.file c.args.number x) c.split_at.ensures.front)
    c.put_at.ensures in
    record { page = made.0; payload = made.1 }
