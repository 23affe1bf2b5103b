use Rattle.std.proofs.Common.{List, ℕ, ◌++◌, ap, ◌∙◌}
use Rattle.outer_io.specs.Files.{bytes_of}
use Rattle.outer_io.specs.declared.file_name.FileName.TheVariants.{Commit}
use Rattle.page_cache.proofs.PageRuns.{joined_payloads}
use Rattle.commit_list.proofs.CommitPages.{first_of}
use Rattle.commit_list.proofs.files.all_payloads.Goals as goal

pub returns-clause-front : goal.returns-clause-front
returns-clause-front g c =
    let behind = c.as_slice.result.now in
    let front =
    c.in_ok-extend_from_slice.ensures.items ∙ ap (λ (xs : List ℕ). xs ++ c.payload.result.now) c.in_ok-all.ensures.items ∙ c.payload.ensures.bytes in
    (behind, c.in_ok-extend_from_slice-2.ensures.items ∙ ap (λ (xs : List ℕ). xs ++ behind) front)

pub returns-clause-payloads : goal.returns-clause-payloads
returns-clause-payloads g c = λ told first.
    let files = g.F.Pages.files c.args.folder.now in
    let mid = c.extend_from_slice.new.self.items in
    joined_payloads (bytes_of (files Commit)) c.in_ok-all.all.items mid c.extend_from_slice-2.new.self.items c.payload.result.now c.args.pages c.requires.some
    c.in_ok-all.ensures.items c.in_ok-extend_from_slice.ensures.items
    (c.payload.ensures.bytes ∙ (first_of files c.args.first.now c.requires.name first).payload_is)
    (c.in_ok-extend_from_slice-2.ensures.items ∙ ap (λ (xs : List ℕ). mid ++ xs) (c.as_slice.ensures.value ∙ c.in_ok-rest.ensures.payloads told))
