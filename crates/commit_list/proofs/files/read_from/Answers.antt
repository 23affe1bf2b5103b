use Rattle.std.proofs.Common.{◌≡◌, ◌*◌, arith, sym, ap, ◌∙◌, refl, ℕ, length}
use Rattle.std.proofs.lemmas.Result.{err_from_is_err_and, IfOk-weaker}
use Rattle.outer_io.specs.Files.{bytes_of}
use Rattle.outer_io.specs.declared.file_name.FileName.TheVariants.{Commit}
use Rattle.page_cache.specs.FirstPages.{first_name, first_size}
use Rattle.page_cache.specs.Evidence.{IsSizeDamage}
use Rattle.page_cache.proofs.Damages.{fault_weaker}
use Rattle.commit_list.specs.CommitFiles.{IsCommitFile, SpellsFilled, IsCommitDamageOf}
use Rattle.commit_list.proofs.CommitDamages.{joined_fault_of, commit_size_of, first_is_there}
use Rattle.commit_list.proofs.CommitPages.{begins-short, first_begins, file_long, file_pages, file_payloads, file_so, first_of}
use Rattle.commit_list.proofs.files.read_from.Goals as goal

pub returns-in_err-length-clause-whole : goal.returns-in_err-length-clause-whole
returns-in_err-length-clause-whole g c = λ told first d h.
    let p = err_from_is_err_and c.from_residual.result c.from_residual.ensures.1 in
    let f = first_of (g.F.Pages.files c.args.folder.now) c.args.first.now c.requires first in
    rw (p.1, p.2) (c.in_err-length.ensures.whole (length h.body) (first_begins _ _ d f.payload_is h))

pub returns-in_err-check_size-clause-damage : goal.returns-in_err-check_size-clause-damage
returns-in_err-check_size-clause-damage g c = λ told first.
    let files = g.F.Pages.files c.args.folder.now in
    let p = c.args.first.now in
    let pages = c.pages_for-pages.result in
    let e = err_from_is_err_and c.from_residual-in_err-check_size.result c.from_residual-in_err-check_size.ensures.1 in
    rw (e.1, e.2)
    (fault_weaker c.in_err-check_size.field-0.0 (IsSizeDamage (first_name p) (first_size p) (4096 * pages)) (IsCommitDamageOf files)
    (λ d h. commit_size_of files p c.in_ok-length.length pages d first c.in_ok-length.ensures.begins c.pages_for-pages.ensures h)
    c.in_err-check_size.ensures.size)

pub returns-in_err-payloads-clause-damage : goal.returns-in_err-payloads-clause-damage
returns-in_err-payloads-clause-damage g c = λ told first.
    let files = g.F.Pages.files c.args.folder.now in
    let e = err_from_is_err_and c.from_residual-in_err-payloads.result c.from_residual-in_err-payloads.ensures.1 in
    rw (e.1, e.2)
    (joined_fault_of files c.pages_for-pages.result c.in_err-payloads.field-0.0
    (first_is_there files c.args.first.now c.in_err-payloads.field-0.0 c.requires first)
    (sym (first_of files c.args.first.now c.requires first).size_is ∙ c.in_ok-check_size.ensures.ok.0 refl)
    c.in_err-payloads.ensures.shown c.in_err-payloads.ensures.within (c.in_err-payloads.ensures.damage told))

pub returns-in_err-check_size-clause-whole : goal.returns-in_err-check_size-clause-whole
returns-in_err-check_size-clause-whole g c = λ told first d h.
    let f = first_of (g.F.Pages.files c.args.folder.now) c.args.first.now c.requires first in
    let long = file_pages _ _ c.in_ok-length.length d f.payload_is c.in_ok-length.ensures.begins h in
    let fine = c.in_err-check_size.ensures.ok.1 (f.size_is ∙ long ∙ ap (λ (n : ℕ). 4096 * n) (sym c.pages_for-pages.ensures)) in
    absurd (cc)

pub returns-in_err-payloads-clause-reads : goal.returns-in_err-payloads-clause-reads
returns-in_err-payloads-clause-reads g c =
    let short = begins-short _ _ c.in_ok-length.ensures.begins in
    omega (arith, short.1, c.pages_for-pages.ensures, c.all_payloads.ensures.reads)

pub returns-clause-reads : goal.returns-clause-reads
returns-clause-reads g c =
    let short = begins-short _ _ c.in_ok-length.ensures.begins in
    omega (arith, short.1, c.pages_for-pages.ensures, c.all_payloads.ensures.reads)

pub returns-clause-found : goal.returns-clause-found
returns-clause-found g c = λ told first.
    let files = g.F.Pages.files c.args.folder.now in
    let pages = c.pages_for-pages.result in
    let payloads = c.in_ok-payloads.payloads.items in
    let f = first_of files c.args.first.now c.requires first in
    let long = sym f.size_is ∙ c.in_ok-check_size.ensures.ok.0 refl in
    let are = c.in_ok-payloads.ensures.pages told first in
    let same = c.in_ok-payloads.ensures.payloads told first in
    let len : length payloads ≡ 4064 * pages = omega (arith, c.in_ok-payloads.ensures.len, c.in_ok-payloads.payloads.ok.0) in
    IfOk-weaker c.commit_of.result (SpellsFilled payloads) (IsCommitFile (bytes_of (files Commit)))
    (λ d h. file_so (bytes_of (files Commit)) payloads pages d long are same len h) c.commit_of.ensures.found

pub returns-clause-damage : goal.returns-clause-damage
returns-clause-damage g c = λ told first.
    let files = g.F.Pages.files c.args.folder.now in
    let pages = c.pages_for-pages.result in
    let short = begins-short _ _ c.in_ok-length.ensures.begins in
    let are = c.in_ok-payloads.ensures.pages told first in
    let same = c.in_ok-payloads.ensures.payloads told first in
    c.commit_of.ensures.damage files (record { count = pages; some = omega (arith, short.0, c.pages_for-pages.ensures); pages = are; same = same })

pub returns-clause-whole : goal.returns-clause-whole
returns-clause-whole g c = λ told first d h.
    let files = g.F.Pages.files c.args.folder.now in
    let pages = c.pages_for-pages.result in
    let f = first_of files c.args.first.now c.requires first in
    let long = sym f.size_is ∙ c.in_ok-check_size.ensures.ok.0 refl in
    let same = c.in_ok-payloads.ensures.payloads told first in
    c.commit_of.ensures.whole d (file_payloads (bytes_of (files Commit)) c.in_ok-payloads.payloads.items pages d long same h)

-- ---- how much is read

pub returns-in_err-length-clause-most : goal.returns-in_err-length-clause-most
returns-in_err-length-clause-most g c = λ told first d h. omega (arith, file_long (bytes_of (g.F.Pages.files c.args.folder.now Commit)) d h)

pub returns-in_err-check_size-clause-most : goal.returns-in_err-check_size-clause-most
returns-in_err-check_size-clause-most g c = λ told first d h. omega (arith, file_long (bytes_of (g.F.Pages.files c.args.folder.now Commit)) d h)
