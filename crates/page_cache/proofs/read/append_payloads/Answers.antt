use Rattle.std.proofs.Common.{◌≡◌, ◌+◌, ◌*◌, arith, rules, refl, sym, ap, ◌∙◌, append-nil}
use Rattle.std.proofs.lemmas.Result.{err_from_is_err_and}
use Rattle.page_cache.specs.FilePages.{page_at, payloads_of}
use Rattle.page_cache.proofs.PageRuns.{payloads_grown, pages_more}
use Rattle.page_cache.proofs.OneRead.{file_of_page}
use Rattle.page_file.specs.declared.page.PageBytes.{PageBytes}
use Rattle.page_file.specs.Page.{payload_of}
use Rattle.outer_io.specs.Files.{bytes_of}
use Rattle.page_cache.specs.Evidence.{SizeWithin, IsPageDamage, IsPageDamageOf, IsFileDamage, IsFileDamageOf}
use Rattle.page_cache.proofs.Damages.{fault_weaker, fault_both, file_from_page, file_from_page_of, within_page}
use Rattle.page_cache.proofs.read.append_payloads.Goals as goal

pub pages-init : goal.pages-init
unfolding payloads_of
pages-init g c = record {
  files = λ told. refl;
  reads = omega arith;
  faults = refl;
  len = omega arith;
  payloads = λ told. sym (append-nil _);
  pages = λ told n low high. absurd (omega arith);
}

pub pages-preserved : goal.pages-preserved
pages-preserved g c = record {
  files = search rules;
  reads = search rules;
  faults = search rules;
  len = search rules;
  payloads = λ told.
      let same = c.pages.invariant.files told in
      let page = rw same at (c.in_ok-page-2.ensures.bytes told) in
      let came : c.payload_bytes.result.now ≡ payload_of (page_at (bytes_of (g.F.Pages.files c.args.folder.now c.args.name.now)) (1 + c.pages.i)) =
      c.payload_bytes.ensures.bytes ∙ ap (λ (p : PageBytes). payload_of p.b) c.deref.ensures ∙ ap payload_of page in
      payloads_grown (bytes_of (g.F.Pages.files c.args.folder.now c.args.name.now)) c.args.out.now.items c.pages.out.items c.payload_bytes.result.now
      c.extend_from_slice.new.self.items
      1 c.pages.i c.in_ok-extend_from_slice.ensures.items (c.pages.invariant.payloads told) came;
  pages = λ told.
      let same = c.pages.invariant.files told in
      let page = rw same at (c.in_ok-page-2.ensures.bytes told) in
      pages_more c.args.name.now (bytes_of (g.F.Pages.files c.args.folder.now c.args.name.now)) 1 c.pages.i (c.pages.invariant.pages told)
      (file_of_page (g.F.Pages.files c.args.folder.now) c.args.name.now (1 + c.pages.i) c.in_ok-page-2.page.value.b page c.in_ok-page-2.ensures.valid);
}

pub returns-in_err-page-2-clause-shown : goal.returns-in_err-page-2-clause-shown
returns-in_err-page-2-clause-shown g c = let p = err_from_is_err_and c.from_residual-in_err-page-2.result c.from_residual-in_err-page-2.ensures.1 in
    rw (p.1, p.2) (fault_weaker c.in_err-page-2.field-0.0 (IsPageDamage c.args.name.now (1 + c.pages.i)) (IsFileDamage c.args.name.now)
    (file_from_page c.args.name.now (1 + c.pages.i)) c.in_err-page-2.ensures.shown)

pub returns-in_err-page-2-clause-within : goal.returns-in_err-page-2-clause-within
returns-in_err-page-2-clause-within g c = let p = err_from_is_err_and c.from_residual-in_err-page-2.result c.from_residual-in_err-page-2.ensures.1 in
    rw (p.1, p.2) (fault_weaker c.in_err-page-2.field-0.0 (IsPageDamage c.args.name.now (1 + c.pages.i)) (SizeWithin (4096 * (1 + c.args.count)))
    (λ d. within_page c.args.name.now (1 + c.pages.i) (1 + c.args.count) d (omega arith)) c.in_err-page-2.ensures.shown)

pub returns-in_err-page-2-clause-damage : goal.returns-in_err-page-2-clause-damage
returns-in_err-page-2-clause-damage g c = λ told.
    let p = err_from_is_err_and c.from_residual-in_err-page-2.result c.from_residual-in_err-page-2.ensures.1 in
    let same = c.pages.invariant.files told in
    rw (p.1, p.2, ← same) (fault_both c.in_err-page-2.field-0.0 (IsPageDamage c.args.name.now (1 + c.pages.i))
    (IsPageDamageOf (g.F.Pages.files c.pages.folder) (1 + c.pages.i)) (IsFileDamageOf (g.F.Pages.files c.pages.folder))
    (λ d. file_from_page_of (g.F.Pages.files c.pages.folder) c.args.name.now (1 + c.pages.i) d (λ none. absurd (omega arith))) c.in_err-page-2.ensures.shown
    (c.in_err-page-2.ensures.damage told))
