-- Each page is what the file has of it.
use Rattle.std.proofs.Common.{arith, ◌++◌, ◌*◌, take, drop, ◌∙◌, subst, ◌≡◌}
use Rattle.outer_io.specs.Files.{Files, bytes_of}
use Rattle.batch_run.proofs.PartsRead.{parts_read}
use Rattle.batch_run.proofs.copying.read_file.Goals as goal

pub loop-page-preserved : goal.loop-page-preserved
loop-page-preserved g c = record {
  read = λ told.
      parts_read (bytes_of (g.F.Pages.files c.size.new.self c.args.name.now)) c.loop-page.bytes.items c.append_page.new.bytes.items
      c.loop-page.page (c.loop-page.invariant.read told)
      (subst (λ (f : Files). c.append_page.new.bytes.items
      ≡ c.loop-page.bytes.items ++ take 4096 (drop (4096 * c.loop-page.page) (bytes_of (f c.args.name.now))))
      (c.loop-page.invariant.files told) (c.in_ok-append_page.ensures.page told));
  files = λ told. c.in_ok-append_page.ensures.files told ∙ c.loop-page.invariant.files told;
  reads = omega (arith, c.in_ok-append_page.ensures.reads, c.loop-page.invariant.reads);
  faults = c.in_ok-append_page.ensures.cause.on_ok ∙ c.loop-page.invariant.faults;
}
