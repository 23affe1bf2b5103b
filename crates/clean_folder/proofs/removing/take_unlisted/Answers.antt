use Rattle.std.proofs.Common.{◌∙◌, arith}
use Rattle.clean_folder.specs.Cleaned.{is_there, size_in}
use Rattle.clean_folder.proofs.Counting.{counts_more}
use Rattle.clean_folder.proofs.Removal.{gone_all, gone_more, takes_then}
use Rattle.clean_folder.proofs.removing.take_unlisted.Goals as goal

pub loop-name-preserved : goal.loop-name-preserved
loop-name-preserved g c =
    let first = g.F.Pages.files c.args.folder.now in
    let old = g.F.Pages.files c.loop-name.folder in
    let new = g.F.Pages.files c.take_if_unlisted.new.folder in
    let names = c.args.names.now in
    let i = c.loop-name.name-index in
    let step = c.in_ok-take_if_unlisted.ensures in
    record {
      takes = λ told. takes_then c.args.commit.now first old new (c.loop-name.invariant.takes told) (step.takes told);
      gone = λ told.
          gone_more c.args.commit.now names i _ old new c.loop-name-test.true (step.takes told) (c.loop-name.invariant.gone told) (step.gone told);
      counts = λ told apart.
          let so_far = c.loop-name.invariant.counts told apart in
          let keeps = step.counts told in
          record {
            files_are = counts_more is_there names i _ first old new _ _ apart c.loop-name-test.true (step.others told) so_far.files_are keeps.files;
            bytes_are = counts_more size_in names i _ first old new _ _ apart c.loop-name-test.true (step.others told) so_far.bytes_are keeps.bytes;
          };
      faults = step.cause.on_ok ∙ c.loop-name.invariant.faults;
    }

pub returns-clause-gone : goal.returns-clause-gone
returns-clause-gone g c = λ told.
    let end = c.loop-name-test.false in
    gone_all c.args.commit.now c.args.names.now c.loop-name.name-index (g.F.Pages.files c.loop-name.folder) (omega (arith, end))
    (c.loop-name.invariant.gone told)
