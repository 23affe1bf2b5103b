use Rattle.std.proofs.Common.{arith}
use Rattle.std.specs.Prelude.{IsTrue}
use Rattle.std.proofs.lemmas.Result.{err_from_is_err_and}
use Rattle.outer_io.specs.declared.file_name.FileName.TheVariants.{Live}
use Rattle.segment_set.proofs.Carried.{keeps_written}
use Rattle.segment_set.proofs.Causes.{wrote_cause}
use Rattle.segment_set.proofs.Saving.{done_cause, seg_whole}
use Rattle.segment_set.proofs.save.write_one.Goals as goal

pub returns-in_err-write_live-clause-kept : goal.returns-in_err-write_live-clause-kept
returns-in_err-write_live-clause-kept g c =
    keeps_written (IsTrue g.F.Pages.told) c.args.names.now c.name_live.new.self (g.F.Pages.files c.args.folder.now) (g.F.Pages.files c.write_live.new.folder)
    (Live c.id-segment.result c.in_ok-generation.generation)
    (c.in_ok-generation.ensures.rule, c.in_ok-generation.ensures.named, c.in_ok-generation.ensures.next)
    c.in_ok-generation.ensures.named c.in_ok-generation.ensures.fresh (λ e. cc) c.in_err-write_live.ensures.others

pub returns-in_err-write_live-clause-cause : goal.returns-in_err-write_live-clause-cause
returns-in_err-write_live-clause-cause g c =
    let e = err_from_is_err_and c.from_residual-in_err-write_live.result c.from_residual-in_err-write_live.ensures.1 in
    rw (e.1, e.2)
    (wrote_cause (g.F.Pages.faults c.args.folder.now) (g.F.Pages.faults c.write_live.new.folder) c.in_err-write_live.field-0.0
    c.in_err-write_live.ensures.cause)

pub returns-in_err-write_live-clause-whole : goal.returns-in_err-write_live-clause-whole
returns-in_err-write_live-clause-whole g c =
    let e = err_from_is_err_and c.from_residual-in_err-write_live.result c.from_residual-in_err-write_live.ensures.1 in
    rw (e.1, e.2) (seg_whole c.in_err-write_live.field-0.0)

pub returns-clause-kept : goal.returns-clause-kept
returns-clause-kept g c =
    keeps_written (IsTrue g.F.Pages.told) c.args.names.now c.name_live.new.self (g.F.Pages.files c.args.folder.now) (g.F.Pages.files c.write_live.new.folder)
    (Live c.id-segment.result c.in_ok-generation.generation)
    (c.in_ok-generation.ensures.rule, c.in_ok-generation.ensures.named, c.in_ok-generation.ensures.next)
    c.in_ok-generation.ensures.named c.in_ok-generation.ensures.fresh (λ e. cc) c.in_ok-write_live.ensures.others

pub returns-clause-line : goal.returns-clause-line
returns-clause-line g c =
    let below = c.next_segment.ensures.below.below c.args.head.now.id c.requires.named in (
      record {
        segment = c.id-segment.ensures;
        entries = c.entries.ensures;
        live = c.live_count.ensures.value;
        named = c.in_ok-generation.ensures.joins;
      },
      record {
        id = omega (arith, below, c.id-segment.ensures, c.in_ok-generation.ensures.next);
        some = omega (arith, c.index.ensures.ranges.some, c.entries.ensures);
        most = omega (arith, c.index.ensures.ranges.few, c.entries.ensures);
        live = omega (arith, c.requires.fits, c.entries.ensures, c.live_count.ensures.value);
      },
    )

pub returns-clause-anew : goal.returns-clause-anew
returns-clause-anew g c = record {
  fresh = c.in_ok-generation.ensures.fresh;
  rule = c.in_ok-generation.ensures.rule;
  written = c.in_ok-write_live.ensures.written;
}

pub returns-clause-cause : goal.returns-clause-cause
returns-clause-cause g c = done_cause (g.F.Pages.faults c.args.folder.now) (g.F.Pages.faults c.write_live.new.folder) _ c.in_ok-write_live.ensures.cause.on_ok

pub returns-in_err-write_live-clause-reads : goal.returns-in_err-write_live-clause-reads
returns-in_err-write_live-clause-reads g c = c.in_err-write_live.ensures.reads

pub returns-clause-reads : goal.returns-clause-reads
returns-clause-reads g c = c.in_ok-write_live.ensures.reads

pub returns-clause-joined : goal.returns-clause-joined
returns-clause-joined g c = c.in_ok-generation.ensures.named
