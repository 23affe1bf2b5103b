-- The lines are told over the set that was attached, or none is.
use Rattle.std.proofs.Common.{arith, refl, sym, subst}
use Rattle.outer_io.specs.Files.{Files}
use Rattle.segment_set.proofs.Sizes.{set_fits}
use Rattle.commands.specs.Opens.{Opens}
use Rattle.commands.proofs.Looking.{looks_after, looks_fault, looks_runs}
use Rattle.explain_queries.specs.Explained.{IsScope, TellsLine}
use Rattle.explain_queries.specs.Explains.{IsExplaining, KnowsFiles}
use Rattle.explain_queries.proofs.Scoped.{attached_explains, attached_opens, attached_part, scope_holds}
use Rattle.explain_queries.proofs.Sizes.{explaining_fits}
use Rattle.explain_queries.proofs.run.ExplainAt.lines_at.Goals as goal

pub attach-requires : goal.attach-requires
attach-requires g c = (set_fits g.row.D c.requires.few, c.requires.dims)

pub run_lines-requires-room-A-Answers : goal.run_lines-requires-room-A-Answers
run_lines-requires-room-A-Answers g c κs within = explaining_fits g.row.D c.requires.few

pub returns-in-Ok-clause-does : goal.returns-in-Ok-clause-does
returns-in-Ok-clause-does g c =
    let old = g.F.Pages.files c.args.world.now.folder.now in
    let opened = c.in-Ok.ensures in
    looks_after TellsLine _ _ _ _ _ _ _ (IsScope old) (IsScope old) _ _ _
    (record { files = λ k. opened.files k.0; written = refl; folder_later = opened.cause.later; sink_same = refl }) (λ k. k) (λ k s i. i)
    (λ k s i pages e. (
      0,
      refl,
      let h = scope_holds old c.args.commit.now s k.1 i in
          let few = opened.reads k.0 s.heads h.sets h.heads h.live in omega (arith, few, e),
    ))
    (looks_runs TellsLine _ _ _ _ _ (IsScope old) _ _ (λ k. k.0)
    (λ k. subst Opens (sym (opened.files k.0))
    (attached_opens g.row.D old c.args.commit.now c.in-Ok.set c.requires.dims k.1 opened.commit (opened.live k.0) (opened.faithful k.0)))
    (λ k. subst (λ (f : Files). KnowsFiles g.row.D f c.in-Ok.set) (sym (opened.files k.0)) (record {
      faithful = opened.faithful k.0;
      listed = attached_part old c.args.commit.now c.in-Ok.set k.1 opened.commit;
    }))
    (λ k s i. subst (λ (f : Files). IsExplaining g.row.D f c.in-Ok.set s) (sym (opened.files k.0))
    (attached_explains g.row.D old c.args.commit.now c.in-Ok.set s c.requires.dims k.1 (opened.seen k.0 k.1) opened.commit i))
    c.run_lines.ensures.runs)

pub returns-in-Err-clause-does : goal.returns-in-Err-clause-does
returns-in-Err-clause-does g c =
    let old = g.F.Pages.files c.args.world.now.folder.now in
    looks_fault TellsLine _ _ _ _ _ (IsScope old) _ c.in-Err.fault c.stopped.result c.stopped.ensures
    (record { files = λ k. c.in-Err.ensures.files k.0; written = refl; folder_later = c.in-Err.ensures.cause.later; sink_same = refl }) c.in-Err.ensures.cause
    (λ k s i. c.in-Err.ensures.damaged.whole k.0 k.1 s.state i.stored)
    (λ k s i pages e.
    let h = scope_holds old c.args.commit.now s k.1 i in let few = c.in-Err.ensures.reads k.0 s.heads h.sets h.heads h.live in omega (arith, few, e))
    c.in-Err.ensures.damaged.evident
