-- The lines are told over the segments that were opened, or none is.
use Rattle.std.proofs.Common.{IsTrue, arith, refl, sym, subst}
use Rattle.segment_view.specs.LiveSegments.{heads_of, lives_of}
use Rattle.index_opening.proofs.Listed.{opened_heads, opened_lives}
use Rattle.index_opening.proofs.Named.{all_listed}
use Rattle.commands.specs.Opens.{Opens}
use Rattle.commands.proofs.Opening.{opens_all}
use Rattle.commands.proofs.Looking.{looks_after, looks_fault, looks_no_memory, looks_runs}
use Rattle.count_queries.specs.Counted.{IsScope, TellsCount}
use Rattle.count_queries.proofs.Scoped.{has_heads, has_lives, opened_counting, own_heads, scope_holds}
use Rattle.count_queries.proofs.Stopping.{counting_at, never_stored, true_at}
use Rattle.count_queries.proofs.run.CountAt.lines_at.Goals as goal

pub returns-in-Ok-new-clause-does : goal.returns-in-Ok-new-clause-does
returns-in-Ok-new-clause-does g c =
    let old = g.F.Pages.files c.args.world.now.folder.now in
    let new = g.F.Pages.files c.open_index.new.folder in
    let opened = c.in-Ok.ensures in
    let agrees = c.in-Ok-new.ensures.agrees in
    looks_after TellsCount _ _ _ _ _ _ _ (IsScope old) (IsScope old) _ _ _
    (record { files = λ k. opened.files k.0; written = refl; folder_later = opened.cause.later; sink_same = refl }) (λ k. k) (λ k s i. i)
    (λ k s i pages e. (
      0,
      refl,
      let h = scope_holds old c.args.commit.now s k.1 i in
          let few = opened.reads k.0 (heads_of s.parts) (lives_of s.parts) (has_heads old c.args.commit.now s h) (has_lives old c.args.commit.now s h) in
          omega (arith, few, e),
    ))
    (looks_runs TellsCount _ _ _ _ _ (IsScope old) _ _ (λ k. k.0)
    (λ k. subst Opens (sym (opened.files k.0)) (opens_all old c.args.commit.now _ _ k.1
    (opened_heads (IsTrue g.F.Pages.told) old c.args.commit.now c.in-Ok.segments k.0 opened.opened)
    (opened_lives (IsTrue g.F.Pages.told) old c.args.commit.now c.in-Ok.segments k.0 opened.opened)))
    (λ k. true_at g.row.D old new c.in-Ok.segments c.in-Ok-new.cache c.in-Ok-new.cache (opened.files k.0) (λ a. agrees new) (
      agrees old,
      own_heads (IsTrue g.F.Pages.told) g.row.D old c.args.commit.now c.in-Ok.segments k.0 c.requires.dims opened.opened,
      all_listed (IsTrue g.F.Pages.told) old c.args.commit.now c.in-Ok.segments k.1 opened.opened,
    ))
    (λ k s i. (
      agrees new,
      counting_at g.row.D old new c.in-Ok.segments s (opened.files k.0)
          (opened_counting (IsTrue g.F.Pages.told) g.row.D old c.args.commit.now c.in-Ok.segments s k.0 c.requires.dims k.1 opened.opened i),
    ))
    c.run_lines.ensures.runs)

pub returns-in-Err-new-clause-does : goal.returns-in-Err-new-clause-does
returns-in-Err-new-clause-does g c =
    let old = g.F.Pages.files c.args.world.now.folder.now in
    looks_no_memory TellsCount _ _ _ _ _ (IsScope old) _
    (record { files = λ k. c.in-Ok.ensures.files k.0; written = refl; folder_later = c.in-Ok.ensures.cause.later; sink_same = refl })
    (λ k s i pages e.
    let h = scope_holds old c.args.commit.now s k.1 i in
    let few = c.in-Ok.ensures.reads k.0 (heads_of s.parts) (lives_of s.parts) (has_heads old c.args.commit.now s h) (has_lives old c.args.commit.now s h) in
    omega (arith, few, e))

pub returns-in-Err-clause-does : goal.returns-in-Err-clause-does
returns-in-Err-clause-does g c =
    let old = g.F.Pages.files c.args.world.now.folder.now in
    looks_fault TellsCount _ _ _ _ _ (IsScope old) _ c.in-Err.fault c.stopped.result c.stopped.ensures
    (record { files = λ k. c.in-Err.ensures.files k.0; written = refl; folder_later = c.in-Err.ensures.cause.later; sink_same = refl }) c.in-Err.ensures.cause
    (λ k s i. never_stored old s.state c.in-Err.fault i.stored (c.in-Err.ensures.undefined k.0 k.1))
    (λ k s i pages e.
    let h = scope_holds old c.args.commit.now s k.1 i in
    let few = c.in-Err.ensures.reads k.0 (heads_of s.parts) (lives_of s.parts) (has_heads old c.args.commit.now s h) (has_lives old c.args.commit.now s h) in
    omega (arith, few, e))
    c.in-Err.ensures.evident
