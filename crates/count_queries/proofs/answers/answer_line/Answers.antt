-- A line is answered where it can be read and has such a grid, and refused where not.
use Rattle.std.proofs.Common.{false, refl, sym, IsTrue}
use Rattle.std.proofs.lemmas.List.{append-nil}
use Rattle.script_lang.specs.Replies.{line_fault_text, refusal_text}
use Rattle.run_status.specs.Told.{silence}
use Rattle.count_queries.specs.Asks.{Blank, Points, box_from}
use Rattle.count_queries.specs.Texts.{grid_fault_text}
use Rattle.count_queries.proofs.Answering.{answers_as, answers_refused, answers_text, grid_from, grid_to, line_from, line_to, line_ungrid, line_unread}
use Rattle.count_queries.proofs.answers.answer_line.Goals as goal

pub returns-in-Ok-Blank : goal.returns-in-Ok-Blank
returns-in-Ok-Blank g c =
    let reads = rw c.in-Ok-Blank.field-0-is at c.in-Ok-Blank.ensures in
    answers_text g.row.D (IsTrue g.F.Pages.told) c.args.segments.now _ _ _ silence false refl refl refl refl (sym (append-nil c.args.reply.now.items)) refl
    (λ s e. line_to g.row.D _ _ s c.args.number c.args.line.now e Blank silence reads (e.index, e.state, refl))

pub returns-in-Ok-Points : goal.returns-in-Ok-Points
returns-in-Ok-Points g c =
    let reads = rw c.in-Ok-Points.field-0-is at c.in-Ok-Points.ensures in
    let bounds = box_from (c.in-Ok-Points.lo.c, c.in-Ok-Points.hi.c) in
    answers_as g.row.D (IsTrue g.F.Pages.told) c.args.segments.now _ _ _ _ c.answer_points.result
    (λ s t e. line_to g.row.D _ _ s c.args.number c.args.line.now e (Points bounds) t reads)
    (λ s t e. line_from g.row.D _ _ s c.args.number c.args.line.now e (Points bounds) t reads)
    c.answer_points.ensures

pub returns-in-Ok-Grid : goal.returns-in-Ok-Grid
returns-in-Ok-Grid g c =
    let reads = rw c.in-Ok-Grid.field-0-is at c.in-Ok-Grid.ensures in
    answers_as g.row.D (IsTrue g.F.Pages.told) c.args.segments.now _ _ _ _ c.answer_grid.result
    (λ s t e. grid_to g.row.D _ _ s c.args.number c.args.line.now e c.in-Ok-Grid.plan t reads.0 reads.1)
    (λ s t e. grid_from g.row.D _ _ s c.args.number c.args.line.now e c.in-Ok-Grid.plan t reads.0 reads.1)
    c.answer_grid.ensures

pub returns-in-Err-Line : goal.returns-in-Err-Line
returns-in-Err-Line g c =
    let reads = rw c.in-Err-Line.field-0-is at c.in-Err-Line.ensures in
    answers_refused g.row.D (IsTrue g.F.Pages.told) c.args.segments.now _ _ _ (line_fault_text c.args.number c.in-Err-Line.fault) c.refuse_line.result refl refl
    refl refl (rw c.in-Err-Line.field-0-is at c.refuse_line.ensures.refused) c.refuse_line.ensures.memory
    (λ s e. line_unread g.row.D _ _ s c.args.number c.args.line.now e c.in-Err-Line.fault reads.0)

pub returns-in-Err-Grid : goal.returns-in-Err-Grid
returns-in-Err-Grid g c =
    let reads = rw c.in-Err-Grid.field-0-is at c.in-Err-Grid.ensures in
    answers_refused g.row.D (IsTrue g.F.Pages.told) c.args.segments.now _ _ _ (refusal_text c.args.number (grid_fault_text c.in-Err-Grid.fault))
    c.refuse_grid.result refl refl refl refl
    (rw c.in-Err-Grid.field-0-is at c.refuse_grid.ensures.refused) c.refuse_grid.ensures.memory
    (λ s e. line_ungrid g.row.D _ _ s c.args.number c.args.line.now e reads.0 c.in-Err-Grid.fault reads.1 reads.2)
