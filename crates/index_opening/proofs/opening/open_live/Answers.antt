use Rattle.std.proofs.Common.{◌∙◌, length, sym, ap}
use Rattle.std.proofs.lemmas.Result.{err_from_is_err_and}
use Rattle.outer_io.specs.declared.file_name.FileName.TheVariants.{Live}
use Rattle.live_bits.specs.LiveSet.{LiveSet}
use Rattle.index_opening.proofs.Listed.{equal_fault, live_fault, live_held, live_pair, pair_fault}
use Rattle.index_opening.proofs.First.{live_of, pair_of}
use Rattle.index_opening.proofs.opening.open_live.Goals as goal

pub returns-in_err-agree-clause-damage : goal.returns-in_err-agree-clause-damage
returns-in_err-agree-clause-damage g c = λ told commit.
    let files = g.F.Pages.files c.args.folder.now in
    let e = err_from_is_err_and c.from_residual-in_err-agree.result c.from_residual-in_err-agree.ensures.1 in
    rw (e.1, e.2)
    (pair_fault files commit c.args.s (Live c.args.s.segment c.args.s.generation) c.from.result c.from-2.result c.in_err-agree.field-0.0
    (live_pair files commit c.args.s c.in_ok-live.live c.from.result c.from-2.result (c.in_ok-live.ensures.live told) c.from.ensures
    (c.from-2.ensures ∙ c.live_count.ensures.value))
    c.in_err-agree.ensures.pair)

pub returns-in_err-agree-clause-whole : goal.returns-in_err-agree-clause-whole
returns-in_err-agree-clause-whole g c = λ told commit d held.
    let files = g.F.Pages.files c.args.folder.now in
    let same = live_held files commit c.args.s d c.in_ok-live.live held (c.in_ok-live.ensures.live told) in
    let e = err_from_is_err_and c.from_residual-in_err-agree.result c.from_residual-in_err-agree.ensures.1 in
    rw (e.1, e.2)
    (equal_fault (Live c.args.s.segment c.args.s.generation) c.from.result c.from-2.result c.in_err-agree.field-0.0
    (c.from.ensures ∙ sym held.live_count ∙ sym (c.from-2.ensures ∙ c.live_count.ensures.value ∙ ap (λ (l : LiveSet). length l.live) same))
    c.in_err-agree.ensures.pair)

pub returns-in_err-live-clause-damage : goal.returns-in_err-live-clause-damage
returns-in_err-live-clause-damage g c = λ told commit.
    let e = err_from_is_err_and c.from_residual.result c.from_residual.ensures.1 in
    rw (e.1, e.2)
    (live_fault (g.F.Pages.files c.args.folder.now) commit c.args.s c.in_err-live.field-0.0 c.in_err-live.ensures.shown (c.in_err-live.ensures.damage told))

pub returns-in_err-live-clause-of : goal.returns-in_err-live-clause-of
returns-in_err-live-clause-of g c =
    let e = err_from_is_err_and c.from_residual.result c.from_residual.ensures.1 in
    rw (e.1, e.2) (live_of c.args.s.segment c.args.s.generation c.in_err-live.field-0.0 c.in_err-live.ensures.shown)

pub returns-in_err-agree-clause-of : goal.returns-in_err-agree-clause-of
returns-in_err-agree-clause-of g c =
    let e = err_from_is_err_and c.from_residual-in_err-agree.result c.from_residual-in_err-agree.ensures.1 in
    rw (e.1, e.2) (pair_of (Live c.args.s.segment c.args.s.generation) c.from.result c.from-2.result c.in_err-agree.field-0.0 c.in_err-agree.ensures.pair)
