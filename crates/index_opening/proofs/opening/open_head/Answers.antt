use Rattle.std.proofs.Common.{◌∙◌, sym, ap}
use Rattle.std.proofs.lemmas.Result.{err_from_is_err_and}
use Rattle.outer_io.specs.declared.file_name.FileName.TheVariants.{Segment}
use Rattle.segment_file.specs.Heads.{Head}
use Rattle.index_opening.proofs.Listed.{entries_pair, equal_fault, head_fault, head_held, is_held, leaf_pair, listed_head, pair_fault}
use Rattle.index_opening.proofs.First.{head_of, pair_of}
use Rattle.index_opening.proofs.opening.open_head.Goals as goal

pub returns-in_err-head-clause-whole : goal.returns-in_err-head-clause-whole
returns-in_err-head-clause-whole g c = λ told d held.
    let e = err_from_is_err_and c.from_residual.result c.from_residual.ensures.1 in
    rw (e.1, e.2)
    (c.in_err-head.ensures.whole told d.head held.id (is_held g.row.D (g.F.Pages.files c.args.folder.now) c.args.c.now c.args.s d c.requires held))

pub returns-in_err-agree-clause-damage : goal.returns-in_err-agree-clause-damage
returns-in_err-agree-clause-damage g c = λ told.
    let files = g.F.Pages.files c.args.folder.now in
    let has = listed_head g.row.D files c.args.c.now c.args.s c.in_ok-head.head c.requires c.in_ok-head.ensures.id (c.in_ok-head.ensures.head told) in
    let e = err_from_is_err_and c.from_residual-in_err-agree.result c.from_residual-in_err-agree.ensures.1 in
    rw (e.1, e.2)
    (pair_fault files c.args.c.now c.args.s (Segment c.args.s.segment) c.from.result c.from-2.result c.in_err-agree.field-0.0
    (leaf_pair files c.args.c.now c.args.s c.in_ok-head.head c.from.result c.from-2.result has (c.from.ensures ∙ c.leaf_size-leaf_size.ensures.value)
    (c.from-2.ensures ∙ c.leaf_size.ensures))
    c.in_err-agree.ensures.pair)

pub returns-in_err-agree-clause-whole : goal.returns-in_err-agree-clause-whole
returns-in_err-agree-clause-whole g c = λ told d held.
    let files = g.F.Pages.files c.args.folder.now in
    let has = listed_head g.row.D files c.args.c.now c.args.s c.in_ok-head.head c.requires c.in_ok-head.ensures.id (c.in_ok-head.ensures.head told) in
    let same = head_held files c.args.c.now c.args.s d c.in_ok-head.head held has in
    let e = err_from_is_err_and c.from_residual-in_err-agree.result c.from_residual-in_err-agree.ensures.1 in
    rw (e.1, e.2)
    (equal_fault (Segment c.args.s.segment) c.from.result c.from-2.result c.in_err-agree.field-0.0
    (c.from.ensures ∙ c.leaf_size-leaf_size.ensures.value ∙ sym held.leaf_size
    ∙ sym (c.from-2.ensures ∙ c.leaf_size.ensures ∙ ap (λ (h : Head). h.leaf_size) same))
    c.in_err-agree.ensures.pair)

pub returns-in_err-agree-2-clause-damage : goal.returns-in_err-agree-2-clause-damage
returns-in_err-agree-2-clause-damage g c = λ told.
    let files = g.F.Pages.files c.args.folder.now in
    let has = listed_head g.row.D files c.args.c.now c.args.s c.in_ok-head.head c.requires c.in_ok-head.ensures.id (c.in_ok-head.ensures.head told) in
    let e = err_from_is_err_and c.from_residual-in_err-agree-2.result c.from_residual-in_err-agree-2.ensures.1 in
    rw (e.1, e.2)
    (pair_fault files c.args.c.now c.args.s (Segment c.args.s.segment) c.from-3.result c.from-4.result c.in_err-agree-2.field-0.0
    (entries_pair files c.args.c.now c.args.s c.in_ok-head.head c.from-3.result c.from-4.result has c.from-3.ensures (c.from-4.ensures ∙ c.entries.ensures))
    c.in_err-agree-2.ensures.pair)

pub returns-in_err-agree-2-clause-whole : goal.returns-in_err-agree-2-clause-whole
returns-in_err-agree-2-clause-whole g c = λ told d held.
    let files = g.F.Pages.files c.args.folder.now in
    let has = listed_head g.row.D files c.args.c.now c.args.s c.in_ok-head.head c.requires c.in_ok-head.ensures.id (c.in_ok-head.ensures.head told) in
    let same = head_held files c.args.c.now c.args.s d c.in_ok-head.head held has in
    let e = err_from_is_err_and c.from_residual-in_err-agree-2.result c.from_residual-in_err-agree-2.ensures.1 in
    rw (e.1, e.2)
    (equal_fault (Segment c.args.s.segment) c.from-3.result c.from-4.result c.in_err-agree-2.field-0.0
    (c.from-3.ensures ∙ sym held.count ∙ sym (c.from-4.ensures ∙ c.entries.ensures ∙ ap (λ (h : Head). h.entries) same)) c.in_err-agree-2.ensures.pair)

pub returns-in_err-head-clause-damage : goal.returns-in_err-head-clause-damage
returns-in_err-head-clause-damage g c = λ told.
    let e = err_from_is_err_and c.from_residual.result c.from_residual.ensures.1 in
    rw (e.1, e.2)
    (head_fault g.row.D (g.F.Pages.files c.args.folder.now) c.args.c.now c.args.s c.in_err-head.field-0.0 c.requires
    c.in_err-head.ensures.shown (c.in_err-head.ensures.damage told))

pub returns-in_err-head-clause-of : goal.returns-in_err-head-clause-of
returns-in_err-head-clause-of g c =
    let e = err_from_is_err_and c.from_residual.result c.from_residual.ensures.1 in
    rw (e.1, e.2) (head_of c.args.s.segment c.in_err-head.field-0.0 c.in_err-head.ensures.shown)

pub returns-in_err-agree-clause-of : goal.returns-in_err-agree-clause-of
returns-in_err-agree-clause-of g c =
    let e = err_from_is_err_and c.from_residual-in_err-agree.result c.from_residual-in_err-agree.ensures.1 in
    rw (e.1, e.2) (pair_of (Segment c.args.s.segment) c.from.result c.from-2.result c.in_err-agree.field-0.0 c.in_err-agree.ensures.pair)

pub returns-in_err-agree-2-clause-of : goal.returns-in_err-agree-2-clause-of
returns-in_err-agree-2-clause-of g c =
    let e = err_from_is_err_and c.from_residual-in_err-agree-2.result c.from_residual-in_err-agree-2.ensures.1 in
    rw (e.1, e.2) (pair_of (Segment c.args.s.segment) c.from-3.result c.from-4.result c.in_err-agree-2.field-0.0 c.in_err-agree-2.ensures.pair)
