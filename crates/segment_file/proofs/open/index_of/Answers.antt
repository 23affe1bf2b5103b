use Rattle.std.proofs.Common.{sym, ap, ◌≡◌, ◌∙◌, ◌*◌, ◌++◌, List, ℕ, length, take, drop, replicate}
use Rattle.page_cache.specs.Bodies.{pages_for}
use Rattle.segment_file.specs.Heads.{Fields}
use Rattle.segment_file.proofs.Lists.{are_filled, front_of_filled, back_of_filled}
use Rattle.segment_file.proofs.HeadReads.{index_begins, spells_as}
use Rattle.segment_file.proofs.open.index_of.Goals as goal

pub no_head-requires : goal.no_head-requires
no_head-requires g c = λ dims said head rest fits h e.
    let items = c.args.payloads.items in
    let f = c.args.fields in
    let long : length items ≡ 4064 * pages_for f.index_length =
    ap (λ (l : List ℕ). length l) (sym c.as_slice.ensures.value) ∙ c.as_slice.ensures.len ∙ c.requires.long in
    let b = index_begins c.args.payload.now items rest f dims said head c.requires.fields fits h
    (ap (λ (l : List ℕ). c.args.payload.now ++ l ++ rest) (sym c.as_slice-then-not-is_blank.ensures.value) ∙ e) in
    let len : length head.index.bytes ≡ f.index_length = sym (ap (λ (x : Fields). x.index_length) b.same) in
    let are = are_filled items head.index.bytes rest f.index_length long len b.back in
    let back : drop f.index_length items ≡ replicate (length (drop f.index_length items)) 0 = back_of_filled items head.index.bytes f.index_length len are in
    let blank = c.is_blank.ensures.1 (rw (c.split_at.ensures.back, c.as_slice.ensures.value) back) in
    let not_blank = c.if-not-is_blank.true in
    cc

pub no_head-requires-in-Err : goal.no_head-requires-in-Err
no_head-requires-in-Err g c = λ dims said head rest fits h e.
    let items = c.args.payloads.items in
    let f = c.args.fields in
    let long : length items ≡ 4064 * pages_for f.index_length =
    ap (λ (l : List ℕ). length l) (sym c.as_slice.ensures.value) ∙ c.as_slice.ensures.len ∙ c.requires.long in
    let b = index_begins c.args.payload.now items rest f dims said head c.requires.fields fits h
    (ap (λ (l : List ℕ). c.args.payload.now ++ l ++ rest) (sym c.as_slice-in-Err.ensures.value) ∙ e) in
    let len : length head.index.bytes ≡ f.index_length = sym (ap (λ (x : Fields). x.index_length) b.same) in
    let are = are_filled items head.index.bytes rest f.index_length long len b.back in
    let front : take f.index_length items ≡ head.index.bytes = front_of_filled items head.index.bytes f.index_length len are in
    let body_is : c.new-body.result ≡ head.index.bytes =
    c.new-body.ensures ∙ c.in_ok-from_slice.ensures.items ∙ c.split_at.ensures.front ∙ ap (λ (l : List ℕ). take f.index_length l) c.as_slice.ensures.value
    ∙ front in
    let dims_is : dims ≡ g.row.D = sym (ap (λ (x : Fields). x.dims) b.same) ∙ c.requires.dims.2 in
    c.in-Err.ensures.err.1 h.spelled.root h.spelled.tree
    (spells_as dims head.index.form head.index.leaves g.row.D f.form f.leaves head.index.bytes c.new-body.result h.spelled.root h.spelled.tree dims_is
    (sym (ap (λ (x : Fields). x.form) b.same)) (sym (ap (λ (x : Fields). x.leaves) b.same)) (sym body_is) h.spelled.has)
