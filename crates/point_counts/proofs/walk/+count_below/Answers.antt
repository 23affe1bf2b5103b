use Rattle.std.proofs.Common.{rules, ◌≡◌, ◌+◌, ◌++◌, ◌∙◌, ℕ, List, Err, true, sym, subst, ap, arith}
use Rattle.std.specs.Prelude.{OnOk}
use Rattle.std.specs.List.{All}
use Rattle.outer_io.specs.Files.{bytes_of}
use Rattle.outer_io.specs.declared.file_name.FileName.TheVariants.{Segment}
use Rattle.point_codec.specs.Points.{Item}
use Rattle.live_bits.specs.LiveSet.{is_live}
use Rattle.inner_pack.specs.Trees.{leaf_count}
use Rattle.inner_pack.specs.Bodies.{right_begin}
use Rattle.page_cache.specs.Cache.{Agrees}
use Rattle.segment_file.specs.Segments.{HoldsTree}
use Rattle.segment_file.specs.Damages.{IsLeafDamage}
use Rattle.bkd_reader.proofs.Trees.{handed_on, left_damage, right_damage, held, left_root, right_root}
use Rattle.point_counts.specs.Tables.{AddsCounts, live_at}
use Rattle.point_counts.specs.Costs.{opened_below}
use Rattle.point_counts.proofs.Counts.{adds_then, live_join, all_left, all_right}
use Rattle.point_counts.proofs.Subtrees.{opened_split, one_opened, on_true, on_false}
use Rattle.point_counts.proofs.walk.+count_below.Goals as goal
use Rattle.segment_file.proofs.Subtrees.{on_ok}

-- ---- nothing is to be read

pub returns-then-is_settled-clause-counts : goal.returns-then-is_settled-clause-counts
returns-then-is_settled-clause-counts g t c = λ told agrees first s path u items root holds live.
    let box = g.S.Sorting.bounds c.args.sorting.now in
    let place = g.S.Sorting.place c.args.sorting.now in
    let bytes = bytes_of (g.F.Pages.files c.args.folder.now (Segment c.args.head.now.id)) in
    on_true _ (AddsCounts (live_at box place c.args.live.now items) c.args.table.now c.is_settled.new.table)
    c.if-is_settled.true
    (c.is_settled.ensures.counts first s path u bytes items root holds c.args.live.now live)

-- ---- the left child is refused

pub returns-in_err-count_below-in-Some-clause-reads : goal.returns-in_err-count_below-in-Some-clause-reads
returns-in_err-count_below-in-Some-clause-reads g t c = λ first s path u root.
    let k = c.in-Some.ensures.some first s path u root.is in
    let box = g.S.Sorting.bounds c.args.sorting.now in
    let parts = g.S.Sorting.parts c.args.sorting.now in
    let left = c.count_below.ensures.reads first s _ k.l
    (left_root c.in-Some.left c.in-Some.right first s path u k root.cells) in
    let both = ap (opened_below c.args.clean box parts) k.is
    ∙ opened_split c.args.clean box parts k.dimension k.value k.l k.r in
    omega (arith, left, both)

pub returns-in_err-count_below-in-Some-clause-shown : goal.returns-in_err-count_below-in-Some-clause-shown
returns-in_err-count_below-in-Some-clause-shown g t c = λ first s path u is.
    let k = c.in-Some.ensures.some first s path u is in
    handed_on c.from_residual.result c.in_err-count_below-in-Some.field-0.0
    (IsLeafDamage g.row.D c.args.head.now first s u) c.from_residual.ensures.1
    (left_damage {T = Unit {0}} (Err c.in_err-count_below-in-Some.field-0.0) c.args.head.now c.in-Some.left
    c.in-Some.right first s path u k (c.in_err-count_below-in-Some.ensures.shown first s _ k.l k.left_is))

pub returns-in_err-count_below-in-Some-clause-whole : goal.returns-in_err-count_below-in-Some-clause-whole
returns-in_err-count_below-in-Some-clause-whole g t c = λ told agrees first s path u items is holds.
    let k = c.in-Some.ensures.some first s path u is in
    let j = held (bytes_of (g.F.Pages.files c.args.folder.now (Segment c.args.head.now.id))) c.args.head.now
    c.in-Some.left c.in-Some.right first s path u k items holds in
    handed_on c.from_residual.result c.in_err-count_below-in-Some.field-0.0 (λ _. ⊥) c.from_residual.ensures.1
    (c.in_err-count_below-in-Some.ensures.whole told agrees first s _ k.l j.front_items k.left_is j.front_holds)

-- ---- both children are walked

pub returns-in_ok-count_below-in-Some-clause-counts : goal.returns-in_ok-count_below-in-Some-clause-counts
returns-in_ok-count_below-in-Some-clause-counts g t c = λ told agrees first s path u items root holds live.
    let k = c.in-Some.ensures.some first s path u root.is in
    let box = g.S.Sorting.bounds c.args.sorting.now in
    let place = g.S.Sorting.place c.args.sorting.now in
    let same = c.count_below.ensures.reading.files told in
    let agree = subst (λ f. Agrees f c.count_below.new.cache) (sym same) (c.count_below.ensures.reading.agrees told agrees) in
    let j = held (bytes_of (g.F.Pages.files c.args.folder.now (Segment c.args.head.now.id))) c.args.head.now
    c.in-Some.left c.in-Some.right first s path u k items holds in
    let whole : c.args.clean ≡ true → All (λ (x : Item). is_live c.args.live.now x.doc ≡ true)
    (j.front_items ++ j.back_items) =
    λ e. subst (All (λ (x : Item). is_live c.args.live.now x.doc ≡ true)) j.joined (live e) in
    let stays = on_false _ _ c.if-is_settled.false c.is_settled.ensures.stays in
    let front = subst (λ (z : List ℕ). AddsCounts (live_at box place c.args.live.now j.front_items) z c.count_below.new.table)
    stays
    (c.in_ok-count_below-in-Some.ensures.counts told agrees first s _ k.l j.front_items
    (left_root c.in-Some.left c.in-Some.right first s path u k root.cells) j.front_holds
    (λ e. all_left (λ (x : Item). is_live c.args.live.now x.doc ≡ true) j.front_items j.back_items (whole e))) in
    let back = c.count_below-in-Some.ensures.counts told agree (first + leaf_count k.l) (right_begin s k.l k.r) _ k.r
    j.back_items (right_root c.in-Some.left c.in-Some.right first s path u k root.cells)
    (subst (λ f. HoldsTree g.row.D (bytes_of (f (Segment c.args.head.now.id))) c.args.head.now (first + leaf_count k.l)
    (right_begin s k.l k.r) k.r j.back_items) (sym same) j.back_holds)
    (λ e. all_right (λ (x : Item). is_live c.args.live.now x.doc ≡ true) j.front_items j.back_items (whole e)) in
    on_ok (AddsCounts (live_at box place c.args.live.now j.back_items) c.count_below.new.table
    c.count_below-in-Some.new.table) (AddsCounts (live_at box place c.args.live.now items) c.args.table.now
    c.count_below-in-Some.new.table)
    c.count_below-in-Some.result
    (λ b. adds_then (live_at box place c.args.live.now j.front_items) (live_at box place c.args.live.now j.back_items)
    (live_at box place c.args.live.now items) c.args.table.now c.count_below.new.table
    c.count_below-in-Some.new.table
    (λ n. ap (λ (xs : List Item). live_at box place c.args.live.now xs n) j.joined
    ∙ live_join box place c.args.live.now j.front_items j.back_items n) front b)
    back

pub returns-in_ok-count_below-in-Some-clause-reads : goal.returns-in_ok-count_below-in-Some-clause-reads
returns-in_ok-count_below-in-Some-clause-reads g t c = λ first s path u root.
    let k = c.in-Some.ensures.some first s path u root.is in
    let box = g.S.Sorting.bounds c.args.sorting.now in
    let parts = g.S.Sorting.parts c.args.sorting.now in
    let left = c.count_below.ensures.reads first s _ k.l
    (left_root c.in-Some.left c.in-Some.right first s path u k root.cells) in
    let right = c.count_below-in-Some.ensures.reads (first + leaf_count k.l) (right_begin s k.l k.r) _ k.r
    (right_root c.in-Some.left c.in-Some.right first s path u k root.cells) in
    let both = ap (opened_below c.args.clean box parts) k.is
    ∙ opened_split c.args.clean box parts k.dimension k.value k.l k.r in
    omega (arith, left, right, both)

pub returns-in_ok-count_below-in-Some-clause-shown : goal.returns-in_ok-count_below-in-Some-clause-shown
returns-in_ok-count_below-in-Some-clause-shown g t c = λ first s path u is.
    let k = c.in-Some.ensures.some first s path u is in
    right_damage c.count_below-in-Some.result c.args.head.now c.in-Some.left c.in-Some.right first s path u k
    (c.count_below-in-Some.ensures.shown (first + leaf_count k.l) (right_begin s k.l k.r) _ k.r k.right_is)

pub returns-in_ok-count_below-in-Some-clause-whole : goal.returns-in_ok-count_below-in-Some-clause-whole
returns-in_ok-count_below-in-Some-clause-whole g t c = λ told agrees first s path u items is holds.
    let k = c.in-Some.ensures.some first s path u is in
    let same = c.count_below.ensures.reading.files told in
    let agree = subst (λ f. Agrees f c.count_below.new.cache) (sym same) (c.count_below.ensures.reading.agrees told agrees) in
    let j = held (bytes_of (g.F.Pages.files c.args.folder.now (Segment c.args.head.now.id))) c.args.head.now
    c.in-Some.left c.in-Some.right first s path u k items holds in
    c.count_below-in-Some.ensures.whole told agree (first + leaf_count k.l) (right_begin s k.l k.r) _ k.r j.back_items
    k.right_is
    (subst (λ f. HoldsTree g.row.D (bytes_of (f (Segment c.args.head.now.id))) c.args.head.now (first + leaf_count k.l)
    (right_begin s k.l k.r) k.r j.back_items) (sym same) j.back_holds)

-- ---- a leaf

pub returns-in-None-clause-counts : goal.returns-in-None-clause-counts
returns-in-None-clause-counts g t c = λ told agrees first s path u items root holds live.
    let box = g.S.Sorting.bounds c.args.sorting.now in
    let place = g.S.Sorting.place c.args.sorting.now in
    let stays = on_false _ _ c.if-is_settled.false c.is_settled.ensures.stays in
    subst (λ (z : List ℕ). OnOk c.count_leaf.result (AddsCounts (live_at box place c.args.live.now items) z
    c.count_leaf.new.table)) stays
    (c.count_leaf.ensures.counts told agrees first s path u items root.is holds live)

pub returns-in-None-clause-reads : goal.returns-in-None-clause-reads
returns-in-None-clause-reads g t c = λ first s path u root.
    let one : c.args.node.now.leaves ≡ 1 = search rules in
    let parted = on_false _ _ c.if-is_settled.false c.is_settled.ensures.parted in
    let touched = on_false _ _ c.if-is_settled.false c.is_settled.ensures.touched in
    let it = one_opened c.args.clean (g.S.Sorting.bounds c.args.sorting.now) (g.S.Sorting.parts c.args.sorting.now)
    c.args.node.now first s path u one root.is
    (λ e. parted e first s path u root.is) (touched first s path u root.is) in
    let most = c.count_leaf.ensures.reads in
    omega (arith, it, most)
