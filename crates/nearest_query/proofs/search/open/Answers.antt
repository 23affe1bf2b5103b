use Rattle.std.specs.Prelude.{All, sum_by}
use Rattle.nearest_query.proofs.Results.{always}
use Rattle.std.proofs.Common.{◌≡◌, ◌+◌, length, get_or, ℕ, ap, subst, sym, refl, ◌∙◌, arith, rules}
use Rattle.inner_pack.specs.Nodes.{IsAt}
use Rattle.nearest_query.specs.Fronts.{one_leaf, sum_below}
use Rattle.nearest_query.specs.Search.{AreInside, one_within, head_at, live_at, no_live}
use Rattle.nearest_query.specs.Segments.{no_head}
use Rattle.nearest_query.proofs.WaitingNodes.{waiting_sum, waiting_work, read_any}
use Rattle.nearest_query.proofs.Touched.{front_put, inside_less, is_leaf, no_leaf, one_most, opened_failed}
use Rattle.nearest_query.proofs.Steps.{children_span, fork_step, leaf_step, leaf_counts, leaf_whole, Opens, OpensWhole}
use Rattle.segment_file.specs.Damages.{IsLeafDamage}
use Rattle.page_cache.specs.Evidence.{OnDamage}
use Rattle.inner_pack.specs.Trees.{IndexTree}
use Rattle.inner_pack.specs.Places.{Spot}
use Rattle.point_codec.specs.Points.{Region}
use Rattle.nearest_query.specs.Search.{IsNodeBelow}
use Rattle.nearest_query.proofs.Parts.{parts_fork, leaf_shown}
use Rattle.std.proofs.lemmas.List.Elements.{All-head, All-tail}
use Rattle.std.proofs.lemmas.Result.{err_from_is_err_and}
use Rattle.page_cache.specs.Cache.{IsKept}
use Rattle.page_cache.proofs.Unread.{reads_failed}
use Rattle.segment_file.specs.Heads.{Head, page_of}
use Rattle.nearest_query.proofs.Unread.{leaf_kept}
use Rattle.nearest_query.proofs.Passed.{hides_own, hide_one, marks_none, marks_same}
use Rattle.nearest_query.proofs.search.open.Goals as goal

-- ---- leaves that are known to be dead

pub open_leaf-requires : goal.open_leaf-requires
open_leaf-requires g c = (
  search rules,
  (
    search rules,
    (
      search rules,
      (
        ap (λ m. m.leaves)
            (c.node-in-None.ensures ∙ c.requires.inside.stands.is c.node-in-None.result.now
            ∙ sym (c.node.ensures ∙ c.requires.inside.stands.is c.node.result.now))
            ∙ c.in-None.ensures.none.0 refl,
        λ watched.
            hides_own g.row.D c.args.heads.now c.args.lives.now c.args.next.segment c.index-heads-next.result c.index-lives-next.result c.args.cache.now
            c.requires.inside.inside
            (read_any c.args.heads.now c.args.next.segment c.index-heads-next.result no_head c.requires.inside.inside c.index-heads-next.is)
            (read_any c.args.lives.now c.args.next.segment c.index-lives-next.result no_live (omega (arith, c.requires.lives, c.requires.inside.inside))
            c.index-lives-next.is)
            (c.requires.passes watched).hides,
      ),
    ),
  ),
)

pub returns-in-None-clause-marks : goal.returns-in-None-clause-marks
returns-in-None-clause-marks g c = record {
  hides = λ watched.
      hide_one g.row.D c.args.watched c.args.heads.now c.args.lives.now c.args.next.segment c.index-heads-next.result c.index-lives-next.result
      c.args.cache.now c.open_leaf.new.cache c.requires.inside.inside
      (read_any c.args.heads.now c.args.next.segment c.index-heads-next.result no_head c.requires.inside.inside c.index-heads-next.is)
      (read_any c.args.lives.now c.args.next.segment c.index-lives-next.result no_live (omega (arith, c.requires.lives, c.requires.inside.inside))
      c.index-lives-next.is)
      (c.requires.passes watched).ascend c.open_leaf.ensures.marks (c.requires.passes watched).hides;
  go = marks_none g.row.D c.args.watched c.index-heads-next.result.id c.index-lives-next.result c.args.cache.now c.open_leaf.new.cache
      c.open_leaf.ensures.marks;
}

pub returns-in_err-fork-in-Some-clause-marks : goal.returns-in_err-fork-in-Some-clause-marks
returns-in_err-fork-in-Some-clause-marks g c =
    marks_same g.row.D c.args.watched c.args.heads.now c.args.lives.now c.args.cache.now c.requires.passes

pub returns-in_ok-fork-in-Some-clause-marks : goal.returns-in_ok-fork-in-Some-clause-marks
returns-in_ok-fork-in-Some-clause-marks g c =
    marks_same g.row.D c.args.watched c.args.heads.now c.args.lives.now c.args.cache.now c.requires.passes

-- ---- the search

pub returns-in_err-fork-in-Some-clause-opened : goal.returns-in_err-fork-in-Some-clause-opened
returns-in_err-fork-in-Some-clause-opened g c = λ w bound n at within.
    let same = c.node.ensures ∙ n.stands.is c.node.result.now in
    let kids = c.in-Some.ensures.some c.args.next.first n.spot n.path n.tree (subst (λ m. IsAt m c.args.next.first n.spot n.path n.tree) (sym same) n.is) in
    let counted = children_span w c.args.frontier.now.nodes c.args.next n c.in-Some.left c.in-Some.right kids refl (one_within w bound)
    (c.in-Some.ensures.sum ∙ ap (λ m. m.leaves) same) c.fork.ensures.counted in
    let most = c.fork.ensures.most (one_within w bound) in
    let p = err_from_is_err_and c.from_residual.result c.from_residual.ensures.1 in
    opened_failed (one_within w bound) c.args.next c.args.frontier.now.waiting c.fork.new.frontier.waiting _ _ _ _ p.1 (omega (arith, counted, most))

pub returns-in_ok-fork-in-Some-clause-work : goal.returns-in_ok-fork-in-Some-clause-work
returns-in_ok-fork-in-Some-clause-work g c =
    let put = c.in_ok-fork-in-Some.ensures.put in
    let a = waiting_work c.args.at.now.c c.args.next.segment c.in-Some.left c.args.frontier.now put.0 put.1 in
    let b = waiting_work c.args.at.now.c c.args.next.segment c.in-Some.right put.0 c.fork.new.frontier put.2 in
    let same = c.node.ensures ∙ c.requires.inside.stands.is c.node.result.now in
    let leaves = c.requires.inside.leaves_are ∙ ap (λ m. m.leaves) (sym same) in
    let sum = c.in-Some.ensures.sum in
    let l = c.in-Some.ensures.fewer.0 in
    let r = c.in-Some.ensures.fewer.1 in
    omega (arith, a, b, leaves, sum, l, r)

pub returns-in_ok-fork-in-Some-clause-inside : goal.returns-in_ok-fork-in-Some-clause-inside
returns-in_ok-fork-in-Some-clause-inside g c = λ taken was.
    let n = length c.args.heads.now in
    let seg = c.args.next.segment in
    let put = c.in_ok-fork-in-Some.ensures.put in
    let one = one_most c.args.next in
    inside_less n (taken + 1) (taken + one_leaf c.args.next) c.fork.new.frontier (omega (arith, one))
    (front_put n c.args.at.now.c seg c.in-Some.right (taken + 1) put.0 c.fork.new.frontier c.requires.inside.inside put.2
    (front_put n c.args.at.now.c seg c.in-Some.left (taken + 1) c.args.frontier.now put.0 c.requires.inside.inside put.1 was))

pub returns-in-None-clause-inside : goal.returns-in-None-clause-inside
returns-in-None-clause-inside g c = λ taken was.
    let one = one_most c.args.next in
    always (AreInside (length c.args.heads.now) (taken + one_leaf c.args.next) c.args.frontier.now) c.open_leaf.result
    (inside_less (length c.args.heads.now) (taken + 1) (taken + one_leaf c.args.next) c.args.frontier.now (omega (arith, one)) was)

pub returns-in_ok-fork-in-Some-clause-sought : goal.returns-in_ok-fork-in-Some-clause-sought
returns-in_ok-fork-in-Some-clause-sought g c = λ told agrees w all over s.
    let put = c.in_ok-fork-in-Some.ensures.put in
    fork_step w all c.args.at.now.c c.args.next c.args.frontier.now put.0 c.fork.new.frontier c.in-Some.left c.in-Some.right c.args.found.now over.at_is s
    (λ n.
    let same = c.node.ensures ∙ n.stands.is c.node.result.now in (
      c.in-Some.ensures.some c.args.next.first n.spot n.path n.tree (subst (λ m. IsAt m c.args.next.first n.spot n.path n.tree) (sym same) n.is),
      c.in-Some.ensures.sum ∙ ap (λ m. m.leaves) same,
    ))
    put.1 put.2

pub returns-in_ok-fork-in-Some-clause-opened : goal.returns-in_ok-fork-in-Some-clause-opened
returns-in_ok-fork-in-Some-clause-opened g c = λ w bound n at within.
    let same = c.node.ensures ∙ n.stands.is c.node.result.now in
    let kids = c.in-Some.ensures.some c.args.next.first n.spot n.path n.tree (subst (λ m. IsAt m c.args.next.first n.spot n.path n.tree) (sym same) n.is) in
    let counted = children_span w c.args.frontier.now.nodes c.args.next n c.in-Some.left c.in-Some.right kids refl (one_within w bound)
    (c.in-Some.ensures.sum ∙ ap (λ m. m.leaves) same) c.fork.ensures.counted in
    let put = c.in_ok-fork-in-Some.ensures.put in
    let a = waiting_sum c.args.at.now.c c.args.next.segment c.in-Some.left c.args.frontier.now put.0 put.1 (one_within w bound) in
    let b = waiting_sum c.args.at.now.c c.args.next.segment c.in-Some.right put.0 c.fork.new.frontier put.2 (one_within w bound) in
    let stands = c.node.ensures ∙ c.requires.inside.stands.is c.node.result.now in
    let leaves = c.requires.inside.leaves_are ∙ ap (λ m. m.leaves) (sym stands) in
    let sum = c.in-Some.ensures.sum in
    let l = c.in-Some.ensures.fewer.0 in
    let r = c.in-Some.ensures.fewer.1 in
    let none = no_leaf c.args.next (λ one. omega (arith, one, leaves, sum, l, r)) in
    record { reads = omega (arith, counted, a, b); rest = omega (arith, counted, a, b, none) }

pub returns-in-None-clause-sought : goal.returns-in-None-clause-sought
returns-in-None-clause-sought g c = λ told agrees w all over s.
    let single = c.in-None.ensures.none.0 refl in
    let head : head_at w c.args.next.segment ≡ c.index-heads-next.result =
    ap (λ hs. get_or hs c.args.next.segment no_head) over.heads_are
    ∙ read_any c.args.heads.now c.args.next.segment c.index-heads-next.result no_head c.requires.inside.inside c.index-heads-next.is in
    let live : live_at w c.args.next.segment ≡ c.index-lives-next.result =
    ap (λ ls. get_or ls c.args.next.segment no_live) over.lives_are
    ∙ read_any c.args.lives.now c.args.next.segment c.index-lives-next.result no_live (omega (arith, c.requires.lives, c.requires.inside.inside))
    c.index-lives-next.is in
    leaf_step w all c.args.next c.args.frontier.now.waiting c.args.frontier.now.nodes c.node-in-None.result.now c.args.found.now c.open_leaf.new.found
    c.open_leaf.result s
    (ap (λ m. m.leaves)
    (c.node-in-None.ensures ∙ c.requires.inside.stands.is c.node-in-None.result.now ∙ sym (c.node.ensures ∙ c.requires.inside.stands.is c.node.result.now))
    ∙ single)
    (λ n. c.node-in-None.ensures ∙ n.stands.is c.node-in-None.result.now)
    (subst (λ a. Opens a w.files (head_at w c.args.next.segment) (live_at w c.args.next.segment) c.node-in-None.result.now c.open_leaf.result c.args.found.now
    c.open_leaf.new.found) (sym over.at_is)
    (subst (λ f. Opens c.args.at.now.c f (head_at w c.args.next.segment) (live_at w c.args.next.segment) c.node-in-None.result.now c.open_leaf.result
    c.args.found.now c.open_leaf.new.found) (sym over.files_are)
    (subst (λ h. Opens c.args.at.now.c (g.F.Pages.files c.args.folder.now) h (live_at w c.args.next.segment) c.node-in-None.result.now c.open_leaf.result
    c.args.found.now c.open_leaf.new.found) (sym head)
    (subst (λ l. Opens c.args.at.now.c (g.F.Pages.files c.args.folder.now) c.index-heads-next.result l c.node-in-None.result.now c.open_leaf.result
    c.args.found.now c.open_leaf.new.found) (sym live)
    (c.open_leaf.ensures.found told agrees)))))

pub returns-in-None-clause-opened : goal.returns-in-None-clause-opened
returns-in-None-clause-opened g c = λ w bound n at within.
    let single = c.in-None.ensures.none.0 refl in
    let leaves = ap (λ m. m.leaves) (sym (c.node.ensures ∙ n.stands.is c.node.result.now)) ∙ single in
    let one = leaf_counts w bound c.args.frontier.now.nodes c.args.next n leaves within in
    let leaf = is_leaf c.args.next (n.count ∙ sym n.node_count ∙ leaves) in
    let reads = c.open_leaf.ensures.reads in
    record {
      reads = omega (arith, one, reads);
      rest = always
          (one_leaf c.args.next + sum_by (sum_below (one_within w bound)) c.args.frontier.now.waiting
          ≡ sum_below (one_within w bound) c.args.next + sum_by (sum_below (one_within w bound)) c.args.frontier.now.waiting)
          c.open_leaf.result (omega (arith, one, leaf));
    }

pub returns-in-None-clause-whole : goal.returns-in-None-clause-whole
returns-in-None-clause-whole g c = λ told agrees w over n.
    let single = c.in-None.ensures.none.0 refl in
    let head : head_at w c.args.next.segment ≡ c.index-heads-next.result =
    ap (λ hs. get_or hs c.args.next.segment no_head) over.heads_are
    ∙ read_any c.args.heads.now c.args.next.segment c.index-heads-next.result no_head c.requires.inside.inside c.index-heads-next.is in
    leaf_whole w c.args.next c.args.frontier.now.nodes c.node-in-None.result.now c.open_leaf.result n
    (ap (λ m. m.leaves)
    (c.node-in-None.ensures ∙ c.requires.inside.stands.is c.node-in-None.result.now ∙ sym (c.node.ensures ∙ c.requires.inside.stands.is c.node.result.now))
    ∙ single)
    (c.node-in-None.ensures ∙ n.stands.is c.node-in-None.result.now)
    (subst (λ f. OpensWhole f (head_at w c.args.next.segment) c.node-in-None.result.now c.open_leaf.result) (sym over.files_are)
    (subst (λ h. OpensWhole (g.F.Pages.files c.args.folder.now) h c.node-in-None.result.now c.open_leaf.result) (sym head)
    (c.open_leaf.ensures.whole told agrees)))

pub returns-in_ok-fork-in-Some-clause-parts : goal.returns-in_ok-fork-in-Some-clause-parts
returns-in_ok-fork-in-Some-clause-parts g c = λ trees all.
    let put = c.in_ok-fork-in-Some.ensures.put in
    let n = All-head (IsNodeBelow c.args.heads.now trees c.args.frontier.now.nodes) c.args.next c.args.frontier.now.waiting all in
    let same = c.node.ensures ∙ n.stands.is c.node.result.now in
    parts_fork c.args.heads.now trees c.args.at.now.c c.args.next c.args.frontier.now put.0 c.fork.new.frontier c.in-Some.left c.in-Some.right n
    (c.in-Some.ensures.some c.args.next.first n.spot n.path n.tree (subst (λ m. IsAt m c.args.next.first n.spot n.path n.tree) (sym same) n.is))
    put.1 put.2 (All-tail (IsNodeBelow c.args.heads.now trees c.args.frontier.now.nodes) c.args.next c.args.frontier.now.waiting all)

pub returns-in-None-clause-shown : goal.returns-in-None-clause-shown
returns-in-None-clause-shown g c = λ trees n.
    let head : get_or c.args.heads.now c.args.next.segment no_head ≡ c.index-heads-next.result =
    read_any c.args.heads.now c.args.next.segment c.index-heads-next.result no_head c.requires.inside.inside c.index-heads-next.is in
    leaf_shown c.args.heads.now trees c.args.frontier.now.nodes c.args.next c.node-in-None.result.now c.open_leaf.result n
    (c.node-in-None.ensures ∙ n.stands.is c.node-in-None.result.now)
    (subst (λ h. (first : ℕ) (s : Spot) (path : Region) (t : IndexTree) → IsAt c.node-in-None.result.now first s path t
    → OnDamage c.open_leaf.result (IsLeafDamage g.row.D h first s t)) (sym head) c.open_leaf.ensures.shown)

pub returns-in-None-clause-parts : goal.returns-in-None-clause-parts
returns-in-None-clause-parts g c = λ trees all.
    always (All (IsNodeBelow c.args.heads.now trees c.args.frontier.now.nodes) c.args.frontier.now.waiting) c.open_leaf.result
    (All-tail (IsNodeBelow c.args.heads.now trees c.args.frontier.now.nodes) c.args.next c.args.frontier.now.waiting all)

-- ---- the pages of all leaves are kept

pub returns-in_err-fork-in-Some-clause-kept : goal.returns-in_err-fork-in-Some-clause-kept
returns-in_err-fork-in-Some-clause-kept g c = λ trees n kept.
    let p = err_from_is_err_and c.from_residual.result c.from_residual.ensures.1 in
    reads_failed _ _ _ _ _ _ p.1 refl

pub returns-in_ok-fork-in-Some-clause-kept : goal.returns-in_ok-fork-in-Some-clause-kept
returns-in_ok-fork-in-Some-clause-kept g c = λ trees n kept. record { reads = refl; kept = λ i m k. k }

pub returns-in-None-clause-kept : goal.returns-in-None-clause-kept
returns-in-None-clause-kept g c = λ trees n kept.
    let head : get_or c.args.heads.now c.args.next.segment no_head ≡ c.index-heads-next.result =
    read_any c.args.heads.now c.args.next.segment c.index-heads-next.result no_head c.requires.inside.inside c.index-heads-next.is in
    let same = c.node-in-None.ensures ∙ n.stands.is c.node-in-None.result.now in
    c.open_leaf.ensures.kept c.args.next.first n.spot n.path n.tree (subst (λ m. IsAt m c.args.next.first n.spot n.path n.tree) (sym same) n.is)
    (subst (λ (h : Head). IsKept c.args.cache.now h.id (page_of h n.spot.page)) head
    (leaf_kept c.args.cache.now c.args.heads.now trees c.args.frontier.now.nodes c.args.next n kept))
