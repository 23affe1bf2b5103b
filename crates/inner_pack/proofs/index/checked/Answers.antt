use Rattle.std.proofs.Common.{◌≤◌, ◌++◌, ◌∙◌, ℕ, List, map, sym, ap, subst, arith, true≢false}
use Rattle.point_codec.specs.Points.{Region}
use Rattle.point_codec.specs.Keys.{key}
use Rattle.point_codec.specs.Seen.{region_of}
use Rattle.inner_pack.specs.Bodies.{cell_bytes}
use Rattle.inner_pack.specs.Spelled.{tree_bytes, IsTreeIn}
use Rattle.inner_pack.proofs.CellLemmas.{length-cell}
use Rattle.inner_pack.proofs.SpelledLemmas.{body_is}
use Rattle.inner_pack.proofs.OneTree.{index_tree}
use Rattle.inner_pack.proofs.index.checked.Goals as goal

pub returns-in_err-front-clause-only : goal.returns-in_err-front-clause-only
returns-in_err-front-clause-only g c root t h =
    absurd (c.in_err-front.ensures.only (cell_bytes root) (tree_bytes c.args.form (map key root.lo) t) (length-cell g.row.D root h.tree.root_cell)
    (h.is ∙ body_is c.args.form root t))

pub returns-in_err-root-clause-only : goal.returns-in_err-root-clause-only
returns-in_err-root-clause-only g c root t h =
    let both = c.in_ok-front.ensures.only (cell_bytes root) (tree_bytes c.args.form (map key root.lo) t) (length-cell g.row.D root h.tree.root_cell)
    (h.is ∙ body_is c.args.form root t) in
    absurd (c.in_err-root.ensures.only root h.tree.root_cell both.0)

pub returns-in_err-pages-clause-only : goal.returns-in_err-pages-clause-only
returns-in_err-pages-clause-only g c root t h =
    let both = c.in_ok-front.ensures.only (cell_bytes root) (tree_bytes c.args.form (map key root.lo) t) (length-cell g.row.D root h.tree.root_cell)
    (h.is ∙ body_is c.args.form root t) in
    let same = c.in_ok-root.ensures.only root h.tree.root_cell both.0 in
    let whole = h.is ∙ body_is c.args.form root t ∙ ap (λ (x : List ℕ). cell_bytes root ++ x) (sym both.1) in
    absurd (true≢false
    (sym (c.in_err-pages.ensures.only t
    (subst (λ (r : Region). IsTreeIn g.row.D c.args.form c.args.leaves r c.in_ok-front.rest.now t) (sym same)
    (index_tree g.row.D c.args.form c.args.leaves c.args.b.now c.in_ok-front.rest.now root t h whole)))))

pub returns-clause-found : goal.returns-clause-found
returns-clause-found g c =
    let found = c.in_ok-pages.ensures.found in
    let root = region_of c.in_ok-root.root in
    let low : 1 ≤ c.args.form = omega (arith, c.if-form-lt1.false) in
    record {
      tree = found.tree;
      spelled = record {
        least_form = low;
        greatest_form = omega (arith, c.if-form-gt3.false);
        tree = record {
          some_dims = c.requires.0;
          few_dims = c.requires.1;
          some = omega (arith, c.if-leaves-lt1.false);
          few = omega (arith, c.if-leaves-gt8388608.false);
          root_cell = c.is_cell.ensures;
          shaped = found.is.shaped;
          cells = found.is.cells;
          lengths = found.is.lengths;
        };
        path_cells = found.is.path_cells;
        is = c.in_ok-front.ensures.found.1 ∙ (λ i. c.in_ok-root.ensures.found i ++ found.is.spelled i) ∙ sym (body_is c.args.form root found.tree);
      };
      pages_are = found.pages_are;
    }
