use Rattle.std.proofs.Common.{◌∙◌, cond, eqb, [], ◌++◌, ap, sym, List, ℕ}
use Rattle.point_codec.specs.Seen.{region_of}
use Rattle.byte_cursor.specs.Vint.{vint}
use Rattle.inner_pack.specs.Bodies.{cell_bytes}
use Rattle.inner_pack.proofs.SpelledLemmas.{leaf_bytes_is}
use Rattle.inner_pack.proofs.leaf.packed_leaf.Goals as goal

pub returns-in_err-length-clause-only : goal.returns-in_err-length-clause-only
returns-in_err-length-clause-only g c n own h =
    absurd (c.in_err-length.ensures.only n (cond (eqb c.args.form 3) (cell_bytes own) []) h.least h.greatest (h.spelled ∙ leaf_bytes_is c.args.form n own))

pub returns-in_err-own-clause-only : goal.returns-in_err-own-clause-only
returns-in_err-own-clause-only g c n own h =
    let t = c.in_ok-length.ensures.only n (cond (eqb c.args.form 3) (cell_bytes own) []) h.least h.greatest (h.spelled ∙ leaf_bytes_is c.args.form n own) in
    absurd (c.in_err-own.ensures.only own (record { cell = h.cell; inside = h.inside; path_cell = h.path_cell; spelled = t.1 }))

pub returns-clause-found : goal.returns-clause-found
returns-clause-found g c =
    let t = c.in_ok-length.ensures.found in
    let o = c.in_ok-own.ensures.found in
    record {
      least = t.0;
      greatest = t.1;
      cell = o.cell;
      inside = o.inside;
      path_cell = o.path_cell;
      spelled = t.2 ∙ ap (λ (x : List ℕ). vint c.in_ok-length.length ++ x) o.spelled
          ∙ sym (leaf_bytes_is c.args.form c.in_ok-length.length (region_of c.in_ok-own.own));
    }

pub returns-clause-only : goal.returns-clause-only
returns-clause-only g c n own h =
    let t = c.in_ok-length.ensures.only n (cond (eqb c.args.form 3) (cell_bytes own) []) h.least h.greatest (h.spelled ∙ leaf_bytes_is c.args.form n own) in
    (t.0, c.in_ok-own.ensures.only own (record { cell = h.cell; inside = h.inside; path_cell = h.path_cell; spelled = t.1 }))
