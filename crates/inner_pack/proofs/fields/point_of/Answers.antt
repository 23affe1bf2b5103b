use Rattle.std.proofs.Common.{◌∙◌, ◌*◌, sym, ap, take_all, arith, rules, to_z-of_z, FitsSigned, w32}
use Rattle.std.specs.List.{flat_map}
use Rattle.point_codec.specs.Keys.{key}
use Rattle.inner_pack.proofs.CellLemmas.{key_more}
use Rattle.inner_pack.proofs.fields.point_of.Goals as goal
use Rattle.byte_cursor.proofs.Lists.{four_at}

pub loop-d-preserved : goal.loop-d-preserved
loop-d-preserved g c =
    let l = c.loop-d in
    let fits : FitsSigned w32 c.from_sortable.result = search rules in
    record {
      long = search rules;
      read = key_more l.c c.args.front.now l.d _ (omega (arith, l.invariant.long, c.loop-d-test.true)) l.invariant.read
          (ap key (to_z-of_z fits) ∙ c.from_sortable.ensures.is
          ∙ sym (four_at c.args.front.now (4 * l.d) (omega (arith, c.requires.long, c.loop-d-test.true))));
    }

pub returns : goal.returns
returns g c =
    let l = c.loop-d in
    sym (ap (flat_map key) (take_all l.d l.c (omega (arith, l.invariant.long, c.loop-d-test.false)))) ∙ l.invariant.read
    ∙ take_all (4 * l.d) c.args.front.now (omega (arith, c.requires.long, c.loop-d-test.false))
