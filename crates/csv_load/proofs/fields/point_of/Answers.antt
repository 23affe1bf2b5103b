use Rattle.std.proofs.Common.{◌≡◌, ◌∙◌, sym, refl, get_or, arith, rules, to_z, of_z, w32}
use Rattle.std.proofs.Math.ListN.{length-set}
use Rattle.std.proofs.lemmas.Grind.{get_or_default_zero}
use Rattle.csv.specs.Records.{fields_of}
use Rattle.csv_load.specs.Loading.{value_of}
use Rattle.csv_load.specs.declared.CsvFault.TheVariants as fault
use Rattle.csv_load.proofs.Each.{write-yes, write-fault, write-end, point_of-wide}
use Rattle.csv_load.proofs.fields.point_of.Goals as goal

pub returns-in-None-clause-fault : goal.returns-in-None-clause-fault
returns-in-None-clause-fault g c =
    let fields = fields_of c.args.fields.now in
    let places = c.args.places.now in
    point_of-wide c.args.width places c.args.row fields (sym c.len.ensures ∙ c.if-len-width.false)
    ∙ write-fault (value_of fields c.args.row) places c.loop-k.k (get_or places c.loop-k.k 0) c.loop-k.c _ (fault.Value c.args.row c.loop-k.k)
    (omega (arith, c.told-places)) (sym (get_or_default_zero places c.loop-k.k _ (omega (arith, c.told-places))))
    (rw (← c.in-None.ensures) refl) c.loop-k.invariant.same

pub loop-k-preserved : goal.loop-k-preserved
loop-k-preserved g c =
    let fields = fields_of c.args.fields.now in
    let places = c.args.places.now in
    let round : to_z w32 (of_z w32 c.in-Some.value) ≡ c.in-Some.value = search rules in
    record {
      width = rw length-set c.loop-k.invariant.width;
      same = rw round
          (write-yes (value_of fields c.args.row) places c.loop-k.k (get_or places c.loop-k.k 0) c.loop-k.c _ c.in-Some.value (omega (arith, c.told-places))
          (omega arith) (sym (get_or_default_zero places c.loop-k.k _ (omega (arith, c.told-places))))
          (rw (← c.in-Some.ensures) refl) c.loop-k.invariant.same);
    }

pub returns-clause-point : goal.returns-clause-point
returns-clause-point g c =
    let fields = fields_of c.args.fields.now in
    point_of-wide c.args.width c.args.places.now c.args.row fields (sym c.len.ensures ∙ c.if-len-width.false)
    ∙ write-end (value_of fields c.args.row) c.args.places.now c.loop-k.k c.loop-k.c _ (omega (arith, c.told-places)) (omega arith) c.loop-k.invariant.same
