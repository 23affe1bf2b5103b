use Rattle.std.proofs.Common.{◌∙◌, [], sym, arith}
use Rattle.std.specs.Str.{bytes_eq}
use Rattle.csv.specs.Records.{fields_of}
use Rattle.csv_load.proofs.Places.{position-at, position-none}
use Rattle.csv_load.proofs.fields.place_of.Goals as goal

pub returns-then-is_at : goal.returns-then-is_at
returns-then-is_at c =
    sym (position-at (λ field. bytes_eq field c.args.name.now) (fields_of c.args.header.now) c.loop-i.i [] c.loop-i.invariant (omega arith)
    (sym c.is_at.ensures ∙ c.if-is_at.true))

pub returns : goal.returns
returns c = position-none (λ field. bytes_eq field c.args.name.now) (fields_of c.args.header.now) [] (λ k h. c.loop-i.invariant k (omega arith))
