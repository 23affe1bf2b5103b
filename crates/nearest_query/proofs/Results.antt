-- What holds in any case holds of a result's value.
use Rattle.std.proofs.Common.{Result, Ok, Err}
use Rattle.std.specs.Prelude.{OnOk}

pub always : {T E : Type 0} (P : Type 0) (r : Result T E) → P → OnOk r P
always P (Ok x) h = h
always P (Err e) h = tt
