-- What went out of an answer.
use Rattle.std.specs.Prelude.{ℕ, ◌≡◌, List, ◌++◌, Result, Ok, Err}
use Rattle.outer_io.specs.Parts.{WritesPart}
use Rattle.run_status.specs.declared.stop.Stop.{Stop}
use Rattle.run_status.specs.declared.stop.Stop.TheVariants as stop

-- an answer wasn't sent whole: where the sink failed a prefix of it went out, and for want of memory nothing
abbrev pub IsSentPart : List ℕ → List ℕ → List ℕ → Stop → Type 0
IsSentPart text old new stop.SinkFault = WritesPart old new text
IsSentPart text old new stop.Memory = new ≡ old
IsSentPart text old new stop.FolderFault = ⊥
IsSentPart text old new (stop.Damaged damage) = ⊥

-- an answer went out whole, or was cut
abbrev pub IsSent : {T : Type 0} → List ℕ → List ℕ → List ℕ → Result T Stop → Type 0
IsSent text old new (Ok x) = new ≡ old ++ text
IsSent text old new (Err e) = IsSentPart text old new e
