-- What lines become that are taken one after the other, and what a damage shows of files that stay.
use Rattle.std.proofs.Common.{◌≡◌, ℕ, List, [], ◌∷◌, length, refl, Result, arith}
use Rattle.outer_io.specs.Files.{Files}
use Rattle.index_opening.specs.Evidence.{IsEvident}
use Rattle.index_opening.proofs.Evident.{evident_files}
use Rattle.run_status.specs.Ends.{OnStopDamage}
use Rattle.run_status.specs.declared.stop.Stop.{Stop}
use Rattle.run_status.proofs.Ending.{stop_weaker}
use Rattle.script_lang.specs.Lines.{lines_of}

-- a text without bytes has no line
pub no_lines : (bytes : List ℕ) → length bytes ≡ 0 → lines_of bytes ≡ []
unfolding lines_of
no_lines [] h = refl
no_lines (b ∷ bs) h = absurd (omega arith)

pub stop_evident : {X : Type 0} (S T : Type 0) (f g : Files) (result : Result X Stop) → (T → S) → (T → g ≡ f) → OnStopDamage result (IsEvident S f)
    → OnStopDamage result (IsEvident T g)
stop_evident S T f g result less same = stop_weaker (IsEvident S f) (IsEvident T g) result (λ d h. evident_files S T f g d less same h)
