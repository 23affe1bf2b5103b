-- The status that a run ends with, from how its lines ended.
use Rattle.std.proofs.Common.{◌≡◌, ◌<◌, ◌+◌, ℕ, Bool, true, false, ◌==◌, List, Result, Ok, Err, refl, sym, ◌∙◌, arith}
use Rattle.std.proofs.lemmas.Bool.Decides.{nat_tests}
use Rattle.outer_io.specs.Files.{Files}
use Rattle.script_run.specs.Progress.{ScriptPlace}
use Rattle.run_status.specs.Ends.{IsDamaged}
use Rattle.script_run.specs.Runs.{Ends, EndsLines, Finishes}
use Rattle.run_status.specs.Stops.{status_of}
use Rattle.run_status.specs.declared.stop.Stop.{Stop}
use Rattle.run_status.specs.declared.stop.Stop.TheVariants as stop
use Rattle.script_run.specs.Script.{Meaning, refused_in}
use Rattle.run_status.proofs.Ending.{counted}

undamaged : (b : Bool) (count : ℕ) → IsDamaged (counted b count) → ⊥
undamaged true count d = d
undamaged false count d = d

module _ (m : Meaning) (told : Type 0) (p : ScriptPlace) (files : Files) (new : List ℕ) where
  ends_counted : (b : Bool) (count : ℕ) → (count == 0) ≡ b → Finishes m told p files new → count ≡ p.refused + refused_in m p.line p.state p.rest
      → Ends m told p files new (counted b count)
  ends_counted true count test f is = let zero_is : count ≡ 0 = grind (arith, nat_tests) in (f, sym is ∙ zero_is)
  ends_counted false count test f is = let some_is : 0 < count = grind (arith, nat_tests) in (f, some_is, is)

  pub status_ends : (done : Result ℕ Stop) → EndsLines m told p files new done → Ends m told p files new (status_of done)
  status_ends (Ok count) h = ends_counted (count == 0) count refl h.0 h.1
  status_ends (Err stop.FolderFault) h = h
  status_ends (Err stop.Memory) h = h
  status_ends (Err stop.SinkFault) h = h
  status_ends (Err (stop.Damaged damage)) h = h

  pub never_damaged : (done : Result ℕ Stop) → EndsLines m told p files new done → IsDamaged (status_of done) → ⊥
  never_damaged (Ok count) h d = undamaged (count == 0) count d
  never_damaged (Err stop.FolderFault) h d = d
  never_damaged (Err stop.Memory) h d = d
  never_damaged (Err stop.SinkFault) h d = d
  never_damaged (Err (stop.Damaged damage)) h d = h
