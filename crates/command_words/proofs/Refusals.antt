-- A parse finds something exactly where it is not refused.
use Rattle.std.proofs.Common.{◌≡◌, ◌∙◌, ◌≤◌, ap₂, sym, ℕ, length, get_or, arith, false, List, [], ◌∷◌, Some, None, refl, inl, inr}
use Rattle.std.specs.Str.{bytes_eq}
use Rattle.std.proofs.lemmas.Bool.{false_from_ne_true}
use Rattle.std.proofs.lemmas.Slice.Eq.{bytes_eq-Decides}
use Rattle.clap.specs.Words.{App, HasKind, Kinds, Row, fault_of, kind_of, matches_of}
use Rattle.clap.specs.declared.error.Error.{Error}
use Rattle.clap.specs.declared.error.kind.ErrorKind.TheVariants.{OutOfMemory}
use Rattle.command_words.specs.Commands.{task_in, batch, check, count, explain, found_by, generate, load, run, unless_refused, ranges, session}
use Rattle.command_words.specs.Commands.{export, info}

pub rows_found : (command : App) (words : List (List ℕ)) (rows : List Row) → fault_of command words ≡ []
    → rows ≡ matches_of command words → found_by command words ≡ Some rows
unfolding found_by
rows_found command words rows none same = ap₂ unless_refused none (sym same)

refused_by : (kinds : Kinds) (e : Error) (rows : List Row) → HasKind kinds e → (kind_of e ≡ OutOfMemory → ⊥) → unless_refused kinds rows ≡ None
refused_by [] e rows (inl memory) other = absurd (other memory)
refused_by [] e rows (inr among) other = absurd among
refused_by (k ∷ ks) e rows has other = refl

pub refused : (command : App) (words : List (List ℕ)) (e : Error) → HasKind (fault_of command words) e
    → (kind_of e ≡ OutOfMemory → ⊥) → found_by command words ≡ None
unfolding found_by
refused command words e has other = refused_by (fault_of command words) e (matches_of command words) has other

-- where the second word is the name of no command, nothing is asked for
pub unknown : (texts : List (List ℕ)) (name : List ℕ) → 2 ≤ length texts → get_or texts 1 name ≡ name
    → (name ≡ run.name → ⊥) → (name ≡ load.name → ⊥) → (name ≡ explain.name → ⊥) → (name ≡ check.name → ⊥) → (name ≡ generate.name → ⊥)
    → (name ≡ session.name → ⊥) → (name ≡ count.name → ⊥)
    → (name ≡ ranges.name → ⊥) → (name ≡ batch.name → ⊥) → (name ≡ export.name → ⊥) → (name ≡ info.name → ⊥)
    → task_in texts ≡ None
unknown [] name two second no_run no_load no_explain no_check no_generate no_session no_count no_ranges no_batch no_export no_info = absurd (omega arith)
unknown (folder ∷ []) name two second no_run no_load no_explain no_check no_generate no_session no_count no_ranges no_batch no_export no_info =
    absurd (omega arith)
unknown (folder ∷ word ∷ options) name two second no_run no_load no_explain no_check no_generate no_session no_count no_ranges no_batch no_export no_info =
    rw (
      differs run.name no_run,
      differs load.name no_load,
      differs explain.name no_explain,
      differs check.name no_check,
      differs generate.name no_generate,
      differs session.name no_session,
      differs count.name no_count,
      differs ranges.name no_ranges,
      differs batch.name no_batch,
      differs export.name no_export,
      differs info.name no_info,
    ) refl
  where
    differs : (form : List ℕ) → (name ≡ form → ⊥) → bytes_eq word form ≡ false
    differs form other = false_from_ne_true _ (λ same. other (sym second ∙ (bytes_eq-Decides word form).0 same))
