use Rattle.std.proofs.Common.{◌≡◌, ℕ, List, Bool, true, false, refl}
use Rattle.std.specs.Str.{IsUtf8, is_utf8}
use Rattle.std.proofs.lemmas.Str.{IsUtf8-from_is_utf8, is_utf8-from_IsUtf8}
use Rattle.script_lang.proofs.lines.text_in.Goals as goal

pub returns-in-Ok : goal.returns-in-Ok
returns-in-Ok c = (is_utf8-from_IsUtf8 c.args.bytes.now c.in-Ok.ensures.cases.1, c.in-Ok.ensures.cases.0)

no_text : (bs : List ℕ) → (IsUtf8 bs → ⊥) → (b : Bool) → is_utf8 bs ≡ b → b ≡ false
no_text bs not_text false e = refl
no_text bs not_text true e = absurd (not_text (IsUtf8-from_is_utf8 bs e))

pub returns-in-Err : goal.returns-in-Err
returns-in-Err c = no_text c.args.bytes.now c.in-Err.ensures.cases.0 (is_utf8 c.args.bytes.now) refl
