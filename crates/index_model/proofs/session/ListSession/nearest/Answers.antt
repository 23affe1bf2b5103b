-- The documents found, each with its number first.
use Rattle.std.proofs.Common.{map, ◌++◌, refl, sym, ap, ◌∙◌}
use Rattle.script_lang.specs.Replies.{near_text, found_of}
use Rattle.index_model.specs.Step.{step_on}
use Rattle.index_model.proofs.Kept.{numbers_first}
use Rattle.index_model.proofs.session.ListSession.nearest.Goals as goal

pub returns : goal.returns
unfolding step_on
returns g c = rw c.in-Some.ensures (
  refl,
  c.in_ok-put_near.ensures.ok
      ∙ ap (λ found. c.args.out.now.items ++ near_text found)
      (ap found_of c.as_slice.ensures.value ∙ sym (numbers_first _) ∙ ap (map (λ found. (found.1, found.0))) c.in_ok-scan_nearest.ensures),
)
