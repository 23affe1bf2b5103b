use Rattle.std.proofs.Common.{not, rules}
use Rattle.std.proofs.lemmas.Fn.{filter_same}
use Rattle.outer_io.specs.OpenFiles.{is_opened}
use Rattle.outer_io.proofs.unsynced.Unsynced.remove.Goals as goal

pub returns : goal.returns
returns g c =
    filter_same _ (λ opened. not (is_opened c.args.n.now opened)) _ (λ x b f' k. search rules) _ _ c.retain.ensures.filtered
