-- What is left after the cut are the first in order.
use Rattle.std.proofs.Common.{ap, take, ◌∙◌}
use Rattle.std.proofs.lemmas.List.Filters.{dedup_is}
use Rattle.documents.specs.Nearest.{nearer, found_of}
use Rattle.point_codec.specs.Order.{in_order}
use Rattle.documents.proofs.Ranking.{ranked}
use Rattle.documents.proofs.scan.scan_nearest.Goals as goal

pub returns : goal.returns
returns g c =
    ap found_of c.truncate.ensures.items
    ∙ ap (λ n. found_of (take n c.dedup.new.self.items)) c.from.ensures
    ∙ ap (λ ns. found_of (take c.args.k ns)) (dedup_is _ _ _ c.dedup.ensures.filtered)
    ∙ ranked c.args.k _ _ c.sort_unstable.ensures.permutation c.sort_unstable.ensures.sorted
    ∙ ap (λ ps. take c.args.k (in_order nearer ps)) c.in_ok-found.ensures
