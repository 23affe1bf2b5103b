use Rattle.std.proofs.Common.{◌≡◌, Bool, ◌∙◌, length}
use Rattle.std.specs.List.{count_by}
use Rattle.std.proofs.Common.{rules}
use Rattle.leaf_codec.proofs.Counts.{counted}
use Rattle.leaf_codec.proofs.byte_set.ByteSet.count.Goals as goal

pub returns-clause-value : goal.returns-clause-value
returns-clause-value c =
    let e : c.count.result ≡ count_by (λ (b : Bool). b) c.args.self.now.seen = search rules in
    let long : length c.args.self.now.seen ≡ 256 = search rules in
    e ∙ counted c.args.self.now.seen long
