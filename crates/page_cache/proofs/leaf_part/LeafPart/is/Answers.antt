use Rattle.std.proofs.Common.{◌≡◌, rules}
use Rattle.page_cache.proofs.Marks.{same_part}
use Rattle.page_cache.proofs.leaf_part.LeafPart.is.Goals as goal

pub returns : goal.returns
returns c same =
    let len : c.args.self.now.length ≡ c.args.other.now.length = search rules in
    same_part c.args.self.now c.args.other.now c.if-self-other.false len
