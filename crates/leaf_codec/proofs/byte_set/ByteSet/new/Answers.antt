use Rattle.std.proofs.Common.{◌≡◌, ℕ, zero, suc, false, get_or, replicate, refl}
use Rattle.leaf_codec.proofs.byte_set.ByteSet.new.Goals as goal

unset : (n v : ℕ) → get_or (replicate n false) v false ≡ false
unset zero v = refl
unset (suc n) zero = refl
unset (suc n) (suc v) = unset n v

pub returns : goal.returns
returns c v = unset 256 v
