-- Which references a world holds.
use Rattle.std.specs.Prelude.{◌≡◌}
use Rattle.world.specs.declared.ends.World.{World}

-- they are the same three
pub record SameEnds {S F K : Type 0} (old new : World S F K) : Type 0 where
  pub input : new.input.ghost_name ≡ old.input.ghost_name
  pub folder : new.folder.ghost_name ≡ old.folder.ghost_name
  pub out : new.out.ghost_name ≡ old.out.ghost_name

-- they are the same, and no input was read
pub record Unread {S F K : Type 0} (old new : World S F K) : Type 0 where
  pub input : new.input.ghost_name ≡ old.input.ghost_name
  pub folder : new.folder.ghost_name ≡ old.folder.ghost_name
  pub out : new.out.ghost_name ≡ old.out.ghost_name
  pub still : new.input.now ≡ old.input.now

-- nothing was done to the folder nor to the sink
pub record Untouched {S F K : Type 0} (old new : World S F K) : Type 0 where
  pub folder : new.folder.now ≡ old.folder.now
  pub out : new.out.now ≡ old.out.now
