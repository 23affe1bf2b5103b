-- What is read of the segments that a commit lists.
use Rattle.std.specs.Prelude.{◌≡◌, length}
use Rattle.outer_io.specs.Files.{Files}
use Rattle.commit_list.specs.declared.listed.Listed.{Listed}
use Rattle.commit_list.specs.Commits.{CommitData}
use Rattle.stored_index.specs.Stored.{HasHead, HasLive}
use Rattle.segment_view.specs.LiveSegments.{LiveSegment}

-- the segment is as the commit lists it
pub record IsListedAs (c : CommitData) (s : Listed) (p : LiveSegment) : Type 0 where
  pub id : p.head.id ≡ s.segment
  pub leaf_size : p.head.leaf_size ≡ c.leaf_size
  pub entries : p.head.entries ≡ s.entries
  pub live : length p.live.live ≡ s.live

-- and its files have this head and these live bits
pub record IsOpened (told : Type 0) (files : Files) (c : CommitData) (s : Listed) (p : LiveSegment) : Type 0 where
  pub listed : IsListedAs c s p
  pub head : told → HasHead c.dims files s p.head
  pub live : told → HasLive files s p.live
