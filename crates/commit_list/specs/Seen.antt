-- What contracts see of a commit.
use Rattle.commit_list.specs.declared.commits.Commit.TheInside.{Inside}
use Rattle.commit_list.specs.Commits.{CommitData}

-- its numbers and its list
abbrev pub commit_data : Inside → CommitData
commit_data c =
    record {
      dims = c.dims;
      leaf_size = c.leaf_size;
      next = c.next;
      points_given = c.points_given;
      next_segment = c.next_segment;
      listed
          = c.listed.items;
    }
