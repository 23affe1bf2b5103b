-- The body of a commit file in its two layouts (this project's format, the greatest byte of a number first).
use Rattle.std.specs.Prelude.{◌≡◌, ◌<◌, ◌⊎◌, ℕ, ◌+◌, ◌*◌, ◌^◌, List, [], ◌∷◌, ◌++◌, length, codes, All}
use Rattle.std.specs.List.{flat_map}
use Rattle.std.specs.Int.{w16, w32, w64, to_be_bytes}
use Rattle.commit_list.specs.declared.listed.Listed.{Listed}
use Rattle.commit_list.specs.declared.head.Layout.{Layout}
use Rattle.commit_list.specs.declared.head.Layout.TheVariants.{First, Second}
use Rattle.commit_list.specs.declared.head.Head.{Head}
use Rattle.commit_list.specs.Commits.{CommitData, AreInRange, IsCommit, FitsFields}

-- what a body of the layout begins with
unfoldable pub magic : Layout → List ℕ
magic First = codes "BKDPCOM1"
magic Second = codes "BKDPCOM2"

-- the field for the number of points given, which the first layout lacks
unfoldable pub spell_given : Layout → ℕ → List ℕ
spell_given First points_given = []
spell_given Second points_given = to_be_bytes w32 points_given

-- the numbers in front of the list
unfoldable pub spell_numbers : Head → List ℕ
spell_numbers h =
    h.dims ∷ (to_be_bytes w16 h.leaf_size ++
    (to_be_bytes w32 h.next ++
    (spell_given h.layout h.points_given ++ (to_be_bytes w64 h.next_segment ++ to_be_bytes w16 h.count))))

-- all that stands in front of the list
unfoldable pub spell_head : Head → List ℕ
spell_head h = magic h.layout ++ spell_numbers h

-- the bytes of a listed segment: its id, generation, entries and live entries, 24 in all
unfoldable pub spell_listed : Listed → List ℕ
spell_listed s =
    to_be_bytes w64 s.segment ++ (to_be_bytes w64 s.generation ++ (to_be_bytes w32 s.entries ++ to_be_bytes w32 s.live))

-- the head of a commit's body
abbrev pub head_of : Layout → CommitData → Head
head_of layout c =
    record {
      layout = layout;
      dims = c.dims;
      leaf_size = c.leaf_size;
      next = c.next;
      points_given = c.points_given;
      next_segment
          = c.next_segment;
      count = length c.listed;
    }

-- the body in the layout that is written
unfoldable pub commit_body : CommitData → List ℕ
commit_body c = spell_head (head_of Second c) ++ flat_map spell_listed c.listed

-- the body in the layout of before, when each document had one point: it can say only commits with as many points
-- given as documents numbered
unfoldable pub old_commit_body : CommitData → List ℕ
old_commit_body c = spell_head (head_of First c) ++ flat_map spell_listed c.listed

-- the bytes are the body of this commit in one of the layouts, all of them
pub record SpellsCommit (bytes : List ℕ) (c : CommitData) : Type 0 where
  pub commit : IsCommit c
  pub fits : FitsFields c
  pub spelling : (bytes ≡ commit_body c) ⊎ ((c.points_given ≡ c.next) × (bytes ≡ old_commit_body c))

-- ---- the head alone, of a body whose list isn't at hand yet

-- the length of the field for the points given
unfoldable pub given_length : Layout → ℕ
given_length First = 0
given_length Second = 4

-- the length of the head
abbrev pub head_length : Layout → ℕ
head_length layout = 25 + given_length layout

-- where the layout has no field for the points given, they are as many as the next number
abbrev pub SaysGiven : Layout → ℕ → ℕ → Type 0
SaysGiven First next points_given = points_given ≡ next
SaysGiven Second next points_given = Unit {0}

-- the numbers fit their fields
pub record FitsHead (h : Head) : Type 0 where
  pub dims : h.dims < 2 ^ 8
  pub leaf_size : h.leaf_size < 2 ^ 16
  pub next : h.next < 2 ^ 32
  pub points_given : h.points_given < 2 ^ 32
  pub next_segment : h.next_segment < 2 ^ 64
  pub count : h.count < 2 ^ 16
  pub says_given : SaysGiven h.layout h.next h.points_given

-- the bytes begin with a head whose numbers are in range, and it speaks of a body of n bytes
pub record BeginsBody (bytes : List ℕ) (n : ℕ) : Type 0 where
  pub head : Head
  pub rest : List ℕ
  pub begins : bytes ≡ spell_head head ++ rest
  pub fits : FitsHead head
  pub ranges : AreInRange head.dims head.leaf_size head.next head.points_given head.count
  pub long : n ≡ head_length head.layout + 24 * head.count

-- the bytes are the body of no commit
abbrev pub HasNoCommit : List ℕ → Type 0
HasNoCommit bytes = (c : CommitData) → SpellsCommit bytes c → ⊥

-- the numbers of a segment fit their fields
pub record FitsListed (s : Listed) : Type 0 where
  pub segment : s.segment < 2 ^ 64
  pub generation : s.generation < 2 ^ 64
  pub entries : s.entries < 2 ^ 32
  pub live : s.live < 2 ^ 32

-- the bytes spell a list of so many segments, whatever their numbers say
pub record SpellsList (bytes : List ℕ) (count : ℕ) (listed : List Listed) : Type 0 where
  pub long : length listed ≡ count
  pub spelling : bytes ≡ flat_map spell_listed listed
  pub fits : All FitsListed listed
