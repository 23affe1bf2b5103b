-- The set that has no documents is well formed, and is seen as a new index.
use Rattle.std.proofs.Common.{◌≡◌, ℕ, ◌≤◌, false, List, [], length, None, refl, arith}
use Rattle.std.proofs.lemmas.List.Elements.{All-nil}
use Rattle.outer_io.specs.declared.file_name.FileName.TheVariants.{Commit}
use Rattle.outer_io.specs.Files.{Files}
use Rattle.point_codec.specs.Points.{Item}
use Rattle.leaf_codec.specs.Leaves.{leaf_limit}
use Rattle.leaf_codec.specs.LeafOrder.{NoneTwice}
use Rattle.documents.proofs.Kept.{no_docs}
use Rattle.page_cache.specs.declared.cache.PageCache.{PageCache}
use Rattle.page_cache.specs.Cache.{Agrees, KeepsFile}
use Rattle.index_model.specs.State.{new_index}
use Rattle.segment_view.specs.LiveSegments.{LiveSegment}
use Rattle.file_names.specs.Names.{NameList, is_named}
use Rattle.segment_set.specs.Sets.{IsWell, NamedView, SetData}
use Rattle.segment_set.specs.Seen.{Sees}

abbrev pub empty_set : ℕ → NameList → PageCache → SetData
empty_set leaf_size names cache = record {
  leaf_size = leaf_size;
  next = 0;
  points_given = 0;
  names = names;
  parts = [];
  buffer = [];
  snapshots = [];
  begun = None;
  cache = cache;
  saved = None;
}

-- a set whose fields are those of the empty one is that
pub empty_is : (leaf_size next : ℕ) (names : NameList) (cache : PageCache) (parts : List LiveSegment) (buffer : List Item) (snapshots : List NamedView)
    → next ≡ 0 → parts ≡ [] → buffer ≡ [] → snapshots ≡ []
    → record (empty_set leaf_size names cache) { next = next; parts = parts; buffer = buffer; snapshots = snapshots } ≡ empty_set leaf_size names cache
empty_is leaf_size next names cache parts buffer snapshots n p b s =
    λ i. record (empty_set leaf_size names cache) { next = n i; parts = p i; buffer = b i; snapshots = s i }

none_twice_empty : NoneTwice []
unfolding NoneTwice
none_twice_empty x = omega arith

pub well_empty : (D leaf_size : ℕ) (names : NameList) (cache : PageCache) → 1 ≤ D → D ≤ 8 → 2 ≤ leaf_size → leaf_size ≤ leaf_limit D
    → ((id : ℕ) → KeepsFile cache id → ⊥) → is_named names.names Commit ≡ false → IsWell D (empty_set leaf_size names cache)
well_empty D leaf_size names cache some few least greatest none own = record {
  some_dims = some;
  few_dims = few;
  least_leaf = least;
  greatest_leaf = greatest;
  numbered = omega arith;
  most_given = omega arith;
  spread = record { alone = λ number. omega arith; below = λ number le. (refl, refl) };
  room = omega arith;
  ordered = λ i j d le lt. absurd (omega (arith, lt));
  once = none_twice_empty;
  sixteen = λ number. omega arith;
  few = omega arith;
  leaf_size = All-nil _;
  live_fits = All-nil _;
  named = All-nil _;
  kept = All-nil _;
  own = own;
  few_snapshots = omega arith;
  rooms = All-nil (λ (v : NamedView). length v.buffer ≤ 16384);
  inputs = All-nil _;
  few_inputs = omega arith;
  built = λ n is. absurd cc;
  cached = λ id kept. absurd (none id kept);
  unhidden = All-nil _;
}

pub sees_empty : (D leaf_size : ℕ) (names : NameList) (cache : PageCache) (files : Files) → Agrees files cache
    → Sees D files (empty_set leaf_size names cache) (new_index D leaf_size)
sees_empty D leaf_size names cache files agrees = record {
  contents = λ id. [];
  stands = record { now = All-nil _; kept = All-nil _; begun = tt; agrees = agrees };
  dims = refl;
  leaf_size = refl;
  next = refl;
  points_given = refl;
  begun = refl;
  docs = no_docs 0;
  few = omega arith;
  snapshots = tt;
}
