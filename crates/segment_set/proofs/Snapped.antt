-- Snapshots that are taken and let go.
use Rattle.std.proofs.Common.{◌≡◌, ℕ, ◌≤◌, ◌<◌, Bool, true, false, not, cond, List, [], ◌∷◌, ◌++◌, length, None, refl, ap, ◌∙◌, arith}
use Rattle.std.specs.List.{All, AllZip, filter}
use Rattle.std.specs.Str.{bytes_eq}
use Rattle.std.proofs.lemmas.List.{length_push}
use Rattle.std.proofs.lemmas.List.Elements.{All-filter, All-nil, All-push}
use Rattle.std.proofs.lemmas.List.Sums.{count_by-le-length, length-filter}
use Rattle.outer_io.specs.Files.{Files}
use Rattle.index_model.specs.State.{Index, Snapshot, at_rest}
use Rattle.documents.specs.Entries.{is_among}
use Rattle.point_codec.specs.Points.{Item}
use Rattle.segment_view.specs.LiveSegments.{AreRead, Contents, LiveSegment, ids_of}
use Rattle.segment_set.specs.Sets.{IsNamed, IsWell, NamedView, SetData}
pub use Rattle.segment_set.specs.Sets.{set_released, set_snapped}
use Rattle.segment_set.proofs.BegunKept.{begun_none}
use Rattle.segment_set.specs.Faithful.{HasFileHead, IsFaithful}
use Rattle.segment_set.specs.Seen.{Sees, ShowsSnapshot}
use Rattle.index_opening.proofs.Ordered.{zip_pushed}

-- ---- one more

pub sees_snapped : (D : ℕ) (files : Files) (s : SetData) (i : Index) (name : List ℕ) → Sees D files s i
    → Sees D files (set_snapped name s) (record i { snapshots = i.snapshots ++ record { name = name; docs = i.docs } ∷ [] })
sees_snapped D files s i name seen = record {
  contents = seen.contents;
  stands = record {
    now = seen.stands.now;
    kept = All-push (λ (v : NamedView). AreRead D files seen.contents v.parts) s.snapshots (record { name = name; parts = s.parts; buffer = s.buffer })
        seen.stands.kept seen.stands.now;
    begun = seen.stands.begun;
    agrees = seen.stands.agrees;
  };
  dims = seen.dims;
  leaf_size = seen.leaf_size;
  next = seen.next;
  points_given = seen.points_given;
  begun = seen.begun;
  docs = seen.docs;
  few = seen.few;
  snapshots = zip_pushed (ShowsSnapshot seen.contents s.next) s.snapshots i.snapshots (record { name = name; parts = s.parts; buffer = s.buffer })
      (record { name = name; docs = i.docs }) seen.snapshots
      (record { name = refl; docs = seen.docs });
}

pub well_snapped : (D : ℕ) (s : SetData) (name : List ℕ) → length s.snapshots < 16 → IsWell D s → IsWell D (set_snapped name s)
well_snapped D s name few well = record {
  some_dims = well.some_dims;
  few_dims = well.few_dims;
  least_leaf = well.least_leaf;
  greatest_leaf = well.greatest_leaf;
  numbered = well.numbered;
  most_given = well.most_given;
  spread = well.spread;
  room = well.room;
  ordered = well.ordered;
  once = well.once;
  sixteen = well.sixteen;
  few = well.few;
  leaf_size = well.leaf_size;
  live_fits = well.live_fits;
  named = well.named;
  kept =
      All-push (λ (v : NamedView). All (IsNamed s.names) v.parts) s.snapshots (record { name = name; parts = s.parts; buffer = s.buffer }) well.kept well.named;
  own = well.own;
  few_snapshots = omega (arith, few, length_push s.snapshots (record { name = name; parts = s.parts; buffer = s.buffer }));
  rooms = All-push (λ (v : NamedView). length v.buffer ≤ 16384) s.snapshots (record { name = name; parts = s.parts; buffer = s.buffer }) well.rooms well.room;
  inputs = well.inputs;
  few_inputs = well.few_inputs;
  built = well.built;
  cached = well.cached;
  unhidden = well.unhidden;
}

-- ---- those of a name go

abbrev is_other : List ℕ → NamedView → Bool
is_other name v = not (bytes_eq v.name name)

abbrev is_other_shown : List ℕ → Snapshot → Bool
is_other_shown name t = not (bytes_eq t.name name)

released : (c : Contents) (next : ℕ) (name : List ℕ) (views : List NamedView) (ts : List Snapshot) → AllZip (ShowsSnapshot c next) views ts
    → AllZip (ShowsSnapshot c next) (filter (is_other name) views) (filter (is_other_shown name) ts)
released c next name [] [] shown = tt
released c next name [] (t ∷ ts) shown = absurd shown
released c next name (v ∷ vs) [] shown = absurd shown
released c next name (v ∷ vs) (t ∷ ts) shown =
    by (is_other name v) (is_other_shown name t) (ap (λ n. not (bytes_eq n name)) shown.0.name) (released c next name vs ts shown.1)
  where
    by : (a b : Bool) → a ≡ b → AllZip (ShowsSnapshot c next) (filter (is_other name) vs) (filter (is_other_shown name) ts)
        → AllZip (ShowsSnapshot c next) (cond a (v ∷ filter (is_other name) vs) (filter (is_other name) vs))
        (cond b (t ∷ filter (is_other_shown name) ts) (filter (is_other_shown name) ts))
    by true true e rest = (shown.0, rest)
    by true false e rest = absurd cc
    by false true e rest = absurd cc
    by false false e rest = rest

pub sees_released : (D : ℕ) (files : Files) (s : SetData) (i : Index) (name : List ℕ) → Sees D files s i
    → Sees D files (set_released name s) (record i { snapshots = filter (λ (t : Snapshot). not (bytes_eq t.name name)) i.snapshots })
sees_released D files s i name seen = record {
  contents = seen.contents;
  stands = record {
    now = seen.stands.now;
    kept = All-filter (is_other name) (λ (v : NamedView). AreRead D files seen.contents v.parts) s.snapshots seen.stands.kept;
    begun = seen.stands.begun;
    agrees = seen.stands.agrees;
  };
  dims = seen.dims;
  leaf_size = seen.leaf_size;
  next = seen.next;
  points_given = seen.points_given;
  begun = seen.begun;
  docs = seen.docs;
  few = seen.few;
  snapshots = released seen.contents s.next name s.snapshots i.snapshots seen.snapshots;
}

pub well_released : (D : ℕ) (s : SetData) (name : List ℕ) → IsWell D s → IsWell D (set_released name s)
well_released D s name well = record {
  some_dims = well.some_dims;
  few_dims = well.few_dims;
  least_leaf = well.least_leaf;
  greatest_leaf = well.greatest_leaf;
  numbered = well.numbered;
  most_given = well.most_given;
  spread = well.spread;
  room = well.room;
  ordered = well.ordered;
  once = well.once;
  sixteen = well.sixteen;
  few = well.few;
  leaf_size = well.leaf_size;
  live_fits = well.live_fits;
  named = well.named;
  kept = All-filter (is_other name) (λ (v : NamedView). All (IsNamed s.names) v.parts) s.snapshots well.kept;
  own = well.own;
  few_snapshots = omega (arith, well.few_snapshots, length-filter (is_other name) s.snapshots, count_by-le-length (is_other name) s.snapshots);
  rooms = All-filter (is_other name) (λ (v : NamedView). length v.buffer ≤ 16384) s.snapshots well.rooms;
  inputs = well.inputs;
  few_inputs = well.few_inputs;
  built = well.built;
  cached = well.cached;
  unhidden = well.unhidden;
}

-- ---- all go, and the begun merge

abbrev pub set_rested : SetData → SetData
set_rested s = record s { snapshots = []; begun = None }

pub sees_rested : (D : ℕ) (files : Files) (s : SetData) (i : Index) → Sees D files s i → Sees D files (set_rested s) (at_rest i)
sees_rested D files s i seen = record {
  contents = seen.contents;
  stands = record {
    now = seen.stands.now;
    kept = All-nil (λ (v : NamedView). AreRead D files seen.contents v.parts);
    begun = tt;
    agrees = seen.stands.agrees;
  };
  dims = seen.dims;
  leaf_size = seen.leaf_size;
  next = seen.next;
  points_given = seen.points_given;
  begun = refl;
  docs = seen.docs;
  few = seen.few;
  snapshots = tt;
}

pub faithful_rested : (D : ℕ) (files : Files) (s : SetData) → IsFaithful D files s → IsFaithful D files (set_rested s)
faithful_rested D files s keeps = record {
  pages = keeps.pages;
  heads = keeps.heads;
  kept = All-nil (λ (v : NamedView). All (HasFileHead D files) v.parts);
  begun = begun_none D files (set_rested s) refl;
}

pub well_rested : (D : ℕ) (s : SetData) → IsWell D s → IsWell D (set_rested s)
well_rested D s well = record {
  some_dims = well.some_dims;
  few_dims = well.few_dims;
  least_leaf = well.least_leaf;
  greatest_leaf = well.greatest_leaf;
  numbered = well.numbered;
  most_given = well.most_given;
  spread = well.spread;
  room = well.room;
  ordered = well.ordered;
  once = well.once;
  sixteen = well.sixteen;
  few = well.few;
  leaf_size = well.leaf_size;
  live_fits = well.live_fits;
  named = well.named;
  kept = All-nil (λ (v : NamedView). All (IsNamed s.names) v.parts);
  own = well.own;
  few_snapshots = omega arith;
  rooms = All-nil (λ (v : NamedView). length v.buffer ≤ 16384);
  inputs = All-nil (λ (id : ℕ). is_among (ids_of s.parts) id ≡ true);
  few_inputs = omega arith;
  built = λ n is. cc;
  cached = well.cached;
  unhidden = well.unhidden;
}

-- ---- the set from its fields

pub snapped_is : (s : SetData) (name : List ℕ) (before now : List NamedView) (parts : List LiveSegment) (buffer : List Item) → before ≡ s.snapshots
    → parts ≡ s.parts
    → buffer ≡ s.buffer
    → now ≡ before ++ record { name = name; parts = parts; buffer = buffer } ∷ [] → record s { snapshots = now } ≡ set_snapped name s
snapped_is s name before now parts buffer b p x is = λ i. record s { snapshots = whole i }
  where
    whole : now ≡ s.snapshots ++ record { name = name; parts = s.parts; buffer = s.buffer } ∷ []
    whole = is ∙ (λ i. b i ++ record { name = name; parts = p i; buffer = x i } ∷ [])

pub released_is : (s : SetData) (name : List ℕ) (now : List NamedView) → now ≡ filter (λ (v : NamedView). not (bytes_eq v.name name)) s.snapshots
    → record s { snapshots = now } ≡ set_released name s
released_is s name now is = λ i. record s { snapshots = is i }

pub rested_is : (s : SetData) (now : List NamedView) → now ≡ [] → record s { snapshots = now; begun = None } ≡ set_rested s
rested_is s now is = λ i. record s { snapshots = is i; begun = None }
