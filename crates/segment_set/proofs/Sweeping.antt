-- What is swept away, and what stays.
use Rattle.std.proofs.Common.{◌≡◌, ◌≢◌, ℕ, zero, suc, ◌+◌, ◌≤◌, ◌<◌, ◌-◌, inl, inr, ⊎_elim, Bool, true, false, not}
use Rattle.std.proofs.Common.{cond, List, [], ◌∷◌, length, take, get_or, Some, None, refl, sym, ap, subst, ◌∙◌, arith}
use Rattle.std.specs.List.{All, Contains, filter, slice_get}
use Rattle.std.proofs.lemmas.Bool.{both_ways}
use Rattle.std.proofs.lemmas.List.{take_more}
use Rattle.std.proofs.lemmas.Option.{get_or_from_slice_get, slice_get_within}
use Rattle.std.proofs.lemmas.List.Elements.{All-contains, All-cons, All-contains_itself, All-head, All-nil, All-push, All-tail, All-weaker}
use Rattle.std.proofs.lemmas.List.Sums.{count_by-le-length, length-filter}
use Rattle.outer_io.specs.declared.file_name.FileName.{FileName}
use Rattle.outer_io.specs.declared.file_name.FileName.TheVariants.{Commit, Segment}
use Rattle.outer_io.specs.Files.{Files, SameBut}
use Rattle.outer_io.specs.Names.{same_name}
use Rattle.outer_io.proofs.Names.{same_name-false, same_name-other, same_name-refl, same_name-true}
use Rattle.documents.proofs.Lists.{cons_cases, nil_none}
use Rattle.page_cache.specs.declared.cache.PageCache.{PageCache}
use Rattle.page_cache.specs.Cache.{Agrees, KeepsFile}
use Rattle.commit_list.specs.Commits.{CommitData}
use Rattle.index_model.specs.State.{Index}
use Rattle.segment_view.specs.LiveSegments.{LiveSegment}
use Rattle.file_names.specs.Names.{NameList, is_named}
use Rattle.file_names.proofs.Listed.{contains-is_named, gone, is_named-contains, others_kept}
use Rattle.segment_set.specs.Sets.{IsNamed, IsWell, SetData}
use Rattle.segment_set.specs.Seen.{Sees}
use Rattle.segment_set.specs.Kept.{IsNeeded, StaysButFiles}
use Rattle.segment_set.specs.Swept.{IsSwept, IsUnneeded}
use Rattle.segment_set.proofs.Saving.{well_other}
use Rattle.segment_set.proofs.SavedSegments.{take_whole}
use Rattle.segment_set.proofs.Standing.{IsLike, sees_like, stands_alike}
use Rattle.segment_set.proofs.Needed.{not_needed, needed_still, needed_before}
use Rattle.page_cache.specs.Cache.{MarksGo}
use Rattle.segment_set.proofs.Unhidden.{unhidden_still}

-- ---- sweeps, one after another

pub swept_none : (told : Type 0) (k : CommitData) (s : SetData) (files : Files) → IsSwept told k s s files files
swept_none told k s files = record {
  rest = record { is = refl; next_segment = refl };
  fewer = λ m h. h;
  named = λ m need h. h;
  needed = λ t m need. refl;
  others = λ t m none. refl;
  commit = λ t. refl;
  gone = λ t m there none. absurd (both_ways (is_named s.names.names m) none there);
}

pub swept_then : (told : Type 0) (k : CommitData) (a b c : SetData) (f g h : Files) → IsSwept told k a b f g → IsSwept told k b c g h → IsSwept told k a c f h
swept_then told k a b c f g h first second = record {
  rest = record {
    is = second.rest.is ∙ ap (λ (s : SetData). record s { names = c.names; cache = c.cache }) first.rest.is;
    next_segment = second.rest.next_segment ∙ first.rest.next_segment;
  };
  fewer = λ m there. first.fewer m (second.fewer m there);
  named = λ m need there. second.named m (needed_still a b k m first.rest need) (first.named m need there);
  needed = λ t m need. second.needed t m (needed_still a b k m first.rest need) ∙ first.needed t m need;
  others = λ t m none. second.others t m (unnamed m none) ∙ first.others t m none;
  commit = λ t. second.commit t ∙ first.commit t;
  gone = λ t m there none. by t m there none (is_named b.names.names m) refl;
}
  where
    unnamed : (m : FileName) → is_named a.names.names m ≡ false → is_named b.names.names m ≡ false
    unnamed m none = from (is_named b.names.names m) refl
      where
        from : (x : Bool) → is_named b.names.names m ≡ x → x ≡ false
        from true e = sym (first.fewer m e) ∙ none
        from false e = refl

    by : told → (m : FileName) → is_named a.names.names m ≡ true → is_named c.names.names m ≡ false → (x : Bool) → is_named b.names.names m ≡ x → h m ≡ None
    by t m there none true e = second.gone t m e none
    by t m there none false e = second.others t m e ∙ first.gone t m there e

-- a file was taken away, or maybe so, and its name is there still
pub swept_torn : (told : Type 0) (k : CommitData) (s t : SetData) (before after : Files) (name : FileName) → is_named s.names.names name ≡ true
    → is_named s.names.names Commit ≡ false → IsUnneeded s k name
    → t ≡ record s { cache = t.cache } → (told → SameBut name before after) → IsSwept told k s t before after
swept_torn told k s t before after name named own un is same = record {
  rest = record {
    is = is ∙ ap (λ (n : NameList). record s { names = n; cache = t.cache }) (sym names);
    next_segment = ap (λ (n : NameList). n.next_segment) names;
  };
  fewer = λ m there. ap (λ (n : NameList). is_named n.names m) (sym names) ∙ there;
  named = λ m need there. ap (λ (n : NameList). is_named n.names m) names ∙ there;
  needed = λ to m need. same to m (λ e. not_needed s k name un (subst (IsNeeded s k) e need));
  others = λ to m none. same to m (λ e. both_ways (is_named s.names.names m) none (ap (is_named s.names.names) e ∙ named));
  commit = λ to. same to Commit (λ e. both_ways (is_named s.names.names Commit) own (ap (is_named s.names.names) e ∙ named));
  gone = λ to m there none. absurd (both_ways (is_named s.names.names m) (ap (λ (n : NameList). is_named n.names m) (sym names) ∙ none) there);
}
  where
    names : t.names ≡ s.names
    names = ap (λ (u : SetData). u.names) is

-- the list of names without this one
abbrev pub names_but : FileName → NameList → NameList
names_but name n = record n { names = filter (λ m. not (same_name m name)) n.names }

pub swept_removed : (told : Type 0) (k : CommitData) (s t : SetData) (before after : Files) (name : FileName) → is_named s.names.names name ≡ true
    → is_named s.names.names Commit ≡ false → IsUnneeded s k name
    → t ≡ record s { names = names_but name s.names; cache = t.cache } → (told → SameBut name before after) → (told → after name ≡ None)
    → IsSwept told k s t before after
swept_removed told k s t before after name named own un is same none_there = record {
  rest = record {
    is = is ∙ ap (λ (n : NameList). record s { names = n; cache = t.cache }) (sym names);
    next_segment = ap (λ (n : NameList). n.next_segment) names;
  };
  fewer = λ m there. fewer m (ap (λ (n : NameList). is_named n.names m) (sym names) ∙ there);
  named = λ m need there.
      ap (λ (n : NameList). is_named n.names m) names ∙ others_kept s.names.names name m (λ e. not_needed s k name un (subst (IsNeeded s k) e need)) ∙ there;
  needed = λ to m need. same to m (λ e. not_needed s k name un (subst (IsNeeded s k) e need));
  others = λ to m none. same to m (λ e. both_ways (is_named s.names.names m) none (ap (is_named s.names.names) e ∙ named));
  commit = λ to. same to Commit (λ e. both_ways (is_named s.names.names Commit) own (ap (is_named s.names.names) e ∙ named));
  gone = λ to m there none. ap after (is_name m there (ap (λ (n : NameList). is_named n.names m) (sym names) ∙ none)) ∙ none_there to;
}
  where
    names : t.names ≡ names_but name s.names
    names = ap (λ (u : SetData). u.names) is

    not_it : (m : FileName) → is_named (names_but name s.names).names m ≡ true → m ≢ name
    not_it m there e =
        both_ways (is_named (names_but name s.names).names name) (gone s.names.names name) (ap (is_named (names_but name s.names).names) (sym e) ∙ there)

    fewer : (m : FileName) → is_named (names_but name s.names).names m ≡ true → is_named s.names.names m ≡ true
    fewer m there = sym (others_kept s.names.names name m (not_it m there)) ∙ there

    -- the one name that went
    is_name : (m : FileName) → is_named s.names.names m ≡ true → is_named (names_but name s.names).names m ≡ false → m ≡ name
    is_name m there none = from (same_name m name) refl
      where
        from : (b : Bool) → same_name m name ≡ b → m ≡ name
        from true e = same_name-true m name e
        from false e = absurd (both_ways (is_named s.names.names m) (sym (others_kept s.names.names name m (same_name-false m name e)) ∙ none) there)

-- ---- the set after a file is taken away

module _ (D : ℕ) (s : SetData) (k : CommitData) (name : FileName) (cache : PageCache) (well : IsWell D s)
    (named : is_named s.names.names name ≡ true) (un : IsUnneeded s k name)
    (go : MarksGo s.cache cache) (fewer : (id : ℕ) → KeepsFile cache id → KeepsFile s.cache id)
    (none : (id : ℕ) → name ≡ Segment id → KeepsFile cache id → ⊥) where
  still_named : (parts : List LiveSegment) → All (IsNamed s.names) parts → ((p : LiveSegment) → Contains parts p → Segment p.head.id ≢ name)
      → All (IsNamed (names_but name s.names)) parts
  still_named parts named apart k p lt =
      others_kept s.names.names name (Segment (get_or parts k p).head.id) (apart (get_or parts k p) (All-contains_itself parts k p lt)) ∙ named k p lt

  pub well_swept : IsWell D (record s { names = names_but name s.names; cache = cache })
  well_swept = well_other D s (names_but name s.names) cache s.saved well
      (still_named s.parts well.named (λ p there e. un.shown (inl (p, there, sym e))))
      (λ k v lt. still_named (get_or s.snapshots k v).parts (well.kept k v lt)
      (λ p there e. un.shown (inr (get_or s.snapshots k v, All-contains_itself s.snapshots k v lt, (p, there, sym e)))))
      (others_kept s.names.names name Commit (λ e. both_ways (is_named s.names.names Commit) well.own (ap (is_named s.names.names) e ∙ named)) ∙ well.own)
      (λ id keeps. others_kept s.names.names name (Segment id) (λ e. none id (sym e) keeps) ∙ well.cached id (fewer id keeps))
      (unhidden_still D s.cache cache s.parts go well.unhidden)

  pub sees_swept : (before after : Files) (t : SetData) (i : Index) → SameBut name before after → Agrees before cache → IsLike s t → t.parts ≡ s.parts
      → t.buffer ≡ s.buffer → t.begun ≡ s.begun → t.cache ≡ cache
      → Sees D before s i → Sees D after t i
  sees_swept before after t i same agrees like parts buffer begun is seen =
      let mid : SetData = record s { names = names_but name s.names; cache = cache } in
      let first : Sees D before mid i =
      sees_like D before s mid i (record { leaf_size = refl; next = refl; points_given = refl; snapshots = refl }) refl refl refl agrees seen in
      let second : Sees D after mid i = record {
        contents = first.contents;
        stands = stands_alike D before after first.contents first.contents mid well_swept
            (record { files = λ id there. same (Segment id) (not_it (Segment id) there); entries = λ id there. refl }) first.stands;
        dims = first.dims;
        leaf_size = first.leaf_size;
        next = first.next;
        points_given = first.points_given;
        begun = first.begun;
        docs = first.docs;
        few = first.few;
        snapshots = first.snapshots;
      } in
      sees_like D after mid t i (record { leaf_size = like.leaf_size; next = like.next; points_given = like.points_given; snapshots = like.snapshots }) parts
      buffer begun
      (subst (Agrees after) (sym is) second.stands.agrees) second
    where
      not_it : (m : FileName) → is_named (names_but name s.names).names m ≡ true → m ≢ name
      not_it m there e =
          both_ways (is_named (names_but name s.names).names name) (gone s.names.names name) (ap (is_named (names_but name s.names).names) (sym e) ∙ there)

-- ---- the list of names

-- names at the front that are all kept stay the front
pub front_kept : {X : Type 0} (P : X → Type 0) (keep : X → Bool) (xs : List X) (n : ℕ) → All P (take n xs) → ((x : X) → P x → keep x ≡ true)
    → All P (take n (filter keep xs))
front_kept P keep [] n all kept = all
front_kept P keep (x ∷ xs) zero all kept = All-nil P
front_kept P keep (x ∷ xs) (suc n) all kept =
    let here = All-head P x (take n xs) all in
    subst (λ b. All P (take (suc n) (cond b (x ∷ filter keep xs) (filter keep xs)))) (sym (kept x here))
    (All-cons P x (take n (filter keep xs)) here (front_kept P keep xs n (All-tail P x (take n xs) all) kept))

-- where one isn't kept the list is shorter
pub fewer_left : {X : Type 0} (keep : X → Bool) (xs : List X) (x : X) → Contains xs x → keep x ≡ false → length (filter keep xs) < length xs
fewer_left keep [] x there out = nil_none x _ there
fewer_left {X} keep (y ∷ ys) x there out = by (keep y) refl (λ later. fewer_left keep ys x later out)
  where
    most : length (filter keep ys) ≤ length ys
    most = omega (arith, length-filter keep ys, count_by-le-length keep ys)

    by : (b : Bool) → keep y ≡ b → (Contains ys x → length (filter keep ys) < length ys)
        → length (cond b (y ∷ filter keep ys) (filter keep ys)) < length (y ∷ ys)
    by true is rest =
        ⊎_elim (λ e. absurd (both_ways (keep y) (ap keep e ∙ out) is)) (λ later. let less = rest later in omega (arith, less)) (cons_cases y ys x there)
    by false is rest = omega (arith, most)

pub front_more : {X : Type 0} (P : X → Type 0) (xs : List X) (i : ℕ) (x : X) → slice_get xs i ≡ Some x → All P (take i xs) → P x → All P (take (i + 1) xs)
front_more P xs i x at all here =
    subst (All P) (sym (take_more xs i x (slice_get_within xs i x at)))
    (All-push P (take i xs) (get_or xs i x) all (subst P (sym (get_or_from_slice_get xs i x x at)) here))

pub named_at : (ns : List FileName) (i : ℕ) (name : FileName) → slice_get ns i ≡ Some name → is_named ns name ≡ true
named_at ns i name at = contains-is_named ns name (i, slice_get_within ns i name at, get_or_from_slice_get ns i name name at)

pub shorter_at : (ns left : List FileName) (i : ℕ) (name : FileName) → slice_get ns i ≡ Some name → left ≡ filter (λ (n : FileName). not (same_name n name)) ns
    → length left - i < length ns - i
shorter_at ns left i name at is =
    let lt = slice_get_within ns i name at in
    let less = fewer_left (λ (n : FileName). not (same_name n name)) ns name (i, lt, get_or_from_slice_get ns i name name at) (ap not (same_name-refl name)) in
    let long = ap length is in
    omega (arith, lt, less, long)

pub front_left : (P : FileName → Type 0) (ns left : List FileName) (i : ℕ) (name : FileName) → left ≡ filter (λ (n : FileName). not (same_name n name)) ns
    → (P name → ⊥) → All P (take i ns) → All P (take i left)
front_left P ns left i name is none all =
    subst (λ (ls : List FileName). All P (take i ls)) (sym is)
    (front_kept P (λ (n : FileName). not (same_name n name)) ns i all (λ n p. ap not (same_name-other n name (λ e. none (subst P e p)))))

-- ---- the whole list

pub all_needed : (s : SetData) (c : CommitData) (names : List FileName) (i : ℕ) → length names ≤ i → All (IsNeeded s c) (take i names) → (m : FileName)
    → is_named names m ≡ true → IsNeeded s c m
all_needed s c names i le all m named =
    All-contains (IsNeeded s c) names m (subst (All (IsNeeded s c)) (take_whole names i le) all) (is_named-contains names m named)

pub gone_all : (told : Type 0) (s t : SetData) (f g : Files) (c : CommitData) → IsSwept told c s t f g → told
    → ((m : FileName) → is_named t.names.names m ≡ true → IsNeeded s c m)
    → (m : FileName) → is_named s.names.names m ≡ true → (IsNeeded s c m → ⊥) → g m ≡ None
gone_all told s t f g c swept to needed m there not_so = by (is_named t.names.names m) refl
  where
    by : (b : Bool) → is_named t.names.names m ≡ b → g m ≡ None
    by true e = absurd (not_so (needed m e))
    by false e = swept.gone to m there e

pub front_still : (s t : SetData) (c : CommitData) (xs : List FileName) → StaysButFiles s t → All (IsNeeded s c) xs → All (IsNeeded t c) xs
front_still s t c xs rest = All-weaker (IsNeeded s c) (IsNeeded t c) (λ m need. needed_still s t c m rest need) xs

pub front_before : (s t : SetData) (c : CommitData) (xs : List FileName) → StaysButFiles s t → All (IsNeeded t c) xs → All (IsNeeded s c) xs
front_before s t c xs rest = All-weaker (IsNeeded t c) (IsNeeded s c) (λ m need. needed_before s t c m rest need) xs
