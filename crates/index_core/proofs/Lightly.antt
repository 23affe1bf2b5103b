-- What light requests leave, what refused ones read, and how many segments of a level a commit lists.
use Rattle.std.proofs.Common.{◌≡◌, ◌≤◌, ◌+◌, ℕ, Bool, true, false, not, ◌&&◌, cond, nat_eq, List, [], ◌∷◌, ◌++◌, length}
use Rattle.std.proofs.Common.{Option, None, Some, Result, Ok, Err, OnOk, OnErr, refl, sym, ap, subst, ◌∙◌, arith}
use Rattle.std.specs.List.{All, AllZip, count_by, filter, zip}
use Rattle.std.specs.Str.{bytes_eq}
use Rattle.std.proofs.lemmas.List.Elements.{All-filter, All-push}
use Rattle.std.proofs.lemmas.List.Sums.{count_by-le-length, length-filter, sum_by-cons}
use Rattle.outer_io.specs.Files.{Files}
use Rattle.point_codec.specs.Points.{Item}
use Rattle.documents.specs.Entries.{entries_but, is_among}
use Rattle.page_cache.specs.declared.faults.PageFault.{PageFault}
use Rattle.merge_policy.specs.Choice.{free_count, is_of_level}
use Rattle.commit_list.specs.declared.listed.Listed.{Listed}
use Rattle.commit_list.specs.Commits.{CommitData}
use Rattle.segment_file.specs.Heads.{Head}
use Rattle.index_model.specs.declared.session.Applied.{Applied}
use Rattle.index_model.specs.declared.session.Applied.TheVariants as applied
use Rattle.segment_view.specs.LiveSegments.{LiveSegment, heads_of}
use Rattle.segment_set.specs.declared.faults.SnapFault.{SnapFault}
use Rattle.segment_set.specs.Sets.{BegunMerge, NamedView, SetData, pins_of, set_but, sizes_of}
use Rattle.segment_set.specs.Kept.{IsCommitOf}
use Rattle.index_core.specs.Sessions.{IsStill, SessionData}
use Rattle.index_core.specs.Effects.{OnRefused}
use Rattle.index_core.specs.Light.{CommitsFewOfLevels, HasFewOfLevels, LooksAt, StaysLight}
use Rattle.index_core.proofs.Committing.{some_same}
use Rattle.segment_view.proofs.Living.{heads_cleared}

-- ---- the same segments

looks_alike : (heads : List Head) (s t : SetData) → heads_of t.parts ≡ heads_of s.parts → t.snapshots ≡ s.snapshots → LooksAt heads s → LooksAt heads t
looks_alike heads s t parts snapshots looks = record {
  now = parts ∙ looks.now;
  snapshots = subst (λ (vs : List NamedView). All (λ (v : NamedView). heads_of v.parts ≡ heads) vs) (sym snapshots) looks.snapshots;
}

pub light_same : (told : Type 0) (points : ℕ) (files : Files) (s : SessionData) → StaysLight told points files files s s
light_same told points files s = record { files = λ is_told. refl; heads = λ heads looks. looks; waits = omega arith }

-- what leaves all but the kept pages
pub light_still : (told : Type 0) (points : ℕ) (old new : Files) (s t : SessionData) → IsStill told old new s t → StaysLight told points old new s t
light_still told points old new s t still = record {
  files = still.files;
  heads = λ heads looks.
      looks_alike heads s.set t.set (ap (λ (u : SetData). heads_of u.parts) still.set.is) (ap (λ (u : SetData). u.snapshots) still.set.is) looks;
  waits = let same = ap (λ (u : SetData). length u.buffer) still.set.is in omega arith;
}

-- what holds over all files holds over told ones
pub light_told : (told : Type 0) (points : ℕ) (files : Files) (s t : SessionData) → StaysLight (Unit {0}) points files files s t
    → StaysLight told points files files s t
light_told told points files s t light = record { files = λ is_told. refl; heads = light.heads; waits = light.waits }

-- a document that has room in the buffer
pub light_added : (told : Type 0) (points : ℕ) (old new : Files) (s u t : SessionData) → u ≡ s → (told → length u.set.buffer + points ≤ 16384 → new ≡ old)
    → t.set.snapshots ≡ u.set.snapshots
    → (length u.set.buffer + points ≤ 16384 → (t.set.parts ≡ u.set.parts) × (length t.set.buffer ≤ length u.set.buffer + points))
    → length s.set.buffer + points ≤ 16384 → StaysLight told points old new s t
light_added told points old new s u t same files snapshots parts =
    subst (λ (v : SessionData). length v.set.buffer + points ≤ 16384 → StaysLight told points old new v t) same (λ room. record {
      files = λ is_told. files is_told room;
      heads = λ heads looks. looks_alike heads u.set t.set (ap heads_of (parts room).0) snapshots looks;
      waits = (parts room).1;
    })

-- ---- a document goes

fewer_but : (number : ℕ) (xs : List Item) → length (entries_but number xs) ≤ length xs
fewer_but number xs = omega (arith, length-filter (λ (x : Item). not (nat_eq x.doc number)) xs, count_by-le-length (λ (x : Item). not (nat_eq x.doc number)) xs)

pub light_deleted : (number : ℕ) (files : Files) (s u t : SessionData) → u ≡ s → t.set ≡ set_but number u.set → StaysLight (Unit {0}) 0 files files s t
light_deleted number files s u t same is = subst (λ (v : SessionData). StaysLight (Unit {0}) 0 files files v t) same (record {
  files = λ is_told. refl;
  heads = λ heads looks.
      looks_alike heads u.set t.set (ap (λ (v : SetData). heads_of v.parts) is ∙ heads_cleared number u.set.parts) (ap (λ (v : SetData). v.snapshots) is) looks;
  waits = let long = ap (λ (v : SetData). length v.buffer) is in omega (arith, fewer_but number u.set.buffer);
})

-- ---- snapshots

looks_at_one_more : (heads : List Head) (name : List ℕ) (s t : SetData)
    → t ≡ record s { snapshots = s.snapshots ++ record { name = name; parts = s.parts; buffer = s.buffer } ∷ [] } → LooksAt heads s → LooksAt heads t
looks_at_one_more heads name s t is looks = subst (LooksAt heads) (sym is) (record {
  now = looks.now;
  snapshots =
      All-push (λ (v : NamedView). heads_of v.parts ≡ heads) s.snapshots (record { name = name; parts = s.parts; buffer = s.buffer }) looks.snapshots looks.now;
})

pub light_snapped : {T : Type 0} (files : Files) (name : List ℕ) (s u t : SessionData) (r : Result T SnapFault) → u ≡ s
    → OnOk r (t.set ≡ record u.set { snapshots = u.set.snapshots ++ record { name = name; parts = u.set.parts; buffer = u.set.buffer } ∷ [] })
    → OnErr r (t.set ≡ u.set)
    → StaysLight (Unit {0}) 0 files files s t
light_snapped {T = T} files name s u t r same kept refused = subst (λ (v : SessionData). StaysLight (Unit {0}) 0 files files v t) same (by r kept refused)
  where
    by : (q : Result T SnapFault)
        → OnOk q (t.set ≡ record u.set { snapshots = u.set.snapshots ++ record { name = name; parts = u.set.parts; buffer = u.set.buffer } ∷ [] })
        → OnErr q (t.set ≡ u.set)
        → StaysLight (Unit {0}) 0 files files u t
    by (Ok x) is none = record {
      files = λ is_told. refl;
      heads = λ heads looks. looks_at_one_more heads name u.set t.set is looks;
      waits = let long = ap (λ (v : SetData). length v.buffer) is in omega arith;
    }
    by (Err e) none is = record {
      files = λ is_told. refl;
      heads = λ heads looks. subst (LooksAt heads) (sym is) looks;
      waits = let long = ap (λ (v : SetData). length v.buffer) is in omega arith;
    }

pub light_released : (files : Files) (name : List ℕ) (s u t : SessionData) → u ≡ s
    → t.set ≡ record u.set { snapshots = filter (λ v. not (bytes_eq v.name name)) u.set.snapshots }
    → StaysLight (Unit {0}) 0 files files s t
light_released files name s u t same is = subst (λ (v : SessionData). StaysLight (Unit {0}) 0 files files v t) same (record {
  files = λ is_told. refl;
  heads = λ heads looks. subst (LooksAt heads) (sym is) (record {
    now = looks.now;
    snapshots = All-filter (λ (v : NamedView). not (bytes_eq v.name name)) (λ (v : NamedView). heads_of v.parts ≡ heads) u.set.snapshots looks.snapshots;
  });
  waits = let long = ap (λ (v : SetData). length v.buffer) is in omega arith;
})

-- ---- what is refused

pub refused_any : (P : Type 0) (r : Result Applied PageFault) → P → OnRefused r P
refused_any P (Ok applied.Done) p = tt
refused_any P (Ok (applied.Refused why)) p = p
refused_any P (Err fault) p = tt

-- ---- levels

-- with no merge begun no segment is pinned
abbrev one_if : Bool → ℕ
one_if b = cond b 1 0

and_free : (b : Bool) → one_if (b && true) ≡ one_if b
and_free true = refl
and_free false = refl

free_listed : (level : ℕ) (listed : List Listed) (parts : List LiveSegment)
    → AllZip (λ (l : Listed) (p : LiveSegment). (l.segment ≡ p.head.id) × (l.entries ≡ p.head.entries) × (l.live ≡ length p.live.live)) listed parts
    → free_count level (sizes_of parts) (pins_of None parts) ≡ count_by (λ (l : Listed). is_of_level level l.entries) listed
unfolding free_count
free_listed level [] [] all = refl
free_listed level [] (p ∷ ps) all = absurd all
free_listed level (l ∷ ls) [] all = absurd all
free_listed level (l ∷ ls) (p ∷ ps) all =
    sum_by-cons (λ (s : ℕ × Bool). one_if (is_of_level level s.0 && not s.1)) (p.head.entries, is_among [] p.head.id) (zip (sizes_of ps) (pins_of None ps))
    ∙ ap (λ n. n + free_count level (sizes_of ps) (pins_of None ps))
    (and_free (is_of_level level p.head.entries) ∙ ap (λ size. one_if (is_of_level level size)) (sym all.0.1))
    ∙ ap (λ n. one_if (is_of_level level l.entries) + n) (free_listed level ls ps all.1)
    ∙ sym (sum_by-cons (λ (m : Listed). one_if (is_of_level level m.entries)) l ls)

few_listed : (D : ℕ) (s : SetData) (c : CommitData) → s.begun ≡ None → IsCommitOf D s c
    → ((level : ℕ) → free_count level (sizes_of s.parts) (pins_of s.begun s.parts) ≤ 10) → HasFewOfLevels c
few_listed D s c none of few level =
    let free : free_count level (sizes_of s.parts) (pins_of None s.parts) ≤ 10 =
    subst (λ (b : Option BegunMerge). free_count level (sizes_of s.parts) (pins_of b s.parts) ≤ 10) none (few level) in
    subst (λ n. n ≤ 10) (free_listed level c.listed s.parts of.lists) free

-- a commit that was saved lists few of each level
pub commits_few : (D : ℕ) (s : SetData) (c : CommitData) (commit : Option CommitData) → commit ≡ Some c → s.begun ≡ None → IsCommitOf D s c
    → ((level : ℕ) → free_count level (sizes_of s.parts) (pins_of s.begun s.parts) ≤ 10) → CommitsFewOfLevels commit
commits_few D s c commit is none of few d same = subst HasFewOfLevels (some_same c d (sym is ∙ same)) (few_listed D s c none of few)
