-- Whether just the segments of a set are listed.
use Rattle.std.proofs.Common.{◌≡◌, ℕ, ◌+◌, ◌<◌, List, [], ◌∷◌, ◌++◌, length, map, take, get_or, refl, sym, ap, subst, ◌∙◌, arith}
use Rattle.std.specs.List.{All}
use Rattle.std.proofs.lemmas.List.{get_or-map, length-map, map_more}
use Rattle.live_bits.specs.LiveSet.{IsLiveSet, LiveSet}
use Rattle.commit_list.specs.declared.listed.Listed.{Listed}
use Rattle.commit_list.specs.Commits.{CommitData}
use Rattle.segment_file.specs.Heads.{Head}
use Rattle.segment_view.specs.LiveSegments.{LiveSegment, heads_of, lives_of}
use Rattle.segment_view.proofs.Beside.{ids_heads}
use Rattle.segment_set.specs.Sets.{SetData}
use Rattle.segment_set.specs.Kept.{IsAsCommitted}

-- ---- two lists of which f and g see the same

pub same_more : {X Y Z : Type 0} (f : X → Z) (g : Y → Z) (xs : List X) (ys : List Y) (i : ℕ) (d : X) (e : Y) → i < length xs → i < length ys
    → map f (take i xs) ≡ map g (take i ys) → f (get_or xs i d) ≡ g (get_or ys i e) → map f (take (i + 1) xs) ≡ map g (take (i + 1) ys)
same_more f g xs ys i d e in_xs in_ys same one = map_more f xs i d in_xs ∙ (λ k. same k ++ one k ∷ []) ∙ sym (map_more g ys i e in_ys)

pub same_at : {X Y Z : Type 0} (f : X → Z) (g : Y → Z) (xs : List X) (ys : List Y) (i : ℕ) (d : X) (e : Y) → i < length xs → i < length ys → map f xs ≡ map g ys
    → f (get_or xs i d) ≡ g (get_or ys i e)
same_at f g xs ys i d e in_xs in_ys same =
    sym (get_or-map f xs i d (f d) in_xs) ∙ ap (λ zs. get_or zs i (f d)) same ∙ get_or-map g ys i e (f d) in_ys

-- ---- the live sets of segments

pub counts_lives : (parts : List LiveSegment) → map (λ (s : LiveSet). length s.live) (lives_of parts) ≡ map (λ (p : LiveSegment). length p.live.live) parts
counts_lives [] = refl
counts_lives (p ∷ ps) = ap (λ ns. length p.live.live ∷ ns) (counts_lives ps)

pub sets_parts : (parts : List LiveSegment) → All IsLiveSet (lives_of parts) → All (λ (p : LiveSegment). IsLiveSet p.live) parts
sets_parts parts all k p lt =
    subst IsLiveSet (get_or-map (λ (q : LiveSegment). q.live) parts k p p.live lt)
    (all k p.live (omega (arith, lt, length-map parts (λ (q : LiveSegment). q.live))))

-- ---- a set and a commit

pub as_committed : (s : SetData) (k : CommitData) (heads : List Head) (lives : List LiveSet) (listed : List Listed) → heads ≡ heads_of s.parts
    → lives ≡ lives_of s.parts → listed ≡ k.listed
    → s.next ≡ k.next → s.points_given ≡ k.points_given → s.buffer ≡ []
    → (map (λ (h : Head). h.id) heads ≡ map (λ (l : Listed). l.segment) listed)
    × (map (λ (v : LiveSet). length v.live) lives ≡ map (λ (l : Listed). l.live) listed) → IsAsCommitted s k
as_committed s k heads lives listed h v l next points_given empty same = record {
  next = next;
  points_given = points_given;
  ids = ids_heads s.parts ∙ ap (map (λ (x : Head). x.id)) (sym h) ∙ same.0 ∙ ap (map (λ (x : Listed). x.segment)) l;
  counts = sym (counts_lives s.parts) ∙ ap (map (λ (x : LiveSet). length x.live)) (sym v) ∙ same.1 ∙ ap (map (λ (x : Listed). x.live)) l;
  empty = empty;
}

pub listed_as : (s : SetData) (k : CommitData) (heads : List Head) (lives : List LiveSet) (listed : List Listed) → heads ≡ heads_of s.parts
    → lives ≡ lives_of s.parts → listed ≡ k.listed → IsAsCommitted s k
    → (map (λ (h : Head). h.id) heads ≡ map (λ (l : Listed). l.segment) listed)
    × (map (λ (v : LiveSet). length v.live) lives ≡ map (λ (l : Listed). l.live) listed)
listed_as s k heads lives listed h v l is = (
  ap (map (λ (x : Head). x.id)) h ∙ sym (ids_heads s.parts) ∙ is.ids ∙ ap (map (λ (x : Listed). x.segment)) (sym l),
  ap (map (λ (x : LiveSet). length x.live)) v ∙ counts_lives s.parts ∙ is.counts ∙ ap (map (λ (x : Listed). x.live)) (sym l),
)
