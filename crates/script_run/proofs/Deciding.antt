-- A session is unchanged since its last commit, or not; and it stays so where nothing but the kept pages changes.
use Rattle.std.proofs.Common.{◌≡◌, ℕ, Bool, true, false, List, [], ◌∷◌, length, map, Option, None, Some, refl, sym, subst, ◌∙◌, ◌⊎◌, inl, inr, ⊎_elim}
use Rattle.std.proofs.lemmas.Bool.Decides.{eqb_tells}
use Rattle.std.proofs.lemmas.Slice.Eq.{bytes_eq-Decides}
use Rattle.std.specs.Str.{bytes_eq}
use Rattle.commit_list.specs.declared.listed.Listed.{Listed}
use Rattle.commit_list.specs.Commits.{CommitData}
use Rattle.segment_view.specs.LiveSegments.{LiveSegment, ids_of}
use Rattle.segment_set.specs.Sets.{SetData}
use Rattle.outer_io.specs.Files.{Files}
use Rattle.segment_set.specs.Kept.{IsAsCommitted, StaysButCache}
use Rattle.index_core.specs.Closed.{IsIdle}
use Rattle.index_core.specs.Sessions.{IsStill, IsUnchanged, SessionData}
use Rattle.index_core.proofs.Closing.{names_still}

abbrev OrNot : Type 0 → Type 0
OrNot P = P ⊎ (P → ⊥)

and_too : {P Q : Type 0} → OrNot P → OrNot Q → OrNot (P × Q)
and_too (inl p) (inl q) = inl (p, q)
and_too (inl p) (inr q) = inr (λ h. q h.1)
and_too (inr p) q = inr (λ h. p h.0)

or_as : {P Q : Type 0} → (P → Q) → (Q → P) → OrNot P → OrNot Q
or_as to from (inl p) = inl (to p)
or_as to from (inr p) = inr (λ q. p (from q))

same_numbers : (m n : ℕ) → OrNot (m ≡ n)
same_numbers m n = ⊎_elim (λ h. inl h.1) (λ h. inr h.1) (eqb_tells m n)

same_lists : (xs ys : List ℕ) → OrNot (xs ≡ ys)
same_lists xs ys = by (bytes_eq xs ys) refl
  where
    by : (b : Bool) → bytes_eq xs ys ≡ b → OrNot (xs ≡ ys)
    by true e = inl ((bytes_eq-Decides xs ys).0 e)
    by false e = inr (λ h. let t = (bytes_eq-Decides xs ys).1 h in let w : false ≡ true = sym e ∙ t in absurd cc)

is_empty : {X : Type 0} (xs : List X) → OrNot (xs ≡ [])
is_empty [] = inl refl
is_empty (x ∷ xs) = inr (λ e. absurd cc)

as_committed : (s : SetData) (c : CommitData) → OrNot (IsAsCommitted s c)
as_committed s c = or_as
    (λ (h : ((s.next ≡ c.next) × (s.points_given ≡ c.points_given))
    × ((ids_of s.parts ≡ map (λ (l : Listed). l.segment) c.listed)
    × (map (λ (p : LiveSegment). length p.live.live) s.parts ≡ map (λ (l : Listed). l.live) c.listed))
    × (s.buffer ≡ [])).
    record { next = h.0.0; points_given = h.0.1; ids = h.1.0; counts = h.1.1; empty = h.2 })
    (λ (a : IsAsCommitted s c). ((a.next, a.points_given), (a.ids, a.counts), a.empty))
    (three (and_too (same_numbers s.next c.next) (same_numbers s.points_given c.points_given))
    (and_too (same_lists (ids_of s.parts) (map (λ (l : Listed). l.segment) c.listed))
    (same_lists (map (λ (p : LiveSegment). length p.live.live) s.parts) (map (λ (l : Listed). l.live) c.listed)))
    (is_empty s.buffer))
  where
    three : {P Q R : Type 0} → OrNot P → OrNot Q → OrNot R → OrNot (P × Q × R)
    three (inl p) (inl q) (inl r) = inl (p, q, r)
    three (inl p) (inl q) (inr r) = inr (λ h. r h.2)
    three (inl p) (inr q) r = inr (λ h. q h.1)
    three (inr p) q r = inr (λ h. p h.0)

some_inj : {X : Type 0} (x y : X) → Some x ≡ Some y → x ≡ y
some_inj x y e = cc

pub unchanged_or_not : (s : SessionData) → IsUnchanged s ⊎ (IsUnchanged s → ⊥)
unchanged_or_not s = by s.commit s.refused refl refl
  where
    by : (o : Option CommitData) (b : Bool) → s.commit ≡ o → s.refused ≡ b → OrNot (IsUnchanged s)
    by None b is done = inr (λ u. let e : None ≡ Some u.commit = sym is ∙ u.is in absurd cc)
    by (Some c) true is done = inr (λ u. let e : true ≡ false = sym done ∙ u.done in absurd cc)
    by (Some c) false is done = or_as
        (λ (a : IsAsCommitted s.set c). record { commit = c; is = is; done = done; same = a })
        (λ (u : IsUnchanged s). subst (IsAsCommitted s.set) (some_inj u.commit c (sym u.is ∙ is)) u.same)
        (as_committed s.set c)

-- ---- what stays where all but the kept pages does

committed_still : (s t : SetData) (c : CommitData) → StaysButCache s t → IsAsCommitted s c → IsAsCommitted t c
committed_still s t c stays same = subst (λ (u : SetData). IsAsCommitted u c) (sym stays.is)
    (record { next = same.next; points_given = same.points_given; ids = same.ids; counts = same.counts; empty = same.empty })

pub unchanged_still : (told : Type 0) (f g : Files) (s t : SessionData) → IsStill told f g s t → IsUnchanged s → IsUnchanged t
unchanged_still told f g s t still u = record {
  commit = u.commit;
  is = still.commit ∙ u.is;
  done = still.refused ∙ u.done;
  same = committed_still s.set t.set u.commit still.set u.same;
}

pub idle_still : (told : Type 0) (f g : Files) (s t : SessionData) → IsStill told f g s t → IsIdle s → IsIdle t
idle_still told f g s t still idle = record {
  unchanged = unchanged_still told f g s t still idle.unchanged;
  listed = names_still told f g s t still idle.listed;
}
