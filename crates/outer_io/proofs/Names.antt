-- The test of two names of files says what equality says.
use Rattle.std.proofs.Common.{◌≡◌, ◌≢◌, Bool, true, false, ◌==◌, ◌&&◌, refl, ap, arith}
use Rattle.std.proofs.lemmas.Bool.{eqb-true}
use Rattle.std.proofs.lemmas.Grind.{common_steps}
use Rattle.outer_io.specs.declared.file_name.FileName.{FileName}
use Rattle.outer_io.specs.declared.file_name.FileName.TheVariants.{Commit, CommitNew, Segment, Live}
use Rattle.outer_io.specs.Names.{same_name}

-- a name is the same as itself
pub same_name-refl : (n : FileName) → same_name n n ≡ true
unfolding same_name
same_name-refl Commit = refl
same_name-refl CommitNew = refl
same_name-refl (Segment a) = grind (arith, common_steps)
same_name-refl (Live a m) = grind (arith, common_steps)

and_first : (a b : Bool) → (a && b) ≡ true → a ≡ true
and_first true b h = refl
and_first false b h = h

and_second : (a b : Bool) → (a && b) ≡ true → b ≡ true
and_second true b h = h
and_second false b h = cc

-- names of which the test says that they are the same are equal
pub same_name-true : (a b : FileName) → same_name a b ≡ true → a ≡ b
unfolding same_name
same_name-true Commit Commit h = refl
same_name-true Commit CommitNew h = cc
same_name-true Commit (Segment b) h = cc
same_name-true Commit (Live b n) h = cc
same_name-true CommitNew Commit h = cc
same_name-true CommitNew CommitNew h = refl
same_name-true CommitNew (Segment b) h = cc
same_name-true CommitNew (Live b n) h = cc
same_name-true (Segment a) Commit h = cc
same_name-true (Segment a) CommitNew h = cc
same_name-true (Segment a) (Segment b) h = ap Segment (eqb-true a b h)
same_name-true (Segment a) (Live b n) h = cc
same_name-true (Live a m) Commit h = cc
same_name-true (Live a m) CommitNew h = cc
same_name-true (Live a m) (Segment b) h = cc
same_name-true (Live a m) (Live b n) h =
    rw (eqb-true a b (and_first (a == b) (m == n) h), eqb-true m n (and_second (a == b) (m == n) h)) refl

-- names that aren't equal are not the same by the test
pub same_name-other : (a b : FileName) → a ≢ b → same_name a b ≡ false
same_name-other a b h =
    elim (same_name a b) as (λ t. same_name a b ≡ t → t ≡ false) [
      | true ↦ λ is. absurd (h (same_name-true a b is))
      | false ↦ λ is. refl
    ] refl

-- a name that is one of two different names isn't the other
pub same_name-apart : (name a b : FileName) → a ≢ b → same_name name a ≡ true → same_name name b ≡ false
same_name-apart name a b h is = rw (same_name-true name a is) (same_name-other a b h)

-- names that the test tells apart aren't equal
pub same_name-false : (a b : FileName) → same_name a b ≡ false → a ≢ b
same_name-false a b h same =
    let e : same_name a b ≡ true = rw same (same_name-refl b) in
    cc
