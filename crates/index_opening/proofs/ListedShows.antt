-- What a damage of the segments that a commit lists shows.
use Rattle.std.proofs.Common.{ℕ, sym, subst, inl, inr, arith}
use Rattle.outer_io.specs.declared.file_name.FileName.{FileName}
use Rattle.page_cache.specs.Evidence.{IsShown}
use Rattle.page_cache.specs.declared.faults.Damage.{Damage}
use Rattle.page_cache.specs.declared.faults.Damage.TheVariants.{Page, Leaf, Body, Missing, Size, Unequal, NotGiven, Doubled}
use Rattle.commit_list.specs.declared.listed.Listed.{Listed}
use Rattle.commit_list.specs.Commits.{CommitData}
use Rattle.segment_file.specs.Heads.{Head}
use Rattle.segment_file.specs.Damages.{IsHeadDamage, IsLiveDamage}
use Rattle.index_opening.specs.Damages.{IsAttachDamage, IsMisplaced, IsUnequal}
use Rattle.index_opening.specs.Evidence.{HasNoBody, LacksLeaf}

-- ---- the segments that a commit lists

head_shows : (P : ℕ → Head → Type 0) (id : ℕ) (d : Damage) → IsHeadDamage id d → IsShown (LacksLeaf P) HasNoBody d
head_shows P id (Page file number bytes) h = h.1
head_shows P id (Missing file) h = tt
head_shows P id (Size file size needed) h = h.1
head_shows P id (Body file bytes) h = subst (λ (name : FileName). HasNoBody name bytes) (sym h.0) h.1
head_shows P id (Unequal file said found) h = h.1
head_shows P id (Leaf file number offset len bytes) h = absurd h
head_shows P id (NotGiven doc next) h = absurd h
head_shows P id (Doubled doc) h = absurd h

live_shows : (P : ℕ → Head → Type 0) (segment generation : ℕ) (d : Damage) → IsLiveDamage segment generation d → IsShown (LacksLeaf P) HasNoBody d
live_shows P segment generation (Page file number bytes) h = h.1
live_shows P segment generation (Missing file) h = tt
live_shows P segment generation (Size file size needed) h = h.1
live_shows P segment generation (Body file bytes) h = subst (λ (name : FileName). HasNoBody name bytes) (sym h.0) h.1
live_shows P segment generation (Unequal file said found) h = absurd h
live_shows P segment generation (Leaf file number offset len bytes) h = absurd h
live_shows P segment generation (NotGiven doc next) h = absurd h
live_shows P segment generation (Doubled doc) h = absurd h

unequal_shows : (P : ℕ → Head → Type 0) (s : Listed) (d : Damage) → IsUnequal s d → IsShown (LacksLeaf P) HasNoBody d
unequal_shows P s (Unequal file said found) h = h.1
unequal_shows P s (Page file number bytes) h = absurd h
unequal_shows P s (Leaf file number offset len bytes) h = absurd h
unequal_shows P s (Body file bytes) h = absurd h
unequal_shows P s (Missing file) h = absurd h
unequal_shows P s (Size file size needed) h = absurd h
unequal_shows P s (NotGiven doc next) h = absurd h
unequal_shows P s (Doubled doc) h = absurd h

misplaced_shows : (P : ℕ → Head → Type 0) (beyond doubled : ℕ → Type 0) (n : ℕ) (d : Damage) → IsMisplaced beyond doubled n d
    → IsShown (LacksLeaf P) HasNoBody d
misplaced_shows P beyond doubled n (NotGiven doc next) h = omega (arith, h.0, h.1)
misplaced_shows P beyond doubled n (Doubled doc) h = tt
misplaced_shows P beyond doubled n (Page file number bytes) h = absurd h
misplaced_shows P beyond doubled n (Leaf file number offset len bytes) h = absurd h
misplaced_shows P beyond doubled n (Body file bytes) h = absurd h
misplaced_shows P beyond doubled n (Missing file) h = absurd h
misplaced_shows P beyond doubled n (Size file size needed) h = absurd h
misplaced_shows P beyond doubled n (Unequal file said found) h = absurd h

pub attach_shows : (P : ℕ → Head → Type 0) (c : CommitData) (d : Damage) → IsAttachDamage c d → IsShown (LacksLeaf P) HasNoBody d
attach_shows P c d (inl (s, there, inl h)) = head_shows P s.segment d h
attach_shows P c d (inl (s, there, inr (inl h))) = live_shows P s.segment s.generation d h
attach_shows P c d (inl (s, there, inr (inr h))) = unequal_shows P s d h
attach_shows P c d (inr h) = misplaced_shows P (λ doc. Unit {0}) (λ doc. Unit {0}) c.next d h
