-- What the damage of a fault shows, by what the call on the set says of it.
use Rattle.std.proofs.Common.{◌≡◌, ℕ, List, Option, Some, Result, Ok, Err, sym, subst, inl, inr}
use Rattle.outer_io.specs.Files.{Files}
use Rattle.page_cache.specs.declared.faults.Damage.{Damage}
use Rattle.page_cache.specs.declared.faults.PageFault.{PageFault}
use Rattle.page_cache.specs.declared.faults.PageFault.TheVariants as page
use Rattle.page_cache.specs.Evidence.{FaultShows, NotDamaged, OnDamage}
use Rattle.commit_list.specs.Commits.{CommitData}
use Rattle.segment_view.specs.LiveSegments.{LiveSegment}
use Rattle.segment_set.specs.declared.faults.AddFault.{AddFault}
use Rattle.segment_set.specs.declared.faults.AddFault.TheVariants as add
use Rattle.segment_set.specs.declared.faults.BeginFault.{BeginFault}
use Rattle.segment_set.specs.declared.faults.BeginFault.TheVariants as begin
use Rattle.index_opening.specs.Damages.{IsAttachDamage, IsAttachDamageOf}
use Rattle.segment_set.specs.Faults.{OnAddDamage, OnBeginDamage}
use Rattle.segment_set.specs.Sets.{SetData}
use Rattle.index_core.specs.Replies.{add_answer, begin_answer}
use Rattle.index_core.specs.Damages.{ShowsAnew, ShowsLeaf, ShowsMerge}
use Rattle.segment_set.proofs.Doubted.{whole_shows}

-- ---- a damage, if there is one

pub fault_each : (P Q : Damage → Type 0) → ((d : Damage) → P d → Q d) → (fault : PageFault) → FaultShows P fault → FaultShows Q fault
fault_each P Q h page.Failed p = tt
fault_each P Q h (page.Damaged d) p = h d p
fault_each P Q h page.Memory p = tt

-- a fault that is handed on
pub damage_to : {T : Type 0} (P : Damage → Type 0) (r : Result T PageFault) (fault : PageFault) → r ≡ Err fault → FaultShows P fault → OnDamage r P
damage_to P r fault is p = subst (λ q. OnDamage q P) (sym is) p

pub add_shows : (P : Damage → Type 0) (r : Result ℕ AddFault) → OnAddDamage r P → OnDamage (add_answer r) P
add_shows P (Ok n) p = tt
add_shows P (Err add.Full) p = tt
add_shows P (Err add.Failed) p = tt
add_shows P (Err (add.Damaged d)) p = p
add_shows P (Err add.Memory) p = tt

pub begin_shows : {T : Type 0} (P : Damage → Type 0) (r : Result T BeginFault) → OnBeginDamage r P → OnDamage (begin_answer r) P
begin_shows P (Ok x) p = tt
begin_shows P (Err begin.Begun) p = tt
begin_shows P (Err begin.Failed) p = tt
begin_shows P (Err (begin.Damaged d)) p = p
begin_shows P (Err begin.Memory) p = tt

-- ---- searches

pub leaf_none : {T : Type 0} (D : ℕ) (told : Type 0) (files : Files) (s : SetData) (parts : List LiveSegment) (r : Result T PageFault) → NotDamaged r
    → ShowsLeaf D told files s parts r
leaf_none D told files s parts r none = record { shown = whole_shows _ r none; damage = λ is_told agrees. whole_shows _ r none }

pub leaf_to : {T U : Type 0} (D : ℕ) (told : Type 0) (files : Files) (s : SetData) (parts : List LiveSegment) (r : Result U PageFault) (fault : PageFault)
    → r ≡ Err fault
    → ShowsLeaf {T = T} D told files s parts (Err fault) → ShowsLeaf D told files s parts r
leaf_to D told files s parts r fault is shows = record {
  shown = damage_to _ r fault is shows.shown;
  damage = λ is_told agrees. damage_to _ r fault is (shows.damage is_told agrees);
}

-- ---- what may merge

pub merge_none : {T : Type 0} {t : SetData} (D : ℕ) (told : Type 0) (old new : Files) (s : SetData) (r : Result T PageFault) → NotDamaged r
    → ShowsMerge D told old new s t r
merge_none D told old new s r none = record {
  shown = whole_shows _ r none;
  damage = λ is_told agrees. whole_shows _ r none;
  doubled = λ is_told agrees c read. whole_shows _ r none;
}

pub merge_to : {T U : Type 0} {t : SetData} (D : ℕ) (told : Type 0) (old new : Files) (s : SetData) (r : Result U PageFault) (fault : PageFault) → r ≡ Err fault
    → ShowsMerge {T = T} D told old new s t (Err fault) → ShowsMerge D told old new s t r
merge_to D told old new s r fault is shows = record {
  shown = damage_to _ r fault is shows.shown;
  damage = λ is_told agrees. damage_to _ r fault is (shows.damage is_told agrees);
  doubled = λ is_told agrees c read. damage_to _ r fault is (shows.doubled is_told agrees c read);
}

-- ---- what commits and attaches anew

pub anew_none : {T : Type 0} {t : SetData} (D : ℕ) (told : Type 0) (old new : Files) (s : SetData) (commit : Option CommitData) (r : Result T PageFault)
    → NotDamaged r
    → ShowsAnew D told old new s t commit r
anew_none D told old new s commit r none = record {
  shown = whole_shows _ r none;
  damage = λ is_told agrees. whole_shows _ r none;
  doubled = λ is_told agrees contents read. whole_shows _ r none;
}

-- where a new commit was not saved, the damage is that of the save
pub anew_saved : {T U : Type 0} {t : SetData} (D : ℕ) (told : Type 0) (old new : Files) (s : SetData) (commit : Option CommitData) (r : Result U PageFault)
    (fault : PageFault) → r ≡ Err fault
    → ShowsMerge {T = T} D told old new s t (Err fault) → ShowsAnew D told old new s t commit r
anew_saved D told old new s commit r fault is shows = record {
  shown = damage_to _ r fault is (fault_each _ _ (λ d p. inl p) fault shows.shown);
  damage = λ is_told agrees. damage_to _ r fault is (fault_each _ _ (λ d p. inl p) fault (shows.damage is_told agrees));
  doubled = λ is_told agrees contents read. damage_to _ r fault is (fault_each _ _ (λ d p. inl p) fault (shows.doubled is_told agrees contents read));
}

-- where the last commit was not attached, the damage is that of attaching
pub anew_attached : {T : Type 0} {t : SetData} (D : ℕ) (told : Type 0) (old new : Files) (s : SetData) (commit : Option CommitData) (c : CommitData)
    (r : Result T PageFault)
    (fault : PageFault) → r ≡ Err fault → commit ≡ Some c
    → FaultShows (IsAttachDamage c) fault → (told → FaultShows (IsAttachDamageOf new c) fault) → ShowsAnew D told old new s t commit r
anew_attached D told old new s commit c r fault is last shown damage = record {
  shown = damage_to _ r fault is (fault_each _ _ (λ d p. inr (c, last, p)) fault shown);
  damage = λ is_told agrees. damage_to _ r fault is (fault_each _ _ (λ d p. inr (c, last, p)) fault (damage is_told));
  doubled = λ is_told agrees contents read. damage_to _ r fault is (fault_each _ _ (λ d p. inr (c, last, p)) fault (damage is_told));
}
