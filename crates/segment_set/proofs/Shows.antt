-- What one call leaves and its damage shows, the call that hands it on leaves and shows too.
use Rattle.std.proofs.Common.{◌<◌, ◌+◌, ◌^◌, ℕ}
use Rattle.std.specs.Prelude.{All, Result, IsErrOf, length}
use Rattle.outer_io.specs.Files.{Files}
use Rattle.page_cache.specs.declared.faults.Damage.{Damage}
use Rattle.segment_view.specs.LiveSegments.{live_in_parts}
use Rattle.segment_set.specs.Sets.{IsNamed, SetData}
use Rattle.segment_set.specs.Damages.{IsDoubt, IsEvidentIn, IsMergeDamage, IsMergeDamageOf}
use Rattle.segment_set.specs.declared.faults.AddFault.{AddFault}
use Rattle.segment_set.specs.declared.faults.AddFault.TheVariants as add
use Rattle.segment_set.specs.Effects.{AddsAlone, RefusesFull, Rewrites, ShowsMergeDamage}
use Rattle.segment_set.specs.Merged.{Rearranges}
use Rattle.segment_set.proofs.Rearranged.{rearranges_none}
use Rattle.segment_set.specs.Faithful.{IsFaithful}

module _ (D : ℕ) (told : Type 0) (files new_files : Files) (s t : SetData) where
  -- a fault is handed on
  pub shows_on : (On Om : (Damage → Type 0) → Type 0) → ShowsMergeDamage D told files new_files s t On → ((P : Damage → Type 0) → On P → Om P)
      → ShowsMergeDamage D told files new_files s t Om
  shows_on On Om h carry = record {
    whole = λ is i seen. carry (λ _. ⊥) (h.whole is i seen);
    shown = carry (IsMergeDamage D s.points_given s.names t.names s.parts) h.shown;
    damage = λ is agrees. carry (IsMergeDamageOf new_files s.points_given) (h.damage is agrees);
    doubled = λ is agrees c reads. carry (IsDoubt s.points_given (live_in_parts c s.parts)) (h.doubled is agrees c reads);
    evident = carry (IsEvidentIn D files s.parts (length s.buffer) s.points_given (told × IsFaithful D files s) new_files) h.evident;
  }

  -- an answer without a damage shows what any damage would
  pub shows_none : (On : (Damage → Type 0) → Type 0) → ((P : Damage → Type 0) → On P) → ShowsMergeDamage D told files new_files s t On
  shows_none On none = record {
    whole = λ is i seen. none (λ _. ⊥);
    shown = none (IsMergeDamage D s.points_given s.names t.names s.parts);
    damage = λ is agrees. none (IsMergeDamageOf new_files s.points_given);
    doubled = λ is agrees c reads. none (IsDoubt s.points_given (live_in_parts c s.parts));
    evident = none (IsEvidentIn D files s.parts (length s.buffer) s.points_given (told × IsFaithful D files s) new_files);
  }

-- arranging anew writes new files alone, and leaves what adding leaves
pub rewrites_of : (D : ℕ) (told : Type 0) (files new_files : Files) (s t : SetData) → Rearranges D told files new_files s t
    → (told → IsFaithful D files s → IsFaithful D new_files t) → Rewrites D told files new_files s t
rewrites_of D told files new_files s t m faithful = record {
  kept = m.kept;
  follows = m.follows;
  canon = m.canon;
  faithful = faithful;
  loses = λ t well keeps. m.loses t well keeps.heads;
  counts = λ t well keeps. m.counts t well keeps.heads;
}

pub rewrites_none : (D : ℕ) (told : Type 0) (files : Files) (s : SetData) → All (IsNamed s.names) s.parts → Rewrites D told files files s s
rewrites_none D told files s named = rewrites_of D told files files s s (rearranges_none D told files s named) (λ t faithful. faithful)

pub alone_of : (D : ℕ) (told : Type 0) (files new_files : Files) (s t : SetData) → Rearranges D told files new_files s t → AddsAlone s t
alone_of D told files new_files s t m = record { saved = m.saved; begun = m.begun; snapshots = m.stays.snapshots; leaf_size = m.stays.leaf_size }

-- Full isn't answered, and the points are few enough
pub never_refuses : (told : Type 0) (files new_files : Files) (s t : SetData) (reads new_reads points : ℕ) (r : Result ℕ AddFault)
    → (IsErrOf r add.Full → ⊥) → (2 ^ 24 < s.points_given + points → ⊥) → RefusesFull told files new_files s t reads new_reads points r
never_refuses told files new_files s t reads new_reads points r not_full few = record {
  full = (λ is. absurd (not_full is), λ more. absurd (few more));
  kept_full = λ is. absurd (not_full is);
  files_full = λ is full. absurd (not_full full);
}
