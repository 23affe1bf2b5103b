-- The set after a document is put at the end of its buffer, or after there was no memory for it.
use Rattle.std.proofs.Common.{◌≡◌, ℕ, ℤ, ◌+◌, List, ◌++◌, length, sym, ap, subst, ◌∙◌}
use Rattle.point_codec.specs.Points.{Item}
use Rattle.documents.specs.Entries.{entries_of}
use Rattle.segment_set.specs.Sets.{IsWell, SetData, set_with}
use Rattle.segment_set.specs.Waiting.{BufferData}
use Rattle.segment_set.proofs.Changed.{set_with_is}

-- `s` is the set as its fields have it, `t` as the caller sees it
pub pushed : (points : List (List ℤ)) (s t : SetData) (next count : ℕ) (buffer : List Item) → s ≡ t → next ≡ s.next + 1 → count ≡ length points
    → buffer ≡ s.buffer ++ entries_of (record { number = s.next; points = points })
    → record s { next = next; points_given = s.points_given + count; buffer = buffer } ≡ set_with points t
pushed points s t next count buffer is n m b =
    set_with_is points s next (s.points_given + count) buffer n (ap (λ (k : ℕ). s.points_given + k) m) b ∙ ap (set_with points) is

still : (s : SetData) (old new : BufferData) → new ≡ old → old.next ≡ s.next → old.items ≡ s.buffer → record s { next = new.next; buffer = new.items } ≡ s
still s old new same next items = λ i.
    record s { next = (ap (λ (b : BufferData). b.next) same ∙ next) i; buffer = (ap (λ (b : BufferData). b.items) same ∙ items) i }

pub unpushed : (s t : SetData) (old new : BufferData) → s ≡ t → new ≡ old → old.next ≡ s.next → old.items ≡ s.buffer
    → record s { next = new.next; buffer = new.items } ≡ t
unpushed s t old new is same next items = still s old new same next items ∙ is

pub well_unpushed : (D : ℕ) (s : SetData) (old new : BufferData) → IsWell D s → new ≡ old → old.next ≡ s.next → old.items ≡ s.buffer
    → IsWell D (record s { next = new.next; buffer = new.items })
well_unpushed D s old new well same next items = subst (IsWell D) (sym (still s old new same next items)) well
