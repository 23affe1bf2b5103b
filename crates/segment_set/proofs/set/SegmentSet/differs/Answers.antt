-- What is listed is compared with the segments of now.
use Rattle.std.proofs.Common.{◌≡◌, Bool, true, false, not, List, [], ◌∷◌, length, refl, sym, ap, subst, ◌∙◌, arith}
use Rattle.std.proofs.lemmas.Bool.{eqb-true}
use Rattle.std.specs.List.{All}
use Rattle.live_bits.specs.LiveSet.{IsLiveSet}
use Rattle.segment_view.specs.LiveSegments.{LiveSegment}
use Rattle.segment_set.specs.Sets.{SetData}
use Rattle.segment_set.specs.Kept.{IsAsCommitted}
use Rattle.segment_set.proofs.Listed.{as_committed, listed_as, sets_parts}
use Rattle.segment_set.proofs.set.SegmentSet.differs.Given as given
use Rattle.segment_set.proofs.set.SegmentSet.differs.Goals as goal

-- the set by its fields
abbrev here : (g : given.Over) (c : goal.After-are_listed g) → SetData
here g c = record {
  leaf_size = c.self.inside.leaf_size;
  next = c.self.inside.buffer.next;
  points_given = c.self.inside.points_given;
  names = c.self.inside.names;
  parts = c.self.inside.segments;
  buffer = c.self.inside.buffer.items;
  snapshots = c.self.inside.snapshots.items;
  begun = c.self.inside.begun;
  cache = c.self.inside.cache;
  saved = c.self.inside.saved;
}

none : {X : Type 0} (xs : List X) → length xs ≡ 0 → xs ≡ []
none [] e = refl
none (x ∷ xs) e = absurd (omega (arith, e))

listed : (b : Bool) → not b ≡ false → b ≡ true
listed true e = refl
listed false e = cc

pub returns-clause-same : goal.returns-clause-same
returns-clause-same g c = (
  λ e.
      subst (λ (s : SetData). IsAsCommitted s c.args.c.now) c.self.view_is
      (as_committed (here g c) c.args.c.now c.heads.result.now c.lives.result.now c.listed.result.now c.heads.ensures.value c.lives.ensures
      c.listed.ensures.value
      (sym c.next.ensures ∙ c.if-next.false ∙ c.next-2.ensures.value) (c.if-self-points_given.false ∙ c.points_given.ensures.value)
      (none c.self.inside.buffer.items (eqb-true (length c.self.inside.buffer.items) 0 (sym c.is_empty.ensures ∙ c.if-not-is_empty.false)))
      (c.are_listed.ensures.same.0 (listed c.are_listed.result e))),
  λ is.
      ap not
      (c.are_listed.ensures.same.1
      (listed_as (here g c) c.args.c.now c.heads.result.now c.lives.result.now c.listed.result.now c.heads.ensures.value c.lives.ensures c.listed.ensures.value
      (subst (λ (s : SetData). IsAsCommitted s c.args.c.now) (sym c.self.view_is) is))),
)

pub returns-clause-sets : goal.returns-clause-sets
returns-clause-sets g c = λ e.
    subst (λ (s : SetData). All (λ (p : LiveSegment). IsLiveSet p.live) s.parts) c.self.view_is
    (sets_parts c.self.inside.segments (subst (All IsLiveSet) c.lives.ensures (c.are_listed.ensures.sets (listed c.are_listed.result e))))
