use Rattle.std.proofs.Common.{◌≡◌, ◌≤◌, length, lit<, All, IsTrue, refl, sym, ap, subst, ◌∙◌, inl}
use Rattle.std.specs.Result.{OnOk}
use Rattle.std.proofs.lemmas.Result.{on_err_weaker, on_ok_weaker}
use Rattle.documents.proofs.Kept.{among_to}
use Rattle.page_cache.specs.Evidence.{OnDamage}
use Rattle.segment_view.specs.LiveSegments.{AreRead, ids_of, live_in_parts, parts_among}
use Rattle.segment_set.specs.Sets.{AreAlone, SetData, inputs_of}
use Rattle.segment_set.specs.Seen.{Sees}
use Rattle.segment_set.specs.Damages.{IsDoubt, IsEvidentIn, IsMergeDamage, IsMergeDamageOf}
use Rattle.segment_set.specs.Merged.{IsApart, KeepsEntries, Rearranges}
use Rattle.segment_set.specs.Merges.{IsMerged}
use Rattle.segment_set.specs.Faithful.{HasFileHead, IsFaithful}
use Rattle.segment_set.proofs.Faithful.{faithful_rearranged}
use Rattle.segment_set.proofs.Moved.{moved}
use Rattle.segment_set.proofs.Rearranged.{entries_merged, rearranges_after}
use Rattle.segment_set.proofs.Settled.{before_moved, but_parts}
use Rattle.segment_set.proofs.Sizes.{set_fits}
use Rattle.segment_set.proofs.Sources.{merge_docs, merge_few}
use Rattle.segment_set.proofs.Standing.{ids_named}
use Rattle.segment_set.proofs.Steps.{IsAfter, merge_after}
use Rattle.segment_set.proofs.Trusted.{on_evident_set}
use Rattle.segment_set.proofs.Weller.{length_replaced}
use Rattle.segment_set.proofs.set.SegmentSet.merge.Given as given
use Rattle.segment_set.proofs.set.SegmentSet.merge.Goals as goal

-- the set as it was, by its fields
abbrev was : (g : given.Over) (c : goal.After-merge g) → SetData
was g c = record {
  leaf_size = c.self.inside.leaf_size;
  next = c.self.inside.buffer.next;
  points_given = c.self.inside.points_given;
  names = c.self.inside.names;
  parts = c.self.inside.segments;
  buffer = c.self.inside.buffer.items;
  snapshots = c.self.inside.snapshots.items;
  begun = c.self.inside.begun;
  cache = c.self.inside.cache;
  saved = c.self.inside.saved;
}

-- and the set as it is after the merge
abbrev is : (g : given.Over) (c : goal.After-merge g) → SetData
is g c = moved (was g c) c.merge.new.names c.merge.new.segments c.self.inside.buffer.items c.self.inside.begun c.self.inside.cache

apart : (g : given.Over) (c : goal.After-merge g) → IsApart c.args.ids.now (inputs_of c.self.inside.begun) c.self.inside.segments
apart g c = subst (λ (s : SetData). IsApart c.args.ids.now (inputs_of s.begun) s.parts) (sym c.self.view_is) c.requires

merged : (g : given.Over) (c : goal.After-merge g)
    → OnOk c.merge.result
    (IsMerged g.row.D (IsTrue g.F.Pages.told) c.self.inside.leaf_size c.self.inside.names c.merge.new.names (g.F.Pages.files c.args.folder.now)
    (g.F.Pages.files c.merge.new.folder) c.args.ids.now c.self.inside.segments c.merge.new.segments)
merged g c =
    subst (λ n. OnOk c.merge.result
    (IsMerged g.row.D (IsTrue g.F.Pages.told) n c.self.inside.names c.merge.new.names (g.F.Pages.files c.args.folder.now) (g.F.Pages.files c.merge.new.folder)
    c.args.ids.now c.self.inside.segments c.merge.new.segments))
    (c.plan-plan.ensures.leaf_size ∙ sym (ap (λ (s : SetData). s.leaf_size) c.self.view_is)) c.merge.ensures.merged

after : (g : given.Over) (c : goal.After-merge g)
    → IsAfter g.row.D (IsTrue g.F.Pages.told) (g.F.Pages.files c.args.folder.now) (g.F.Pages.files c.merge.new.folder) (was g c) (is g c)
after g c =
    merge_after g.row.D (IsTrue g.F.Pages.told) (g.F.Pages.files c.args.folder.now) (g.F.Pages.files c.merge.new.folder) {s = was g c} c.self.invariant
    c.merge.new.names c.args.ids.now c.merge.new.segments c.self.inside.cache
    c.merge.ensures.kept (apart g c).apart (λ told agrees. agrees) (λ id keeps. inl keeps) (λ i n offset len page known. known)
    c.merge.result (merged g c) c.merge.ensures.refused

pub plan-plan-requires : goal.plan-plan-requires
plan-plan-requires g c = (set_fits g.row.D c.self.invariant.few_dims, lit< tt)

pub merge-requires-after_bounds : goal.merge-requires-after_bounds
merge-requires-after_bounds g c = λ lifetimes outlive. (
  lit< tt,
  (
    lit< tt,
    (
      c.self.invariant.few_dims,
      (
        c.self.invariant.named,
        λ id there.
            ids_named c.self.inside.names c.self.inside.segments c.self.invariant.named id
            (among_to (ids_of c.self.inside.segments) id
            ((subst (λ (s : SetData). IsApart c.args.ids.now (inputs_of s.begun) s.parts) (sym c.self.view_is) c.requires).among id there)),
      ),
    ),
  ),
)

pub invariant_of-self : goal.invariant_of-self
invariant_of-self g c = (after g c).well

moves : (g : given.Over) (c : goal.After-merge g)
    → Rearranges g.row.D (IsTrue g.F.Pages.told) (g.F.Pages.files c.args.folder.now) (g.F.Pages.files c.merge.new.folder) (was g c) (is g c)
moves g c =
    rearranges_after g.row.D (IsTrue g.F.Pages.told) (g.F.Pages.files c.args.folder.now) (g.F.Pages.files c.merge.new.folder) {s = was g c} c.merge.new.names
    c.merge.new.segments c.self.inside.buffer.items c.self.inside.cache
    c.merge.ensures.kept (after g c)

entries : (g : given.Over) (c : goal.After-merge g)
    → KeepsEntries g.row.D (IsTrue g.F.Pages.told) (g.F.Pages.files c.args.folder.now) (g.F.Pages.files c.merge.new.folder) (was g c) (is g c)
entries g c =
    entries_merged g.row.D (IsTrue g.F.Pages.told) (g.F.Pages.files c.args.folder.now) (g.F.Pages.files c.merge.new.folder) {s = was g c} c.self.invariant
    c.merge.new.names c.args.ids.now c.merge.new.segments c.self.inside.cache
    c.merge.ensures.kept (λ told agrees. agrees) (λ id keeps. inl keeps) c.merge.result (merged g c) c.merge.ensures.refused

pub returns-clause-moves : goal.returns-clause-moves
returns-clause-moves g c =
    subst (λ (s : SetData). Rearranges g.row.D (IsTrue g.F.Pages.told) (g.F.Pages.files c.args.folder.now) (g.F.Pages.files c.merge.new.folder) s (is g c))
    c.self.view_is (moves g c)

pub returns-clause-entries : goal.returns-clause-entries
returns-clause-entries g c =
    subst (λ (s : SetData). KeepsEntries g.row.D (IsTrue g.F.Pages.told) (g.F.Pages.files c.args.folder.now) (g.F.Pages.files c.merge.new.folder) s (is g c))
    c.self.view_is (entries g c)

pub returns-clause-faithful : goal.returns-clause-faithful
returns-clause-faithful g c = λ told faithful.
    faithful_rearranged g.row.D (IsTrue g.F.Pages.told) (g.F.Pages.files c.args.folder.now) (g.F.Pages.files c.merge.new.folder) (was g c) (is g c)
    c.self.invariant (moves g c) told ((entries g c).agrees told)
    (subst (IsFaithful g.row.D (g.F.Pages.files c.args.folder.now)) (sym c.self.view_is) faithful)

pub returns-clause-buffer : goal.returns-clause-buffer
returns-clause-buffer g c = ap (λ (s : SetData). s.buffer) c.self.view_is

pub returns-clause-cache : goal.returns-clause-cache
returns-clause-cache g c = ap (λ (s : SetData). s.cache) c.self.view_is

pub returns-clause-merged : goal.returns-clause-merged
returns-clause-merged g c =
    subst (λ (s : SetData). OnOk c.merge.result
    (IsMerged g.row.D (IsTrue g.F.Pages.told) s.leaf_size s.names c.merge.new.names (g.F.Pages.files c.args.folder.now) (g.F.Pages.files c.merge.new.folder)
    c.args.ids.now s.parts c.merge.new.segments))
    c.self.view_is (merged g c)

pub returns-clause-fewer : goal.returns-clause-fewer
returns-clause-fewer g c =
    let s = c.args.self.now in
    on_ok_weaker c.merge.result
    (λ m. length_replaced g.row.D (IsTrue g.F.Pages.told) s.names c.merge.new.names (g.F.Pages.files c.merge.new.folder) c.args.ids.now s.parts
    c.merge.new.segments m.built m.replaces)
    (returns-clause-merged g c)

given_is : (g : given.Over) (c : goal.After-merge g) → c.plan-plan.result.points_given ≡ c.self.inside.points_given
given_is g c = c.plan-plan.ensures.points_given ∙ sym (ap (λ (s : SetData). s.points_given) c.self.view_is)

pub returns-clause-damaged : goal.returns-clause-damaged
returns-clause-damaged g c = record {
  whole = λ told i seen.
      let s = was g c in
      let h = subst (λ (u : SetData). Sees g.row.D (g.F.Pages.files c.args.folder.now) u i) (sym c.self.view_is) seen in
      c.merge.ensures.whole told h.contents h.stands.now s.next (merge_docs g.row.D (g.F.Pages.files c.args.folder.now) s i h c.args.ids.now)
      (subst (λ n. length (live_in_parts h.contents (parts_among c.args.ids.now s.parts)) ≤ n)
      (ap (λ (u : SetData). u.points_given) c.self.view_is ∙ sym c.plan-plan.ensures.points_given)
      (merge_few g.row.D (g.F.Pages.files c.args.folder.now) s i h c.args.ids.now));
  shown = subst (λ (s : SetData). OnDamage c.merge.result (IsMergeDamage g.row.D s.points_given s.names c.merge.new.names s.parts)) c.self.view_is
      (subst (λ n. OnDamage c.merge.result (IsMergeDamage g.row.D n c.self.inside.names c.merge.new.names c.self.inside.segments)) (given_is g c)
      c.merge.ensures.shown);
  damage = λ told agrees. subst (λ n. OnDamage c.merge.result (IsMergeDamageOf (g.F.Pages.files c.merge.new.folder) n)) c.plan-plan.ensures.points_given
      (c.merge.ensures.damage told);
  doubled = λ told agrees contents reads.
      subst (λ (s : SetData). OnDamage c.merge.result (IsDoubt s.points_given (live_in_parts contents s.parts))) c.self.view_is
      (subst (λ n. OnDamage c.merge.result (IsDoubt n (live_in_parts contents c.self.inside.segments))) (given_is g c)
      (c.merge.ensures.doubled told contents
      (subst (λ (s : SetData). AreRead g.row.D (g.F.Pages.files c.args.folder.now) contents s.parts) (sym c.self.view_is) reads)));
  evident = on_evident_set g.row.D g.F.Pages.told (g.F.Pages.files c.args.folder.now) (g.F.Pages.files c.merge.new.folder) (was g c) c.args.self.now
      c.merge.result c.self.view_is c.self.invariant.spread (subst (λ n. OnDamage c.merge.result
      (IsEvidentIn g.row.D (g.F.Pages.files c.args.folder.now) c.self.inside.segments 0 n
      (IsTrue g.F.Pages.told × All (HasFileHead g.row.D (g.F.Pages.files c.args.folder.now)) c.self.inside.segments × AreAlone c.self.inside.segments)
      (g.F.Pages.files c.merge.new.folder))) (given_is g c) c.merge.ensures.evident);
}

pub returns-clause-rest : goal.returns-clause-rest
returns-clause-rest g c = but_parts c.args.self.now (was g c) c.self.view_is c.merge.new.names c.merge.new.segments c.self.inside.cache

pub returns-clause-refused : goal.returns-clause-refused
returns-clause-refused g c = on_err_weaker c.merge.result
    (λ same. before_moved c.args.self.now (was g c) c.self.view_is c.merge.new.names c.merge.new.segments c.self.inside.buffer.items
    c.self.inside.cache same refl) c.merge.ensures.refused
