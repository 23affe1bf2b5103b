use Rattle.std.proofs.Common.{◌≡◌, ◌≤◌, ◌<◌, ℕ, true, List, length, take, ltb, All, IsTrue, Some, Err, refl, sym, ap, subst, ◌∙◌, inl, lit<}
use Rattle.std.specs.List.{All, filter}
use Rattle.std.proofs.lemmas.Result.{err_from_is_err_and}
use Rattle.outer_io.specs.Files.{Files}
use Rattle.documents.specs.Entries.{is_among}
use Rattle.page_cache.specs.Evidence.{OnDamage}
use Rattle.segment_view.specs.LiveSegments.{AreRead, ids_of, live_in_parts, parts_among}
use Rattle.segment_set.specs.declared.set.SegmentSet.TheInside.{Inside}
use Rattle.segment_set.specs.Sets.{AreAlone, BegunMerge, SetData}
use Rattle.segment_set.specs.Seen.{Sees}
use Rattle.segment_set.specs.Faithful.{HasFileHead, IsFaithful}
use Rattle.segment_set.specs.Damages.{IsDoubt, IsEvidentIn, IsMergeDamage, IsMergeDamageOf}
use Rattle.segment_set.specs.Merged.{chosen_ids, each_once}
use Rattle.segment_set.specs.Losing.{TakesOver}
use Rattle.segment_set.specs.Merges.{Collects, IsGathered, LosesNone, MakesLive}
use Rattle.segment_set.proofs.Faulted.{begun_cause, begun_damage, begun_memory}
use Rattle.segment_set.proofs.Moved.{moved}
use Rattle.segment_set.proofs.Sizes.{set_fits}
use Rattle.segment_set.proofs.Sources.{begun_seen, begun_well, chosen_few, chosen_is, chosen_there, gathered_merges, merge_docs, merge_few, places_within}
use Rattle.segment_set.proofs.WrittenBuffer.{some_is}
use Rattle.segment_build.specs.NewSegments.{NewSegmentData}
use Rattle.segment_set.proofs.Trusted.{IsTrusted, faithful_looked, on_evident_set}
use Rattle.segment_set.proofs.Shows.{shows_none}
use Rattle.segment_set.proofs.set.SegmentSet.merge_begin.Given as given
use Rattle.segment_set.proofs.set.SegmentSet.merge_begin.Goals as goal

-- a set, by its fields
abbrev set_of : {D : ℕ} → Inside D → SetData
set_of s = record {
  leaf_size = s.leaf_size;
  next = s.buffer.next;
  points_given = s.points_given;
  names = s.names;
  parts = s.segments;
  buffer = s.buffer.items;
  snapshots = s.snapshots.items;
  begun = s.begun;
  cache = s.cache;
  saved = s.saved;
}

pub plan-plan-requires : goal.plan-plan-requires
plan-plan-requires g c = (set_fits g.row.D c.self.invariant.few_dims, lit< tt)

pub ids_at-requires : goal.ids_at-requires
ids_at-requires g c = (
  lit< tt,
  (
    c.self.invariant.few_dims,
    subst (All (λ i. i < length c.self.inside.segments)) (sym (c.as_slice.ensures.value ∙ c.first_places-places.ensures))
        (subst (λ n. All (λ i. i < n) (take 64 (filter (λ i. ltb i c.len.result) (each_once c.args.which.now)))) c.len.ensures.value
        (places_within c.args.which.now c.len.result)),
  ),
)

pub returns-in_err-inputs-clause-cause : goal.returns-in_err-inputs-clause-cause
returns-in_err-inputs-clause-cause g c =
    let p = err_from_is_err_and c.from_residual.result c.from_residual.ensures.1 in
    rw (p.1, p.2) (begun_memory {T = Unit {0}} (g.F.Pages.faults c.args.folder.now) (g.F.Pages.faults c.args.folder.now) refl)

pub returns-in_err-inputs-clause-damaged : goal.returns-in_err-inputs-clause-damaged
returns-in_err-inputs-clause-damaged g c =
    let p = err_from_is_err_and c.from_residual.result c.from_residual.ensures.1 in
    shows_none g.row.D (IsTrue g.F.Pages.told) (g.F.Pages.files c.args.folder.now) (g.F.Pages.files c.args.folder.now) c.args.self.now _ _
    (λ P. rw (p.1, p.2) tt)

pub returns-in_err-built-clause-refused : goal.returns-in_err-built-clause-refused
returns-in_err-built-clause-refused g c = λ told i seen.
    let p = err_from_is_err_and c.from_residual-in_err-built.result c.from_residual-in_err-built.ensures.1 in
    rw p.1
    (subst (λ (f : Files). Sees g.row.D f c.args.self.now i) (sym (c.gathered.ensures.files told)) seen)

pub returns-in_err-built-clause-cause : goal.returns-in_err-built-clause-cause
returns-in_err-built-clause-cause g c =
    let p = err_from_is_err_and c.from_residual-in_err-built.result c.from_residual-in_err-built.ensures.1 in
    rw (p.1, p.2)
    (begun_cause (g.F.Pages.faults c.args.folder.now) (g.F.Pages.faults c.gathered.new.folder) c.in_err-built.field-0.0 c.in_err-built.ensures.cause)

-- the inputs are those of the positions
chosen : (g : given.Over) (c : goal.Joined-self g) → c.in_ok-inputs.inputs.items ≡ chosen_ids c.args.which.now (ids_of c.self.inside.segments)
chosen g c =
    chosen_is c.args.which.now c.as_slice.result.now c.in_ok-inputs.inputs.items c.self.inside.segments
    (c.as_slice.ensures.value ∙ c.first_places-places.ensures ∙ ap (λ n. take 64 (filter (λ i. ltb i n) (each_once c.args.which.now))) c.len.ensures.value)
    c.in_ok-inputs.ensures

abbrev merge_of : (g : given.Over) (c : goal.Joined-self g) → BegunMerge
merge_of g c = record { inputs = c.in_ok-inputs.inputs.items; built = c.in_ok-built.built }

gathered_here : (g : given.Over) (c : goal.Joined-self g) (n : NewSegmentData) → c.in_ok-built.built ≡ Some n
    → IsGathered g.row.D c.self.inside.leaf_size (parts_among c.in_ok-inputs.inputs.items c.self.inside.segments) n
gathered_here g c n is =
    subst (λ leaf_size. IsGathered g.row.D leaf_size (parts_among c.in_ok-inputs.inputs.items c.self.inside.segments) n)
    (c.plan-plan.ensures.leaf_size ∙ sym (ap (λ (s : SetData). s.leaf_size) c.self.view_is))
    (subst (λ (ns : List ℕ). IsGathered g.row.D c.plan-plan.result.leaf_size (parts_among ns c.self.inside.segments) n) c.as_slice-2.ensures.value
    (c.in_ok-built.ensures.gathered n is))

pub invariant_of-self : goal.invariant_of-self
invariant_of-self g c =
    let well = c.self.invariant in
    let ids = ids_of c.self.inside.segments in
    begun_well g.row.D {s = set_of c.self.inside} well (merge_of g c) c.self.inside.cache
    (subst (All (λ id. is_among ids id ≡ true)) (sym (chosen g c)) (chosen_there c.args.which.now ids))
    (subst (λ (ns : List ℕ). length ns ≤ 64) (sym (chosen g c)) (chosen_few c.args.which.now ids))
    (gathered_here g c)
    well.cached well.unhidden

pub returns-clause-seen : goal.returns-clause-seen
returns-clause-seen g c = λ told i seen.
    let h = subst (λ (u : SetData). Sees g.row.D (g.F.Pages.files c.args.folder.now) u i) (sym c.self.view_is) seen in
    subst (λ (f : Files). Sees g.row.D f
    (moved (set_of c.self.inside) c.self.inside.names c.self.inside.segments c.self.inside.buffer.items (Some (merge_of g c)) c.self.inside.cache)
    (record i { begun = true }))
    (sym (c.gathered.ensures.files told))
    (begun_seen g.row.D (g.F.Pages.files c.args.folder.now) (set_of c.self.inside) i h (merge_of g c) c.self.inside.cache
    (gathered_merges g.row.D h.contents (parts_among c.in_ok-inputs.inputs.items c.self.inside.segments) c.in_ok-built.built
    (subst (λ (ns : List ℕ). MakesLive g.row.D (live_in_parts h.contents (parts_among ns c.self.inside.segments)) c.in_ok-built.built)
    c.as_slice-2.ensures.value
    (c.in_ok-built.ensures.makes told h.contents h.stands.now)))
    h.stands.agrees)

pub returns-clause-inputs : goal.returns-clause-inputs
returns-clause-inputs g c =
    (merge_of g c, refl, subst (λ (s : SetData). c.in_ok-inputs.inputs.items ≡ chosen_ids c.args.which.now (ids_of s.parts)) c.self.view_is (chosen g c))

pub returns-in_err-built-clause-faithful : goal.returns-in_err-built-clause-faithful
returns-in_err-built-clause-faithful g c = λ told faithful.
    subst (λ (f : Files). IsFaithful g.row.D f c.args.self.now) (sym (c.gathered.ensures.files told)) faithful

pub returns-in_err-built-clause-damaged : goal.returns-in_err-built-clause-damaged
returns-in_err-built-clause-damaged g c = record {
  whole = λ told i seen.
      let p = err_from_is_err_and c.from_residual-in_err-built.result c.from_residual-in_err-built.ensures.1 in
      let s = set_of c.self.inside in
      let h = subst (λ (u : SetData). Sees g.row.D (g.F.Pages.files c.args.folder.now) u i) (sym c.self.view_is) seen in
      rw (p.1, p.2)
      (begun_damage (Unit {0}) (Unit {0}) (λ _. ⊥) c.in_err-built.field-0.0
      (c.in_err-built.ensures.whole told h.contents h.stands.now s.next
      (merge_docs g.row.D (g.F.Pages.files c.args.folder.now) s i h c.as_slice-2.result.now)
      (subst (λ n. length (live_in_parts h.contents (parts_among c.as_slice-2.result.now s.parts)) ≤ n)
      (ap (λ (u : SetData). u.points_given) c.self.view_is ∙ sym c.plan-plan.ensures.points_given)
      (merge_few g.row.D (g.F.Pages.files c.args.folder.now) s i h c.as_slice-2.result.now))));
  shown =
      let p = err_from_is_err_and c.from_residual-in_err-built.result c.from_residual-in_err-built.ensures.1 in
      rw (p.1, p.2)
      (begun_damage (Unit {0}) (Unit {0}) (IsMergeDamage g.row.D c.args.self.now.points_given c.args.self.now.names c.args.self.now.names c.args.self.now.parts)
      c.in_err-built.field-0.0
      (subst (λ n.
      OnDamage {T = Unit {0}} (Err c.in_err-built.field-0.0) (IsMergeDamage g.row.D n c.args.self.now.names c.args.self.now.names c.args.self.now.parts))
      c.plan-plan.ensures.points_given
      (subst (λ (s : SetData).
      OnDamage {T = Unit {0}} (Err c.in_err-built.field-0.0) (IsMergeDamage g.row.D c.plan-plan.result.points_given s.names s.names s.parts))
      c.self.view_is (c.in_err-built.ensures.shown c.self.inside.names c.self.inside.names))));
  damage = λ told agrees.
      let p = err_from_is_err_and c.from_residual-in_err-built.result c.from_residual-in_err-built.ensures.1 in
      rw (p.1, p.2)
      (begun_damage (Unit {0}) (Unit {0}) (IsMergeDamageOf (g.F.Pages.files c.gathered.new.folder) c.args.self.now.points_given) c.in_err-built.field-0.0
      (subst (λ n. OnDamage {T = Unit {0}} (Err c.in_err-built.field-0.0) (IsMergeDamageOf (g.F.Pages.files c.gathered.new.folder) n))
      c.plan-plan.ensures.points_given
      (c.in_err-built.ensures.damage told)));
  doubled = λ told agrees contents reads.
      let p = err_from_is_err_and c.from_residual-in_err-built.result c.from_residual-in_err-built.ensures.1 in
      rw (p.1, p.2)
      (begun_damage (Unit {0}) (Unit {0}) (IsDoubt c.args.self.now.points_given (live_in_parts contents c.args.self.now.parts)) c.in_err-built.field-0.0
      (subst (λ n. OnDamage {T = Unit {0}} (Err c.in_err-built.field-0.0) (IsDoubt n (live_in_parts contents c.args.self.now.parts)))
      c.plan-plan.ensures.points_given
      (subst (λ (s : SetData).
      OnDamage {T = Unit {0}} (Err c.in_err-built.field-0.0) (IsDoubt c.plan-plan.result.points_given (live_in_parts contents s.parts)))
      c.self.view_is
      (c.in_err-built.ensures.doubled told contents
      (subst (λ (s : SetData). AreRead g.row.D (g.F.Pages.files c.args.folder.now) contents s.parts) (sym c.self.view_is) reads)))));
  evident =
      let p = err_from_is_err_and c.from_residual-in_err-built.result c.from_residual-in_err-built.ensures.1 in
      rw (p.1, p.2)
      (begun_damage (Unit {0}) (Unit {0})
      (IsEvidentIn g.row.D (g.F.Pages.files c.args.folder.now) c.args.self.now.parts (length c.args.self.now.buffer) c.args.self.now.points_given
      (IsTrusted g.F.Pages.told g.row.D (g.F.Pages.files c.args.folder.now) c.args.self.now) (g.F.Pages.files c.gathered.new.folder)) c.in_err-built.field-0.0
      (on_evident_set {X = Unit {0}} g.row.D g.F.Pages.told (g.F.Pages.files c.args.folder.now) (g.F.Pages.files c.gathered.new.folder) (set_of c.self.inside)
      c.args.self.now (Err c.in_err-built.field-0.0) c.self.view_is c.self.invariant.spread
      (subst (λ n. OnDamage {T = Unit {0}} (Err c.in_err-built.field-0.0)
      (IsEvidentIn g.row.D (g.F.Pages.files c.args.folder.now) c.self.inside.segments 0 n
      (IsTrue g.F.Pages.told × All (HasFileHead g.row.D (g.F.Pages.files c.args.folder.now)) c.self.inside.segments × AreAlone c.self.inside.segments)
      (g.F.Pages.files c.gathered.new.folder)))
      (c.plan-plan.ensures.points_given ∙ sym (ap (λ (s : SetData). s.points_given) c.self.view_is)) c.in_err-built.ensures.evident)));
}

pub returns-clause-faithful : goal.returns-clause-faithful
returns-clause-faithful g c =
    faithful_looked g.row.D g.F.Pages.told (g.F.Pages.files c.args.folder.now) (g.F.Pages.files c.gathered.new.folder) (set_of c.self.inside) c.args.self.now
    (ids_of (parts_among c.as_slice-2.result.now c.self.inside.segments)) (Some (merge_of g c)) c.self.inside.cache c.self.view_is
    (record { files = c.gathered.ensures.files; agrees = λ told agrees. agrees; others = λ id keeps. inl keeps })
    (λ told heads b is.
    subst (λ (m : BegunMerge). TakesOver g.row.D (g.F.Pages.files c.args.folder.now) (parts_among m.inputs c.self.inside.segments) m.built)
    (some_is (merge_of g c) b is)
    (subst (λ (ns : List ℕ). LosesNone g.row.D (IsTrue g.F.Pages.told) (g.F.Pages.files c.args.folder.now) ns c.self.inside.segments c.in_ok-built.built)
    c.as_slice-2.ensures.value c.in_ok-built.ensures.loses told heads))

pub returns-in_err-built-clause-files : goal.returns-in_err-built-clause-files
returns-in_err-built-clause-files g c = c.gathered.ensures.files

pub returns-clause-files : goal.returns-clause-files
returns-clause-files g c = c.gathered.ensures.files

-- the pages that queries keep are let alone
pub returns-in_err-inputs-clause-cache : goal.returns-in_err-inputs-clause-cache
returns-in_err-inputs-clause-cache g c = refl

pub returns-in_err-built-clause-cache : goal.returns-in_err-built-clause-cache
returns-in_err-built-clause-cache g c = refl

pub returns-clause-cache : goal.returns-clause-cache
returns-clause-cache g c = ap (λ (s : SetData). s.cache) c.self.view_is

pub returns-clause-built : goal.returns-clause-built
returns-clause-built g c = λ b is.
    let files = g.F.Pages.files c.args.folder.now in
    let same : merge_of g c ≡ b = some_is (merge_of g c) b is in
    subst (Collects g.row.D c.args.self.now.leaf_size (IsTrue g.F.Pages.told) files c.args.self.now.parts) same
    (subst (λ (s : SetData). Collects g.row.D s.leaf_size (IsTrue g.F.Pages.told) files s.parts (merge_of g c)) c.self.view_is
    (record {
      gathered = gathered_here g c;
      loses = subst (λ (ns : List ℕ). LosesNone g.row.D (IsTrue g.F.Pages.told) files ns c.self.inside.segments c.in_ok-built.built)
          c.as_slice-2.ensures.value c.in_ok-built.ensures.loses;
    }))
