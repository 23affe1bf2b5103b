use Rattle.std.proofs.Common.{◌≡◌, ℕ, true, IsTrue, List, Option, sym, ap, subst, ◌∙◌, inl, lit<, None, refl}
use Rattle.std.specs.Prelude.{All}
use Rattle.std.proofs.lemmas.List.Elements.{All-contains}
use Rattle.std.proofs.lemmas.Result.{err_from_is_err_and}
use Rattle.documents.specs.Entries.{is_among}
use Rattle.documents.proofs.Kept.{among_to}
use Rattle.segment_view.specs.LiveSegments.{LiveSegment, ids_of}
use Rattle.segment_build.specs.NewSegments.{NewSegmentData}
use Rattle.segment_set.specs.declared.set.SegmentSet.TheInside.{Inside}
use Rattle.segment_set.specs.Sets.{BegunMerge, IsNamed, IsWell, SetData, inputs_of}
use Rattle.segment_set.specs.Seen.{Sees}
use Rattle.segment_set.specs.Kept.{AreCanonical, Follows, KeepsNamed, StaysAlone}
use Rattle.segment_set.specs.Merged.{IsEnded}
use Rattle.segment_set.specs.Merges.{Replaces, living}
use Rattle.segment_set.specs.Faithful.{IsFaithful}
use Rattle.segment_set.proofs.Shows.{rewrites_none}
use Rattle.segment_set.specs.Losing.{IsLossless, KeepsCounts}
use Rattle.segment_set.proofs.Counts.{counts_same}
use Rattle.segment_set.proofs.Lossless.{lossless_same}
use Rattle.segment_set.proofs.Ended.{end_canon, end_counts, end_follows, end_loses, end_parts, end_seen, end_stays, end_well}
use Rattle.segment_set.proofs.Faulted.{ended_cause}
use Rattle.segment_set.proofs.Moved.{moved}
use Rattle.segment_set.proofs.Sizes.{built_fits}
use Rattle.segment_set.proofs.WrittenBuffer.{refused_after, some_is}
use Rattle.segment_set.proofs.Standing.{ids_named}
use Rattle.segment_set.proofs.Steps.{IsAfter}
use Rattle.segment_set.proofs.Faithful.{faithful_named, part_files}
use Rattle.segment_set.proofs.Refused.{at_error, never_ok}
use Rattle.segment_set.proofs.Settled.{before_moved}
use Rattle.segment_set.proofs.Trusted.{faithful_replaced}
use Rattle.segment_set.proofs.set.SegmentSet.merge_end.Given as given
use Rattle.segment_set.proofs.set.SegmentSet.merge_end.Goals as goal

-- a set, by its fields
abbrev set_of : {D : ℕ} → Inside D → SetData
set_of s = record {
  leaf_size = s.leaf_size;
  next = s.buffer.next;
  points_given = s.points_given;
  names = s.names;
  parts = s.segments;
  buffer = s.buffer.items;
  snapshots = s.snapshots.items;
  begun = s.begun;
  cache = s.cache;
  saved = s.saved;
}

abbrev WasReplaced : (g : given.Over) (c : goal.Joined-self-2 g) → Option NewSegmentData → List ℕ → Type 0
WasReplaced g c o ids =
    Replaces g.row.D (IsTrue g.F.Pages.told) c.self.inside.names c.replace.new.names (g.F.Pages.files c.replace.new.folder) ids o c.self.inside.segments
    c.replace.new.segments

-- a refusal leaves the set
refused : (g : given.Over) (c : goal.After-from_residual g)
    → IsAfter g.row.D (IsTrue g.F.Pages.told) (g.F.Pages.files c.args.folder.now) (g.F.Pages.files c.replace.new.folder) (set_of c.self.inside)
    (moved (set_of c.self.inside) c.replace.new.names c.self.inside.segments c.self.inside.buffer.items c.self.inside.begun c.self.inside.cache)
refused g c =
    refused_after g.row.D (IsTrue g.F.Pages.told) (g.F.Pages.files c.args.folder.now) (g.F.Pages.files c.replace.new.folder) {s = set_of c.self.inside}
    c.self.invariant c.replace.new.names c.in_err-replace.ensures.kept

pub replace-requires : goal.replace-requires
replace-requires g c =
    let inputs : c.as_slice.result.now ≡ inputs_of c.self.inside.begun =
    c.as_slice.ensures.value ∙ ap (λ (b : BegunMerge). b.inputs) c.begun.view_is ∙ sym (ap inputs_of c.in-Some.is) in
    let well = c.self.invariant in
    let ids = ids_of c.self.inside.segments in (
      lit< tt,
      (
        built_fits g.row.D well.few_dims,
        (
          well.few_dims,
          (
            well.named,
            λ id there.
                ids_named c.self.inside.names c.self.inside.segments well.named id
                (among_to ids id
                (All-contains (λ n. is_among ids n ≡ true) (inputs_of c.self.inside.begun) id well.inputs
                (among_to (inputs_of c.self.inside.begun) id (subst (λ (ns : List ℕ). is_among ns id ≡ true) inputs there)))),
          ),
        ),
      ),
    )

pub invariant_of-self : goal.invariant_of-self
invariant_of-self g c =
    subst (λ (ps : List LiveSegment).
    IsWell g.row.D (moved (set_of c.self.inside) c.replace.new.names ps c.self.inside.buffer.items c.self.inside.begun c.self.inside.cache))
    (sym c.in_err-replace.ensures.refused) (refused g c).well

pub returns-in_default-clause-rewrites : goal.returns-in_default-clause-rewrites
returns-in_default-clause-rewrites g c = rewrites_none _ _ _ _ (subst (λ (s : SetData). All (IsNamed s.names) s.parts) c.self.view_is c.self.invariant.named)

pub returns-in_err-replace-clause-refused : goal.returns-in_err-replace-clause-refused
returns-in_err-replace-clause-refused g c = λ told i seen.
    let p = err_from_is_err_and c.from_residual.result c.from_residual.ensures.1 in
    rw p.1
    (subst (λ (ps : List LiveSegment).
    Sees g.row.D (g.F.Pages.files c.replace.new.folder)
    (moved (set_of c.self.inside) c.replace.new.names ps c.self.inside.buffer.items c.self.inside.begun c.self.inside.cache) i)
    (sym c.in_err-replace.ensures.refused)
    ((refused g c).seen told i (subst (λ (s : SetData). Sees g.row.D (g.F.Pages.files c.args.folder.now) s i) (sym c.self.view_is) seen)))

pub returns-in_err-replace-clause-stays : goal.returns-in_err-replace-clause-stays
returns-in_err-replace-clause-stays g c =
    subst (λ (s : SetData). StaysAlone s
    (moved (set_of c.self.inside) c.replace.new.names c.replace.new.segments c.self.inside.buffer.items s.begun c.self.inside.cache)) c.self.view_is
    (subst (λ (ps : List LiveSegment).
    StaysAlone (set_of c.self.inside)
    (moved (set_of c.self.inside) c.replace.new.names ps c.self.inside.buffer.items c.self.inside.begun c.self.inside.cache))
    (sym c.in_err-replace.ensures.refused) (refused g c).stays)

pub returns-in_err-replace-clause-cause : goal.returns-in_err-replace-clause-cause
returns-in_err-replace-clause-cause g c =
    let p = err_from_is_err_and c.from_residual.result c.from_residual.ensures.1 in
    rw (p.1, p.2)
    (ended_cause {T = Unit {0}} {U = Unit {0}} (g.F.Pages.faults c.args.folder.now) (g.F.Pages.faults c.replace.new.folder) c.in_err-replace.field-0.0
    c.in_err-replace.ensures.cause)

-- what was built took the place of the inputs
replaced : (g : given.Over) (c : goal.Joined-self-2 g) → WasReplaced g c (living c.in-Some.begun.built) c.in-Some.begun.inputs
replaced g c =
    subst (WasReplaced g c (living c.in-Some.begun.built)) (c.as_slice.ensures.value ∙ ap (λ (b : BegunMerge). b.inputs) c.begun.view_is)
    (subst (λ (o : Option NewSegmentData). WasReplaced g c o c.as_slice.result.now)
    (ap living (c.as_ref.ensures.value ∙ ap (λ (b : BegunMerge). b.built) c.begun.view_is)) c.in_ok-replace.ensures.replaced)

pub invariant_of-self-2 : goal.invariant_of-self-2
invariant_of-self-2 g c =
    end_well g.row.D (IsTrue g.F.Pages.told) (g.F.Pages.files c.args.folder.now) (g.F.Pages.files c.replace.new.folder) {s = set_of c.self.inside}
    c.replace.new.names c.replace.new.segments c.in_ok-replace.ensures.kept c.in-Some.begun c.in-Some.is (replaced g c)
    c.self.invariant

pub returns-clause-seen : goal.returns-clause-seen
returns-clause-seen g c = λ told i seen.
    end_seen g.row.D (IsTrue g.F.Pages.told) (g.F.Pages.files c.args.folder.now) (g.F.Pages.files c.replace.new.folder) {s = set_of c.self.inside}
    c.replace.new.names c.replace.new.segments c.in_ok-replace.ensures.kept c.in-Some.begun c.in-Some.is (replaced g c)
    c.self.invariant told i (subst (λ (s : SetData). Sees g.row.D (g.F.Pages.files c.args.folder.now) s i) (sym c.self.view_is) seen)

pub returns-clause-stays : goal.returns-clause-stays
returns-clause-stays g c =
    subst (λ (s : SetData). StaysAlone s
    (moved (set_of c.self.inside) c.replace.new.names c.replace.new.segments c.self.inside.buffer.items s.begun c.self.inside.cache)) c.self.view_is
    (end_stays g.row.D (IsTrue g.F.Pages.told) (g.F.Pages.files c.args.folder.now) (g.F.Pages.files c.replace.new.folder) {s = set_of c.self.inside}
    c.replace.new.names c.replace.new.segments c.in_ok-replace.ensures.kept c.in-Some.begun c.in-Some.is (replaced g c)
    c.self.invariant)

pub returns-in_err-replace-clause-rewrites : goal.returns-in_err-replace-clause-rewrites
returns-in_err-replace-clause-rewrites g c = record {
  kept = subst (λ (s : SetData).
      KeepsNamed (IsTrue g.F.Pages.told) s.names c.replace.new.names (g.F.Pages.files c.args.folder.now) (g.F.Pages.files c.replace.new.folder)) c.self.view_is
      c.in_err-replace.ensures.kept;
  follows = subst (λ (s : SetData). Follows s.names s.parts c.replace.new.segments) c.self.view_is
      (subst (Follows c.self.inside.names c.self.inside.segments) (sym c.in_err-replace.ensures.refused) (refused g c).follows);
  canon = λ told. subst (λ (s : SetData). AreCanonical g.row.D (g.F.Pages.files c.replace.new.folder) s.names c.replace.new.segments) c.self.view_is
      (subst (AreCanonical g.row.D (g.F.Pages.files c.replace.new.folder) c.self.inside.names) (sym c.in_err-replace.ensures.refused)
      ((refused g c).canon told));
  faithful = λ told faithful.
      faithful_named g.row.D (g.F.Pages.files c.args.folder.now) (g.F.Pages.files c.replace.new.folder) (set_of c.self.inside)
      (moved (set_of c.self.inside) c.replace.new.names c.replace.new.segments c.self.inside.buffer.items c.self.inside.begun c.self.inside.cache)
      c.self.invariant (c.in_err-replace.ensures.kept.files told) c.in_err-replace.ensures.refused (inl refl) refl refl
      (subst (IsFaithful g.row.D (g.F.Pages.files c.args.folder.now)) (sym c.self.view_is) faithful);
  loses = λ told well faithful. lossless_same g.row.D (g.F.Pages.files c.args.folder.now) c.args.self.now c.args.self.now
      (moved (set_of c.self.inside) c.replace.new.names c.replace.new.segments c.self.inside.buffer.items c.self.inside.begun c.self.inside.cache)
      (c.in_err-replace.ensures.refused ∙ ap (λ (s : SetData). s.parts) c.self.view_is) (ap (λ (s : SetData). s.buffer) c.self.view_is)
      (λ number live. inl live);
  counts = λ told well faithful. subst (λ (s : SetData).
      KeepsCounts g.row.D (g.F.Pages.files c.args.folder.now) (g.F.Pages.files c.replace.new.folder) s
      (moved (set_of c.self.inside) c.replace.new.names c.replace.new.segments c.self.inside.buffer.items c.self.inside.begun c.self.inside.cache))
      c.self.view_is (counts_same g.row.D (g.F.Pages.files c.args.folder.now) (g.F.Pages.files c.replace.new.folder) (set_of c.self.inside) _
      c.in_err-replace.ensures.refused refl refl
      (part_files g.row.D (set_of c.self.inside) c.self.invariant (c.in_err-replace.ensures.kept.files told)));
}

pub returns-clause-rewrites : goal.returns-clause-rewrites
returns-clause-rewrites g c = record {
  kept = subst (λ (s : SetData).
      KeepsNamed (IsTrue g.F.Pages.told) s.names c.replace.new.names (g.F.Pages.files c.args.folder.now) (g.F.Pages.files c.replace.new.folder)) c.self.view_is
      c.in_ok-replace.ensures.kept;
  follows = subst (λ (s : SetData). Follows s.names s.parts c.replace.new.segments) c.self.view_is
      (end_follows g.row.D (IsTrue g.F.Pages.told) (g.F.Pages.files c.args.folder.now) (g.F.Pages.files c.replace.new.folder) {s = set_of c.self.inside}
      c.replace.new.names c.replace.new.segments c.in_ok-replace.ensures.kept c.in-Some.begun c.in-Some.is (replaced g c) c.self.invariant);
  canon = λ told. subst (λ (s : SetData). AreCanonical g.row.D (g.F.Pages.files c.replace.new.folder) s.names c.replace.new.segments) c.self.view_is
      (end_canon g.row.D (IsTrue g.F.Pages.told) (g.F.Pages.files c.args.folder.now) (g.F.Pages.files c.replace.new.folder) {s = set_of c.self.inside}
      c.replace.new.names c.replace.new.segments c.in_ok-replace.ensures.kept c.in-Some.begun c.in-Some.is (replaced g c) c.self.invariant told);
  faithful = λ told faithful.
      faithful_replaced g.row.D (IsTrue g.F.Pages.told) (g.F.Pages.files c.args.folder.now) (g.F.Pages.files c.replace.new.folder) (set_of c.self.inside)
      (moved (set_of c.self.inside) c.replace.new.names c.replace.new.segments c.self.inside.buffer.items None c.self.inside.cache) c.self.invariant
      c.in_ok-replace.ensures.kept
      (end_follows g.row.D (IsTrue g.F.Pages.told) (g.F.Pages.files c.args.folder.now) (g.F.Pages.files c.replace.new.folder) {s = set_of c.self.inside}
      c.replace.new.names c.replace.new.segments c.in_ok-replace.ensures.kept c.in-Some.begun c.in-Some.is (replaced g c) c.self.invariant)
      (end_canon g.row.D (IsTrue g.F.Pages.told) (g.F.Pages.files c.args.folder.now) (g.F.Pages.files c.replace.new.folder) {s = set_of c.self.inside}
      c.replace.new.names c.replace.new.segments c.in_ok-replace.ensures.kept c.in-Some.begun c.in-Some.is (replaced g c) c.self.invariant) refl refl refl told
      (subst (IsFaithful g.row.D (g.F.Pages.files c.args.folder.now)) (sym c.self.view_is) faithful);
  loses = λ told well faithful. subst (λ (s : SetData). IsLossless g.row.D (g.F.Pages.files c.args.folder.now) s
      (moved (set_of c.self.inside) c.replace.new.names c.replace.new.segments c.self.inside.buffer.items None c.self.inside.cache)) c.self.view_is
      (end_loses g.row.D (IsTrue g.F.Pages.told) (g.F.Pages.files c.args.folder.now) (g.F.Pages.files c.replace.new.folder) {s = set_of c.self.inside}
      c.replace.new.names c.replace.new.segments c.in_ok-replace.ensures.kept c.in-Some.begun c.in-Some.is (replaced g c) c.self.invariant
      ((subst (IsFaithful g.row.D (g.F.Pages.files c.args.folder.now)) (sym c.self.view_is) faithful).begun c.in-Some.begun c.in-Some.is).numbers);
  counts = λ told well faithful. subst (λ (s : SetData).
      KeepsCounts g.row.D (g.F.Pages.files c.args.folder.now) (g.F.Pages.files c.replace.new.folder) s
      (moved (set_of c.self.inside) c.replace.new.names c.replace.new.segments c.self.inside.buffer.items None c.self.inside.cache)) c.self.view_is
      (end_counts g.row.D (IsTrue g.F.Pages.told) (g.F.Pages.files c.args.folder.now) (g.F.Pages.files c.replace.new.folder) {s = set_of c.self.inside}
      c.replace.new.names c.replace.new.segments c.in_ok-replace.ensures.kept c.in-Some.begun c.in-Some.is (replaced g c) c.self.invariant told
      ((subst (IsFaithful g.row.D (g.F.Pages.files c.args.folder.now)) (sym c.self.view_is) faithful).begun c.in-Some.begun c.in-Some.is));
}

pub returns-in_err-replace-clause-rest : goal.returns-in_err-replace-clause-rest
returns-in_err-replace-clause-rest g c = at_error _ c.from_residual.result c.from_residual.ensures.1 _
    (before_moved c.args.self.now (set_of c.self.inside) c.self.view_is c.replace.new.names c.replace.new.segments c.self.inside.buffer.items
    c.self.inside.cache c.in_err-replace.ensures.refused refl)

pub returns-in_err-replace-clause-ends : goal.returns-in_err-replace-clause-ends
returns-in_err-replace-clause-ends g c = record {
  ended = never_ok _ c.from_residual.result c.from_residual.ensures.1 _;
  parts = λ b is. never_ok _ c.from_residual.result c.from_residual.ensures.1 _;
  replaced = λ b is. never_ok _ c.from_residual.result c.from_residual.ensures.1 _;
}

pub returns-clause-ends : goal.returns-clause-ends
returns-clause-ends g c = record {
  ended = refl;
  parts = λ b is.
      let same : c.in-Some.begun ≡ b = some_is c.in-Some.begun b (sym c.in-Some.is ∙ ap (λ (s : SetData). s.begun) c.self.view_is ∙ is) in
      subst (λ (m : BegunMerge). IsEnded m c.args.self.now.parts c.replace.new.segments) same
      (subst (λ (s : SetData). IsEnded c.in-Some.begun s.parts c.replace.new.segments) c.self.view_is
      (end_parts g.row.D (IsTrue g.F.Pages.told) (g.F.Pages.files c.args.folder.now) (g.F.Pages.files c.replace.new.folder) {s = set_of c.self.inside}
      c.replace.new.names c.replace.new.segments c.in_ok-replace.ensures.kept c.in-Some.begun c.in-Some.is (replaced g c) c.self.invariant));
  replaced = λ b is.
      let same : c.in-Some.begun ≡ b = some_is c.in-Some.begun b (sym c.in-Some.is ∙ ap (λ (s : SetData). s.begun) c.self.view_is ∙ is) in
      subst (λ (m : BegunMerge).
      Replaces g.row.D (IsTrue g.F.Pages.told) c.args.self.now.names c.replace.new.names (g.F.Pages.files c.replace.new.folder) m.inputs (living m.built)
      c.args.self.now.parts c.replace.new.segments) same
      (subst (λ (s : SetData). Replaces g.row.D (IsTrue g.F.Pages.told) s.names c.replace.new.names (g.F.Pages.files c.replace.new.folder)
      c.in-Some.begun.inputs (living c.in-Some.begun.built) s.parts c.replace.new.segments) c.self.view_is (replaced g c));
}
