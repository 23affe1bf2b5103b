-- What the commit needs stays.
use Rattle.std.proofs.Common.{◌≡◌, false, true, IsTrue, OnOk, Some, refl, sym, ap, subst, ◌∙◌, inl, inr, ⊎_elim}
use Rattle.std.specs.List.{Contains}
use Rattle.outer_io.specs.declared.file_name.FileName.{FileName}
use Rattle.outer_io.specs.declared.file_name.FileName.TheVariants.{Segment}
use Rattle.commit_list.specs.Commits.{CommitData}
use Rattle.file_names.specs.Names.{is_named}
use Rattle.segment_set.specs.Sets.{SetData}
use Rattle.segment_set.specs.Seen.{Sees}
use Rattle.segment_set.specs.Kept.{IsNeeded, StaysButFiles}
use Rattle.index_core.specs.Closed.{IsTracked, NamesOnlyListed}
use Rattle.index_core.specs.Sessions.{Guards, IsSetTraced, SessionData}
use Rattle.index_core.proofs.Closing.{idle_sweep, tracked_swept}
use Rattle.index_core.proofs.Swept.{IsSwept, session_swept}
use Rattle.index_core.proofs.TracedCommits.{session_traced}
use Rattle.segment_set.proofs.Sizes.{set_fits}
use Rattle.segment_set.specs.Faithful.{IsFaithful}
use Rattle.index_core.proofs.session.Session.sweep.Given as given
use Rattle.index_core.proofs.session.Session.sweep.Goals as goal
use Rattle.index_core.proofs.session.Session.sweep.Goals.{in-Ok, in-Err}

-- the session as it was, by its fields
abbrev old : (g : given.Over) (c : goal.Joined-sweep g) → SessionData
old g c = record { set = c.self.inside.set; commit = c.self.inside.commit; refused = c.self.inside.refused }

swept : (g : given.Over) (c : goal.Joined-sweep g) → IsTrue g.F.Pages.told
    → IsSwept (g.F.Pages.files c.args.folder.now) (g.F.Pages.files c.sweep.new.folder) c.self.inside.set c.sweep.new.self c.in-Some.commit
swept g c told = record {
  commit = c.sweep.ensures.swept.commit told;
  files = c.sweep.ensures.swept.needed told;
  named = c.sweep.ensures.swept.named;
  parts = ap (λ (u : SetData). u.parts) c.sweep.ensures.swept.rest.is;
  leaf_size = ap (λ (u : SetData). u.leaf_size) c.sweep.ensures.swept.rest.is;
  next = ap (λ (u : SetData). u.next) c.sweep.ensures.swept.rest.is;
  points_given = ap (λ (u : SetData). u.points_given) c.sweep.ensures.swept.rest.is;
}

done : (g : given.Over) (c : goal.Joined-sweep g) → c.self.inside.refused ≡ false
done g c = ap (λ (u : SessionData). u.refused) c.self.view_is ∙ c.requires.written

pub returns-clause-seen : goal.returns-clause-seen
returns-clause-seen g c told i seen =
    c.sweep.ensures.seen told i (subst (λ (u : SessionData). Sees g.row.D (g.F.Pages.files c.args.folder.now) u.set i) (sym c.self.view_is) seen)

pub returns-clause-rest : goal.returns-clause-rest
returns-clause-rest g c = subst (λ (u : SessionData). StaysButFiles u.set c.sweep.new.self) c.self.view_is c.sweep.ensures.swept.rest

pub returns-clause-written : goal.returns-clause-written
returns-clause-written g c = (ap (λ (u : SessionData). u.commit) c.self.view_is, done g c)

pub returns-clause-guards : goal.returns-clause-guards
returns-clause-guards g c told guards = (session_swept _ _ _ (old g c) _ c.in-Some.commit c.in-Some.is (done g c) refl (done g c) (swept g c told)
    (subst (Guards g.row.D (g.F.Pages.files c.args.folder.now)) (sym c.self.view_is) guards)).0

pub returns-clause-kept : goal.returns-clause-kept
returns-clause-kept g c told guards = (session_swept _ _ _ (old g c) (record (old g c) { set = c.sweep.new.self }) c.in-Some.commit c.in-Some.is
    (done g c) refl (done g c) (swept g c told)
    (subst (Guards g.row.D (g.F.Pages.files c.args.folder.now)) (sym c.self.view_is) guards)).1

pub sweep-requires : goal.sweep-requires
sweep-requires g c = set_fits g.row.D c.self.invariant.few

pub returns-clause-unread : goal.returns-clause-unread
returns-clause-unread g c = c.sweep.ensures.unread

pub returns-clause-faithful : goal.returns-clause-faithful
returns-clause-faithful g c told faithful =
    c.sweep.ensures.faithful told (subst (λ (u : SessionData). IsFaithful g.row.D (g.F.Pages.files c.args.folder.now) u.set) (sym c.self.view_is) faithful)

pub returns-clause-traced : goal.returns-clause-traced
returns-clause-traced g c told guards traced = session_traced _ _ _ (old g c) c.sweep.new.self c.in-Some.commit c.in-Some.is (done g c) (swept g c told)
    c.sweep.ensures.swept.rest (subst (Guards g.row.D (g.F.Pages.files c.args.folder.now)) (sym c.self.view_is) guards)
    (subst (λ (u : SessionData). IsSetTraced g.row.D (g.F.Pages.files c.args.folder.now) u.set) (sym c.self.view_is) traced)

-- each name that is left is needed by the session as it was
abbrev Needed : (g : given.Over) (c : goal.Joined-sweep g) → Type 0
Needed g c = (m : FileName) → is_named c.sweep.new.self.names.names m ≡ true
    → (d : CommitData) × (c.args.self.now.commit ≡ Some d) × IsNeeded c.args.self.now.set d m

pub returns-clause-removes : goal.returns-clause-removes
returns-clause-removes g c = record {
  segments = λ told p there. c.sweep.ensures.swept.needed told (Segment p.head.id)
      (inr (⊎_elim
      (λ now. inl (p, subst (λ (u : SessionData). Contains u.set.parts p) (sym c.self.view_is) now, refl))
      (λ (v, kept, inside). inr (v, subst (λ (u : SessionData). Contains u.set.snapshots v) (sym c.self.view_is) kept, (p, inside, refl)))
      there));
  tracked = λ told m.
      let before = g.F.Pages.files c.args.folder.now in
      let after = g.F.Pages.files c.sweep.new.folder in
      subst (λ (u : SessionData). IsTracked before after u.set.names c.sweep.new.self.names m) c.self.view_is
      (tracked_swept before after c.self.inside.set.names c.sweep.new.self.names m (c.sweep.ensures.swept.others told m) (c.sweep.ensures.swept.gone told m));
  needed = elim c.match-sweep.branch [
    | in-Ok w ↦ subst (λ r. OnOk r (Needed g c)) (sym w.result-is) (λ m there. (
      c.in-Some.commit,
      ap (λ (u : SessionData). u.commit) (sym c.self.view_is) ∙ c.in-Some.is,
      subst (λ (u : SessionData). IsNeeded u.set c.in-Some.commit m) c.self.view_is (w.in-Ok.ensures.only m there),
    ))
    | in-Err w ↦ subst (λ r. OnOk r (Needed g c)) (sym w.result-is) tt
  ];
  idle = λ told listed.
      idle_sweep _ _ (old g c) c.in-Some.commit c.in-Some.is (c.sweep.ensures.swept.needed told) (c.sweep.ensures.swept.others told)
      (subst NamesOnlyListed (sym c.self.view_is) listed);
}
