-- The set is attached over the commit that the file says.
use Rattle.std.proofs.Common.{subst, sym, ap, ◌∙◌}
use Rattle.stored_index.specs.Kept.{ListsFile}
use Rattle.stored_index.specs.Stored.{HaveLive}
use Rattle.segment_view.specs.LiveSegments.{lives_of}
use Rattle.segment_set.specs.Kept.{IsAtRest}
use Rattle.index_core.specs.Sessions.{HasDims, SessionData}
use Rattle.index_core.proofs.SetGuards.{guards_anew, says_last}
use Rattle.index_core.proofs.TracedCommits.{traced_anew}
use Rattle.index_core.proofs.Committing.{on_ok_each, some_same}
use Rattle.segment_set.proofs.Sizes.{set_fits}
use Rattle.page_cache.specs.Evidence.{OnDamage}
use Rattle.index_opening.specs.Damages.{IsAttachDamage, IsAttachDamageOf}
use Rattle.index_opening.proofs.Evident.{on_evident_less}
use Rattle.index_core.proofs.session.Session.attach_anew.Goals as goal

pub attach-requires : goal.attach-requires
attach-requires g c = (set_fits g.row.D c.self.invariant.few, subst (HasDims g.row.D) c.in-Some.is c.self.invariant.has)

pub returns-clause-seen : goal.returns-clause-seen
returns-clause-seen g c told done guards i stored = c.attach.ensures.seen told (says_last _ _ _ _ c.self.view_is c.in-Some.is done guards) i stored

pub returns-clause-guards : goal.returns-clause-guards
returns-clause-guards g c told done guards =
    guards_anew _ _ _ _ _ c.attach.result c.self.view_is c.in-Some.is (subst (HasDims g.row.D) c.in-Some.is c.self.invariant.has)
    (says_last _ _ _ _ c.self.view_is c.in-Some.is done guards) c.attach.ensures.commit c.attach.ensures.names (c.attach.ensures.live told)

pub returns-clause-unchanged : goal.returns-clause-unchanged
returns-clause-unchanged g c last is =
    on_ok_each (λ s. subst (IsAtRest s) (some_same _ _ (sym c.in-Some.is ∙ ap (λ (u : SessionData). u.commit) c.self.view_is ∙ is)))
    c.attach.result c.attach.ensures.commit

pub returns-clause-names : goal.returns-clause-names
returns-clause-names g c last is = on_ok_each (λ s names m named.
    subst (λ d. ListsFile d m) (some_same _ _ (sym c.in-Some.is ∙ ap (λ (u : SessionData). u.commit) c.self.view_is ∙ is)) ((names m).0 named))
    c.attach.result c.attach.ensures.names

pub returns-clause-whole : goal.returns-clause-whole
returns-clause-whole g c told done guards state stored =
    c.attach.ensures.damaged.whole told (says_last _ _ _ _ c.self.view_is c.in-Some.is done guards) state stored

pub returns-clause-shown : goal.returns-clause-shown
returns-clause-shown g c last is =
    subst (λ d. OnDamage c.attach.result (IsAttachDamage d)) (some_same _ _ (sym c.in-Some.is ∙ ap (λ (u : SessionData). u.commit) c.self.view_is ∙ is))
    c.attach.ensures.damaged.shown

pub returns-clause-damage : goal.returns-clause-damage
returns-clause-damage g c told last is =
    subst (λ d. OnDamage c.attach.result (IsAttachDamageOf (g.F.Pages.files c.args.folder.now) d))
    (some_same _ _ (sym c.in-Some.is ∙ ap (λ (u : SessionData). u.commit) c.self.view_is ∙ is)) (c.attach.ensures.damaged.damage told)

pub returns-clause-faithful : goal.returns-clause-faithful
returns-clause-faithful g c told = c.attach.ensures.faithful told

pub returns-clause-evident : goal.returns-clause-evident
returns-clause-evident g c =
    on_evident_less _ _ _ c.attach.result (λ (told, done, guards). (told, says_last _ _ _ _ c.self.view_is c.in-Some.is done guards))
    c.attach.ensures.damaged.evident

pub returns-clause-traced : goal.returns-clause-traced
returns-clause-traced g c told done guards = traced_anew _ _ _ c.attach.result (subst (HasDims g.row.D) c.in-Some.is c.self.invariant.has)
    (says_last _ _ _ _ c.self.view_is c.in-Some.is done guards) c.attach.ensures.commit c.attach.ensures.names (c.attach.ensures.live told)

pub returns-clause-lives : goal.returns-clause-lives
returns-clause-lives g c told last is = on_ok_each (λ s lives. subst (λ d. HaveLive (g.F.Pages.files c.args.folder.now) d (lives_of s.parts))
    (some_same _ _ (sym c.in-Some.is ∙ ap (λ (u : SessionData). u.commit) c.self.view_is ∙ is)) lives)
    c.attach.result (c.attach.ensures.live told)
