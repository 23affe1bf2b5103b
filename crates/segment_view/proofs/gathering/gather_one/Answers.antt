use Rattle.std.proofs.Common.{◌≡◌, ◌≤◌, ◌+◌, ◌++◌, List, [], ◌∷◌, true, false, eqb, append-nil, ap, sym, subst, ◌∙◌, arith}
use Rattle.std.specs.Prelude.{OnOk}
use Rattle.std.specs.List.{list_any}
use Rattle.std.proofs.lemmas.List.Elements.{All-weaker}
use Rattle.std.proofs.lemmas.Result.{on_ok_weaker}
use Rattle.point_codec.specs.Points.{Item}
use Rattle.point_codec.specs.Seen.{items_of}
use Rattle.live_bits.specs.LiveSet.{is_live}
use Rattle.page_cache.specs.Evidence.{OnDamage}
use Rattle.documents.specs.Entries.{is_among}
use Rattle.documents.proofs.Lists.{cons_head}
use Rattle.nearest_query.proofs.Parts.{on_damage}
use Rattle.segment_view.specs.LiveSegments.{LiveSegment, live_segment, heads_of, ids_of, live_in_parts, parts_among, has_live}
use Rattle.segment_view.specs.Held.{AreHeld}
use Rattle.segment_view.specs.Costs.{leaves_in}
use Rattle.segment_view.specs.Calm.{IsCalm}
use Rattle.segment_view.specs.Damages.{IsReadDamage, IsPartDamage}
use Rattle.segment_view.proofs.Holding.{held_one, held_other}
use Rattle.segment_view.proofs.Living.{live_in_one}
use Rattle.segment_view.proofs.Reading.{among_one}
use Rattle.segment_view.proofs.gathering.gather_one.Goals as goal

-- one whose id is another gives nothing
pub returns-then-not-contains-clause-held : goal.returns-then-not-contains-clause-held
returns-then-not-contains-clause-held g c = λ told agrees own.
    let p = live_segment c.args.head.now c.args.live.now in
    let other : is_among c.args.ids.now p.head.id ≡ false =
    ap (λ n. list_any (λ m. eqb m n) c.args.ids.now) (sym c.id.ensures) ∙ sym c.contains.ensures.value ∙ c.if-not-contains.true in
    ([], sym (append-nil (items_of c.args.entries.now.items)), held_other g.row.D (g.F.Pages.files c.args.folder.now) c.args.ids.now p other)

-- a segment whose id is one of these is read
pub returns : goal.returns
returns g c =
    let p = live_segment c.args.head.now c.args.live.now in
    let among : is_among c.args.ids.now p.head.id ≡ true =
    ap (λ n. list_any (λ m. eqb m n) c.args.ids.now) (sym c.id.ensures) ∙ sym c.contains.ensures.value ∙ c.if-not-contains.false in
    let same = sym (among_one c.args.ids.now p among) in
    let one = c.append_live.ensures in
    record {
      entries = λ told agrees es r.
          subst (λ (ps : List LiveSegment).
          OnOk c.append_live.result (items_of c.append_live.new.entries.items ≡ items_of c.args.entries.now.items ++ live_in_parts es ps)) same
          (one.entries told agrees es r);
      held = λ told agrees own. on_ok_weaker c.append_live.result (λ m. (
        m.0,
        m.1,
        subst (λ (ps : List LiveSegment). AreHeld g.row.D (g.F.Pages.files c.args.folder.now) ps m.0) same
            (held_one g.row.D (g.F.Pages.files c.args.folder.now) p m.0 m.2),
      )) (one.held told agrees own);
      live = on_ok_weaker c.append_live.result (λ m. (
        m.0,
        m.1,
        All-weaker (λ (x : Item). is_live p.live x.doc ≡ true) (λ (x : Item). has_live x.doc (parts_among c.args.ids.now (p ∷ [])) ≡ true)
            (λ x live. live_in_one c.args.ids.now p x.doc among live) m.0 m.2,
      )) one.live;
      numbers = one.numbers;
      reads =
          let few = one.reads in
          subst (λ (ps : List LiveSegment). g.F.Pages.reads c.append_live.new.folder ≤ g.F.Pages.reads c.args.folder.now + leaves_in (heads_of ps)) same
          (omega (arith, few));
      calm = subst (λ (ps : List LiveSegment).
          IsCalm g.F.Pages.told (g.F.Pages.files c.args.folder.now) (g.F.Pages.files c.append_live.new.folder) c.args.cache.now c.append_live.new.cache
          (ids_of ps)) same one.calm;
      cause = one.cause;
      shown = subst (λ (ps : List LiveSegment). OnDamage c.append_live.result (IsPartDamage g.row.D ps)) same
          (on_damage (IsReadDamage g.row.D p.head) (IsPartDamage g.row.D (p ∷ [])) c.append_live.result (λ d h. (p, cons_head p [], h)) one.shown);
      damage = one.damage;
      whole = one.whole;
    }
