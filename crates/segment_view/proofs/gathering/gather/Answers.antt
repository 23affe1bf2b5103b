use Rattle.std.proofs.Common.{◌≡◌, ◌<◌, ◌^◌, ◌+◌, ◌++◌, List, [], ◌∷◌, true, Err, refl, ap, sym, subst, ◌∙◌, take, arith}
use Rattle.std.specs.List.{All}
use Rattle.std.proofs.lemmas.List.Elements.{All-contains, All-nil}
use Rattle.std.proofs.lemmas.Result.{err_from_is_err_and}
use Rattle.point_codec.specs.Points.{Item}
use Rattle.point_codec.specs.Seen.{items_of}
use Rattle.point_codec.specs.declared.entries.Entry.{Entry}
use Rattle.segment_view.specs.LiveSegments.{IsRead, live_segment, ids_of, live_in_parts, parts_among, has_live}
use Rattle.segment_view.specs.Held.{HasOwnHead, AreHeld}
use Rattle.segment_view.proofs.Holding.{held_more}
use Rattle.segment_view.proofs.Living.{part_in, all_widen}
use Rattle.segment_view.proofs.Reading.{calm_none, calm_then, calm_more, agrees_after, among_in, part_among}
use Rattle.segment_view.proofs.Stepwise.{leaves_among_more, leaves_among_upto, live_among_more}
use Rattle.segment_view.proofs.gathering.gather.Goals as goal

pub loop-i-init : goal.loop-i-init
loop-i-init g c =
    let parts = c.args.segments.now in
    let ids = c.args.ids.now in
    let none = c.in_ok-entries.ensures.items in
    record {
      calm = calm_none g.F.Pages.told (g.F.Pages.files c.args.folder.now) c.args.cache.now (ids_of (parts_among ids parts));
      faults = refl;
      live = subst (λ (es : List (Entry g.row.D)). All (λ (x : Item). has_live x.doc (parts_among ids parts) ≡ true) (items_of es)) (sym none)
          (All-nil (λ (x : Item). has_live x.doc (parts_among ids parts) ≡ true));
      numbers = subst (λ (es : List (Entry g.row.D)). All (λ (e : Entry g.row.D). e.doc < 2 ^ 24) es) (sym none)
          (All-nil (λ (e : Entry g.row.D). e.doc < 2 ^ 24));
      reads = omega arith;
      held = λ told agrees own. ap (λ (es : List (Entry g.row.D)). items_of es) none;
      entries = λ told agrees es read. ap (λ (xs : List (Entry g.row.D)). items_of xs) none;
    }

pub loop-i-preserved : goal.loop-i-preserved
loop-i-preserved g c =
    let was = c.loop-i.invariant in
    let one = c.in_ok-gather_one.ensures in
    let parts = c.args.segments.now in
    let ids = c.args.ids.now in
    let p = live_segment c.part.result.0.now c.part.result.1.now in
    let is = c.part.ensures in
    let there = part_in parts c.loop-i.i p is in
    let files = g.F.Pages.files c.args.folder.now in
    let more = one.live in
    record {
      calm = calm_then g.F.Pages.told files (g.F.Pages.files c.loop-i.folder) (g.F.Pages.files c.gather_one.new.folder) c.args.cache.now c.loop-i.cache
          c.gather_one.new.cache (ids_of (parts_among ids parts)) was.calm
          (calm_more g.F.Pages.told (g.F.Pages.files c.loop-i.folder) (g.F.Pages.files c.gather_one.new.folder) c.loop-i.cache c.gather_one.new.cache
          (ids_of (parts_among ids (p ∷ []))) (ids_of (parts_among ids parts)) (among_in ids parts p there) one.calm);
      faults = one.cause.on_ok ∙ was.faults;
      live = subst (λ (xs : List Item). All (λ (x : Item). has_live x.doc (parts_among ids parts) ≡ true) xs) (sym more.1)
          (all_widen ids parts p (items_of c.loop-i.entries.items) more.0 there was.live more.2);
      numbers = one.numbers was.numbers;
      reads =
          let step = leaves_among_more ids parts c.loop-i.i p is in
          let before = was.reads in
          let here = one.reads in
          omega (arith, step, before, here);
      held = λ told agrees own.
          let of = one.held told
          (agrees_after g.F.Pages.told files (g.F.Pages.files c.loop-i.folder) c.args.cache.now c.loop-i.cache (ids_of (parts_among ids parts)) was.calm told
          agrees)
          (subst (λ f. HasOwnHead g.row.D f p) (sym (was.calm.files told)) (All-contains (HasOwnHead g.row.D files) parts p own there)) in
          subst (λ (xs : List Item). AreHeld g.row.D files (parts_among ids (take (c.loop-i.i + 1) parts)) xs) (sym of.1)
          (held_more g.row.D files ids parts c.loop-i.i p (items_of c.loop-i.entries.items) of.0 is (was.held told agrees own)
          (subst (λ f. AreHeld g.row.D f (parts_among ids (p ∷ [])) of.0) (was.calm.files told) of.2));
      entries = λ told agrees es read.
          one.entries told
          (agrees_after g.F.Pages.told files (g.F.Pages.files c.loop-i.folder) c.args.cache.now c.loop-i.cache (ids_of (parts_among ids parts)) was.calm told
          agrees) es
          (subst (λ f. IsRead g.row.D f es p) (sym (was.calm.files told)) (All-contains (IsRead g.row.D files es) parts p read there))
          ∙ ap (λ (xs : List Item). xs ++ live_in_parts es (parts_among ids (p ∷ []))) (was.entries told agrees es read)
          ∙ sym (live_among_more es ids parts c.loop-i.i p is);
    }

pub returns-in_err-gather_one-clause-reads : goal.returns-in_err-gather_one-clause-reads
returns-in_err-gather_one-clause-reads g c =
    let most = leaves_among_upto c.args.ids.now c.args.segments.now c.loop-i.i (live_segment c.part.result.0.now c.part.result.1.now) c.part.ensures in
    let before = c.loop-i.invariant.reads in
    let here = c.in_err-gather_one.ensures.reads in
    omega (arith, most, before, here)

pub returns-in_err-gather_one-clause-calm : goal.returns-in_err-gather_one-clause-calm
returns-in_err-gather_one-clause-calm g c =
    let parts = c.args.segments.now in
    let ids = c.args.ids.now in
    let p = live_segment c.part.result.0.now c.part.result.1.now in
    calm_then g.F.Pages.told (g.F.Pages.files c.args.folder.now) (g.F.Pages.files c.loop-i.folder) (g.F.Pages.files c.gather_one.new.folder) c.args.cache.now
    c.loop-i.cache c.gather_one.new.cache (ids_of (parts_among ids parts)) c.loop-i.invariant.calm
    (calm_more g.F.Pages.told (g.F.Pages.files c.loop-i.folder) (g.F.Pages.files c.gather_one.new.folder) c.loop-i.cache c.gather_one.new.cache
    (ids_of (parts_among ids (p ∷ []))) (ids_of (parts_among ids parts)) (among_in ids parts p (part_in parts c.loop-i.i p c.part.ensures))
    c.in_err-gather_one.ensures.calm)

pub returns-in_err-gather_one-clause-shown : goal.returns-in_err-gather_one-clause-shown
returns-in_err-gather_one-clause-shown g c =
    let e = err_from_is_err_and c.from_residual-in_err-gather_one.result c.from_residual-in_err-gather_one.ensures.1 in
    let p = live_segment c.part.result.0.now c.part.result.1.now in
    rw (e.1, e.2)
    (part_among {T = Unit {0}} g.row.D c.args.ids.now c.args.segments.now p (part_in c.args.segments.now c.loop-i.i p c.part.ensures)
    (Err c.in_err-gather_one.field-0.0) c.in_err-gather_one.ensures.shown)

pub returns-in_err-gather_one-clause-whole : goal.returns-in_err-gather_one-clause-whole
returns-in_err-gather_one-clause-whole g c = λ told agrees es read.
    let parts = c.args.segments.now in
    let p = live_segment c.part.result.0.now c.part.result.1.now in
    let calm = c.loop-i.invariant.calm in
    let files = g.F.Pages.files c.args.folder.now in
    let e = err_from_is_err_and c.from_residual-in_err-gather_one.result c.from_residual-in_err-gather_one.ensures.1 in
    rw (e.1, e.2)
    (c.in_err-gather_one.ensures.whole told
    (agrees_after g.F.Pages.told files (g.F.Pages.files c.loop-i.folder) c.args.cache.now c.loop-i.cache (ids_of (parts_among c.args.ids.now parts)) calm told
    agrees) es
    (subst (λ f. IsRead g.row.D f es p) (sym (calm.files told))
    (All-contains (IsRead g.row.D files es) parts p read (part_in parts c.loop-i.i p c.part.ensures))))
