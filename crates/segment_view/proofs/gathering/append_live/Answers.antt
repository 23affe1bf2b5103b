use Rattle.std.proofs.Common.{◌++◌, List, [], refl, ap, sym, ◌∙◌, inl, inr}
use Rattle.std.specs.List.{filter}
use Rattle.std.proofs.lemmas.List.{append-nil, nil_from_length}
use Rattle.std.proofs.lemmas.Result.{on_ok_weaker}
use Rattle.point_codec.specs.Points.{Item}
use Rattle.point_codec.specs.Seen.{items_of}
use Rattle.live_bits.specs.LiveSet.{is_live}
use Rattle.segment_view.specs.LiveSegments.{live_segment}
use Rattle.segment_view.proofs.Living.{live_one, nothing_live}
use Rattle.segment_view.proofs.Numbered.{numbers_more}
use Rattle.segment_view.proofs.Reading.{calm_alone}
use Rattle.segment_view.proofs.Counting.{le_by_tree}
use Rattle.segment_view.proofs.Shown.{read_shown}
use Rattle.segment_view.proofs.gathering.append_live.Goals as goal

pub returns-then-live_count-eq0-clause-entries : goal.returns-then-live_count-eq0-clause-entries
returns-then-live_count-eq0-clause-entries g c = λ told agrees es r.
    let old = items_of c.args.entries.now.items in
    sym (ap (λ (xs : List Item). old ++ xs)
    (nothing_live es (live_segment c.args.head.now c.args.live.now) (sym c.live_count.ensures.value ∙ c.if-live_count-eq0.true)) ∙ append-nil old)

pub returns-then-live_count-eq0-clause-held : goal.returns-then-live_count-eq0-clause-held
returns-then-live_count-eq0-clause-held g c = λ told agrees own. (
  [],
  sym (append-nil (items_of c.args.entries.now.items)),
  inl (nil_from_length c.args.live.now.live (sym c.live_count.ensures.value ∙ c.if-live_count-eq0.true), refl),
)

pub returns-clause-reads : goal.returns-clause-reads
returns-clause-reads g c =
    le_by_tree g.row.D c.args.head.now.index c.index.result.now c.index.ensures.value c.is_spelled.ensures _ _ c.append_entries.ensures.reads

pub returns-clause-calm : goal.returns-clause-calm
returns-clause-calm g c =
    let read = c.append_entries.ensures.reading in
    calm_alone g.F.Pages.told (g.F.Pages.files c.args.folder.now) (g.F.Pages.files c.append_entries.new.folder) c.args.cache.now
    c.append_entries.new.cache c.args.head.now.id read.files read.agrees read.others

pub returns-clause-shown : goal.returns-clause-shown
returns-clause-shown g c =
    read_shown g.row.D c.args.head.now c.index.result.now c.append_entries.result c.index.ensures.ranges c.index.ensures.value c.is_spelled.ensures
    c.append_entries.ensures.shown

pub returns-clause-entries : goal.returns-clause-entries
returns-clause-entries g c = λ told agrees es r.
    let p = live_segment c.args.head.now c.args.live.now in
    on_ok_weaker c.append_entries.result
    (λ is. is ∙ ap (λ (xs : List Item). items_of c.args.entries.now.items ++ xs) (sym (live_one es p)))
    (c.append_entries.ensures.entries told agrees (es p.head.id) r.held)

pub returns-clause-held : goal.returns-clause-held
returns-clause-held g c = λ told agrees own.
    on_ok_weaker c.append_entries.result
    (λ m. (filter (λ (x : Item). is_live c.args.live.now x.doc) m.0, m.2, inr (m.0, m.1, refl)))
    (c.append_entries.ensures.spelled told agrees own)

pub returns-clause-live : goal.returns-clause-live
returns-clause-live g c = c.append_entries.ensures.live

pub returns-clause-numbers : goal.returns-clause-numbers
returns-clause-numbers g c = λ below.
    on_ok_weaker c.append_entries.result
    (λ m. numbers_more c.args.live.now c.args.entries.now.items c.append_entries.new.entries.items m.0 c.live_count.ensures.set m.1 m.2 below)
    c.append_entries.ensures.live

pub returns-clause-cause : goal.returns-clause-cause
returns-clause-cause g c = c.append_entries.ensures.reading.cause

pub returns-clause-damage : goal.returns-clause-damage
returns-clause-damage g c = c.append_entries.ensures.damage

pub returns-clause-whole : goal.returns-clause-whole
returns-clause-whole g c = λ told agrees es r. c.append_entries.ensures.whole told agrees (es c.args.head.now.id) r.held
