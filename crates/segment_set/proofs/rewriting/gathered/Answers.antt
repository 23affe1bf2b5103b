use Rattle.std.proofs.Common.{◌≡◌, ◌≤◌, ◌<◌, ◌^◌, ℕ, Bool, List, length, All, true, None, Some, Err, IsTrue, refl, ap, sym, subst, ◌∙◌, inl, inr, lit<, arith}
use Rattle.std.proofs.lemmas.List.{nil_from_length}
use Rattle.std.proofs.lemmas.Bool.Decides.{nat_tests}
use Rattle.std.proofs.lemmas.List.Elements.{All-filter}
use Rattle.std.proofs.lemmas.Result.{err_from_is_err_and}
use Rattle.point_codec.specs.Points.{Item}
use Rattle.point_codec.specs.Seen.{items_of}
use Rattle.point_codec.specs.declared.entries.Entry.{Entry}
use Rattle.documents.specs.Entries.{MakeDocs, has_entry, is_among}
use Rattle.documents.proofs.Lists.{of_filter}
use Rattle.page_cache.specs.declared.faults.PageFault.{PageFault}
use Rattle.page_cache.specs.declared.faults.PageFault.TheVariants as page
use Rattle.segment_file.specs.Damages.{IsLeafDamageOf}
use Rattle.nearest_query.proofs.Parts.{on_damage}
use Rattle.segment_view.specs.LiveSegments.{LiveSegment, live_in_parts, parts_among, has_live}
use Rattle.segment_view.specs.Damages.{IsPartDamage}
use Rattle.segment_view.specs.Held.{AreHeld}
use Rattle.segment_set.specs.Merges.{HoldsLive, IsGathered}
use Rattle.segment_set.specs.Damages.{IsDoubt, IsEvidentIn, IsMergeDamage, IsMergeDamageOf, IsOfParts, Doubt}
use Rattle.index_opening.specs.Evidence.{IsOfPart}
use Rattle.segment_set.specs.Faithful.{HasFileHead}
use Rattle.segment_set.specs.Sets.{AreAlone}
use Rattle.segment_set.proofs.Doubted.{doubt_among, part_shown, whole_shows}
use Rattle.index_opening.proofs.Evident.{on_evident_at}
use Rattle.index_opening.proofs.LeafEvident.{on_part_evident}
use Rattle.segment_set.proofs.Evident.{doubt_evident, gathered_of_files}
use Rattle.segment_set.proofs.Fresh.{gathered_of, holds_live, items_length}
use Rattle.segment_set.proofs.Losing.{loses_none}
use Rattle.segment_set.proofs.Refused.{memory_caused, memory_damage, never_value, same_cause}
use Rattle.segment_set.proofs.Saving.{done_cause}
use Rattle.segment_set.proofs.Sizes.{built_fits}
use Rattle.segment_set.proofs.WrittenBuffer.{some_is}
use Rattle.segment_set.proofs.rewriting.gathered.Goals as goal
use Rattle.point_codec.proofs.Sizes.{entry_fits}

-- want of memory for the one page

pub returns-in_err-once-clause-gathered : goal.returns-in_err-once-clause-gathered
returns-in_err-once-clause-gathered g c = never_value _ c.from_residual.result c.from_residual.ensures.1 _

pub returns-in_err-once-clause-makes : goal.returns-in_err-once-clause-makes
returns-in_err-once-clause-makes g c = λ told contents reads. never_value _ c.from_residual.result c.from_residual.ensures.1 _

pub returns-in_err-once-clause-loses : goal.returns-in_err-once-clause-loses
returns-in_err-once-clause-loses g c = never_value _ c.from_residual.result c.from_residual.ensures.1 _

pub returns-in_err-once-clause-files : goal.returns-in_err-once-clause-files
returns-in_err-once-clause-files g c = λ told. refl

pub returns-in_err-once-clause-cause : goal.returns-in_err-once-clause-cause
returns-in_err-once-clause-cause g c =
    memory_caused (g.F.Pages.faults c.args.folder.now) (g.F.Pages.faults c.args.folder.now) c.from_residual.result c.from_residual.ensures.1 refl

pub returns-in_err-once-clause-whole : goal.returns-in_err-once-clause-whole
returns-in_err-once-clause-whole g c = λ told contents reads next make few. memory_damage _ c.from_residual.result c.from_residual.ensures.1

pub returns-in_err-once-clause-shown : goal.returns-in_err-once-clause-shown
returns-in_err-once-clause-shown g c = λ names now. memory_damage _ c.from_residual.result c.from_residual.ensures.1

pub returns-in_err-once-clause-damage : goal.returns-in_err-once-clause-damage
returns-in_err-once-clause-damage g c = λ told. memory_damage _ c.from_residual.result c.from_residual.ensures.1

pub returns-in_err-once-clause-doubled : goal.returns-in_err-once-clause-doubled
returns-in_err-once-clause-doubled g c = λ told contents reads. memory_damage _ c.from_residual.result c.from_residual.ensures.1

pub returns-in_err-once-clause-evident : goal.returns-in_err-once-clause-evident
returns-in_err-once-clause-evident g c = memory_damage _ c.from_residual.result c.from_residual.ensures.1

-- what the call below answers

pub returns-in_err-entries-clause-whole : goal.returns-in_err-entries-clause-whole
returns-in_err-entries-clause-whole g c =
    let p = err_from_is_err_and c.from_residual-in_err-entries.result c.from_residual-in_err-entries.ensures.1 in
    λ told contents reads next make few.
    rw (p.1, p.2) (c.in_err-entries.ensures.whole told (c.in_ok-once.ensures.agrees (g.F.Pages.files c.args.folder.now)) contents reads)

pub returns-in_err-build_of-clause-whole : goal.returns-in_err-build_of-clause-whole
returns-in_err-build_of-clause-whole g c =
    let p = err_from_is_err_and c.from_residual-in_err-build_of.result c.from_residual-in_err-build_of.ensures.1 in
    λ told contents reads next make few.
    let same : items_of c.as_mut_slice.result.now ≡ live_in_parts contents (parts_among c.args.ids.now c.args.segments.now) =
    ap items_of c.as_mut_slice.ensures.value
    ∙ c.in_ok-entries.ensures.entries told (c.in_ok-once.ensures.agrees (g.F.Pages.files c.args.folder.now)) contents reads in
    rw (p.1, p.2)
    (c.in_err-build_of.ensures.whole next (subst (MakeDocs next) (sym same) make) (omega (arith, few, ap length same, items_length c.as_mut_slice.result.now)))

pub returns-then-is_empty-clause-makes : goal.returns-then-is_empty-clause-makes
returns-then-is_empty-clause-makes g c = λ told contents reads.
    let none : length c.in_ok-entries.entries.items ≡ 0 = grind (arith, nat_tests, c.in_ok-entries.entries.ok.0, c.is_empty.ensures, c.if-is_empty.true) in
    sym (c.in_ok-entries.ensures.entries told (c.in_ok-once.ensures.agrees (g.F.Pages.files c.args.folder.now)) contents reads)
    ∙ ap items_of (nil_from_length c.in_ok-entries.entries.items none)

pub build_of-requires-after_bounds : goal.build_of-requires-after_bounds
build_of-requires-after_bounds g c = λ lifetimes outlive.
    let same = c.as_mut_slice.ensures.value in
    let long : 1 ≤ length c.in_ok-entries.entries.items = grind (arith, nat_tests, c.in_ok-entries.entries.ok.0, c.is_empty.ensures, c.if-is_empty.false) in (
      entry_fits g.row.D c.requires,
      (
        lit< tt,
        (
          built_fits g.row.D c.requires,
          (
            c.requires,
            (
              omega (arith, long, ap length same),
              subst (λ (es : List (Entry g.row.D)). All (λ e. e.doc < 2 ^ 24) es) (sym same) c.in_ok-entries.ensures.numbers,
            ),
          ),
        ),
      ),
    )

pub returns-clause-gathered : goal.returns-clause-gathered
returns-clause-gathered g c = λ n is.
    let has = c.in_ok-build_of.ensures.has in
    let live = c.in_ok-build_of.ensures.live in
    let long : 1 ≤ length c.in_ok-entries.entries.items = grind (arith, nat_tests, c.in_ok-entries.entries.ok.0, c.is_empty.ensures, c.if-is_empty.false) in
    subst (IsGathered g.row.D c.args.plan.now.leaf_size (parts_among c.args.ids.now c.args.segments.now)) (some_is c.in_ok-build_of.field-0 n is)
    (gathered_of g.row.D c.args.plan.now.leaf_size (items_of c.as_mut_slice.result.now) has.0 c.in_ok-build_of.field-0
    (parts_among c.args.ids.now c.args.segments.now) has.1 has.2 live.1
    c.in_ok-build_of.ensures.leaf_size live.0 (omega (arith, long, items_length c.as_mut_slice.result.now, ap length c.as_mut_slice.ensures.value))
    (subst (λ (es : List (Entry g.row.D)). All (λ (x : Item). has_live x.doc (parts_among c.args.ids.now c.args.segments.now) ≡ true) (items_of es))
    (sym c.as_mut_slice.ensures.value) c.in_ok-entries.ensures.live)
    c.in_ok-build_of.ensures.uncrowded)

pub returns-clause-makes : goal.returns-clause-makes
returns-clause-makes g c = λ told contents reads.
    let has = c.in_ok-build_of.ensures.has in
    subst (λ (es : List Item). HoldsLive g.row.D es c.in_ok-build_of.field-0)
    (ap items_of c.as_mut_slice.ensures.value
    ∙ c.in_ok-entries.ensures.entries told (c.in_ok-once.ensures.agrees (g.F.Pages.files c.args.folder.now)) contents reads)
    (holds_live g.row.D (items_of c.as_mut_slice.result.now) has.0 c.in_ok-build_of.field-0 has.1 has.2 c.in_ok-build_of.ensures.live.1)

-- no document is lost

pub returns-in_err-entries-clause-loses : goal.returns-in_err-entries-clause-loses
returns-in_err-entries-clause-loses g c = never_value _ c.from_residual-in_err-entries.result c.from_residual-in_err-entries.ensures.1 _

pub returns-in_err-build_of-clause-loses : goal.returns-in_err-build_of-clause-loses
returns-in_err-build_of-clause-loses g c = never_value _ c.from_residual-in_err-build_of.result c.from_residual-in_err-build_of.ensures.1 _

pub returns-then-is_empty-clause-loses : goal.returns-then-is_empty-clause-loses
returns-then-is_empty-clause-loses g c =
    let files = g.F.Pages.files c.args.folder.now in
    let none : length c.in_ok-entries.entries.items ≡ 0 = grind (arith, nat_tests, c.in_ok-entries.entries.ok.0, c.is_empty.ensures, c.if-is_empty.true) in
    loses_none g.row.D (IsTrue g.F.Pages.told) files c.args.ids.now c.args.segments.now (items_of c.in_ok-entries.entries.items) None
    (λ told. c.in_ok-entries.ensures.held told (c.in_ok-once.ensures.agrees files))
    (λ number. sym (ap (λ (es : List (Entry g.row.D)). has_entry number (items_of es)) (nil_from_length c.in_ok-entries.entries.items none)))
    (λ n is. absurd cc)

pub returns-clause-loses : goal.returns-clause-loses
returns-clause-loses g c =
    let files = g.F.Pages.files c.args.folder.now in
    loses_none g.row.D (IsTrue g.F.Pages.told) files c.args.ids.now c.args.segments.now (items_of c.in_ok-entries.entries.items)
    (Some c.in_ok-build_of.field-0)
    (λ told. c.in_ok-entries.ensures.held told (c.in_ok-once.ensures.agrees files))
    (λ number. ap (λ (f : ℕ → Bool). f number) c.in_ok-build_of.ensures.live.1
    ∙ ap (λ (es : List (Entry g.row.D)). has_entry number (items_of es)) c.as_mut_slice.ensures.value)
    (λ n is. let has = c.in_ok-build_of.ensures.has in
    subst (HoldsLive g.row.D (items_of c.in_ok-entries.entries.items)) (some_is c.in_ok-build_of.field-0 n is)
    (subst (λ (es : List (Entry g.row.D)). HoldsLive g.row.D (items_of es) c.in_ok-build_of.field-0) c.as_mut_slice.ensures.value
    (holds_live g.row.D (items_of c.as_mut_slice.result.now) has.0 c.in_ok-build_of.field-0 has.1 has.2 c.in_ok-build_of.ensures.live.1)))

pub returns-in_err-entries-clause-cause : goal.returns-in_err-entries-clause-cause
returns-in_err-entries-clause-cause g c =
    same_cause (g.F.Pages.faults c.args.folder.now) (g.F.Pages.faults c.gather.new.folder) c.in_err-entries.field-0.0 c.from_residual-in_err-entries.result
    c.from_residual-in_err-entries.ensures.1 c.in_err-entries.ensures.cause

pub returns-then-is_empty-clause-cause : goal.returns-then-is_empty-clause-cause
returns-then-is_empty-clause-cause g c =
    done_cause (g.F.Pages.faults c.args.folder.now) (g.F.Pages.faults c.gather.new.folder) _ c.in_ok-entries.ensures.cause.on_ok

pub returns-in_err-build_of-clause-cause : goal.returns-in_err-build_of-clause-cause
returns-in_err-build_of-clause-cause g c =
    let p = err_from_is_err_and c.from_residual-in_err-build_of.result c.from_residual-in_err-build_of.ensures.1 in
    rw (p.1, p.2)
    (record {
      later = c.in_ok-entries.ensures.cause.later;
      on_ok = tt;
      failed = λ is.
          let same : c.in_err-build_of.field-0.0 ≡ page.Failed = cc in
          absurd (c.in_err-build_of.ensures.unfailed (ap (λ (f : PageFault). Err f) same));
    })

pub returns-clause-cause : goal.returns-clause-cause
returns-clause-cause g c = record { later = c.in_ok-entries.ensures.cause.later; on_ok = c.in_ok-entries.ensures.cause.on_ok; failed = λ h. cc }

pub returns-in_err-entries-clause-files : goal.returns-in_err-entries-clause-files
returns-in_err-entries-clause-files g c = c.gather.ensures.calm.files

pub returns-then-is_empty-clause-files : goal.returns-then-is_empty-clause-files
returns-then-is_empty-clause-files g c = c.gather.ensures.calm.files

pub returns-in_err-build_of-clause-files : goal.returns-in_err-build_of-clause-files
returns-in_err-build_of-clause-files g c = c.gather.ensures.calm.files

pub returns-clause-files : goal.returns-clause-files
returns-clause-files g c = c.gather.ensures.calm.files

pub returns-in_err-entries-clause-shown : goal.returns-in_err-entries-clause-shown
returns-in_err-entries-clause-shown g c =
    let p = err_from_is_err_and c.from_residual-in_err-entries.result c.from_residual-in_err-entries.ensures.1 in
    λ names now. rw (p.1, p.2)
    (on_damage {T = Unit {0}} (IsPartDamage g.row.D (parts_among c.args.ids.now c.args.segments.now))
    (IsMergeDamage g.row.D c.args.plan.now.points_given names now c.args.segments.now) (Err c.in_err-entries.field-0.0)
    (part_shown g.row.D c.args.plan.now.points_given names now c.args.ids.now c.args.segments.now) c.in_err-entries.ensures.shown)

pub returns-in_err-entries-clause-damage : goal.returns-in_err-entries-clause-damage
returns-in_err-entries-clause-damage g c =
    let p = err_from_is_err_and c.from_residual-in_err-entries.result c.from_residual-in_err-entries.ensures.1 in
    λ told. rw (p.1, p.2)
    (on_damage {T = Unit {0}} (IsLeafDamageOf (g.F.Pages.files c.args.folder.now))
    (IsMergeDamageOf (g.F.Pages.files c.gather.new.folder) c.args.plan.now.points_given)
    (Err c.in_err-entries.field-0.0)
    (λ d h. inl (subst (λ f. IsLeafDamageOf f d) (sym (c.in_err-entries.ensures.calm.files told)) h))
    (c.in_err-entries.ensures.damage told (c.in_ok-once.ensures.agrees (g.F.Pages.files c.args.folder.now))))

pub returns-in_err-entries-clause-doubled : goal.returns-in_err-entries-clause-doubled
returns-in_err-entries-clause-doubled g c =
    let p = err_from_is_err_and c.from_residual-in_err-entries.result c.from_residual-in_err-entries.ensures.1 in
    λ told contents reads. rw (p.1, p.2)
    (whole_shows {T = Unit {0}} (IsDoubt c.args.plan.now.points_given (live_in_parts contents c.args.segments.now)) (Err c.in_err-entries.field-0.0)
    (c.in_err-entries.ensures.whole told (c.in_ok-once.ensures.agrees (g.F.Pages.files c.args.folder.now)) contents reads))

pub returns-in_err-build_of-clause-shown : goal.returns-in_err-build_of-clause-shown
returns-in_err-build_of-clause-shown g c =
    let p = err_from_is_err_and c.from_residual-in_err-build_of.result c.from_residual-in_err-build_of.ensures.1 in
    λ names now. rw (p.1, p.2)
    (on_damage {T = Unit {0}} (IsDoubt c.args.plan.now.points_given (items_of c.as_mut_slice.result.now))
    (IsMergeDamage g.row.D c.args.plan.now.points_given names now c.args.segments.now) (Err c.in_err-build_of.field-0.0)
    (λ d h. Doubt (items_of c.as_mut_slice.result.now) h) c.in_err-build_of.ensures.shown)

pub returns-in_err-build_of-clause-damage : goal.returns-in_err-build_of-clause-damage
returns-in_err-build_of-clause-damage g c =
    let p = err_from_is_err_and c.from_residual-in_err-build_of.result c.from_residual-in_err-build_of.ensures.1 in
    λ told. rw (p.1, p.2)
    (on_damage {T = Unit {0}} (IsDoubt c.args.plan.now.points_given (items_of c.as_mut_slice.result.now))
    (IsMergeDamageOf (g.F.Pages.files c.gather.new.folder) c.args.plan.now.points_given) (Err c.in_err-build_of.field-0.0)
    (λ d h. inr (items_of c.as_mut_slice.result.now, h)) c.in_err-build_of.ensures.shown)

pub returns-in_err-build_of-clause-doubled : goal.returns-in_err-build_of-clause-doubled
returns-in_err-build_of-clause-doubled g c =
    let p = err_from_is_err_and c.from_residual-in_err-build_of.result c.from_residual-in_err-build_of.ensures.1 in
    λ told contents reads.
    let same : items_of c.as_mut_slice.result.now ≡ live_in_parts contents (parts_among c.args.ids.now c.args.segments.now) =
    ap items_of c.as_mut_slice.ensures.value
    ∙ c.in_ok-entries.ensures.entries told (c.in_ok-once.ensures.agrees (g.F.Pages.files c.args.folder.now)) contents reads in
    rw (p.1, p.2)
    (on_damage {T = Unit {0}} (IsDoubt c.args.plan.now.points_given (items_of c.as_mut_slice.result.now))
    (IsDoubt c.args.plan.now.points_given (live_in_parts contents c.args.segments.now)) (Err c.in_err-build_of.field-0.0)
    (λ d h. doubt_among c.args.plan.now.points_given contents c.args.ids.now c.args.segments.now d
    (subst (λ (xs : List Item). IsDoubt c.args.plan.now.points_given xs d) same h)) c.in_err-build_of.ensures.shown)

pub returns-in_err-entries-clause-evident : goal.returns-in_err-entries-clause-evident
returns-in_err-entries-clause-evident g c =
    let p = err_from_is_err_and c.from_residual-in_err-entries.result c.from_residual-in_err-entries.ensures.1 in
    let files = g.F.Pages.files c.args.folder.now in
    let parts = c.args.segments.now in
    let told = IsTrue g.F.Pages.told × All (HasFileHead g.row.D files) parts × AreAlone parts in
    rw (p.1, p.2)
    (on_evident_at {X = Unit {0}} (λ f. IsOfPart parts) (λ f. IsOfParts g.row.D files f parts 0 c.args.plan.now.points_given) told told files
    (g.F.Pages.files c.gather.new.folder)
    (Err c.in_err-entries.field-0.0) (λ t. t) (λ t. c.in_err-entries.ensures.calm.files t.0)
    (on_part_evident {X = Unit {0}} (IsOfPart parts) (IsOfParts g.row.D files files parts 0 c.args.plan.now.points_given) told g.row.D files
    (parts_among c.args.ids.now parts)
    (Err c.in_err-entries.field-0.0)
    (λ t. All-filter (λ (q : LiveSegment). is_among c.args.ids.now q.head.id) (HasFileHead g.row.D files) parts t.1)
    (λ t p there. inr (inr (p, (of_filter (λ (q : LiveSegment). is_among c.args.ids.now q.head.id) parts p there).0, refl)))
    (λ t. c.in_err-entries.ensures.damage t.0 (c.in_ok-once.ensures.agrees files))
    c.in_err-entries.ensures.shown))

pub returns-in_err-build_of-clause-evident : goal.returns-in_err-build_of-clause-evident
returns-in_err-build_of-clause-evident g c =
    let p = err_from_is_err_and c.from_residual-in_err-build_of.result c.from_residual-in_err-build_of.ensures.1 in
    let files = g.F.Pages.files c.args.folder.now in
    let after = g.F.Pages.files c.gather.new.folder in
    let parts = c.args.segments.now in
    let some = parts_among c.args.ids.now parts in
    let told = IsTrue g.F.Pages.told × All (HasFileHead g.row.D files) parts × AreAlone parts in
    rw (p.1, p.2)
    (on_damage {T = Unit {0}} (IsDoubt c.args.plan.now.points_given (items_of c.as_mut_slice.result.now))
    (IsEvidentIn g.row.D files parts 0 c.args.plan.now.points_given told after) (Err c.in_err-build_of.field-0.0)
    (λ d h. doubt_evident told g.row.D files after c.args.plan.now.points_given c.args.ids.now parts (items_of c.as_mut_slice.result.now) d (λ t. t.2)
    (λ t. c.gather.ensures.calm.files t.0)
    (λ t. subst (λ (es : List (Entry g.row.D)). ∥ AreHeld g.row.D files some (items_of es) ∥₁) (sym c.as_mut_slice.ensures.value)
    (gathered_of_files g.row.D files c.args.ids.now parts (items_of c.in_ok-entries.entries.items) t.1
    (c.in_ok-entries.ensures.held t.0 (c.in_ok-once.ensures.agrees files))))
    h) c.in_err-build_of.ensures.shown)
