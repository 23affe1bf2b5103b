use Rattle.std.proofs.Common.{◌≡◌, All, IsTrue, None, Option, subst, ap, ◌∙◌}
use Rattle.std.specs.Option.{option_copied}
use Rattle.segment_set.proofs.Rearranged.{both_ok}
use Rattle.std.proofs.lemmas.Result.{err_from_is_err_and, on_ok_weaker}
use Rattle.segment_build.specs.NewSegments.{NewSegmentData}
use Rattle.segment_set.specs.Merges.{Replaces, living}
use Rattle.segment_set.specs.Damages.{IsDoubt, IsMergeDamage, IsMergeDamageOf, IsOfParts}
use Rattle.segment_view.specs.LiveSegments.{live_in_parts}
use Rattle.index_opening.specs.Evidence.{IsOfPart}
use Rattle.segment_set.specs.Faithful.{HasFileHead}
use Rattle.segment_set.specs.Sets.{AreAlone}
use Rattle.segment_set.proofs.Doubted.{whole_shows}
use Rattle.segment_set.proofs.Ended.{living_whole}
use Rattle.index_opening.proofs.Evident.{none_with}
use Rattle.segment_set.proofs.rewriting.merge.Goals as goal

pub returns-in_err-built-clause-whole : goal.returns-in_err-built-clause-whole
returns-in_err-built-clause-whole g c =
    let p = err_from_is_err_and c.from_residual.result c.from_residual.ensures.1 in
    λ told contents reads next make few. rw (p.1, p.2) (c.in_err-built.ensures.whole told contents reads next make few)

pub returns-clause-merged : goal.returns-clause-merged
returns-clause-merged g c =
    let same = ap living c.as_ref.ensures.value ∙ living_whole c.in_ok-built.built (λ n is. (c.in_ok-built.ensures.gathered n is).made.some) in
    let built = living (option_copied c.as_ref.result) in
    on_ok_weaker c.replace.result
    (λ r. record {
      built = c.in_ok-built.built;
      replaces = subst
          (λ (o : Option NewSegmentData).
          Replaces g.row.D (IsTrue g.F.Pages.told) c.args.names.now c.replace.new.names (g.F.Pages.files c.replace.new.folder) c.args.ids.now o
          c.args.segments.now c.replace.new.segments) same r.0;
      unnamed = λ none. r.1 (same ∙ none);
      gathered = c.in_ok-built.ensures.gathered;
      makes = c.in_ok-built.ensures.makes;
      loses = c.in_ok-built.ensures.loses;
    })
    (both_ok (Replaces g.row.D (IsTrue g.F.Pages.told) c.args.names.now c.replace.new.names (g.F.Pages.files c.replace.new.folder) c.args.ids.now built
    c.args.segments.now c.replace.new.segments)
    (built ≡ None → c.replace.new.names ≡ c.args.names.now) c.replace.result c.replace.ensures.replaced c.replace.ensures.unnamed)

pub returns-in_err-built-clause-shown : goal.returns-in_err-built-clause-shown
returns-in_err-built-clause-shown g c =
    let p = err_from_is_err_and c.from_residual.result c.from_residual.ensures.1 in
    rw (p.1, p.2) (c.in_err-built.ensures.shown c.args.names.now c.args.names.now)

pub returns-in_err-built-clause-damage : goal.returns-in_err-built-clause-damage
returns-in_err-built-clause-damage g c =
    let p = err_from_is_err_and c.from_residual.result c.from_residual.ensures.1 in
    λ told. rw (p.1, p.2) (c.in_err-built.ensures.damage told)

pub returns-in_err-built-clause-doubled : goal.returns-in_err-built-clause-doubled
returns-in_err-built-clause-doubled g c =
    let p = err_from_is_err_and c.from_residual.result c.from_residual.ensures.1 in
    λ told contents reads. rw (p.1, p.2) (c.in_err-built.ensures.doubled told contents reads)

pub returns-clause-shown : goal.returns-clause-shown
returns-clause-shown g c =
    whole_shows (IsMergeDamage g.row.D c.args.plan.now.points_given c.args.names.now c.replace.new.names c.args.segments.now)
    c.replace.result c.replace.ensures.whole

pub returns-clause-damage : goal.returns-clause-damage
returns-clause-damage g c = λ told.
    whole_shows (IsMergeDamageOf (g.F.Pages.files c.replace.new.folder) c.args.plan.now.points_given) c.replace.result c.replace.ensures.whole

pub returns-clause-doubled : goal.returns-clause-doubled
returns-clause-doubled g c = λ told contents reads.
    whole_shows (IsDoubt c.args.plan.now.points_given (live_in_parts contents c.args.segments.now)) c.replace.result c.replace.ensures.whole

pub returns-in_err-built-clause-evident : goal.returns-in_err-built-clause-evident
returns-in_err-built-clause-evident g c =
    let p = err_from_is_err_and c.from_residual.result c.from_residual.ensures.1 in
    rw (p.1, p.2) c.in_err-built.ensures.evident

pub returns-clause-evident : goal.returns-clause-evident
returns-clause-evident g c =
    let files = g.F.Pages.files c.args.folder.now in
    none_with (IsOfPart c.args.segments.now) (IsOfParts g.row.D files (g.F.Pages.files c.replace.new.folder) c.args.segments.now 0 c.args.plan.now.points_given)
    (IsTrue g.F.Pages.told × All (HasFileHead g.row.D files) c.args.segments.now × AreAlone c.args.segments.now)
    (g.F.Pages.files c.replace.new.folder) c.replace.result c.replace.ensures.whole
