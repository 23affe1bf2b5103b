use Rattle.std.proofs.Common.{arith, sym, ap, refl, inl, ◌≡◌, ◌∙◌, ◌+◌, ◌*◌, ◌++◌, List, ℕ}
use Rattle.std.specs.Prelude.{slice_index}
use Rattle.std.proofs.lemmas.Result.{err_from_is_err_and}
use Rattle.outer_io.specs.Files.{bytes_of}
use Rattle.outer_io.specs.declared.file_name.FileName.TheVariants.{Segment}
use Rattle.inner_pack.specs.Bodies.{pages_of}
use Rattle.page_file.specs.Page.{payload_of}
use Rattle.page_cache.specs.FilePages.{page_at}
use Rattle.page_cache.specs.Bodies.{pages_for, padded_body}
use Rattle.page_cache.specs.FirstPages.{first_payload, first_size}
use Rattle.page_cache.specs.Evidence.{SizeNeeds}
use Rattle.page_cache.proofs.Damages.{fault_weaker, fault_both}
use Rattle.segment_file.specs.Heads.{Fields}
use Rattle.segment_file.specs.FieldsSeen.{fields_said}
use Rattle.segment_file.specs.Damages.{IsBodyDamage, IsPairDamage, IsHeadDamage, IsHeadDamageOf}
use Rattle.segment_file.proofs.FirstPayloads.{first_payload_is, first_size_is, first_payloads, short_first}
use Rattle.segment_file.proofs.HeadReads.{dims_at, head_fault_of, head_body_of, head_pair_of, no_head_damage, head_parts, head_said}
use Rattle.segment_file.proofs.open.read_head.Goals as goal

pub returns-in_err-first-clause-damage : goal.returns-in_err-first-clause-damage
returns-in_err-first-clause-damage g c = λ told.
    let name = Segment c.args.id in
    let files = g.F.Pages.files c.args.folder.now in
    let e = err_from_is_err_and c.from_residual.result c.from_residual.ensures.1 in
    rw (e.1, e.2)
    (head_fault_of g.row.D files name (SizeNeeds 4096) c.in_err-first.field-0.0 (short_first files name) c.in_err-first.ensures.shown
    c.in_err-first.ensures.needed (c.in_err-first.ensures.damage told))

pub returns-in_err-first-clause-whole : goal.returns-in_err-first-clause-whole
returns-in_err-first-clause-whole g c = λ told h ids file.
    let p = head_parts g.row.D (bytes_of (g.F.Pages.files c.args.folder.now (Segment c.args.id))) c.args.id h ids file in
    let e = err_from_is_err_and c.from_residual.result c.from_residual.ensures.1 in
    rw (e.1, e.2) (c.in_err-first.ensures.whole told (p.pages 0 (omega arith) (omega arith)))

pub returns-in_err-fields-clause-damage : goal.returns-in_err-fields-clause-damage
returns-in_err-fields-clause-damage g c = λ told.
    let name = Segment c.args.id in
    let files = g.F.Pages.files c.args.folder.now in
    let e = err_from_is_err_and c.from_residual-in_err-fields.result c.from_residual-in_err-fields.ensures.1 in
    rw (e.1, e.2)
    (fault_weaker c.in_err-fields.field-0.0 (IsBodyDamage name c.payload.result.now) (IsHeadDamageOf g.row.D files)
    (λ d carried. head_body_of g.row.D files name (first_payload c.in_ok-first.first) d
    (first_payloads files c.in_ok-first.first name c.in_ok-first.ensures.name (c.in_ok-first.ensures.first told)) (rw (← c.payload.ensures.bytes) carried))
    c.in_err-fields.ensures.carried)

pub returns-in_err-fields-clause-whole : goal.returns-in_err-fields-clause-whole
returns-in_err-fields-clause-whole g c = λ told h ids file.
    let name = Segment c.args.id in
    let files = g.F.Pages.files c.args.folder.now in
    let p = head_parts g.row.D (bytes_of (files name)) c.args.id h ids file in
    let payload : c.payload.result.now ≡ payload_of (page_at (bytes_of (files name)) 0) =
    c.payload.ensures.bytes ∙ first_payload_is files c.in_ok-first.first name c.in_ok-first.ensures.name (c.in_ok-first.ensures.first told) in
    let e = err_from_is_err_and c.from_residual-in_err-fields.result c.from_residual-in_err-fields.ensures.1 in
    rw (e.1, e.2)
    (fault_both c.in_err-fields.field-0.0 (IsHeadDamage c.args.id) (IsBodyDamage name c.payload.result.now) (λ _. ⊥)
    (λ d shown carried. no_head_damage c.args.id g.row.D (pages_of p.tree) h c.payload.result.now (padded_body h.index.bytes) d p.fits p.head
    (ap (λ (l : List ℕ). l ++ padded_body h.index.bytes) (payload ∙ p.payload)) shown carried)
    c.in_err-fields.ensures.shown c.in_err-fields.ensures.carried)

pub returns-in_err-agree-clause-damage : goal.returns-in_err-agree-clause-damage
returns-in_err-agree-clause-damage g c = λ told.
    let name = Segment c.args.id in
    let files = g.F.Pages.files c.args.folder.now in
    let payload : c.payload.result.now ≡ payload_of (page_at (bytes_of (files name)) 0) =
    c.payload.ensures.bytes ∙ first_payload_is files c.in_ok-first.first name c.in_ok-first.ensures.name (c.in_ok-first.ensures.first told) in
    let dims : c.in_ok-fields.fields.dims ≡ slice_index (payload_of (page_at (bytes_of (files name)) 0)) 8 =
    sym (dims_at (fields_said c.in_ok-fields.fields)) ∙ ap (λ (l : List ℕ). slice_index l 8) (sym c.in_ok-fields.ensures.fields.is ∙ payload) in
    let e = err_from_is_err_and c.from_residual-in_err-agree.result c.from_residual-in_err-agree.ensures.1 in
    let pair = rw c.from.ensures at c.in_err-agree.ensures.pair in
    rw (e.1, e.2)
    (fault_weaker c.in_err-agree.field-0.0 (IsPairDamage name g.row.D c.in_ok-fields.fields.dims) (IsHeadDamageOf g.row.D files)
    (λ d found. head_pair_of g.row.D files name g.row.D c.in_ok-fields.fields.dims d (inl (refl, dims)) found)
    pair)

pub returns-in_err-agree-clause-whole : goal.returns-in_err-agree-clause-whole
returns-in_err-agree-clause-whole g c = λ told h ids file.
    let name = Segment c.args.id in
    let files = g.F.Pages.files c.args.folder.now in
    let p = head_parts g.row.D (bytes_of (files name)) c.args.id h ids file in
    let payload : c.payload.result.now ≡ payload_of (page_at (bytes_of (files name)) 0) =
    c.payload.ensures.bytes ∙ first_payload_is files c.in_ok-first.first name c.in_ok-first.ensures.name (c.in_ok-first.ensures.first told) in
    let said = head_said g.row.D (bytes_of (files name)) c.args.id h p c.payload.result.now c.in_ok-fields.fields payload c.in_ok-fields.ensures.fields in
    let dims : g.row.D ≡ c.from.result = sym (ap (λ (x : Fields). x.dims) said) ∙ sym c.from.ensures in
    absurd (let no_ok = c.in_err-agree.ensures.ok.1 dims in cc)

pub returns-in_err-check_size-clause-damage : goal.returns-in_err-check_size-clause-damage
returns-in_err-check_size-clause-damage g c = λ told.
    let files = g.F.Pages.files c.args.folder.now in
    let e = err_from_is_err_and c.from_residual-in_err-check_size.result c.from_residual-in_err-check_size.ensures.1 in
    let has = rw c.payload.ensures.bytes at c.in_ok-fields.ensures.fields in
    rw (e.1, e.2) (c.in_err-check_size.ensures.damage g.row.D files (c.in_ok-first.ensures.first told) has)

pub returns-in_err-check_size-clause-whole : goal.returns-in_err-check_size-clause-whole
returns-in_err-check_size-clause-whole g c = λ told h ids file.
    let name = Segment c.args.id in
    let files = g.F.Pages.files c.args.folder.now in
    let p = head_parts g.row.D (bytes_of (files name)) c.args.id h ids file in
    let payload : c.payload.result.now ≡ payload_of (page_at (bytes_of (files name)) 0) =
    c.payload.ensures.bytes ∙ first_payload_is files c.in_ok-first.first name c.in_ok-first.ensures.name (c.in_ok-first.ensures.first told) in
    let said = head_said g.row.D (bytes_of (files name)) c.args.id h p c.payload.result.now c.in_ok-fields.fields payload c.in_ok-fields.ensures.fields in
    let size : first_size c.in_ok-first.first ≡ 4096 * (1 + pages_for c.in_ok-fields.fields.index_length + c.in_ok-fields.fields.leaf_pages) =
    first_size_is files c.in_ok-first.first name c.in_ok-first.ensures.name (c.in_ok-first.ensures.first told) ∙ p.size
    ∙ ap (λ (x : Fields). 4096 * (1 + pages_for x.index_length + x.leaf_pages)) (sym said) in
    absurd (let no_ok = c.in_err-check_size.ensures.ok.1 size in cc)
