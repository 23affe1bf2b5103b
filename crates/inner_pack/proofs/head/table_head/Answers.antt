use Rattle.std.proofs.Common.{◌≡◌, ◌∷◌, ◌++◌, ◌∙◌, ℕ, List, refl, sym, ap, arith, rules, slice_set, to_z-of_z, FitsSigned, w32}
use Rattle.point_codec.specs.Keys.{key}
use Rattle.inner_pack.specs.Places.{LeafSpan}
use Rattle.inner_pack.specs.Bodies.{cuts_table, places_table, right_begin}
use Rattle.inner_pack.proofs.SpelledLemmas.{spelled_one, told_one}
use Rattle.inner_pack.proofs.HeadLemmas.{table_node, joins_table, key_back, key_long, first_place, tail_places}
use Rattle.inner_pack.proofs.head.table_head.Goals as goal

pub returns-in_err-dimension-clause-only : goal.returns-in_err-dimension-clause-only
returns-in_err-dimension-clause-only g c references s path d x l r room fits h =
    let n = table_node g.row.D 1 c.args.leaves s path references c.args.part.bytes.now c.args.part.places.now d x l r refl h in
    absurd (c.in_err-dimension.ensures.only d (key x) (cuts_table l ++ cuts_table r) h.cells.0.dimension (key_long x) n.cut)

pub returns-in_err-left-clause-only : goal.returns-in_err-left-clause-only
returns-in_err-left-clause-only g c references s path d x l r room fits h =
    let n = table_node g.row.D 1 c.args.leaves s path references c.args.part.bytes.now c.args.part.places.now d x l r refl h in
    let a = c.in_ok-dimension.ensures.only d (key x) (cuts_table l ++ cuts_table r) h.cells.0.dimension (key_long x) n.cut in
    absurd (c.in_err-left.ensures.only (cuts_table l) (cuts_table r) n.cuts a.2)

pub returns-in_err-left_places-clause-only : goal.returns-in_err-left_places-clause-only
returns-in_err-left_places-clause-only g c references s path d x l r room fits h =
    let n = table_node g.row.D 1 c.args.leaves s path references c.args.part.bytes.now c.args.part.places.now d x l r refl h in
    absurd (c.in_err-left_places.ensures.only (places_table s l) (places_table (right_begin s l r) r) n.long n.split)

pub returns-in_err-first-clause-only : goal.returns-in_err-first-clause-only
returns-in_err-first-clause-only g c references s path d x l r room fits h =
    let n = table_node g.row.D 1 c.args.leaves s path references c.args.part.bytes.now c.args.part.places.now d x l r refl h in
    let p = c.in_ok-left_places.ensures.only (places_table s l) (places_table (right_begin s l r) r) n.long n.split in
    absurd (c.in_err-first.ensures.only (first_place s l) (tail_places s l) (omega (arith, room)) (omega (arith, n.first_length_fits))
    (omega (arith, n.first_length_fits)) (p.0 ∙ n.first))

pub returns-in_err-middle-clause-only : goal.returns-in_err-middle-clause-only
returns-in_err-middle-clause-only g c references s path d x l r room fits h =
    let n = table_node g.row.D 1 c.args.leaves s path references c.args.part.bytes.now c.args.part.places.now d x l r refl h in
    let p = c.in_ok-left_places.ensures.only (places_table s l) (places_table (right_begin s l r) r) n.long n.split in
    absurd (c.in_err-middle.ensures.only (first_place (right_begin s l r) r) (tail_places (right_begin s l r) r) (omega (arith, room, n.to, c.requires.leaves))
    (omega (arith, n.middle_length_fits)) (omega (arith, n.middle_length_fits)) (p.1 ∙ n.middle))

pub returns-in_err-pages-clause-only : goal.returns-in_err-pages-clause-only
returns-in_err-pages-clause-only g c references s path d x l r room fits h =
    let n = table_node g.row.D 1 c.args.leaves s path references c.args.part.bytes.now c.args.part.places.now d x l r refl h in
    let p = c.in_ok-left_places.ensures.only (places_table s l) (places_table (right_begin s l r) r) n.long n.split in
    let f = c.in_ok-first.ensures.only (first_place s l) (tail_places s l) (omega (arith, room)) (omega (arith, n.first_length_fits))
    (omega (arith, n.first_length_fits)) (p.0 ∙ n.first) in
    let m = c.in_ok-middle.ensures.only (first_place (right_begin s l r) r) (tail_places (right_begin s l r) r) (omega (arith, room, n.to, c.requires.leaves))
    (omega (arith, n.middle_length_fits)) (omega (arith, n.middle_length_fits)) (p.1 ∙ n.middle) in
    let low : c.in_ok-first.first.page ≡ s.page = ap (λ (t : LeafSpan). t.at.page) f.0 in
    let high : c.in_ok-middle.middle.page ≡ (right_begin s l r).page = ap (λ (t : LeafSpan). t.at.page) m.0 in
    absurd (omega (arith, c.in_err-pages.ensures, low, high, n.from))

pub returns-clause-found : goal.returns-clause-found
returns-clause-found g c references = record {
  dimension = c.in_ok-dimension.ensures.found.0;
  key_is = sym (key_back c.from_sortable.result (search rules) ∙ c.from_sortable.ensures.is);
  joins = λ s l r lengths says. joins_table 1 references s l r _ c.args.part.bytes.now c.args.part.places.now refl lengths says
      (c.in_ok-dimension.ensures.found.1 ∙ ap (λ (t : List ℕ). c.in_ok-dimension.dimension ∷ (c.in_ok-dimension.key ++ t)) c.in_ok-left.ensures.found.1)
      c.in_ok-left_places.ensures.found.1;
}

pub returns-clause-only : goal.returns-clause-only
returns-clause-only g c references s path d x l r room fits h =
    let n = table_node g.row.D 1 c.args.leaves s path references c.args.part.bytes.now c.args.part.places.now d x l r refl h in
    let a = c.in_ok-dimension.ensures.only d (key x) (cuts_table l ++ cuts_table r) h.cells.0.dimension (key_long x) n.cut in
    let b = c.in_ok-left.ensures.only (cuts_table l) (cuts_table r) n.cuts a.2 in
    let p = c.in_ok-left_places.ensures.only (places_table s l) (places_table (right_begin s l r) r) n.long n.split in
    let f = c.in_ok-first.ensures.only (first_place s l) (tail_places s l) (omega (arith, room)) (omega (arith, n.first_length_fits))
    (omega (arith, n.first_length_fits)) (p.0 ∙ n.first) in
    let m = c.in_ok-middle.ensures.only (first_place (right_begin s l r) r) (tail_places (right_begin s l r) r) (omega (arith, room, n.to, c.requires.leaves))
    (omega (arith, n.middle_length_fits)) (omega (arith, n.middle_length_fits)) (p.1 ∙ n.middle) in
    let low : c.in_ok-first.first.page ≡ s.page = ap (λ (t : LeafSpan). t.at.page) f.0 in
    let high : c.in_ok-middle.middle.page ≡ (right_begin s l r).page = ap (λ (t : LeafSpan). t.at.page) m.0 in
    let sf : FitsSigned w32 c.from_sortable.result = search rules in
    record {
      dimension = a.0;
      value = to_z-of_z sf ∙ c.from_sortable.ensures.back x fits (sym a.1);
      key_is = a.1;
      pages = omega (arith, c.in_ok-pages.ensures, low, high, n.from);
      offset = ap (λ (t : LeafSpan). t.at.offset) m.0;
      left_bytes = b.0 ∙ sym (spelled_one 1 (slice_set references d (key x)) s l refl);
      left_places = p.0 ∙ sym (told_one 1 s l refl);
      right_bytes = b.1 ∙ sym (spelled_one 1 (slice_set references d (key x)) (right_begin s l r) r refl);
      right_places = p.1 ∙ sym (told_one 1 (right_begin s l r) r refl);
    }
