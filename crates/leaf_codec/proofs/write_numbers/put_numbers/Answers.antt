use Rattle.std.proofs.Common.{◌≡◌, ◌-◌, ℕ, List, [], ◌∷◌, ◌++◌, get_or, sym, ap, ◌∙◌, arith, append_assoc, refl, rules, ◌≤◌}
use Rattle.std.specs.List.{flat_map}
use Rattle.std.proofs.lemmas.List.{get_or_default}
use Rattle.std.proofs.lemmas.Result.{on_ok_weaker, IfOk-equal}
use Rattle.leaf_codec.specs.Entries.{docs_of}
use Rattle.leaf_codec.specs.Spelling.{least, form, width, low_bytes}
use Rattle.byte_cursor.specs.Vint.{vint}
use Rattle.leaf_codec.proofs.Items.{get_or-docs, length-docs}
use Rattle.leaf_codec.proofs.NumbersLemmas.{least-le, least-le-greatest, form_other, numbers_row, numbers_are}
use Rattle.byte_cursor.proofs.SpelledVints.{appended}
use Rattle.leaf_codec.proofs.write_numbers.put_numbers.Goals as goal

pub returns-then-is_row : goal.returns-then-is_row
returns-then-is_row g c =
    let docs = docs_of c.args.entries.now in
    let row = sym c.is_row.ensures ∙ c.if-is_row.true in
    on_ok_weaker c.put_vint.result (λ h.
    appended c.put_u8.new.out.items c.put_vint.new.out.items c.least-least.result (omega arith) h
    ∙ (λ i. c.in_ok-put_u8.ensures.ok i ++ vint (c.least-least.ensures i))
    ∙ append_assoc c.args.out.now.items (0 ∷ []) (vint (least docs))
    ∙ ap (λ (t : List ℕ). c.args.out.now.items ++ t) (sym (numbers_row docs row))) c.put_vint.ensures.ok

pub overflow_sub-greatest : goal.overflow_sub-greatest
overflow_sub-greatest g c =
    let docs = docs_of c.args.entries.now in
    omega (arith, c.least-least.ensures, c.greatest.ensures, least-le-greatest docs (omega (arith, length-docs c.args.entries.now, c.requires.some)))

pub put_offsets-requires : goal.put_offsets-requires
put_offsets-requires g c = (
  search rules,
  (
    search rules,
    (
      λ k d lt.
          let docs = docs_of c.args.entries.now in
          let e = get_or c.args.entries.now k d in
          let at = get_or-docs c.args.entries.now k e 0 lt (get_or_default c.args.entries.now k d e lt) in
          omega (arith, c.least-least.ensures, least-le docs k (omega (arith, length-docs c.args.entries.now, lt)), at),
      narrow,
    ),
  ),
)
  where
    narrow : c.width-width.result ≤ 3
    narrow = c.width-width.ensures.few

pub returns : goal.returns
returns g c =
    let docs = docs_of c.args.entries.now in
    let other = sym c.is_row.ensures ∙ c.if-is_row.false in
    let w : c.width-width.result ≡ form docs =
    c.width-width.ensures.value ∙ (λ i. width (c.greatest.ensures i - c.least-least.ensures i)) ∙ sym (form_other docs other) in
    let old = c.args.out.now.items in
    let start : c.put_vint-2.new.out.items ≡ (old ++ form docs ∷ []) ++ vint (least docs) =
    appended c.put_u8-2.new.out.items c.put_vint-2.new.out.items c.least-least.result (omega arith) c.in_ok-put_vint.ensures.ok
    ∙ (λ i. (c.in_ok-put_u8-2.ensures.ok i) ++ vint (c.least-least.ensures i))
    ∙ ap (λ n. (old ++ n ∷ []) ++ vint (least docs)) w in
    let offsets = flat_map (λ n. low_bytes (form docs) (n - least docs)) docs in
    IfOk-equal c.put_offsets.result _ _ _ c.put_offsets.ensures
    ((λ i. start i ++ flat_map (λ n. low_bytes (w i) (n - c.least-least.ensures i)) docs)
    ∙ ap (λ (t : List ℕ). t ++ offsets) (append_assoc old (form docs ∷ []) (vint (least docs)))
    ∙ append_assoc old (form docs ∷ vint (least docs)) offsets
    ∙ ap (λ (t : List ℕ). old ++ t) (sym (numbers_are docs (form docs) refl)))
