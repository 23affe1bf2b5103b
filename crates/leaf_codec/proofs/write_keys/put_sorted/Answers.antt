use Rattle.std.proofs.Common.{◌≡◌, ◌<◌, [], ◌∷◌, ◌++◌, take, map, get_or, length, sym, ap, ◌∙◌, append-nil, append_assoc}
use Rattle.std.proofs.lemmas.Result.{IfOk-equal}
use Rattle.point_codec.specs.Seen.{items_of}
use Rattle.leaf_codec.specs.Dimensions.{key_byte, shared_prefix}
use Rattle.leaf_codec.specs.Spelling.{sorted_part, sorted_bytes}
use Rattle.leaf_codec.proofs.Written.{sorted_number, sorted_none, sorted_some, get_or-lengths}
use Rattle.leaf_codec.proofs.write_keys.put_sorted.Goals as goal

pub returns-then-d : goal.returns-then-d
unfolding sorted_part
returns-then-d g c =
    let items = items_of c.args.entries.now in
    let none = sorted_none g.row.D items (rw c.requires.sorted at c.if-d.true) in
    sym (append-nil c.args.out.now.items) ∙ ap (λ o. c.args.out.now.items ++ sorted_part o items) (sym none)

pub returns : goal.returns
unfolding sorted_part
returns g c =
    let items = items_of c.args.entries.now in
    let s = sorted_number g.row.D items in
    let number : c.args.dimensions.now.sorted ≡ s = c.requires.sorted in
    let below : s < g.row.D = rw number at c.if-d.false in
    let bytes : take (length c.args.entries.now) c.key_bytes-table.result ≡ map (key_byte s (shared_prefix s items)) items =
    c.key_bytes-table.ensures
    ∙ (λ i. map (key_byte (number i) (get_or (c.requires.lengths i) (number i) 0)) items)
    ∙ ap (λ p. map (key_byte s p) items) (get_or-lengths g.row.D s items below) in
    let start : c.put_u8.new.out.items ≡ c.args.out.now.items ++ s ∷ [] = c.in_ok-put_u8.ensures.ok ∙ ap (λ n. c.args.out.now.items ++ n ∷ []) number in
    IfOk-equal c.put_sorted_bytes.result _ _ _ c.put_sorted_bytes.ensures
    ((λ i. start i ++ sorted_bytes (bytes i))
    ∙ append_assoc c.args.out.now.items (s ∷ []) (sorted_bytes (map (key_byte s (shared_prefix s items)) items))
    ∙ ap (λ o. c.args.out.now.items ++ sorted_part o items) (sym (sorted_some g.row.D items below)))
