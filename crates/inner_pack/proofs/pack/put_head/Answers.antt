use Rattle.std.proofs.Common.{◌≡◌, ◌+◌, ◌*◌, ℕ, List, [], ◌∷◌, ◌++◌, get_or, refl, ap, ◌∙◌, arith, rules}
use Rattle.point_codec.specs.Keys.{key}
use Rattle.inner_pack.specs.Bodies.{shared_front, head_bytes}
use Rattle.inner_pack.proofs.PackBytes.{turned, length-turned, head_joined, length-head, key_rest, length-key, vint_appended, shared_key}
use Rattle.inner_pack.proofs.pack.put_head.Goals as goal

pub returns-clause-spelled : goal.returns-clause-spelled
returns-clause-spelled g c =
    let head = c.args.head.now in
    let references = c.args.references.now in
    let old = c.args.out.now.items in
    let k = shared_front (key head.at) (get_or references head.dimension []) in
    let is : c.sortable-key.result ≡ key head.at = search rules in
    let same =
    shared_key c.shared_length-shared.result c.sortable-key.result (get_or references head.dimension []) head.at c.shared_length-shared.ensures.value is in
    let rest = ap (λ (t : List ℕ). c.put_u8.new.out.items ++ t) (key_rest head.at c.sortable-key.result c.shared_length-shared.result k is same) in
    turned old c.put_vint-3.new.out.items c.reverse_from.new.out.items (head_bytes references head.dimension head.at head.pages head.offset head.left)
    c.len-from.result
    (search rules)
    (head_joined references head.dimension head.at head.pages head.offset head.left old c.put_u8.new.out.items c.put_slice.new.out.items
    c.put_vint.new.out.items
    c.put_vint-2.new.out.items c.put_vint-3.new.out.items
    (c.in_ok-put_u8.ensures.ok ∙ ap (λ (n : ℕ). old ++ (5 * head.dimension + n) ∷ []) same)
    (c.in_ok-put_slice.ensures.ok ∙ rest)
    (vint_appended c.put_slice.new.out.items c.put_vint.new.out.items head.pages head.pages refl (omega arith) c.in_ok-put_vint.ensures.ok)
    (vint_appended c.put_vint.new.out.items c.put_vint-2.new.out.items c.from.result head.offset (search rules) (omega arith) c.in_ok-put_vint-2.ensures.ok)
    (vint_appended c.put_vint-2.new.out.items c.put_vint-3.new.out.items head.left head.left refl (omega arith) c.in_ok-put_vint-3.ensures.ok))
    c.reverse_from.ensures

pub returns-clause-room : goal.returns-clause-room
returns-clause-room g c =
    let head = c.args.head.now in
    let references = c.args.references.now in
    let longer = length-turned c.args.out.now.items c.reverse_from.new.out.items (head_bytes references head.dimension head.at head.pages head.offset head.left)
    (returns-clause-spelled g c) in
    let short = length-head references head.dimension head.at head.pages head.offset head.left (length-key head.at) (omega arith) (omega arith) (omega arith) in
    omega arith

pub returns-clause-more : goal.returns-clause-more
returns-clause-more g c =
    let head = c.args.head.now in
    let longer = length-turned c.args.out.now.items c.reverse_from.new.out.items
    (head_bytes c.args.references.now head.dimension head.at head.pages head.offset head.left) (returns-clause-spelled g c) in
    omega arith
