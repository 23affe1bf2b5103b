use Rattle.std.proofs.Common.{◌≡◌, ◌≤◌, ◌<◌, ◌*◌, ◌++◌, ℕ, List, length, take, drop, refl, sym, ap, subst, ◌∙◌, arith, true≢false, length-append, length-take}
use Rattle.std.specs.Prelude.{All}
use Rattle.leaf_codec.specs.Raw.{MaySort, sorted_raw, start_of, place_of}
use Rattle.leaf_codec.proofs.TakeKeys.{lengths_same, prefixes_same, total_is, sorts_same, to_end, last_words, bytes_within, leaf_front}
use Rattle.leaf_codec.specs.Words.{AreBytes}
use Rattle.leaf_codec.proofs.CanonicalNumbers.{AreBytes-from}
use Rattle.std.proofs.lemmas.List.Elements.{All-take, All-drop}
use Rattle.leaf_codec.proofs.read_parts.Parts.read.Goals as goal

pub returns-in_err-lengths-clause-only : goal.returns-in_err-lengths-clause-only
returns-in_err-lengths-clause-only c r h e =
    absurd (c.in_err-lengths.ensures.only r.lengths (r.prefixes ++ (sorted_raw c.args.dims r.sorted r.bytes ++ r.rests)) h.dims
    (to_end c.args.leaf.now c.args.at ∙ e))

pub returns-in_err-total-clause-only : goal.returns-in_err-total-clause-only
returns-in_err-total-clause-only c r h e =
    let found = c.in_ok-lengths.ensures.found in
    let a = lengths_same c.args.dims c.args.count r (drop c.args.at c.args.leaf.now) c.in_ok-lengths.lengths.now c.in_ok-lengths.rest.now h found.0
    (sym (to_end c.args.leaf.now c.args.at) ∙ found.1) e in
    absurd (true≢false (sym (c.in_err-total.ensures.only (subst (λ (t : List ℕ). All (λ n. n ≤ 4) t) (sym a.0) h.short))))

pub returns-in_err-prefixes-clause-only : goal.returns-in_err-prefixes-clause-only
returns-in_err-prefixes-clause-only c r h e =
    let found = c.in_ok-lengths.ensures.found in
    let a = lengths_same c.args.dims c.args.count r (drop c.args.at c.args.leaf.now) c.in_ok-lengths.lengths.now c.in_ok-lengths.rest.now h found.0
    (sym (to_end c.args.leaf.now c.args.at) ∙ found.1) e in
    let total = total_is c.args.dims c.args.count c.in_ok-total.field-0 r c.in_ok-lengths.lengths.now h a.0 c.in_ok-total.ensures.found in
    absurd (c.in_err-prefixes.ensures.only r.prefixes (sorted_raw c.args.dims r.sorted r.bytes ++ r.rests) (sym total) a.1)

pub returns-in_err-sorted-clause-only : goal.returns-in_err-sorted-clause-only
returns-in_err-sorted-clause-only c r h e =
    let found = c.in_ok-lengths.ensures.found in
    let lengths = c.in_ok-lengths.lengths.now in
    let a = lengths_same c.args.dims c.args.count r (drop c.args.at c.args.leaf.now) lengths c.in_ok-lengths.rest.now h found.0
    (sym (to_end c.args.leaf.now c.args.at) ∙ found.1) e in
    let second = c.in_ok-prefixes.ensures.found in
    let b = prefixes_same c.args.dims c.args.count c.in_ok-total.field-0 r lengths c.in_ok-prefixes.prefixes.now c.in_ok-lengths.rest.now
    c.in_ok-prefixes.rest.now h a.0 c.in_ok-total.ensures.found second.0 second.1 a.1 in
    absurd (true≢false (sym (c.in_err-sorted.ensures.only r.sorted r.bytes r.rests (subst (λ (t : List ℕ). MaySort t r.sorted) (sym a.0) h.sorts) h.counted
    (b.1 ∙ ap (λ n. sorted_raw n r.sorted r.bytes ++ r.rests) (sym found.0)))))

pub returns-then-rest-count-clause-only : goal.returns-then-rest-count-clause-only
returns-then-rest-count-clause-only c r h e =
    let found = c.in_ok-lengths.ensures.found in
    let lengths = c.in_ok-lengths.lengths.now in
    let a = lengths_same c.args.dims c.args.count r (drop c.args.at c.args.leaf.now) lengths c.in_ok-lengths.rest.now h found.0
    (sym (to_end c.args.leaf.now c.args.at) ∙ found.1) e in
    let second = c.in_ok-prefixes.ensures.found in
    let b = prefixes_same c.args.dims c.args.count c.in_ok-total.field-0 r lengths c.in_ok-prefixes.prefixes.now c.in_ok-lengths.rest.now
    c.in_ok-prefixes.rest.now h a.0 c.in_ok-total.ensures.found second.0 second.1 a.1 in
    let third = sorts_same lengths c.in_ok-sorted.sorted r.sorted c.in_ok-sorted.rest.now r.rests (take c.args.count c.in_ok-sorted.table) r.bytes
    c.in_ok-sorted.ensures.sorts (subst (λ (t : List ℕ). MaySort t r.sorted) (sym a.0) h.sorts)
    (omega (arith, length-take c.args.count c.in_ok-sorted.table, c.is_table.ensures.long, c.requires.few, h.counted))
    (sym c.in_ok-sorted.ensures.found ∙ b.1 ∙ ap (λ n. sorted_raw n r.sorted r.bytes ++ r.rests) (sym found.0)) in
    let stride : c.stride-stride.result ≡ place_of r.lengths r.sorted c.args.dims =
    c.stride-stride.ensures.value ∙ (λ i. place_of (a.0 i) (third.0 i) (found.0 i)) in
    absurd (c.if-rest-count.true (ap length third.1 ∙ h.sized ∙ ap (λ n. c.args.count * n) (sym stride)))

pub returns-clause-found : goal.returns-clause-found
returns-clause-found c =
    let leaf = c.args.leaf.now in
    let at = c.args.at in
    let first = c.in_ok-lengths.ensures.found in
    let second = c.in_ok-prefixes.ensures.found in
    let lengths = c.in_ok-lengths.lengths.now in
    let prefixes = c.in_ok-prefixes.prefixes.now in
    let sorted = sorted_raw (length lengths) c.in_ok-sorted.sorted (take c.args.count c.in_ok-sorted.table) in
    let rests = c.in_ok-sorted.rest.now in
    let behind : drop at leaf ≡ lengths ++ (prefixes ++ (sorted ++ rests)) =
    sym (to_end leaf at) ∙ first.1 ∙ ap (λ (t : List ℕ). lengths ++ t) (second.1 ∙ ap (λ (t : List ℕ). prefixes ++ t) c.in_ok-sorted.ensures.found) in
    let bytes = AreBytes-from leaf (λ i. omega (arith, c.type_inv.leaf i)) in
    let all : AreBytes (drop at leaf) = All-drop (λ (x : ℕ). x < 256) at leaf bytes in
    let w = last_words leaf (take at leaf ++ (lengths ++ (prefixes ++ sorted))) rests (leaf_front leaf lengths prefixes sorted rests at behind)
    (omega (arith, length-append (take at leaf) (lengths ++ (prefixes ++ sorted)), length-take at leaf, c.requires.behind, c.requires.within)) bytes in
    let stride : c.stride-stride.result ≡ place_of lengths c.in_ok-sorted.sorted c.args.dims =
    c.stride-stride.ensures.value ∙ ap (place_of lengths c.in_ok-sorted.sorted) first.0 in
    record {
      keys = record {
        few = c.requires.few;
        table = c.is_table.ensures.long;
        long = w.long;
        bytes = w.bytes;
        raw = record {
          dims = first.0;
          short = c.in_ok-total.ensures.short;
          total = second.0 ∙ c.in_ok-total.ensures.found ∙ ap (start_of lengths) first.0;
          sorts = c.in_ok-sorted.ensures.sorts;
          counted = omega (arith, length-take c.args.count c.in_ok-sorted.table, c.is_table.ensures.long, c.requires.few);
          sized = ap length w.words ∙ omega (arith, c.if-rest-count.false) ∙ ap (λ n. c.args.count * n) stride;
          prefix_bytes = bytes_within (drop at leaf) lengths prefixes (sorted ++ rests) behind all;
          sorted_bytes = All-take (λ (x : ℕ). x < 256) c.args.count c.in_ok-sorted.table c.is_table.ensures.bytes;
          rest_bytes = All-drop (λ (x : ℕ). x < 256) 4 _ w.bytes;
        };
        stride = stride;
      };
      counted = refl;
      is = behind ∙ (λ i. lengths ++ (prefixes ++ (sorted_raw (first.0 i) c.in_ok-sorted.sorted (take c.args.count c.in_ok-sorted.table) ++ sym w.words i)));
    }
