use Rattle.std.proofs.Common.{◌≡◌, ◌<◌, ◌+◌, ◌-◌, ◌*◌, ◌/◌, ◌%◌, ℕ, List, ◌∷◌, ◌++◌, length, take, drop, sym}
use Rattle.std.proofs.Common.{ap, ◌∙◌, arith, append_assoc, length-append, refl, true≢false, length-take}
use Rattle.std.proofs.lemmas.List.Elements.{All-take, All-drop}
use Rattle.leaf_codec.specs.Raw.{RawNumbers}
use Rattle.byte_cursor.specs.Vint.{vint}
use Rattle.leaf_codec.proofs.CanonicalNumbers.{HasWords, has_words, AreBytes-from}
use Rattle.byte_cursor.proofs.SpelledVints.{vint_front, length-vint}
use Rattle.leaf_codec.proofs.read_numbers.Numbers.read.Goals as goal
use Rattle.leaf_codec.proofs.read_numbers.Numbers.read.Goals.{Else-rest-count}

two-same : (a b c d : ℕ) (x y : List ℕ) → a ∷ b ∷ x ≡ c ∷ d ∷ y → x ≡ y
two-same a b c d x y e = cc

one-same : (a b : ℕ) (x y : List ℕ) → a ∷ x ≡ b ∷ y → (a ≡ b) × (x ≡ y)
one-same a b x y e = (cc, cc)

-- what follows the count begins with the form and the least number
behind_count : (count : ℕ) (leaf rest tail : List ℕ) (r : RawNumbers) → leaf ≡ count / 256 % 256 ∷ count % 256 ∷ rest
    → leaf ≡ count / 256 % 256 ∷ count % 256 ∷ r.width ∷ ((vint r.least ++ r.offsets) ++ tail)
    → rest ≡ r.width ∷ (vint r.least ++ (r.offsets ++ tail))
behind_count count leaf rest tail r e is =
    two-same (count / 256 % 256) (count % 256) (count / 256 % 256) (count % 256) rest (r.width ∷ ((vint r.least ++ r.offsets) ++ tail)) (sym e ∙ is)
    ∙ ap (λ (t : List ℕ). r.width ∷ t) (append_assoc (vint r.least) r.offsets tail)

pub returns-in_err-width-clause-only : goal.returns-in_err-width-clause-only
returns-in_err-width-clause-only c r tail h is =
    let rest = behind_count c.args.count c.args.leaf.now c.in_ok-rest.rest.now tail r c.in_ok-rest.ensures.found is in
    absurd (true≢false (sym (c.in_err-width.ensures.only r.width r.least (r.offsets ++ tail) h.narrow h.low rest)))

pub returns-then-rest-count-clause-only : goal.returns-then-rest-count-clause-only
returns-then-rest-count-clause-only c r tail h is =
    let rest = behind_count c.args.count c.args.leaf.now c.in_ok-rest.rest.now tail r c.in_ok-rest.ensures.found is in
    let same = one-same c.in_ok-width.width r.width (vint c.in_ok-width.least ++ c.in_ok-width.rest.now) (vint r.least ++ (r.offsets ++ tail))
    (sym c.in_ok-width.ensures.found ∙ rest) in
    let left = vint_front c.in_ok-width.least r.least c.in_ok-width.rest.now (r.offsets ++ tail) (omega (arith, c.in_ok-width.ensures.least))
    (omega (arith, h.low)) same.1 in
    absurd (omega (arith, c.if-rest-count.true, ap length left.1, length-append r.offsets tail, h.sized, ap (λ w. c.args.count * w) same.0))

-- the fields before the numbers' bytes
front : (c : goal.Else-rest-count) → List ℕ
front c = c.args.count / 256 % 256 ∷ c.args.count % 256 ∷ c.in_ok-width.width ∷ vint c.in_ok-width.least

words : (c : goal.Else-rest-count)
    → HasWords c.args.leaf.now (front c) c.in_ok-width.rest.now (c.args.count * c.in_ok-width.width) (length c.args.leaf.now - length c.in_ok-width.rest.now)
unfolding front
words c =
    has_words c.args.leaf.now (front c) c.in_ok-width.rest.now (c.args.count * c.in_ok-width.width)
    (c.in_ok-rest.ensures.found ∙ ap (λ (t : List ℕ). c.args.count / 256 % 256 ∷ c.args.count % 256 ∷ t) c.in_ok-width.ensures.found)
    (omega (arith, length-vint c.in_ok-width.least (omega (arith, c.in_ok-width.ensures.least)))) c.if-rest-count.false

pub overflow_sub-numbers : goal.overflow_sub-numbers
overflow_sub-numbers c = (words c).four

pub returns-clause-found : goal.returns-clause-found
unfolding front
returns-clause-found c =
    let b = (goal.at.returns-clause-found c).Else-rest-count in
    let w = words b in
    let leaf = c.args.leaf.now in
    let m = c.args.count * c.in_ok-width.width in
    let s = length leaf - length c.in_ok-width.rest.now in
    let bytes = All-take (λ (x : ℕ). x < 256) (s + m - (s - 4)) (drop (s - 4) leaf)
    (All-drop (λ (x : ℕ). x < 256) (s - 4) leaf (AreBytes-from leaf (λ i. omega (arith, c.type_inv.leaf i)))) in
    record {
      numbers = record {
        few = c.requires;
        long = omega (arith, w.long);
        bytes = bytes;
        raw = record {
          narrow = c.in_ok-width.ensures.form;
          low = c.in_ok-width.ensures.least;
          sized = ap length w.words ∙ omega (arith, length-take m c.in_ok-width.rest.now, c.if-rest-count.false);
          bytes = All-drop (λ (x : ℕ). x < 256) 4 (take (s + m - (s - 4)) (drop (s - 4) leaf)) bytes;
        };
        mask = c.mask.ensures;
      };
      counted = refl;
      behind = omega (arith, w.four);
      within = w.within;
      parts = w.parts ∙ ap (λ (t : List ℕ). front b ++ (t ++ drop (s + m) leaf)) (sym w.words)
          ∙ ap (λ (t : List ℕ). c.args.count / 256 % 256 ∷ c.args.count % 256 ∷ c.in_ok-width.width ∷ t)
          (sym (append_assoc (vint c.in_ok-width.least) (drop 4 (take (s + m - (s - 4)) (drop (s - 4) leaf))) (drop (s + m) leaf)));
    }
