-- The pieces of the text are appended one behind another, and so the whole text is.
use Rattle.std.proofs.Common.{◌≡◌, ◌++◌, List, ℕ, codes, decimal, append_assoc, ap, ◌∙◌}
use Rattle.load_points.proofs.texts.put_no_number.Goals as goal

-- what was there, the record, the column's name, and the rest
joined : (text word digits column name rest line : List ℕ)
    → (((text ++ (word ++ digits)) ++ column) ++ name) ++ (rest ++ line) ≡ text ++ (((((word ++ digits) ++ column) ++ name) ++ rest) ++ line)
joined text word digits column name rest line = simp append_assoc

all_put : (a b c d e word digits column name rest line : List ℕ) → b ≡ a ++ (word ++ digits) → c ≡ b ++ column → d ≡ c ++ name → e ≡ d ++ (rest ++ line)
    → e ≡ a ++ (((((word ++ digits) ++ column) ++ name) ++ rest) ++ line)
all_put a b c d e word digits column name rest line first second third fourth =
    fourth ∙ ap (λ (x : List ℕ). x ++ (rest ++ line)) (third ∙ ap (λ (x : List ℕ). x ++ name) (second ∙ ap (λ (x : List ℕ). x ++ column) first))
    ∙ joined a word digits column name rest line

pub returns : goal.returns
returns c =
    all_put _ _ _ _ _ (codes "record ") (decimal c.args.row) (codes " column ") c.args.name.now (codes " is not a whole number") (codes "\n")
    c.in_ok-put_record.ensures c.in_ok-extend_from_slice.ensures.items c.in_ok-extend_from_slice-2.ensures.items c.in_ok-extend_from_slice-3.ensures.items
