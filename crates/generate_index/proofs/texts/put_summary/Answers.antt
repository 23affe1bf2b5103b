-- What is appended, part after part.
use Rattle.std.proofs.Common.{◌≡◌, ◌∷◌, ◌++◌, ◌∙◌, ℕ, List, [], ap, append_assoc}
use Rattle.std.specs.Prelude.{codes, decimal}
use Rattle.generate_index.proofs.texts.put_summary.Goals as goal

-- nine parts in a row are three lines
three_lines : (t a b c d n e f g h x1 x2 x3 x4 x5 x6 x7 x8 x9 : List ℕ) → x1 ≡ t ++ a → x2 ≡ x1 ++ b → x3 ≡ x2 ++ c → x4 ≡ x3 ++ d → x5 ≡ x4 ++ (n ++ e)
    → x6 ≡ x5 ++ f → x7 ≡ x6 ++ (n ++ g) → x8 ≡ x7 ++ h → x9 ≡ x8 ++ n
    → x9 ≡ t ++ ((((((a ++ b) ++ c) ++ d) ++ n) ++ ((e ++ f) ++ n)) ++ ((g ++ h) ++ n))
three_lines t a b c d n e f g h x1 x2 x3 x4 x5 x6 x7 x8 x9 e1 e2 e3 e4 e5 e6 e7 e8 e9 = rw (e9, e8, e7, e6, e5, e4, e3, e2, e1) (simp append_assoc)

pub returns : goal.returns
returns c =
    three_lines c.args.text.now.items (codes "docs ") (decimal c.args.s.now.docs) (codes " live ") (decimal c.args.s.now.live) (10 ∷ []) (codes "box hits ")
    (decimal c.args.s.now.hits) (codes "nearest sum ") (decimal c.args.s.now.near) _ _ _ _ _ _ _ _ _
    c.in_ok-extend_from_slice.ensures.items
    (c.in_ok-extend_from_slice-2.ensures.items
    ∙ ap (λ (d : List ℕ). c.extend_from_slice.new.self.items ++ d) (c.as_bytes.ensures.value ∙ c.format.ensures.text))
    c.in_ok-extend_from_slice-3.ensures.items
    (c.in_ok-extend_from_slice-4.ensures.items
    ∙ ap (λ (d : List ℕ). c.extend_from_slice-3.new.self.items ++ d) (c.as_bytes-2.ensures.value ∙ c.format-2.ensures.text))
    c.in_ok-extend_from_slice-5.ensures.items
    (c.in_ok-extend_from_slice-6.ensures.items
    ∙ ap (λ (d : List ℕ). c.extend_from_slice-5.new.self.items ++ d) (c.as_bytes-3.ensures.value ∙ c.format-3.ensures.text))
    c.in_ok-extend_from_slice-7.ensures.items
    (c.in_ok-extend_from_slice-8.ensures.items
    ∙ ap (λ (d : List ℕ). c.extend_from_slice-7.new.self.items ++ d) (c.as_bytes-4.ensures.value ∙ c.format-4.ensures.text))
    c.in_ok-push.ensures.items
