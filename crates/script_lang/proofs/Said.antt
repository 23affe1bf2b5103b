-- A text that grows by the text of one element after the other.
use Rattle.std.proofs.Common.{◌≡◌, ℕ, suc, ◌+◌, ◌<◌, ◌≤◌, ◌^◌, List, [], ◌∷◌, ◌++◌, length, take, drop, drop-cons}
use Rattle.std.proofs.Common.{set, ◌-◌, get_or, ap, sym, ◌∙◌, append_assoc, subst, Fits}
use Rattle.std.proofs.Common.{w32, rules, arith}
use Rattle.std.specs.List.{flat_map}
use Rattle.std.specs.Prelude.{codes, decimal, OnOk, Result}
use Rattle.script_lang.specs.Replies.{text_line, found_text, found_of, refusal_text, polygon_text}
use Rattle.polygon_query.specs.declared.geo_json.GeoFault.{GeoFault}
use Rattle.polygon_query.specs.declared.geo_json.GeoFault.TheVariants as geo
use Rattle.point_codec.specs.declared.entries.Near.{Near}
use Rattle.std.proofs.lemmas.List.{take_more, append-nil, drop-set, get_or-map, length-map}
use Rattle.std.proofs.lemmas.Fmt.{length-decimal-le}
use Rattle.std.proofs.lemmas.Grind.{flat_map-append}

-- the text of one element more
pub said_more : {X : Type 0} (text : X → List ℕ) (xs : List X) (i : ℕ) (x : X) (old now new : List ℕ) → i < length xs
    → now ≡ old ++ flat_map text (take i xs) → new ≡ now ++ text (get_or xs i x) → new ≡ old ++ flat_map text (take (i + 1) xs)
said_more text xs i x old now new inside so_far more =
    let last : List ℕ = text (get_or xs i x) in
    more ∙ rw (so_far, take_more xs i x inside, flat_map-append text (take i xs) (get_or xs i x ∷ []), append-nil (text (get_or xs i x)))
    (append_assoc old (flat_map text (take i xs)) (text (get_or xs i x)))

-- a number of 32 bits has at most ten digits
pub ten_digits : (n m : ℕ) → n ≡ m → Fits w32 m → length (decimal n) ≤ 10
ten_digits n m is fits = let small : m < 2 ^ 32 = search rules in length-decimal-le 10 n (omega arith) (omega arith) (omega arith)

-- the line of number i - 1 written before those of the numbers from i on
pub line_before : (docs before : List ℕ) (i at n : ℕ) (after : List ℕ) → 0 < i → i ≤ length docs → 0 < at → at ≤ length before
    → n ≡ get_or docs (i - 1) 0 → after ≡ decimal n ++ drop (at - 1) (set before (at - 1) 10)
    → drop at before ≡ flat_map (λ doc. text_line (decimal doc)) (drop i docs)
    → after ≡ flat_map (λ doc. text_line (decimal doc)) (drop (i - 1) docs)
line_before docs before i at n after some within place long is written so_far =
    let next : suc (i - 1) ≡ i = omega arith in
    let behind : at - 1 + 1 ≡ at = omega arith in
    written
    ∙ ap (λ (xs : List ℕ). decimal n ++ xs)
    (drop-set before (at - 1) 10 (omega arith) ∙ ap (λ (k : ℕ). 10 ∷ drop k before) behind ∙ ap (λ (xs : List ℕ). 10 ∷ xs) so_far)
    ∙ sym (append_assoc (decimal n) (10 ∷ []) (flat_map (λ doc. text_line (decimal doc)) (drop i docs)))
    ∙ ap (λ (k : ℕ). text_line (decimal k) ++ flat_map (λ doc. text_line (decimal doc)) (drop i docs)) is
    ∙ ap (λ (k : ℕ). text_line (decimal (get_or docs (i - 1) 0)) ++ flat_map (λ doc. text_line (decimal doc)) (drop k docs)) (sym next)
    ∙ ap (flat_map (λ doc. text_line (decimal doc))) (sym (drop-cons docs (i - 1) 0 (omega arith)))

joined : (a b : List ℕ) → a ++ (codes " " ++ (b ++ (codes "\n" ++ []))) ≡ text_line (a ++ codes " " ++ b)
joined a b = simp append_assoc

-- the text of one found document more, put together from its parts
pub near_said : (near : List Near) (i : ℕ) (d : Near) (old now new a b : List ℕ) → i < length near
    → now ≡ old ++ flat_map found_text (take i (found_of near))
    → a ≡ decimal (get_or near i d).doc → b ≡ decimal (get_or near i d).dist2
    → new ≡ now ++ (a ++ (codes " " ++ (b ++ (codes "\n" ++ []))))
    → new ≡ old ++ flat_map found_text (take (i + 1) (found_of near))
near_said near i d old now new a b inside so_far a-is b-is more =
    let here : i < length (found_of near) = simp length-map inside in
    let text : get_or (found_of near) i (d.doc, d.dist2) ≡ ((get_or near i d).doc, (get_or near i d).dist2) =
    get_or-map (λ (n : Near). (n.doc, n.dist2)) near i d (d.doc, d.dist2) inside in
    said_more found_text (found_of near) i (d.doc, d.dist2) old now new here so_far
    (more ∙ rw (text, a-is, b-is) (ap (λ t. now ++ t) (joined (decimal (get_or near i d).doc) (decimal (get_or near i d).dist2))))

-- a cause that was put together from its parts
pub told : {T E : Type 0} (r : Result T E) (old new : List ℕ) (line : ℕ) (said cause : List ℕ) → said ≡ cause
    → OnOk r (new ≡ old ++ refusal_text line said) → OnOk r (new ≡ old ++ refusal_text line cause)
told r old new line said cause e h = subst (λ t. OnOk r (new ≡ old ++ refusal_text line t)) e h

pub not_whole : (f : GeoFault) (ring position : ℕ) (a b : List ℕ) → f ≡ geo.NotWhole ring position → a ≡ decimal ring → b ≡ decimal position
    → codes "polygon ring " ++ (a ++ (codes " position " ++ (b ++ (codes " is not whole" ++ [])))) ≡ polygon_text f
not_whole f ring position a b f-is a-is b-is = rw (f-is, a-is, b-is) (simp append_assoc)
